-- Texts in a form.
use Rattle.std.proofs.Common.{◌≡◌, ℕ, zero, suc, ◌+◌, ◌<◌, ◌≤◌, ◌≢◌, List, [], ◌∷◌, length, drop, get_or, refl, sym, ap, ◌∙◌, add-one, arith, Bool, true, false}
use Rattle.std.specs.Prelude.{◌&&◌}
use Rattle.time_service.specs.Texts.{fits_character, fits_form}
use Rattle.time_service.proofs.TimeLemmas.{and_true}

pub other_length : (forms text : List ℕ) → length text ≢ length forms → false ≡ fits_form forms text
unfolding fits_form
other_length [] [] h = absurd (h refl)
other_length [] (c ∷ cs) h = refl
other_length (f ∷ fs) [] h = refl
other_length (f ∷ fs) (c ∷ cs) h = by (fits_character f c) (other_length fs cs (λ e. h (omega arith)))
  where
    by : (b : Bool) → false ≡ fits_form fs cs → false ≡ (b && fits_form fs cs)
    by true rest = rest
    by false rest = refl

one_more : (forms text : List ℕ) (i : ℕ) → i < length forms → length text ≡ length forms
    → fits_form (drop i forms) (drop i text) ≡ (fits_character (get_or forms i 0) (get_or text i 0) && fits_form (drop (suc i) forms) (drop (suc i) text))
unfolding fits_form
one_more [] text i h e = absurd (omega arith)
one_more (f ∷ fs) [] i h e = absurd (omega arith)
one_more (f ∷ fs) (c ∷ cs) zero h e = refl
one_more (f ∷ fs) (c ∷ cs) (suc i) h e = one_more fs cs i (omega arith) (omega arith)

none_left : (forms text : List ℕ) (i : ℕ) → length forms ≤ i → length text ≡ length forms → fits_form (drop i forms) (drop i text) ≡ true
unfolding fits_form
none_left [] [] zero h e = refl
none_left [] [] (suc i) h e = refl
none_left [] (c ∷ cs) i h e = absurd (omega arith)
none_left (f ∷ fs) [] i h e = absurd (omega arith)
none_left (f ∷ fs) (c ∷ cs) zero h e = absurd (omega arith)
none_left (f ∷ fs) (c ∷ cs) (suc i) h e = none_left fs cs i (omega arith) (omega arith)

module _ (forms text : List ℕ) (i : ℕ) (same : length text ≡ length forms) (so_far : fits_form (drop i forms) (drop i text) ≡ fits_form forms text) where
  pub missed : (b : Bool) → b ≡ fits_character (get_or forms i 0) (get_or text i 0) → b ≡ false → i < length text → false ≡ fits_form forms text
  missed b is h inside =
      let no : fits_character (get_or forms i 0) (get_or text i 0) ≡ false = sym is ∙ h in
      let stops : fits_form (drop i forms) (drop i text) ≡ false = one_more forms text i (omega arith) same ∙ ap (λ x. x && fits_form (drop (suc i) forms) (drop (suc i) text)) no in
      sym stops ∙ so_far

  pub fitted : (b : Bool) → b ≡ fits_character (get_or forms i 0) (get_or text i 0) → b ≡ true → i < length text → fits_form (drop (i + 1) forms) (drop (i + 1) text) ≡ fits_form forms text
  fitted b is h inside =
      let yes' : fits_character (get_or forms i 0) (get_or text i 0) ≡ true = sym is ∙ h in
      let goes_on : fits_form (drop i forms) (drop i text) ≡ fits_form (drop (suc i) forms) (drop (suc i) text) = one_more forms text i (omega arith) same ∙ ap (λ x. x && fits_form (drop (suc i) forms) (drop (suc i) text)) yes' in
      rw add-one (sym goes_on ∙ so_far)

  pub all_fitted : length text ≤ i → true ≡ fits_form forms text
  all_fitted end = sym (none_left forms text i (omega arith) same) ∙ so_far

pub fits_length : (forms text : List ℕ) → fits_form forms text ≡ true → length text ≡ length forms
unfolding fits_form
fits_length [] [] h = refl
fits_length [] (c ∷ cs) h = absurd (cc)
fits_length (f ∷ fs) [] h = absurd (cc)
fits_length (f ∷ fs) (c ∷ cs) h = let rest = fits_length fs cs (and_true (fits_character f c) (fits_form fs cs) h).1 in omega arith
