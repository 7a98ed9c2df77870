-- The place of the first variable that passes a test, so far.
use Rattle.std.proofs.Common.{◌≡◌, ℕ, zero, suc, ◌+◌, ◌<◌, ◌≤◌, List, [], ◌∷◌, length, drop, get_or, refl, sym, ap, ◌∙◌, add-one, arith, Bool, true, false}
use Rattle.std.specs.Prelude.{Option, Some, None, option_map, if◌then◌else◌}
use Rattle.std.proofs.lemmas.List.{at_drop_all}
use Rattle.variable_store.specs.Entries.{Entry, index_of}

-- a place counted from another
abbrev pub shifted : ℕ → Option ℕ → Option ℕ
shifted from place = option_map (λ k. from + k) place

shifted_suc : (from : ℕ) (place : Option ℕ) → shifted from (option_map (λ k. suc k) place) ≡ shifted (suc from) place
shifted_suc from None = refl
shifted_suc from (Some k) = ap Some (omega arith)

shifted_none : (place : Option ℕ) → shifted 0 place ≡ place
shifted_none None = refl
shifted_none (Some k) = ap Some (omega arith)

step : (test : Entry → Bool) (es : List Entry) (i : ℕ) (d : Entry) → i < length es
    → index_of test (drop i es) ≡ (if test (get_or es i d) then Some 0 else option_map (λ k. suc k) (index_of test (drop (suc i) es)))
unfolding index_of
step test [] i d h = absurd (omega arith)
step test (e ∷ es) zero d h = refl
step test (e ∷ es) (suc i) d h = step test es i d (omega arith)

pub starts : (test : Entry → Bool) (es : List Entry) → shifted 0 (index_of test (drop 0 es)) ≡ index_of test es
starts test es = shifted_none (index_of test es)

module _ (test : Entry → Bool) (es : List Entry) (i : ℕ) (e : Entry) (is : e ≡ get_or es i e) (b : Bool) (says : b ≡ test e) (so_far : shifted i (index_of test (drop i es)) ≡ index_of test es) where
  here : i < length es → index_of test (drop i es) ≡ (if b then Some 0 else option_map (λ k. suc k) (index_of test (drop (suc i) es)))
  here h = let at : b ≡ test (get_or es i e) = says ∙ ap test is in rw at (step test es i e h)

  pub found : i < length es → b ≡ true → Some i ≡ index_of test es
  found h yes' =
      let first : index_of test (drop i es) ≡ Some 0 = rw yes' at (here h) in
      let place : shifted i (index_of test (drop i es)) ≡ Some i = rw first (ap Some (omega arith)) in
      sym place ∙ so_far

  pub missed : i < length es → b ≡ false → shifted (i + 1) (index_of test (drop (i + 1) es)) ≡ index_of test es
  missed h no' =
      let rest : index_of test (drop i es) ≡ option_map (λ k. suc k) (index_of test (drop (suc i) es)) = rw no' at (here h) in
      rw add-one (sym (shifted_suc i (index_of test (drop (suc i) es))) ∙ ap (shifted i) (sym rest) ∙ so_far)

none : (test : Entry → Bool) (es : List Entry) (i : ℕ) → length es ≤ i → index_of test (drop i es) ≡ None
unfolding index_of
none test es i h = at_drop_all (index_of test) es i h

pub nowhere : (test : Entry → Bool) (es : List Entry) (i : ℕ) → shifted i (index_of test (drop i es)) ≡ index_of test es → length es ≤ i → None ≡ index_of test es
nowhere test es i so_far h = let place : shifted i (index_of test (drop i es)) ≡ None = rw (none test es i h) refl in sym place ∙ so_far
