-- A string read unit by unit.
use Rattle.std.proofs.Common.{◌≡◌, ◌≢◌, ℕ, zero, suc, ◌+◌, ◌%◌, ◌^◌, Bool, true, false, List, [], ◌∷◌, ◌++◌, Option, Some, None, refl, sym, ap, ◌∙◌, arith, append-nil, append_assoc}
use Rattle.std.specs.Prelude.{◌==◌}
use Rattle.std.specs.Option.{option_map}
use Rattle.std.proofs.lemmas.Bool.Decides.{nat_tests}
use Rattle.uh_base.specs.Bytes.{behind, number_at}
use Rattle.address_view.specs.Seen.{all_pass}
use Rattle.runtime_services.specs.Inputs.{string_from}

abbrev pub put_before : List ℕ → Option (List ℕ) → Option (List ℕ)
put_before units rest = option_map (λ (more : List ℕ). units ++ more) rest

longer : (units : List ℕ) (unit : ℕ) (rest : Option (List ℕ)) → put_before (units ++ unit ∷ []) rest ≡ put_before units (option_map (λ (more : List ℕ). unit ∷ more) rest)
longer units unit None = refl
longer units unit (Some more) = ap Some (append_assoc units (unit ∷ []) more)

pub begins : (units : List ℕ) (o : Option (List ℕ)) → units ≡ [] → put_before units o ≡ o
begins units None e = refl
begins units (Some more) e = rw e refl

module _ (passes : ℕ → Bool) (bytes : ℕ → ℕ) (at left n : ℕ) (units : List ℕ) (whole : Option (List ℕ)) (is_left : left ≡ suc n) (so_far : put_before units (string_from passes bytes left at) ≡ whole) where
  pub stops : all_pass passes at 2 ≡ false → None ≡ whole
  unfolding string_from
  stops h = let f = rw is_left at so_far in rw h at f

  pub ends : (unit : ℕ) → all_pass passes at 2 ≡ true → unit ≡ number_at bytes at 2 → unit ≡ 0 → Some units ≡ whole
  unfolding string_from
  ends unit h is none =
      let zeroed : (number_at bytes at 2 == 0) ≡ true = rw (← is, none) refl in
      let f = rw is_left at so_far in
      let g = rw (h, zeroed) at f in
      ap Some (sym (append-nil units)) ∙ g

  pub goes_on : (unit here : ℕ) (more : List ℕ) → all_pass passes at 2 ≡ true → unit ≡ number_at bytes at 2 → unit ≢ 0 → here ≡ (at + 2) % 2 ^ 64 → more ≡ units ++ unit ∷ []
      → put_before more (string_from passes bytes n here) ≡ whole
  unfolding string_from
  goes_on unit here more h is other to pushed =
      let not_zero : (number_at bytes at 2 == 0) ≡ false = rw (← is) (grind (arith, nat_tests)) in
      let f = rw is_left at so_far in
      let g = rw (h, not_zero, ← is) at f in
      rw (pushed, to) (longer units unit (string_from passes bytes n (behind at 2)) ∙ g)

pub runs_out : (passes : ℕ → Bool) (bytes : ℕ → ℕ) (at left : ℕ) (units : List ℕ) (whole : Option (List ℕ)) → left ≡ zero → put_before units (string_from passes bytes left at) ≡ whole → None ≡ whole
unfolding string_from
runs_out passes bytes at left units whole none so_far = rw none at so_far
