-- Bytes that are read one after another.
use Rattle.std.proofs.Common.{◌≡◌, ◌<◌, ◌-◌, ℕ, zero, suc, List, [], ◌∷◌, ◌++◌, sym, ap, ◌∙◌, append_assoc, append-nil, arith}
use Rattle.uh_base.specs.Bytes.{next}
use Rattle.guest_memory.specs.Runs.{bytes_from}

-- the first byte, and those behind it
one_byte : (bytes : ℕ → ℕ) (at n : ℕ) → 0 < n → bytes_from bytes at n ≡ bytes at ∷ bytes_from bytes (next at) (n - 1)
unfolding bytes_from
one_byte bytes at zero h = let bad : ⊥ = omega arith in absurd bad
one_byte bytes at (suc n) h = let e : suc n - 1 ≡ n = omega arith in ap (λ k. bytes at ∷ bytes_from bytes (next at) k) (sym e)

module _ (bytes : ℕ → ℕ) (done : List ℕ) (here n : ℕ) (whole : List ℕ) (so_far : done ++ bytes_from bytes here n ≡ whole) where
  pub byte_read : 0 < n → (done ++ bytes here ∷ []) ++ bytes_from bytes (next here) (n - 1) ≡ whole
  byte_read some = append_assoc done (bytes here ∷ []) (bytes_from bytes (next here) (n - 1)) ∙ ap (λ (l : List ℕ). done ++ l) (sym (one_byte bytes here n some)) ∙ so_far

  pub all_read : n ≡ 0 → done ≡ whole
  unfolding bytes_from
  all_read e = sym (append-nil done) ∙ ap (λ k. done ++ bytes_from bytes here k) (sym e) ∙ so_far
