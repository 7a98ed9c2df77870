-- A list by its values.
use Rattle.std.proofs.Common.{◌≡◌, ℕ, suc, ◌+◌, ◌<◌, List, [], ◌∷◌, ◌++◌, length, take, drop, Some, refl, sym, ap, ◌∙◌, arith, add-zero, zero-add, append-nil}
use Rattle.std.specs.Prelude.{slice_get}
use Rattle.std.proofs.lemmas.Grind.{common_steps}
use Rattle.image_dump.specs.Reports.{values_from}

some_same : (x y : ℕ) → Some x ≡ Some y → x ≡ y
some_same x y h = cc

one_on : (at i : ℕ) → at + suc i ≡ at + 1 + i
one_on at i = omega arith

cons_same : (x y : ℕ) (xs ys : List ℕ) → x ≡ y → xs ≡ ys → x ∷ xs ≡ y ∷ ys
cons_same x y xs ys h t = cc

-- a list that has a function's value at each index
module _ (f : ℕ → ℕ) where
  from_each : (xs : List ℕ) (at : ℕ) → ((i : ℕ) → i < length xs → slice_get xs i ≡ Some (f (at + i))) → xs ≡ values_from f at (length xs)
  unfolding values_from
  from_each [] at h = refl
  from_each (x ∷ xs) at h =
      let first : x ≡ f at = some_same x (f at) (h 0 (omega arith) ∙ ap (λ k. Some (f k)) (add-zero at)) in
      let rest = from_each xs (at + 1) (λ i below. h (suc i) (omega arith) ∙ ap (λ k. Some (f k)) (one_on at i)) in
      cons_same x (f at) xs (values_from f (at + 1) (length xs)) first rest

pub each_value : (f : ℕ → ℕ) (xs : List ℕ) (n : ℕ) → length xs ≡ n → ((i : ℕ) → i < length xs → slice_get xs i ≡ Some (f i)) → xs ≡ values_from f 0 n
each_value f xs n len h = from_each f xs 0 (λ i below. h i below ∙ ap (λ k. Some (f k)) (sym (zero-add i))) ∙ ap (values_from f 0) len

-- a vector whose slice was written
pub whole_written : (len : ℕ) (new items : List ℕ) → length new ≡ length items → len ≡ length items → take len (new ++ drop (length new) items) ≡ new
whole_written len new items e l =
    let none : drop (length new) items ≡ [] = grind (arith, common_steps) in
    rw none (ap (take len) (append-nil new) ∙ grind (arith, common_steps))
