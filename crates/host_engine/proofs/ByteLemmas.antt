-- The bytes of the flat memory.
use Rattle.std.proofs.Common.{◌≡◌, ◌≢◌, ℕ, ◌+◌, ◌-◌, ◌<◌, ◌≤◌, Bool, true, false, List, length, get_or, refl, ◌∙◌, ap, arith, slice_set, inl, inr, cond, get_or-set_other, get_or-set_same, replicate, take, ◌++◌, [], ◌∷◌, zero, suc}
use Rattle.std.specs.Prelude.{◌==◌, slice_index}
use Rattle.std.proofs.lemmas.Grind.{common_steps}
use Rattle.std.proofs.Math.Path.{fun_ext}
use Rattle.std.proofs.lemmas.Bool.Decides.{nat_tests, eqb_tells}
use Rattle.uh_base.specs.Bytes.{with_byte}
use Rattle.host_engine.specs.FlatMemories.{base, size, flat_bytes, is_inside}

inside_bounds : (at : ℕ) → is_inside at ≡ true → (base ≤ at) × (at < base + size)
inside_bounds at h = grind (arith, nat_tests)

-- another address has the byte that it had
other_at : (xs : List ℕ) (at byte a : ℕ) → base ≤ at → a ≢ at → (b : Bool) → is_inside a ≡ b
    → cond b (slice_index (slice_set xs (at - base) byte) (a - base)) 0 ≡ cond b (slice_index xs (a - base)) 0
other_at xs at byte a low ne true h =
    let bounds = inside_bounds a h in
    let apart : a - base ≢ at - base = omega (arith, ne) in get_or-set_other xs (at - base) (a - base) byte 0 apart
other_at xs at byte a low ne false h = refl

same_at : (xs : List ℕ) (at byte a : ℕ) → length xs ≡ size → base ≤ at → at < base + size → a ≡ at → slice_index (slice_set xs (at - base) byte) (a - base) ≡ byte
same_at xs at byte a len low high e =
    let lt : at - base < length xs = omega arith in
    let i : a - base ≡ at - base = omega arith in rw i (get_or-set_same xs (at - base) byte 0 lt)

set_at : (xs : List ℕ) (at byte a : ℕ) → length xs ≡ size → base ≤ at → at < base + size
    → cond (is_inside a) (slice_index (slice_set xs (at - base) byte) (a - base)) 0 ≡ cond (a == at) byte (cond (is_inside a) (slice_index xs (a - base)) 0)
set_at xs at byte a len low high =
    elim (eqb_tells a at) [
      | inl same ↦ (let ins : is_inside a ≡ true = grind (arith, nat_tests) in rw (ins, same.0) (same_at xs at byte a len low high same.1))
      | inr other ↦ rw other.0 (other_at xs at byte a low other.1 (is_inside a) refl)
    ]

pub set_byte : (xs : List ℕ) (at byte : ℕ) → length xs ≡ size → is_inside at ≡ true → flat_bytes (slice_set xs (at - base) byte) ≡ with_byte (flat_bytes xs) at byte
unfolding flat_bytes
set_byte xs at byte len inside =
    let bounds = inside_bounds at inside in
    fun_ext (λ a. set_at xs at byte a len bounds.0 bounds.1)

-- zeros behind a list are what is read behind it anyway
padded_at : (xs : List ℕ) (k i : ℕ) → get_or (xs ++ replicate k 0) i 0 ≡ get_or xs i 0
padded_at [] zero i = refl
padded_at [] (suc k) zero = refl
padded_at [] (suc k) (suc i) = padded_at [] k i
padded_at (x ∷ xs) k zero = refl
padded_at (x ∷ xs) k (suc i) = padded_at xs k i

pub padded_bytes : (xs ys : List ℕ) (k : ℕ) → ys ≡ xs ++ replicate k 0 → flat_bytes ys ≡ flat_bytes xs
unfolding flat_bytes
padded_bytes xs ys k e = fun_ext (λ a. ap (λ v. cond (is_inside a) v 0) (ap (λ zs. slice_index zs (a - base)) e ∙ padded_at xs k (a - base)))

-- a list that was resized to no less
pub resized_bytes : (n len : ℕ) (file ys zs : List ℕ) → zs ≡ take n ys ++ replicate (n - len) 0 → ys ≡ file → len ≡ length file → length file ≤ n → flat_bytes zs ≡ flat_bytes file
resized_bytes n len file ys zs e y l h =
    let whole : take n file ≡ file = grind (arith, common_steps) in
    padded_bytes file zs (n - len) (e ∙ ap (λ xs. take n xs ++ replicate (n - len) 0) y ∙ ap (λ xs. xs ++ replicate (n - len) 0) whole)
