-- Bytes and rights by address.
use Rattle.std.proofs.Common.{◌≡◌, ◌≢◌, ℕ, ◌+◌, ◌*◌, ◌-◌, ◌<◌, ◌≤◌, Bool, true, false, List, length, refl, ap, arith, slice_set, inl, inr, cond, get_or-set_other, get_or-set_same}
use Rattle.std.specs.Prelude.{◌==◌, ◌&&◌, nat_le, nat_lt, slice_index, Result, Ok, Err, OnOk}
use Rattle.std.proofs.Math.Path.{fun_ext}
use Rattle.std.proofs.lemmas.Bool.Decides.{nat_tests, eqb_tells}
use Rattle.uh_base.specs.Bytes.{with_byte}
use Rattle.guest_memory.specs.Pages.{Pages, Whole, holds, bytes_of, rights_at}
use Rattle.guest_memory.specs.Changes.{put_to, PutGives}
use Rattle.guest_memory.specs.declared.rights.PutEnd.{PutEnd}
use Rattle.guest_memory.specs.declared.rights.PutEnd.TheVariants.{Outside, Frames, Memory}

-- another address has the byte that it had
other_at : (xs : List ℕ) (base at byte a : ℕ) → base ≤ at → base ≤ a → a ≢ at
    → slice_index (slice_set xs (at - base) byte) (a - base) ≡ slice_index xs (a - base)
other_at xs base at byte a low la ne =
    let apart : a - base ≢ at - base = omega (arith, ne) in get_or-set_other xs (at - base) (a - base) byte 0 apart

same_at : (xs : List ℕ) (base at byte a : ℕ) → base ≤ at → at - base < length xs → a ≡ at → slice_index (slice_set xs (at - base) byte) (a - base) ≡ byte
same_at xs base at byte a low lt e =
    let i : a - base ≡ at - base = omega arith in rw i (get_or-set_same xs (at - base) byte 0 lt)

other_when : (xs : List ℕ) (base at byte a : ℕ) → base ≤ at → a ≢ at → (b : Bool) → (b ≡ true → base ≤ a)
    → cond b (slice_index (slice_set xs (at - base) byte) (a - base)) 0 ≡ cond b (slice_index xs (a - base)) 0
other_when xs base at byte a low ne true h = other_at xs base at byte a low (h refl) ne
other_when xs base at byte a low ne false h = refl

inside : (base end a : ℕ) → (nat_le base a && nat_lt a end) ≡ true → base ≤ a
inside base end a h = grind (arith, nat_tests)

put_at : (xs : List ℕ) (base end at byte a : ℕ) → base + length xs ≡ end → (nat_le base at && nat_lt at end) ≡ true
    → cond (nat_le base a && nat_lt a end) (slice_index (slice_set xs (at - base) byte) (a - base)) 0
    ≡ cond (a == at) byte (cond (nat_le base a && nat_lt a end) (slice_index xs (a - base)) 0)
put_at xs base end at byte a len ins =
    let low : base ≤ at = inside base end at ins in
    let lt : at - base < length xs = grind (arith, nat_tests) in
    elim (eqb_tells a at) [
      | inl same ↦ (let i : (nat_le base a && nat_lt a end) ≡ true = rw same.1 ins in rw (i, same.0) (same_at xs base at byte a low lt same.1))
      | inr other ↦ rw other.0 (other_when xs base at byte a low other.1 (nat_le base a && nat_lt a end) (inside base end a))
    ]

-- a put changes the byte of its address and no other
pub put_bytes : (base pages : ℕ) (xs : List ℕ) (at byte : ℕ) → base + length xs ≡ base + 4096 * pages → (nat_le base at && nat_lt at (base + 4096 * pages)) ≡ true
    → (λ a. cond (nat_le base a && nat_lt a (base + 4096 * pages)) (slice_index (slice_set xs (at - base) byte) (a - base)) 0)
    ≡ with_byte (λ a. cond (nat_le base a && nat_lt a (base + 4096 * pages)) (slice_index xs (a - base)) 0) at byte
put_bytes base pages xs at byte len ins = fun_ext (λ a. put_at xs base (base + 4096 * pages) at byte a len ins)

pub bytes_put_long : (old : Pages) (at byte : ℕ) → length old.bytes ≡ 4096 * old.pages → holds old at ≡ true → bytes_of (put_to old at byte) ≡ with_byte (bytes_of old) at byte
unfolding bytes_of
bytes_put_long old at byte long ins = put_bytes old.base old.pages old.bytes at byte (omega (arith, long)) ins

pub bytes_put : (old new : Pages) (at byte : ℕ) → Whole old → holds old at ≡ true → new ≡ put_to old at byte → bytes_of new ≡ with_byte (bytes_of old) at byte
unfolding bytes_of
bytes_put old new at byte whole ins e =
    rw e (put_bytes old.base old.pages old.bytes at byte (omega (arith, whole.bytes_long)) ins)

pub rights_put : (old new : Pages) (at byte : ℕ) → new ≡ put_to old at byte → rights_at new ≡ rights_at old
unfolding rights_at
rights_put old new at byte e = rw e refl

pub bytes_after : {X : Type 0} (r : Result X PutEnd) (old new : Pages) (at byte : ℕ) → Whole old → PutGives r old new at byte → OnOk r (bytes_of new ≡ with_byte (bytes_of old) at byte)
bytes_after (Ok x) old new at byte whole gives = bytes_put old new at byte whole gives.0 gives.2
bytes_after (Err e) old new at byte whole gives = tt

pub rights_after : {X : Type 0} (r : Result X PutEnd) (old new : Pages) (at byte : ℕ) → PutGives r old new at byte → rights_at new ≡ rights_at old
rights_after (Ok x) old new at byte gives = rights_put old new at byte gives.2
rights_after (Err Outside) old new at byte gives = ap rights_at gives.1
rights_after (Err Frames) old new at byte gives = ap rights_at gives.2
rights_after (Err Memory) old new at byte gives = ap rights_at gives.3

pub base_after : {X : Type 0} (r : Result X PutEnd) (old new : Pages) (at byte : ℕ) → PutGives r old new at byte → new.base ≡ old.base
base_after (Ok x) old new at byte gives = ap (λ (m : Pages). m.base) gives.2
base_after (Err Outside) old new at byte gives = ap (λ (m : Pages). m.base) gives.1
base_after (Err Frames) old new at byte gives = ap (λ (m : Pages). m.base) gives.2
base_after (Err Memory) old new at byte gives = ap (λ (m : Pages). m.base) gives.3

pub pages_after : {X : Type 0} (r : Result X PutEnd) (old new : Pages) (at byte : ℕ) → PutGives r old new at byte → new.pages ≡ old.pages
pages_after (Ok x) old new at byte gives = ap (λ (m : Pages). m.pages) gives.2
pages_after (Err Outside) old new at byte gives = ap (λ (m : Pages). m.pages) gives.1
pages_after (Err Frames) old new at byte gives = ap (λ (m : Pages). m.pages) gives.2
pages_after (Err Memory) old new at byte gives = ap (λ (m : Pages). m.pages) gives.3
