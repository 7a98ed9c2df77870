-- Numbers in a list of parts.
use Rattle.std.proofs.Common.{◌≡◌, ◌<◌, ℕ, ◌+◌, ◌^◌, List, ◌++◌, length, drop, get_or, refl, sym, ap, ◌∙◌, arith}
use Rattle.std.proofs.lemmas.List.{get_or-append-add, get_or-drop, drop-drop, drop_at}
use Rattle.uh_base.specs.LittleEndian.{low_bytes}
use Rattle.pe_image.specs.Numbers.{u16_at, u32_at, u64_at}

-- behind the first part
pub byte_past : (a b : List ℕ) (at k : ℕ) → at ≡ length a + k → get_or (a ++ b) at 0 ≡ get_or b k 0
byte_past a b at k e = ap (λ (i : ℕ). get_or (a ++ b) i 0) e ∙ get_or-append-add a b k 0

pub u16_past : (a b : List ℕ) (at k : ℕ) → at ≡ length a + k → u16_at (a ++ b) at ≡ u16_at b k
unfolding u16_at
u16_past a b at k e = rw (byte_past a b at k e, byte_past a b (at + 1) (k + 1) (omega arith)) refl

pub u32_past : (a b : List ℕ) (at k : ℕ) → at ≡ length a + k → u32_at (a ++ b) at ≡ u32_at b k
unfolding u32_at
u32_past a b at k e = rw (byte_past a b at k e, byte_past a b (at + 1) (k + 1) (omega arith), byte_past a b (at + 2) (k + 2) (omega arith), byte_past a b (at + 3) (k + 3) (omega arith)) refl

pub u64_past : (a b : List ℕ) (at k : ℕ) → at ≡ length a + k → u64_at (a ++ b) at ≡ u64_at b k
unfolding u64_at
u64_past a b at k e = rw (u32_past a b at k e, u32_past a b (at + 4) (k + 4) (omega arith)) refl

-- the bytes of a number are in front
pub u16_low : (n : ℕ) (behind : List ℕ) → n < 2 ^ 16 → u16_at (low_bytes 2 n ++ behind) 0 ≡ n
unfolding u16_at low_bytes
u16_low n behind h = omega arith

pub u32_low : (n : ℕ) (behind : List ℕ) → n < 2 ^ 32 → u32_at (low_bytes 4 n ++ behind) 0 ≡ n
unfolding u32_at low_bytes
u32_low n behind h = omega arith

pub u64_low : (n : ℕ) (behind : List ℕ) → n < 2 ^ 64 → u64_at (low_bytes 8 n ++ behind) 0 ≡ n
unfolding u64_at u32_at low_bytes
u64_low n behind h = omega arith

-- what stands at an offset
byte_drop : (bytes : List ℕ) (at k i : ℕ) → i ≡ at + k → get_or bytes i 0 ≡ get_or (drop at bytes) k 0
byte_drop bytes at k i e = ap (λ (j : ℕ). get_or bytes j 0) e ∙ sym (get_or-drop at bytes k 0)

u16_drop : (bytes : List ℕ) (at k i : ℕ) → i ≡ at + k → u16_at bytes i ≡ u16_at (drop at bytes) k
unfolding u16_at
u16_drop bytes at k i e = rw (byte_drop bytes at k i e, byte_drop bytes at (k + 1) (i + 1) (omega arith)) refl

u32_drop : (bytes : List ℕ) (at k i : ℕ) → i ≡ at + k → u32_at bytes i ≡ u32_at (drop at bytes) k
unfolding u32_at
u32_drop bytes at k i e = rw (byte_drop bytes at k i e, byte_drop bytes at (k + 1) (i + 1) (omega arith), byte_drop bytes at (k + 2) (i + 2) (omega arith), byte_drop bytes at (k + 3) (i + 3) (omega arith)) refl

pub u16_there : (bytes rest : List ℕ) (at n : ℕ) → n < 2 ^ 16 → drop at bytes ≡ low_bytes 2 n ++ rest → u16_at bytes at ≡ n
u16_there bytes rest at n small e = u16_drop bytes at 0 at (omega arith) ∙ ap (λ xs. u16_at xs 0) e ∙ u16_low n rest small

pub u32_there : (bytes rest : List ℕ) (at n : ℕ) → n < 2 ^ 32 → drop at bytes ≡ low_bytes 4 n ++ rest → u32_at bytes at ≡ n
u32_there bytes rest at n small e = u32_drop bytes at 0 at (omega arith) ∙ ap (λ xs. u32_at xs 0) e ∙ u32_low n rest small

pub behind_there : (bytes front rest : List ℕ) (at n : ℕ) → length front ≡ n → drop at bytes ≡ front ++ rest → drop (at + n) bytes ≡ rest
behind_there bytes front rest at n len e = sym (drop-drop n at bytes) ∙ ap (drop n) e ∙ drop_at front rest n len
