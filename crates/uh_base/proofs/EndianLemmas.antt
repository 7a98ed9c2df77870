-- Numbers as bytes.
use Rattle.std.proofs.Common.{◌≡◌, ℕ, zero, suc, ◌+◌, ◌*◌, ◌/◌, ◌%◌, ◌≤◌, List, [], ◌∷◌, length, take, drop, get_or, refl, ap, ◌∙◌, arith}
use Rattle.std.proofs.lemmas.Grind.{common_steps}
use Rattle.std.specs.Int.{to_le_bytes, w64}
use Rattle.std.proofs.Math.Nat.{div-div-eq-div-mul}
use Rattle.uh_base.specs.LittleEndian.{little_endian, low_bytes}

-- the byte at an index, and those behind it
one_more : (bytes : List ℕ) (i : ℕ) → little_endian (drop i bytes) ≡ get_or bytes i 0 + 256 * little_endian (drop (suc i) bytes)
unfolding little_endian
one_more [] zero = refl
one_more [] (suc i) = refl
one_more (byte ∷ bytes) zero = refl
one_more (byte ∷ bytes) (suc i) = one_more bytes i

none_behind : (bytes : List ℕ) → length bytes ≡ 8 → little_endian (drop 8 bytes) ≡ 0
unfolding little_endian
none_behind bytes h = let e : drop 8 bytes ≡ [] = grind (arith, common_steps) in rw e refl

pub eight_bytes : (bytes : List ℕ) → length bytes ≡ 8
    → get_or bytes 0 0 + get_or bytes 1 0 * 256 + get_or bytes 2 0 * 65536 + get_or bytes 3 0 * 16777216 + get_or bytes 4 0 * 4294967296 + get_or bytes 5 0 * 1099511627776 + get_or bytes 6 0 * 281474976710656 + get_or bytes 7 0 * 72057594037927936 ≡ little_endian bytes
eight_bytes bytes h =
    omega (arith, one_more bytes 0, one_more bytes 1, one_more bytes 2, one_more bytes 3, one_more bytes 4, one_more bytes 5, one_more bytes 6, one_more bytes 7, none_behind bytes h)

-- the first of more bytes
take_low : (few count n : ℕ) → few ≤ count → take few (low_bytes count n) ≡ low_bytes few n
unfolding low_bytes
take_low zero count n h = refl
take_low (suc few) zero n h = absurd (omega arith)
take_low (suc few) (suc count) n h = ap (λ bytes. n % 256 ∷ bytes) (take_low few count (n / 256) (omega arith))

all_eight : (n : ℕ) → to_le_bytes w64 n ≡ low_bytes 8 n
unfolding low_bytes
all_eight n = simp div-div-eq-div-mul

pub first_bytes : (few n : ℕ) → few ≤ 8 → take few (to_le_bytes w64 n) ≡ low_bytes few n
first_bytes few n h = ap (take few) (all_eight n) ∙ take_low few 8 n h
