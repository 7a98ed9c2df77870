-- The fields of a word that is made of fields, and its bits under a format's mask.
use Rattle.std.proofs.Common.{◌≡◌, ℕ, ℤ, pos, negsuc, ◌+◌, ◌*◌, ◌/◌, ◌%◌, ◌^◌, ◌<◌, true, arith}
use Rattle.std.specs.Int.{cast_unsigned, w64}
use Rattle.std.proofs.lemmas.Int.{ints}
use Rattle.std.proofs.lemmas.Bool.Decides.{nat_tests}
use Rattle.rv_decode.specs.Fields.{signed}
use Rattle.rv_decode.specs.Fits.{is_signed, is_shift, is_multiple}

-- a signed number from its low bits
pub back_12 : (z : ℤ) → is_signed 12 z ≡ true → signed 12 (cast_unsigned w64 z % 4096) ≡ z
back_12 (pos n) h = grind (arith, ints, nat_tests)
back_12 (negsuc n) h = grind (arith, ints, nat_tests)

pub back_13 : (z : ℤ) → is_signed 13 z ≡ true → signed 13 (cast_unsigned w64 z % 8192) ≡ z
back_13 (pos n) h = grind (arith, ints, nat_tests)
back_13 (negsuc n) h = grind (arith, ints, nat_tests)

pub back_21 : (z : ℤ) → is_signed 21 z ≡ true → signed 21 (cast_unsigned w64 z % 2097152) ≡ z
back_21 (pos n) h = grind (arith, ints, nat_tests)
back_21 (negsuc n) h = grind (arith, ints, nat_tests)

pub back_32 : (z : ℤ) → is_signed 32 z ≡ true → signed 32 (cast_unsigned w64 z % 4294967296) ≡ z
back_32 (pos n) h = grind (arith, ints, nat_tests)
back_32 (negsuc n) h = grind (arith, ints, nat_tests)

pub back_shift_6 : (z : ℤ) → is_shift 64 z ≡ true → pos (cast_unsigned w64 z % 64) ≡ z
back_shift_6 (pos n) h = grind (arith, ints, nat_tests)
back_shift_6 (negsuc n) h = cc

pub back_shift_5 : (z : ℤ) → is_shift 32 z ≡ true → pos (cast_unsigned w64 z % 32) ≡ z
back_shift_5 (pos n) h = grind (arith, ints, nat_tests)
back_shift_5 (negsuc n) h = cc

-- what is a multiple stays one modulo 2^64
pub even_bits : (z : ℤ) → is_multiple 2 z ≡ true → cast_unsigned w64 z % 2 ≡ 0
even_bits (pos n) h = grind (arith, ints, nat_tests)
even_bits (negsuc n) h = grind (arith, ints, nat_tests)

pub page_bits : (z : ℤ) → is_multiple 4096 z ≡ true → cast_unsigned w64 z % 4096 ≡ 0
page_bits (pos n) h = grind (arith, ints, nat_tests)
page_bits (negsuc n) h = grind (arith, ints, nat_tests)

-- The fields and the fixed bits of the words that the formats make: d, s and t are the registers, v is the value of the
-- fixed bits, and the others are pieces of the immediate.
pub record FieldsI (v d s m w : ℕ) : Type 0 where
  pub rd : w / 2 ^ 7 % 2 ^ 5 ≡ d
  pub rs1 : w / 2 ^ 15 % 2 ^ 5 ≡ s
  pub imm : w / 2 ^ 20 % 2 ^ 12 ≡ m
  pub value : w / 4096 % 8 * 4096 + w % 128 ≡ v

pub fields_i : (v d s m w : ℕ) → v / 4096 % 8 * 4096 + v % 128 ≡ v → d < 32 → s < 32 → m < 4096 → w ≡ (v + d * 2 ^ 7 + s * 2 ^ 15 + m * 2 ^ 20) % 2 ^ 32 → FieldsI v d s m w
fields_i v d s m w shape bd bs bm e = record { rd = omega arith; rs1 = omega arith; imm = omega arith; value = omega arith }

pub record FieldsS (v s t h l w : ℕ) : Type 0 where
  pub rs1 : w / 2 ^ 15 % 2 ^ 5 ≡ s
  pub rs2 : w / 2 ^ 20 % 2 ^ 5 ≡ t
  pub high : w / 2 ^ 25 % 2 ^ 7 ≡ h
  pub low : w / 2 ^ 7 % 2 ^ 5 ≡ l
  pub value : w / 4096 % 8 * 4096 + w % 128 ≡ v

pub fields_s : (v s t h l w : ℕ) → v / 4096 % 8 * 4096 + v % 128 ≡ v → s < 32 → t < 32 → h < 128 → l < 32 → w ≡ (v + s * 2 ^ 15 + t * 2 ^ 20 + h * 2 ^ 25 + l * 2 ^ 7) % 2 ^ 32 → FieldsS v s t h l w
fields_s v s t h l w shape bs bt bh bl e = record { rs1 = omega arith; rs2 = omega arith; high = omega arith; low = omega arith; value = omega arith }

pub record FieldsB (v s t a b h l w : ℕ) : Type 0 where
  pub rs1 : w / 2 ^ 15 % 2 ^ 5 ≡ s
  pub rs2 : w / 2 ^ 20 % 2 ^ 5 ≡ t
  pub top : w / 2 ^ 31 % 2 ^ 1 ≡ a
  pub next : w / 2 ^ 7 % 2 ^ 1 ≡ b
  pub high : w / 2 ^ 25 % 2 ^ 6 ≡ h
  pub low : w / 2 ^ 8 % 2 ^ 4 ≡ l
  pub value : w / 4096 % 8 * 4096 + w % 128 ≡ v

pub fields_b : (v s t a b h l w : ℕ) → v / 4096 % 8 * 4096 + v % 128 ≡ v → s < 32 → t < 32 → a < 2 → b < 2 → h < 64 → l < 16 → w ≡ (v + s * 2 ^ 15 + t * 2 ^ 20 + a * 2 ^ 31 + b * 2 ^ 7 + h * 2 ^ 25 + l * 2 ^ 8) % 2 ^ 32 → FieldsB v s t a b h l w
fields_b v s t a b h l w shape bs bt ba bb bh bl e = record { rs1 = omega arith; rs2 = omega arith; top = omega arith; next = omega arith; high = omega arith; low = omega arith; value = omega arith }

pub record FieldsU (v d m w : ℕ) : Type 0 where
  pub rd : w / 2 ^ 7 % 2 ^ 5 ≡ d
  pub imm : w / 2 ^ 12 % 2 ^ 20 ≡ m
  pub value : w % 128 ≡ v

pub fields_u : (v d m w : ℕ) → v < 128 → d < 32 → m < 2 ^ 20 → w ≡ (v + d * 2 ^ 7 + m * 2 ^ 12) % 2 ^ 32 → FieldsU v d m w
fields_u v d m w shape bd bm e = record { rd = omega arith; imm = omega arith; value = omega arith }

pub record FieldsJ (v d a b k l w : ℕ) : Type 0 where
  pub rd : w / 2 ^ 7 % 2 ^ 5 ≡ d
  pub top : w / 2 ^ 31 % 2 ^ 1 ≡ a
  pub middle : w / 2 ^ 12 % 2 ^ 8 ≡ b
  pub next : w / 2 ^ 20 % 2 ^ 1 ≡ k
  pub low : w / 2 ^ 21 % 2 ^ 10 ≡ l
  pub value : w % 128 ≡ v

pub fields_j : (v d a b k l w : ℕ) → v < 128 → d < 32 → a < 2 → b < 256 → k < 2 → l < 1024 → w ≡ (v + d * 2 ^ 7 + a * 2 ^ 31 + b * 2 ^ 12 + k * 2 ^ 20 + l * 2 ^ 21) % 2 ^ 32 → FieldsJ v d a b k l w
fields_j v d a b k l w shape bd ba bb bk bl e = record { rd = omega arith; top = omega arith; middle = omega arith; next = omega arith; low = omega arith; value = omega arith }

pub record FieldsShift (v d s m w : ℕ) : Type 0 where
  pub rd : w / 2 ^ 7 % 2 ^ 5 ≡ d
  pub rs1 : w / 2 ^ 15 % 2 ^ 5 ≡ s
  pub imm : w / 2 ^ 20 % 2 ^ 6 ≡ m
  pub value : w / 2 ^ 26 * 2 ^ 26 + w / 4096 % 8 * 4096 + w % 128 ≡ v

pub fields_shift : (v d s m w : ℕ) → v < 2 ^ 32 → v / 2 ^ 26 * 2 ^ 26 + v / 4096 % 8 * 4096 + v % 128 ≡ v → d < 32 → s < 32 → m < 64 → w ≡ (v + d * 2 ^ 7 + s * 2 ^ 15 + m * 2 ^ 20) % 2 ^ 32 → FieldsShift v d s m w
fields_shift v d s m w low shape bd bs bm e = record { rd = omega arith; rs1 = omega arith; imm = omega arith; value = omega arith }

pub record FieldsWord (v d s m w : ℕ) : Type 0 where
  pub rd : w / 2 ^ 7 % 2 ^ 5 ≡ d
  pub rs1 : w / 2 ^ 15 % 2 ^ 5 ≡ s
  pub imm : w / 2 ^ 20 % 2 ^ 5 ≡ m
  pub value : w / 2 ^ 25 * 2 ^ 25 + w / 4096 % 8 * 4096 + w % 128 ≡ v

pub fields_word : (v d s m w : ℕ) → v < 2 ^ 32 → v / 2 ^ 25 * 2 ^ 25 + v / 4096 % 8 * 4096 + v % 128 ≡ v → d < 32 → s < 32 → m < 32 → w ≡ (v + d * 2 ^ 7 + s * 2 ^ 15 + m * 2 ^ 20) % 2 ^ 32 → FieldsWord v d s m w
fields_word v d s m w low shape bd bs bm e = record { rd = omega arith; rs1 = omega arith; imm = omega arith; value = omega arith }

pub record FieldsR (v d s t w : ℕ) : Type 0 where
  pub rd : w / 2 ^ 7 % 2 ^ 5 ≡ d
  pub rs1 : w / 2 ^ 15 % 2 ^ 5 ≡ s
  pub rs2 : w / 2 ^ 20 % 2 ^ 5 ≡ t
  pub value : w / 2 ^ 25 * 2 ^ 25 + w / 4096 % 8 * 4096 + w % 128 ≡ v

pub fields_r : (v d s t w : ℕ) → v < 2 ^ 32 → v / 2 ^ 25 * 2 ^ 25 + v / 4096 % 8 * 4096 + v % 128 ≡ v → d < 32 → s < 32 → t < 32 → w ≡ (v + d * 2 ^ 7 + s * 2 ^ 15 + t * 2 ^ 20) % 2 ^ 32 → FieldsR v d s t w
fields_r v d s t w low shape bd bs bt e = record { rd = omega arith; rs1 = omega arith; rs2 = omega arith; value = omega arith }
