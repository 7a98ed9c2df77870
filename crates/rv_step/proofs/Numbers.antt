-- What is asked stays within 64 bits.
use Rattle.std.proofs.Common.{ℕ, zero, suc, ◌-◌, ◌*◌, ◌/◌, ◌%◌, ◌^◌, ◌<◌, ◌≤◌, ℤ, pos, arith, refl, Bool, true, false}
use Rattle.std.proofs.Math.Facts.{sfits_to_z}
use Rattle.std.proofs.Math.Nat.{mod-le, div-le_self}
use Rattle.std.specs.Prelude.{◌==◌, FitsSigned, int_rem, int_div, unsigned_abs, negsuc, if◌then◌else◌, ◌*ℤ◌, neg_ℤ}
use Rattle.std.specs.Int.{w32, w128, int_shr}
use Rattle.std.proofs.lemmas.Int.{fits_signed_mul}
use Rattle.std.proofs.lemmas.Nat.{shr_le, shr_below, xor_lt, or_lt, and_le_l, mul-lt}
use Rattle.rv_decode.specs.declared.insn.Op.{Op}
use Rattle.rv_decode.specs.declared.insn.Op.TheVariants as ops
use Rattle.uh_base.specs.Bytes.{plus}
use Rattle.rv_step.specs.Values.{signed, signed32, bits_of, extended, of_bool, shifted, high, quotient, remainder, overflows, quotient_signed, remainder_signed}
use Rattle.rv_step.specs.Asks.{asks, asks_as, branch}
use Rattle.rv_step.specs.Exec.{IsFit}
use Rattle.rv_step.specs.Numbers.{AsksAreFit, AsksFit, BitsFit, IsNumber}
use Rattle.rv_step.proofs.Signed.{high_fits, below}

-- at most 2^63 to either side
record IsSmall (z : ℤ) : Type 0 where
  size : unsigned_abs z ≤ 2 ^ 63

bits_lt : (z : ℤ) → IsSmall z → bits_of z < 2 ^ 64
bits_lt (pos n) h = let k = h.size in omega (arith, k)
bits_lt (negsuc n) h = omega arith

signed_below : (a : ℕ) → a < 2 ^ 64 → unsigned_abs (signed a) ≤ 2 ^ 63
signed_below a h = below (signed a) (sfits_to_z (record { fits = h }))

signed_mag : (a : ℕ) → a < 2 ^ 64 → IsSmall (signed a)
signed_mag a h = record { size = signed_below a h }

small32 : (z : ℤ) → FitsSigned w32 z → IsSmall z
small32 (pos n) f = record { size = let h = f.sfits in omega (arith, h) }
small32 (negsuc n) f = record { size = let h = f.sfits in omega (arith, h) }

signed32_mag : (a : ℕ) → IsSmall (signed32 a)
signed32_mag a = small32 (signed32 a) (sfits_to_z (record { fits = omega arith }))

extended_lt : (a : ℕ) → extended a < 2 ^ 64
extended_lt a = bits_lt (signed32 a) (signed32_mag a)

bool_lt : (c : Bool) → of_bool c < 2 ^ 64
bool_lt true = omega arith
bool_lt false = omega arith

branch_lt : (c : Bool) (next target : ℕ) → next < 2 ^ 64 → target < 2 ^ 64 → IsNumber (branch c next target)
branch_lt true next target h k = k
branch_lt false next target h k = h

shifted_small : (z : ℤ) (n : ℕ) → IsSmall z → IsSmall (int_shr z n)
shifted_small (pos m) n h = record { size = let k = h.size in omega (arith, k, shr_le m n) }
shifted_small (negsuc m) n h = record { size = let k = h.size in omega (arith, k, shr_le m n) }

shifted_lt : (z : ℤ) (n : ℕ) → IsSmall z → shifted z n < 2 ^ 64
shifted_lt z n h = bits_lt (int_shr z n) (shifted_small z n h)

high_lt : (x y : ℤ) → FitsSigned w128 (x *ℤ y) → high x y < 2 ^ 64
unfolding high
high_lt x y f = bits_lt (int_shr (x *ℤ y) 64) (record { size = below _ (high_fits (x *ℤ y) f) })

negated : (n : ℕ) → n ≤ 2 ^ 63 → IsSmall (neg_ℤ (pos n))
negated zero h = record { size = omega arith }
negated (suc n) h = record { size = omega arith }

quotient_small : (x y : ℤ) → IsSmall x → IsSmall (int_div x y)
quotient_small (pos a) (pos b) h = record { size = let k = h.size in omega (arith, k, div-le_self a b) }
quotient_small (pos a) (negsuc b) h = let k = h.size in negated (a / suc b) (omega (arith, k, div-le_self a (suc b)))
quotient_small (negsuc a) (pos b) h = let k = h.size in negated (suc a / b) (omega (arith, k, div-le_self (suc a) b))
quotient_small (negsuc a) (negsuc b) h = record { size = let k = h.size in omega (arith, k, div-le_self (suc a) (suc b)) }

remainder_small : (x y : ℤ) → IsSmall x → IsSmall (int_rem x y)
remainder_small (pos a) y h = record { size = let k = h.size in omega (arith, k, mod-le a (unsigned_abs y)) }
remainder_small (negsuc a) y h = let k = h.size in negated (suc a % unsigned_abs y) (omega (arith, k, mod-le (suc a) (unsigned_abs y)))

either : (c : Bool) (m n : ℕ) → m < 2 ^ 64 → n < 2 ^ 64 → (if c then m else n) < 2 ^ 64
either true m n h k = h
either false m n h k = k

quotient_lt : (a b : ℕ) → a < 2 ^ 64 → quotient a b < 2 ^ 64
quotient_lt a b h = either (b == 0) _ _ (omega arith) (omega (arith, div-le_self a b))

remainder_lt : (a b : ℕ) → a < 2 ^ 64 → remainder a b < 2 ^ 64
remainder_lt a b h = either (b == 0) _ _ h (omega (arith, mod-le a b))

quotient_signed_lt : (a b : ℕ) → a < 2 ^ 64 → quotient_signed a b < 2 ^ 64
unfolding quotient_signed
quotient_signed_lt a b h = either (b == 0) _ _ (omega arith) (either (overflows a b) _ _ h (bits_lt _ (quotient_small (signed a) (signed b) (signed_mag a h))))

remainder_signed_lt : (a b : ℕ) → a < 2 ^ 64 → remainder_signed a b < 2 ^ 64
unfolding remainder_signed
remainder_signed_lt a b h = either (b == 0) _ _ h (either (overflows a b) _ _ (omega arith) (bits_lt _ (remainder_small (signed a) (signed b) (signed_mag a h))))

number : (op : Op) (rd a b i pc next : ℕ) → a < 2 ^ 64 → b < 2 ^ 64 → i < 2 ^ 64 → pc < 2 ^ 64 → next < 2 ^ 64 → IsNumber (asks_as op rd a b i pc next)
number ops.Add rd a b i pc next ha hb hi hp hn = omega arith
number ops.Sub rd a b i pc next ha hb hi hp hn = omega arith
number ops.Sll rd a b i pc next ha hb hi hp hn = omega arith
number ops.Slt rd a b i pc next ha hb hi hp hn = bool_lt _
number ops.Sltu rd a b i pc next ha hb hi hp hn = bool_lt _
number ops.Xor rd a b i pc next ha hb hi hp hn = xor_lt 64 a b ha hb
number ops.Srl rd a b i pc next ha hb hi hp hn = omega (arith, shr_le a (b % 64))
number ops.Sra rd a b i pc next ha hb hi hp hn = shifted_lt (signed a) (b % 64) (signed_mag a ha)
number ops.Or rd a b i pc next ha hb hi hp hn = or_lt 64 a b ha hb
number ops.And rd a b i pc next ha hb hi hp hn = omega (arith, and_le_l a b)
number ops.Addi rd a b i pc next ha hb hi hp hn = omega arith
number ops.Slti rd a b i pc next ha hb hi hp hn = bool_lt _
number ops.Sltiu rd a b i pc next ha hb hi hp hn = bool_lt _
number ops.Xori rd a b i pc next ha hb hi hp hn = xor_lt 64 a i ha hi
number ops.Ori rd a b i pc next ha hb hi hp hn = or_lt 64 a i ha hi
number ops.Andi rd a b i pc next ha hb hi hp hn = omega (arith, and_le_l a i)
number ops.Slli rd a b i pc next ha hb hi hp hn = omega arith
number ops.Srli rd a b i pc next ha hb hi hp hn = omega (arith, shr_le a (i % 64))
number ops.Srai rd a b i pc next ha hb hi hp hn = shifted_lt (signed a) (i % 64) (signed_mag a ha)
number ops.Addw rd a b i pc next ha hb hi hp hn = extended_lt _
number ops.Subw rd a b i pc next ha hb hi hp hn = extended_lt _
number ops.Sllw rd a b i pc next ha hb hi hp hn = extended_lt _
number ops.Srlw rd a b i pc next ha hb hi hp hn = extended_lt _
number ops.Sraw rd a b i pc next ha hb hi hp hn = shifted_lt (signed32 a) (b % 32) (signed32_mag a)
number ops.Addiw rd a b i pc next ha hb hi hp hn = extended_lt _
number ops.Slliw rd a b i pc next ha hb hi hp hn = extended_lt _
number ops.Srliw rd a b i pc next ha hb hi hp hn = extended_lt _
number ops.Sraiw rd a b i pc next ha hb hi hp hn = shifted_lt (signed32 a) (i % 32) (signed32_mag a)
number ops.Mul rd a b i pc next ha hb hi hp hn = omega arith
number ops.Mulh rd a b i pc next ha hb hi hp hn = high_lt (signed a) (signed b) (fits_signed_mul w128 (signed a) (signed b) (2 ^ 63) (2 ^ 63) (signed_below a ha) (signed_below b hb) (omega arith))
number ops.Mulhsu rd a b i pc next ha hb hi hp hn = high_lt (signed a) (pos b) (fits_signed_mul w128 (signed a) (pos b) (2 ^ 63) (2 ^ 64 - 1) (signed_below a ha) (omega arith) (omega arith))
number ops.Mulhu rd a b i pc next ha hb hi hp hn = shr_below (a * b) 64 64 (mul-lt a b (2 ^ 64) (2 ^ 64) ha hb)
number ops.Div rd a b i pc next ha hb hi hp hn = quotient_signed_lt a b ha
number ops.Divu rd a b i pc next ha hb hi hp hn = quotient_lt a b ha
number ops.Rem rd a b i pc next ha hb hi hp hn = remainder_signed_lt a b ha
number ops.Remu rd a b i pc next ha hb hi hp hn = remainder_lt a b ha
number ops.Mulw rd a b i pc next ha hb hi hp hn = extended_lt _
number ops.Divw rd a b i pc next ha hb hi hp hn = extended_lt _
number ops.Divuw rd a b i pc next ha hb hi hp hn = extended_lt _
number ops.Remw rd a b i pc next ha hb hi hp hn = extended_lt _
number ops.Remuw rd a b i pc next ha hb hi hp hn = extended_lt _
number ops.Lb rd a b i pc next ha hb hi hp hn = omega arith
number ops.Lh rd a b i pc next ha hb hi hp hn = omega arith
number ops.Lw rd a b i pc next ha hb hi hp hn = omega arith
number ops.Ld rd a b i pc next ha hb hi hp hn = omega arith
number ops.Lbu rd a b i pc next ha hb hi hp hn = omega arith
number ops.Lhu rd a b i pc next ha hb hi hp hn = omega arith
number ops.Lwu rd a b i pc next ha hb hi hp hn = omega arith
number ops.Sb rd a b i pc next ha hb hi hp hn = (omega arith, hb)
number ops.Sh rd a b i pc next ha hb hi hp hn = (omega arith, hb)
number ops.Sw rd a b i pc next ha hb hi hp hn = (omega arith, hb)
number ops.Sd rd a b i pc next ha hb hi hp hn = (omega arith, hb)
number ops.Beq rd a b i pc next ha hb hi hp hn = branch_lt _ next (plus pc i) hn (omega arith)
number ops.Bne rd a b i pc next ha hb hi hp hn = branch_lt _ next (plus pc i) hn (omega arith)
number ops.Blt rd a b i pc next ha hb hi hp hn = branch_lt _ next (plus pc i) hn (omega arith)
number ops.Bge rd a b i pc next ha hb hi hp hn = branch_lt _ next (plus pc i) hn (omega arith)
number ops.Bltu rd a b i pc next ha hb hi hp hn = branch_lt _ next (plus pc i) hn (omega arith)
number ops.Bgeu rd a b i pc next ha hb hi hp hn = branch_lt _ next (plus pc i) hn (omega arith)
number ops.Jal rd a b i pc next ha hb hi hp hn = omega arith
number ops.Jalr rd a b i pc next ha hb hi hp hn = omega arith
number ops.Lui rd a b i pc next ha hb hi hp hn = hi
number ops.Auipc rd a b i pc next ha hb hi hp hn = omega arith
number ops.Fence rd a b i pc next ha hb hi hp hn = omega arith
number ops.Ecall rd a b i pc next ha hb hi hp hn = tt
number ops.Ebreak rd a b i pc next ha hb hi hp hn = tt

pub imm_lt : BitsFit
imm_lt z f = bits_lt z (record { size = below z f })

pub fit : AsksFit
unfolding asks
fit insn len x pc f xs h = number insn.op insn.rd _ _ _ pc (plus pc len) (xs insn.rs1) (xs insn.rs2) (imm_lt insn.imm f) h (omega arith)

-- each name asks for registers and widths that there are
fit_as : (op : Op) (rd a b i pc next : ℕ) → rd < 32 → IsFit (asks_as op rd a b i pc next)
fit_as ops.Lb rd a b i pc next h = (h, refl)
fit_as ops.Lh rd a b i pc next h = (h, refl)
fit_as ops.Lw rd a b i pc next h = (h, refl)
fit_as ops.Ld rd a b i pc next h = (h, refl)
fit_as ops.Lbu rd a b i pc next h = (h, refl)
fit_as ops.Lhu rd a b i pc next h = (h, refl)
fit_as ops.Lwu rd a b i pc next h = (h, refl)
fit_as ops.Sb rd a b i pc next h = refl
fit_as ops.Sh rd a b i pc next h = refl
fit_as ops.Sw rd a b i pc next h = refl
fit_as ops.Sd rd a b i pc next h = refl
fit_as ops.Beq rd a b i pc next h = omega arith
fit_as ops.Bne rd a b i pc next h = omega arith
fit_as ops.Blt rd a b i pc next h = omega arith
fit_as ops.Bge rd a b i pc next h = omega arith
fit_as ops.Bltu rd a b i pc next h = omega arith
fit_as ops.Bgeu rd a b i pc next h = omega arith
fit_as ops.Fence rd a b i pc next h = omega arith
fit_as ops.Ecall rd a b i pc next h = tt
fit_as ops.Ebreak rd a b i pc next h = tt
fit_as op rd a b i pc next h = h

pub are_fit : AsksAreFit
unfolding asks
are_fit insn len x pc h = fit_as insn.op insn.rd _ _ _ pc (plus pc len) h.rd
