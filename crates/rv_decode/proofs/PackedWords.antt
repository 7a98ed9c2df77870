-- An instruction that fits is packed into a word that means it.
use Rattle.std.proofs.Common.{◌≡◌, ℕ, ℤ, pos, ◌+◌, ◌*◌, ◌/◌, ◌%◌, ◌^◌, ◌<◌, Bool, true, false, ◌&&◌, refl, sym, ◌∙◌, ap, arith, bit_and}
use Rattle.std.specs.Prelude.{◌==◌, nat_lt}
use Rattle.std.specs.Int.{cast_unsigned, w64}
use Rattle.std.specs.Ordering.{int_eq}
use Rattle.std.proofs.lemmas.Nat.{and_mask, and_block}
use Rattle.std.proofs.lemmas.Int.{ints}
use Rattle.std.proofs.lemmas.Bool.{eqb-true}
use Rattle.std.proofs.lemmas.Bool.Decides.{nat_tests}
use Rattle.rv_decode.specs.Fields.{field, signed}
use Rattle.rv_decode.specs.Formats.{reads_of}
use Rattle.rv_decode.specs.Fits.{in_range, is_register, is_signed}
use Rattle.rv_decode.specs.Packed.{packed, pack_i, pack_u, pack_j, pack_b, pack_s, pack_shift, pack_shift_w, pack_r}
use Rattle.rv_decode.specs.declared.insn.Insn.{Insn}
use Rattle.rv_decode.specs.declared.insn.Op.{Op}
use Rattle.rv_decode.specs.declared.table.Format.{Format}
use Rattle.rv_decode.specs.declared.table.Format.TheVariants as formats
use Rattle.rv_decode.proofs.RowLemmas.{and_split}
use Rattle.rv_decode.proofs.SlotLemmas.{long_mask}
use Rattle.rv_decode.proofs.PackLemmas.{back_12, back_13, back_21, back_32, back_shift_5, back_shift_6, even_bits, page_bits, fields_i, fields_s, fields_b, fields_u, fields_j, fields_shift, fields_word, fields_r}

-- the bits of the other masks
opcode_mask : (w : ℕ) → bit_and w 127 ≡ w % 128
opcode_mask w = and_mask w 7

pub whole_mask : (w : ℕ) → w < 2 ^ 32 → bit_and w 4294967295 ≡ w
whole_mask w h = let m : bit_and w 4294967295 ≡ w % 2 ^ 32 = and_mask w 32 in omega arith

funct7_mask : (w : ℕ) → w < 2 ^ 32 → bit_and w 4261441663 ≡ w / 2 ^ 25 * 2 ^ 25 + w / 4096 % 8 * 4096 + w % 128
funct7_mask w below =
    let e : w ≡ w / 2 ^ 25 * 2 ^ 25 + w % 2 ^ 25 = omega arith in
    let block : bit_and w 4261441663 ≡ bit_and (w / 2 ^ 25) 127 * 2 ^ 25 + bit_and (w % 2 ^ 25) 28799 =
    ap (λ x. bit_and x 4261441663) e ∙ and_block 25 (w / 2 ^ 25) 127 (w % 2 ^ 25) 28799 (omega arith) (omega arith) in
    let high : bit_and (w / 2 ^ 25) 127 ≡ w / 2 ^ 25 % 2 ^ 7 = and_mask (w / 2 ^ 25) 7 in
    let low = long_mask (w % 2 ^ 25) in
    omega arith

funct6_mask : (w : ℕ) → w < 2 ^ 32 → bit_and w 4227887231 ≡ w / 2 ^ 26 * 2 ^ 26 + w / 4096 % 8 * 4096 + w % 128
funct6_mask w below =
    let e : w ≡ w / 2 ^ 26 * 2 ^ 26 + w % 2 ^ 26 = omega arith in
    let block : bit_and w 4227887231 ≡ bit_and (w / 2 ^ 26) 63 * 2 ^ 26 + bit_and (w % 2 ^ 26) 28799 =
    ap (λ x. bit_and x 4227887231) e ∙ and_block 26 (w / 2 ^ 26) 63 (w % 2 ^ 26) 28799 (omega arith) (omega arith) in
    let high : bit_and (w / 2 ^ 26) 63 ≡ w / 2 ^ 26 % 2 ^ 6 = and_mask (w / 2 ^ 26) 6 in
    let low = long_mask (w % 2 ^ 26) in
    omega arith

abbrev made : Op → ℕ → ℕ → ℕ → ℤ → Insn
made o a b c d = record { op = o; rd = a; rs1 = b; rs2 = c; imm = d }

-- an instruction whose fields are those of another
same_insn : (x : Insn) (a b c : ℕ) (d : ℤ) → a ≡ x.rd → b ≡ x.rs1 → c ≡ x.rs2 → d ≡ x.imm → made x.op a b c d ≡ x
same_insn x a b c d rd rs1 rs2 imm = let m : made x.op a b c d ≡ made x.op x.rd x.rs1 x.rs2 x.imm = rw (rd, rs1, rs2, imm) refl in m

register : (n : ℕ) → is_register n ≡ true → n < 32
register n h = grind (arith, nat_tests)

none : (n : ℕ) → (n == 0) ≡ true → 0 ≡ n
none n h = sym (eqb-true _ _ h)

zero_imm : (z : ℤ) → int_eq z (pos 0) ≡ true → pos 0 ≡ z
zero_imm z h = grind (arith, ints, nat_tests)

-- a word that a format makes has its row's value and reads as the instruction
pub record Packs (format : Format) (mask v w : ℕ) (insn : Insn) : Type 0 where
  pub bits : bit_and w mask ≡ v
  pub reads : reads_of format insn.op w ≡ insn
  pub below : w < 2 ^ 32

abbrev pub shape3 : ℕ → Type 0
shape3 v = v / 4096 % 8 * 4096 + v % 128 ≡ v

abbrev pub shape7 : ℕ → Type 0
shape7 v = v / 2 ^ 25 * 2 ^ 25 + v / 4096 % 8 * 4096 + v % 128 ≡ v

abbrev pub shape6 : ℕ → Type 0
shape6 v = v / 2 ^ 26 * 2 ^ 26 + v / 4096 % 8 * 4096 + v % 128 ≡ v

packs_i : (insn : Insn) (v w : ℕ) → shape3 v → in_range formats.I insn ≡ true → w ≡ pack_i v insn → Packs formats.I 28799 v w insn
packs_i insn v w shape h e =
    let a = and_split (is_register insn.rd) _ h in
    let b = and_split (is_register insn.rs1) _ a.1 in
    let c = and_split (insn.rs2 == 0) _ b.1 in
    let q = fields_i v insn.rd insn.rs1 (field (cast_unsigned w64 insn.imm) 0 12) w shape (register _ a.0) (register _ b.0) (omega arith) e in
    let imm : w / 2 ^ 20 % 2 ^ 12 * 1 + 0 ≡ cast_unsigned w64 insn.imm % 4096 = omega (arith, q.imm) in
    record { bits = long_mask w ∙ q.value; reads = same_insn insn _ _ _ _ q.rd q.rs1 (none _ c.0) (ap (signed 12) imm ∙ back_12 insn.imm c.1); below = omega arith }

packs_shift : (insn : Insn) (v w : ℕ) → v < 2 ^ 32 → shape6 v → in_range formats.IShift insn ≡ true → w ≡ pack_shift v insn → Packs formats.IShift 4227887231 v w insn
packs_shift insn v w low shape h e =
    let a = and_split (is_register insn.rd) _ h in
    let b = and_split (is_register insn.rs1) _ a.1 in
    let c = and_split (insn.rs2 == 0) _ b.1 in
    let q = fields_shift v insn.rd insn.rs1 (field (cast_unsigned w64 insn.imm) 0 6) w low shape (register _ a.0) (register _ b.0) (omega arith) e in
    let imm : w / 2 ^ 20 % 2 ^ 6 * 1 + 0 ≡ cast_unsigned w64 insn.imm % 64 = omega (arith, q.imm) in
    let below : w < 2 ^ 32 = omega arith in
    record { bits = funct6_mask w below ∙ q.value; reads = same_insn insn _ _ _ _ q.rd q.rs1 (none _ c.0) (ap pos imm ∙ back_shift_6 insn.imm c.1); below = below }

packs_shift_word : (insn : Insn) (v w : ℕ) → v < 2 ^ 32 → shape7 v → in_range formats.IShiftWord insn ≡ true → w ≡ pack_shift_w v insn → Packs formats.IShiftWord 4261441663 v w insn
packs_shift_word insn v w low shape h e =
    let a = and_split (is_register insn.rd) _ h in
    let b = and_split (is_register insn.rs1) _ a.1 in
    let c = and_split (insn.rs2 == 0) _ b.1 in
    let q = fields_word v insn.rd insn.rs1 (field (cast_unsigned w64 insn.imm) 0 5) w low shape (register _ a.0) (register _ b.0) (omega arith) e in
    let imm : w / 2 ^ 20 % 2 ^ 5 * 1 + 0 ≡ cast_unsigned w64 insn.imm % 32 = omega (arith, q.imm) in
    let below : w < 2 ^ 32 = omega arith in
    record { bits = funct7_mask w below ∙ q.value; reads = same_insn insn _ _ _ _ q.rd q.rs1 (none _ c.0) (ap pos imm ∙ back_shift_5 insn.imm c.1); below = below }

packs_r : (insn : Insn) (v w : ℕ) → v < 2 ^ 32 → shape7 v → in_range formats.R insn ≡ true → w ≡ pack_r v insn → Packs formats.R 4261441663 v w insn
packs_r insn v w low shape h e =
    let a = and_split (is_register insn.rd) _ h in
    let b = and_split (is_register insn.rs1) _ a.1 in
    let c = and_split (is_register insn.rs2) _ b.1 in
    let q = fields_r v insn.rd insn.rs1 insn.rs2 w low shape (register _ a.0) (register _ b.0) (register _ c.0) e in
    let below : w < 2 ^ 32 = omega arith in
    record { bits = funct7_mask w below ∙ q.value; reads = same_insn insn _ _ _ _ q.rd q.rs1 q.rs2 (zero_imm insn.imm c.1); below = below }

packs_s : (insn : Insn) (v w : ℕ) → shape3 v → in_range formats.S insn ≡ true → w ≡ pack_s v insn → Packs formats.S 28799 v w insn
packs_s insn v w shape h e =
    let a = and_split (insn.rd == 0) _ h in
    let b = and_split (is_register insn.rs1) _ a.1 in
    let c = and_split (is_register insn.rs2) _ b.1 in
    let u = cast_unsigned w64 insn.imm in
    let q = fields_s v insn.rs1 insn.rs2 (field u 5 7) (field u 0 5) w shape (register _ b.0) (register _ c.0) (omega arith) (omega arith) e in
    let imm : w / 2 ^ 25 % 2 ^ 7 * 2 ^ 5 + (w / 2 ^ 7 % 2 ^ 5 * 1 + 0) ≡ u % 4096 = omega (arith, q.high, q.low) in
    record { bits = long_mask w ∙ q.value; reads = same_insn insn _ _ _ _ (none _ a.0) q.rs1 q.rs2 (ap (signed 12) imm ∙ back_12 insn.imm c.1); below = omega arith }

packs_b : (insn : Insn) (v w : ℕ) → shape3 v → in_range formats.B insn ≡ true → w ≡ pack_b v insn → Packs formats.B 28799 v w insn
packs_b insn v w shape h e =
    let a = and_split (insn.rd == 0) _ h in
    let b = and_split (is_register insn.rs1) _ a.1 in
    let c = and_split (is_register insn.rs2) _ b.1 in
    let d = and_split (is_signed 13 insn.imm) _ c.1 in
    let u = cast_unsigned w64 insn.imm in
    let even = even_bits insn.imm d.1 in
    let q = fields_b v insn.rs1 insn.rs2 (field u 12 1) (field u 11 1) (field u 5 6) (field u 1 4) w shape (register _ b.0) (register _ c.0) (omega arith) (omega arith) (omega arith) (omega arith) e in
    let imm : w / 2 ^ 31 % 2 ^ 1 * 2 ^ 12 + (w / 2 ^ 7 % 2 ^ 1 * 2 ^ 11 + (w / 2 ^ 25 % 2 ^ 6 * 2 ^ 5 + (w / 2 ^ 8 % 2 ^ 4 * 2 ^ 1 + 0))) ≡ u % 8192 = omega (arith, q.top, q.next, q.high, q.low) in
    record { bits = long_mask w ∙ q.value; reads = same_insn insn _ _ _ _ (none _ a.0) q.rs1 q.rs2 (ap (signed 13) imm ∙ back_13 insn.imm d.0); below = omega arith }

packs_u : (insn : Insn) (v w : ℕ) → v < 128 → in_range formats.U insn ≡ true → w ≡ pack_u v insn → Packs formats.U 127 v w insn
packs_u insn v w shape h e =
    let a = and_split (is_register insn.rd) _ h in
    let b = and_split (insn.rs1 == 0) _ a.1 in
    let c = and_split (insn.rs2 == 0) _ b.1 in
    let d = and_split (is_signed 32 insn.imm) _ c.1 in
    let u = cast_unsigned w64 insn.imm in
    let page = page_bits insn.imm d.1 in
    let q = fields_u v insn.rd (field u 12 20) w shape (register _ a.0) (omega arith) e in
    let imm : w / 2 ^ 12 % 2 ^ 20 * 2 ^ 12 + 0 ≡ u % 4294967296 = omega (arith, q.imm) in
    record { bits = opcode_mask w ∙ q.value; reads = same_insn insn _ _ _ _ q.rd (none _ b.0) (none _ c.0) (ap (signed 32) imm ∙ back_32 insn.imm d.0); below = omega arith }

packs_j : (insn : Insn) (v w : ℕ) → v < 128 → in_range formats.J insn ≡ true → w ≡ pack_j v insn → Packs formats.J 127 v w insn
packs_j insn v w shape h e =
    let a = and_split (is_register insn.rd) _ h in
    let b = and_split (insn.rs1 == 0) _ a.1 in
    let c = and_split (insn.rs2 == 0) _ b.1 in
    let d = and_split (is_signed 21 insn.imm) _ c.1 in
    let u = cast_unsigned w64 insn.imm in
    let even = even_bits insn.imm d.1 in
    let q = fields_j v insn.rd (field u 20 1) (field u 12 8) (field u 11 1) (field u 1 10) w shape (register _ a.0) (omega arith) (omega arith) (omega arith) (omega arith) e in
    let imm : w / 2 ^ 31 % 2 ^ 1 * 2 ^ 20 + (w / 2 ^ 12 % 2 ^ 8 * 2 ^ 12 + (w / 2 ^ 20 % 2 ^ 1 * 2 ^ 11 + (w / 2 ^ 21 % 2 ^ 10 * 2 ^ 1 + 0))) ≡ u % 2097152 = omega (arith, q.top, q.middle, q.next, q.low) in
    record { bits = opcode_mask w ∙ q.value; reads = same_insn insn _ _ _ _ q.rd (none _ b.0) (none _ c.0) (ap (signed 21) imm ∙ back_21 insn.imm d.0); below = omega arith }

nothing : (insn : Insn) → in_range formats.Whole insn ≡ true → made insn.op 0 0 0 (pos 0) ≡ insn
nothing insn h =
    let a = and_split (insn.rd == 0) _ h in
    let b = and_split (insn.rs1 == 0) _ a.1 in
    let c = and_split (insn.rs2 == 0) _ b.1 in
    same_insn insn 0 0 0 (pos 0) (none _ a.0) (none _ b.0) (none _ c.0) (zero_imm insn.imm c.1)

-- the mask and the value that a row of the format has
abbrev pub is_shaped : Format → ℕ → ℕ → Bool
is_shaped formats.R mask v = mask == 4261441663 && (nat_lt v (2 ^ 32) && v / 2 ^ 25 * 2 ^ 25 + v / 4096 % 8 * 4096 + v % 128 == v)
is_shaped formats.I mask v = mask == 28799 && v / 4096 % 8 * 4096 + v % 128 == v
is_shaped formats.IOffset mask v = mask == 28799 && v / 4096 % 8 * 4096 + v % 128 == v
is_shaped formats.IShift mask v = mask == 4227887231 && (nat_lt v (2 ^ 32) && v / 2 ^ 26 * 2 ^ 26 + v / 4096 % 8 * 4096 + v % 128 == v)
is_shaped formats.IShiftWord mask v = mask == 4261441663 && (nat_lt v (2 ^ 32) && v / 2 ^ 25 * 2 ^ 25 + v / 4096 % 8 * 4096 + v % 128 == v)
is_shaped formats.S mask v = mask == 28799 && v / 4096 % 8 * 4096 + v % 128 == v
is_shaped formats.B mask v = mask == 28799 && v / 4096 % 8 * 4096 + v % 128 == v
is_shaped formats.U mask v = mask == 127 && nat_lt v 128
is_shaped formats.J mask v = mask == 127 && nat_lt v 128
is_shaped formats.Fence mask v = mask == 28799 && v == 15
is_shaped formats.Whole mask v = mask == 4294967295 && nat_lt v (2 ^ 32)
is_shaped format mask v = false

-- the same under the row's own mask
masked : (format : Format) (m mask v w : ℕ) (insn : Insn) → (mask == m) ≡ true → Packs format m v w insn → Packs format mask v w insn
masked format m mask v w insn e p = let same : mask ≡ m = eqb-true _ _ e in record { bits = ap (bit_and w) same ∙ p.bits; reads = p.reads; below = p.below }

below_of : (a b : ℕ) → nat_lt a b ≡ true → a < b
below_of a b h = grind (arith, nat_tests)

pub packs : (format : Format) (insn : Insn) (mask v w : ℕ) → is_shaped format mask v ≡ true → in_range format insn ≡ true → w ≡ packed format v insn → Packs format mask v w insn
packs formats.R insn mask v w s h e =
    let a = and_split (mask == 4261441663) _ s in
    let b = and_split (nat_lt v (2 ^ 32)) _ a.1 in
    masked formats.R _ mask v w insn a.0 (packs_r insn v w (below_of _ _ b.0) (eqb-true _ _ b.1) h e)
packs formats.I insn mask v w s h e =
    let a = and_split (mask == 28799) _ s in masked formats.I _ mask v w insn a.0 (packs_i insn v w (eqb-true _ _ a.1) h e)
packs formats.IOffset insn mask v w s h e =
    let a = and_split (mask == 28799) _ s in
    let p = packs_i insn v w (eqb-true _ _ a.1) h e in
    masked formats.IOffset _ mask v w insn a.0 (record { bits = p.bits; reads = p.reads; below = p.below })
packs formats.IShift insn mask v w s h e =
    let a = and_split (mask == 4227887231) _ s in
    let b = and_split (nat_lt v (2 ^ 32)) _ a.1 in
    masked formats.IShift _ mask v w insn a.0 (packs_shift insn v w (below_of _ _ b.0) (eqb-true _ _ b.1) h e)
packs formats.IShiftWord insn mask v w s h e =
    let a = and_split (mask == 4261441663) _ s in
    let b = and_split (nat_lt v (2 ^ 32)) _ a.1 in
    masked formats.IShiftWord _ mask v w insn a.0 (packs_shift_word insn v w (below_of _ _ b.0) (eqb-true _ _ b.1) h e)
packs formats.S insn mask v w s h e =
    let a = and_split (mask == 28799) _ s in masked formats.S _ mask v w insn a.0 (packs_s insn v w (eqb-true _ _ a.1) h e)
packs formats.B insn mask v w s h e =
    let a = and_split (mask == 28799) _ s in masked formats.B _ mask v w insn a.0 (packs_b insn v w (eqb-true _ _ a.1) h e)
packs formats.U insn mask v w s h e =
    let a = and_split (mask == 127) _ s in masked formats.U _ mask v w insn a.0 (packs_u insn v w (below_of _ _ a.1) h e)
packs formats.J insn mask v w s h e =
    let a = and_split (mask == 127) _ s in masked formats.J _ mask v w insn a.0 (packs_j insn v w (below_of _ _ a.1) h e)
packs formats.Fence insn mask v w s h e =
    let a = and_split (mask == 28799) _ s in
    let v_is : v ≡ 15 = eqb-true _ _ a.1 in
    masked formats.Fence _ mask v w insn a.0 (record { bits = ap (λ x. bit_and x 28799) e ∙ sym v_is; reads = nothing insn h; below = omega arith })
packs formats.Whole insn mask v w s h e =
    let a = and_split (mask == 4294967295) _ s in
    let low : w < 2 ^ 32 = omega (arith, below_of _ _ a.1, e) in
    masked formats.Whole _ mask v w insn a.0 (record { bits = whole_mask w low ∙ e; reads = nothing insn h; below = low })
packs format insn mask v w s h e = cc
