-- The text of an instruction in parts.
use Rattle.std.proofs.Common.{◌≡◌, ℕ, ℤ, pos, negsuc, ◌∷◌, List, ◌++◌, refl, sym, ap, ◌∙◌, append_assoc, append-nil, arith}
use Rattle.std.proofs.lemmas.Int.{ints}
use Rattle.std.specs.Prelude.{◌<ℤ◌, ◌≤ℤ◌, unsigned_abs}
use Rattle.std.specs.Fmt.{decimal, signed_decimal}
use Rattle.rv_decode.specs.Names.{format_of}
use Rattle.rv_decode.specs.Rows.{rows}
use Rattle.rv_decode.specs.Texts.{name_of, text_in, text_of}
use Rattle.rv_decode.specs.declared.insn.Insn.{Insn}
use Rattle.rv_decode.specs.declared.insn.Op.{Op}
use Rattle.rv_decode.specs.declared.insn.Op.TheVariants as ops
use Rattle.image_dump.specs.Operands.{operands_of, operands_text}

pub negative : (n : ℤ) → n <ℤ pos 0 → signed_decimal n ≡ 45 ∷ decimal (unsigned_abs n)
negative (pos n) h = absurd (omega (arith, ints, h))
negative (negsuc n) h = refl

pub not_negative : (n : ℤ) → pos 0 ≤ℤ n → signed_decimal n ≡ decimal (unsigned_abs n)
not_negative (pos n) h = refl
not_negative (negsuc n) h = absurd (omega (arith, ints, h))

parts_in : (op : Op) (name : List ℕ) (i : Insn) → text_in (format_of op) name i ≡ name ++ operands_text (operands_of op) i
unfolding text_in format_of rows
parts_in ops.Fence name i = sym (append-nil name)
parts_in ops.Ecall name i = sym (append-nil name)
parts_in ops.Ebreak name i = sym (append-nil name)
parts_in op name i = refl

pub text_parts : (i : Insn) → text_of i ≡ name_of i.op ++ operands_text (operands_of i.op) i
unfolding text_of
text_parts i = parts_in i.op (name_of i.op) i

pub instruction_on : (old named new : List ℕ) (i : Insn) → named ≡ old ++ name_of i.op → new ≡ named ++ operands_text (operands_of i.op) i → new ≡ old ++ text_of i
instruction_on old named new i e h =
    let rest = operands_text (operands_of i.op) i in
    h ∙ ap (λ (t : List ℕ). t ++ rest) e ∙ append_assoc old (name_of i.op) rest ∙ ap (λ (t : List ℕ). old ++ t) (sym (text_parts i))
