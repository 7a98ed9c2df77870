-- Rules keep spans proper.
use Rattle.std.proofs.Common.{◌≡◌, ℕ, ◌≤◌, ◌<◌, ◌+◌, ◌-◌, ◌%◌, ◌*◌, ◌^◌, ℤ, pos, arith, Bool, true, false, refl, sym, ◌∙◌, ap, subst, Option, Some, None, List}
use Rattle.std.specs.Prelude.{◌==◌, ◌&&◌, if◌then◌else◌, nat_lt, int_lt, min, unsigned_abs}
use Rattle.std.proofs.lemmas.Bool.Decides.{nat_tests}
use Rattle.std.proofs.Math.Nat.{add-mul-mod_self_left, mul_comm}
use Rattle.rv_decode.specs.declared.insn.Op.{Op}
use Rattle.rv_decode.specs.declared.insn.Op.TheVariants as ops
use Rattle.rv_step.specs.Values.{bits_of, extended}
use Rattle.prov_types.specs.declared.kinds.Span.{Span}
use Rattle.prov_types.specs.declared.kinds.Place.{Place}
use Rattle.prov_types.specs.declared.kinds.Kind.{Kind}
use Rattle.prov_types.specs.declared.kinds.Kind.TheVariants.{Any, Num, Ptr}
use Rattle.prov_types.specs.Spans.{IsProper, InSpan, step_of, spanning, one, whole, sum, difference, raised, lowered, below, gcd, made}
use Rattle.prov_types.specs.Kinds.{IsProperKind, length_of}
use Rattle.prov_types.specs.Transfer.{number, pointer, added, subtracted, moved, shifted_left, shifted_right, masked, anded, rest_of, flag, ordered_unsigned, ordered, moved_span, is_below_31_bits, is_span, moved_word, any_of, image_kind, upper_kind, transfer_as, transfer}
use Rattle.prov_types.specs.Laws.{TransferIsProper}
use Rattle.prov_types.proofs.SpanLemmas.{is_made, sum_in, difference_in, raised_in, divided}
use Rattle.prov_types.proofs.BoundLemmas.{one_sided, zero_mod}

-- a span of which the low end is a number
from_low : (lo hi step : ℕ) → InSpan (spanning lo hi step) lo → IsProper (spanning lo hi step)
from_low lo hi step p = by (step == 0) refl p
  where
    by : (c : Bool) → (step == 0) ≡ c → InSpan (record { lo = lo; hi = hi; by = if c then 1 else step }) lo → IsProper (record { lo = lo; hi = hi; by = if c then 1 else step })
    by true e p = let a = p.to_hi in record { steps = omega arith; order = omega (arith, a); whole = omega arith }
    by false e p =
        let a = p.to_hi in
        let large : 0 < step = grind (arith, nat_tests) in
        let gap : hi - lo ≡ 0 + step * p.down = omega (arith, a, mul_comm step p.down) in
        record { steps = large; order = omega (arith, a); whole = ap (λ n. n % step) gap ∙ add-mul-mod_self_left 0 step p.down ∙ zero_mod step large }

pub low_in : (s : Span) → IsProper s → InSpan s s.lo
low_in s p = let z = p.order in one_sided s s.lo 0 p (omega arith) z

pub high_in : (s : Span) → IsProper s → InSpan s s.hi
high_in s p = let k = low_in s p in let a = k.to_hi in record { up = k.down; down = 0; from_lo = sym a; to_hi = omega arith }

by_ones : (lo hi : ℕ) → lo ≤ hi → IsProper (spanning lo hi 1)
by_ones lo hi h = record { steps = omega arith; order = h; whole = omega arith }

pub one_proper : (v : ℕ) → IsProper (one v)
one_proper v = record { steps = omega arith; order = omega arith; whole = omega arith }

whole_proper : IsProper whole
whole_proper = record { steps = omega arith; order = omega arith; whole = refl }

-- what was made, where its low end is a number of it
made_proper : (lo hi step : ℕ) (u : Span) → made lo hi step ≡ Some u → InSpan u lo → IsProper u
made_proper lo hi step u e k = let m = is_made lo hi step u e in subst IsProper (sym m.is) (from_low lo hi step (subst (λ x. InSpan x lo) m.is k))

sum_proper : (s t u : Span) → IsProper s → IsProper t → sum s t ≡ Some u → IsProper u
unfolding sum
sum_proper s t u p q e = made_proper (s.lo + t.lo) (s.hi + t.hi) (gcd (step_of s) (step_of t)) u e (sum_in s t u s.lo t.lo (low_in s p) (low_in t q) e).0

difference_proper : (s t u : Span) → IsProper s → IsProper t → difference s t ≡ Some u → IsProper u
unfolding difference
difference_proper s t u p q e = by (nat_lt s.lo t.hi) e (difference_in s t u s.lo t.hi (low_in s p) (high_in t q) e).within
  where
    by : (c : Bool) → (if c then None else made (s.lo - t.hi) (s.hi - t.lo) (gcd (step_of s) (step_of t))) ≡ Some u → InSpan u (s.lo - t.hi) → IsProper u
    by true e k = absurd cc
    by false e k = made_proper (s.lo - t.hi) (s.hi - t.lo) (gcd (step_of s) (step_of t)) u e k

raised_proper : (s u : Span) (k : ℕ) → IsProper s → raised s k ≡ Some u → IsProper u
unfolding raised
raised_proper s u k p e = made_proper (s.lo * 2 ^ k) (s.hi * 2 ^ k) (step_of s * 2 ^ k) u e (raised_in s u s.lo k (low_in s p) e).0

lowered_proper : (s : Span) (k : ℕ) → IsProper s → IsProper (lowered s k)
unfolding lowered
lowered_proper s k p = by_ones _ _ (divided s.lo s.hi k p.order)

below_proper : (s : Span) (m : ℕ) → IsProper (below s m)
unfolding below
below_proper s m = by_ones 0 (min s.hi m) (omega arith)

-- ---- the rules

number_proper : (o : Option Span) → ((u : Span) → o ≡ Some u → IsProper u) → IsProperKind (number o)
number_proper None f = whole_proper
number_proper (Some u) f = f u refl

pointer_proper : (lens : List ℕ) (r : ℕ) (o : Option Span) → ((u : Span) → o ≡ Some u → IsProper u) → IsProperKind (pointer lens r o)
pointer_proper lens r None f = tt
pointer_proper lens r (Some u) f = by (nat_lt (length_of lens r) u.hi)
  where
    by : (c : Bool) → IsProperKind (if c then Any else Ptr r u)
    by true = tt
    by false = f u refl

pub either : (c : Bool) (a b : Kind) → IsProperKind a → IsProperKind b → IsProperKind (if c then a else b)
either true a b p q = p
either false a b p q = q

added_proper : (lens : List ℕ) (a b : Kind) → IsProperKind a → IsProperKind b → IsProperKind (added lens a b)
unfolding added
added_proper lens (Num s) (Num t) p q = number_proper (sum s t) (λ u e. sum_proper s t u p q e)
added_proper lens (Ptr r s) (Num t) p q = pointer_proper lens r (sum s t) (λ u e. sum_proper s t u p q e)
added_proper lens (Num s) (Ptr r t) p q = pointer_proper lens r (sum s t) (λ u e. sum_proper s t u p q e)
added_proper lens _ _ p q = tt

subtracted_proper : (lens : List ℕ) (a b : Kind) → IsProperKind a → IsProperKind b → IsProperKind (subtracted lens a b)
unfolding subtracted
subtracted_proper lens (Num s) (Num t) p q = number_proper (difference s t) (λ u e. difference_proper s t u p q e)
subtracted_proper lens (Ptr r s) (Num t) p q = pointer_proper lens r (difference s t) (λ u e. difference_proper s t u p q e)
subtracted_proper lens (Ptr r s) (Ptr o t) p q = either (r == o) (Num whole) Any whole_proper tt
subtracted_proper lens _ _ p q = tt

moved_proper : (lens : List ℕ) (a : Kind) (imm : ℤ) → IsProperKind a → IsProperKind (moved lens a imm)
unfolding moved
moved_proper lens a imm p = either (int_lt imm (pos 0)) _ _ (subtracted_proper lens a (Num (one (unsigned_abs imm))) p (one_proper (unsigned_abs imm))) (added_proper lens a (Num (one (unsigned_abs imm))) p (one_proper (unsigned_abs imm)))

shifted_left_proper : (a : Kind) (k : ℕ) → IsProperKind a → IsProperKind (shifted_left a k)
unfolding shifted_left
shifted_left_proper (Num s) k p = number_proper (raised s k) (λ u e. raised_proper s u k p e)
shifted_left_proper _ k p = tt

shifted_right_proper : (a : Kind) (k : ℕ) → IsProperKind a → IsProperKind (shifted_right a k)
unfolding shifted_right
shifted_right_proper (Num s) k p = lowered_proper s k p
shifted_right_proper _ k p = tt

masked_proper : (a : Kind) (m : ℕ) → IsProperKind (masked a m)
unfolding masked
masked_proper (Num s) m = either (nat_lt m (2 ^ 63)) (Num (below s m)) (Num whole) (below_proper s m) whole_proper
masked_proper _ m = tt

anded_proper : (a b : Kind) → IsProperKind (anded a b)
unfolding anded
anded_proper (Num s) (Num t) = either (t.lo == t.hi && nat_lt t.lo (2 ^ 63)) (Num (below s t.lo)) _ (below_proper s t.lo) (either (s.lo == s.hi && nat_lt s.lo (2 ^ 63)) (Num (below t s.lo)) (Num whole) (below_proper t s.lo) whole_proper)
anded_proper _ _ = tt

rest_proper : (a b : Kind) → IsProperKind (rest_of a b)
unfolding rest_of
rest_proper (Num s) (Num t) = either (t.lo == t.hi && nat_lt 0 t.lo) (Num (below s (t.lo - 1))) (Num whole) (below_proper s (t.lo - 1)) whole_proper
rest_proper _ _ = tt

flag_proper : IsProperKind flag
flag_proper = by_ones 0 1 (omega arith)

ordered_unsigned_proper : (a b : Kind) → IsProperKind (ordered_unsigned a b)
unfolding ordered_unsigned
ordered_unsigned_proper (Num s) (Num t) = flag_proper
ordered_unsigned_proper (Ptr r s) (Ptr q t) = either (r == q) flag Any flag_proper tt
ordered_unsigned_proper _ _ = tt

ordered_proper : (a b : Kind) → IsProperKind (ordered a b)
unfolding ordered
ordered_proper (Num s) (Num t) = flag_proper
ordered_proper _ _ = tt

any_proper : (a b : Kind) → IsProperKind (any_of a b)
unfolding any_of
any_proper (Num s) (Num t) = whole_proper
any_proper _ _ = tt

moved_span_proper : (s : Span) (imm : ℤ) (u : Span) → IsProper s → moved_span s imm ≡ Some u → IsProper u
unfolding moved_span
moved_span_proper s imm u p = by (int_lt imm (pos 0))
  where
    by : (c : Bool) → (if c then difference s (one (unsigned_abs imm)) else sum s (one (unsigned_abs imm))) ≡ Some u → IsProper u
    by true e = difference_proper s (one (unsigned_abs imm)) u p (one_proper (unsigned_abs imm)) e
    by false e = sum_proper s (one (unsigned_abs imm)) u p (one_proper (unsigned_abs imm)) e

pub word_proper : (a : Kind) (imm : ℤ) → IsProperKind a → IsProperKind (moved_word a imm)
unfolding moved_word
word_proper (Num s) imm p = either (is_below_31_bits (moved_span s imm)) (number (moved_span s imm)) _ (number_proper (moved_span s imm) (λ u e. moved_span_proper s imm u p e))
    (either (s.lo == s.hi && (is_span (moved_span s imm) && nat_lt (extended (s.lo + bits_of imm)) (2 ^ 31))) (Num (one (extended (s.lo + bits_of imm)))) (Num whole) (one_proper (extended (s.lo + bits_of imm))) whole_proper)
word_proper _ imm p = tt

pub image_proper : (lens : List ℕ) (o : ℕ) → IsProperKind (image_kind lens o)
image_proper lens o = either (nat_lt (length_of lens 0) o) Any (Ptr 0 (one o)) tt (one_proper o)

pub upper_proper : (lens : List ℕ) (imm : ℤ) (target : Option ℕ) → IsProperKind (upper_kind lens imm target)
upper_proper lens imm None = one_proper (bits_of imm)
upper_proper lens imm (Some target) = image_proper lens target

-- one line a name
by_name : (op : Op) (imm : ℤ) (place : Place) (a b : Kind) (lens : List ℕ) → IsProperKind a → IsProperKind b → IsProperKind (transfer_as op imm place a b lens)
by_name ops.Lui imm place a b lens p q = upper_proper lens imm place.target
by_name ops.Auipc imm place a b lens p q = image_proper lens _
by_name ops.Jal imm place a b lens p q = image_proper lens _
by_name ops.Jalr imm place a b lens p q = image_proper lens _
by_name ops.Add imm place a b lens p q = added_proper lens a b p q
by_name ops.Addi imm place a b lens p q = moved_proper lens a imm p
by_name ops.Sub imm place a b lens p q = subtracted_proper lens a b p q
by_name ops.Slli imm place a b lens p q = shifted_left_proper a (bits_of imm % 64) p
by_name ops.Srli imm place a b lens p q = shifted_right_proper a (bits_of imm % 64) p
by_name ops.Andi imm place a b lens p q = masked_proper a (bits_of imm)
by_name ops.And imm place a b lens p q = anded_proper a b
by_name ops.Remu imm place a b lens p q = rest_proper a b
by_name ops.Addiw imm place a b lens p q = word_proper a imm p
by_name ops.Sltu imm place a b lens p q = ordered_unsigned_proper a b
by_name ops.Slt imm place a b lens p q = ordered_proper a b
by_name ops.Slti imm place a b lens p q = ordered_proper a (Num whole)
by_name ops.Sltiu imm place a b lens p q = ordered_proper a (Num whole)
by_name ops.Xori imm place a b lens p q = any_proper a (Num whole)
by_name ops.Ori imm place a b lens p q = any_proper a (Num whole)
by_name ops.Srai imm place a b lens p q = any_proper a (Num whole)
by_name ops.Slliw imm place a b lens p q = any_proper a (Num whole)
by_name ops.Srliw imm place a b lens p q = any_proper a (Num whole)
by_name ops.Sraiw imm place a b lens p q = any_proper a (Num whole)
by_name ops.Sll imm place a b lens p q = any_proper a b
by_name ops.Xor imm place a b lens p q = any_proper a b
by_name ops.Srl imm place a b lens p q = any_proper a b
by_name ops.Sra imm place a b lens p q = any_proper a b
by_name ops.Or imm place a b lens p q = any_proper a b
by_name ops.Addw imm place a b lens p q = any_proper a b
by_name ops.Subw imm place a b lens p q = any_proper a b
by_name ops.Sllw imm place a b lens p q = any_proper a b
by_name ops.Srlw imm place a b lens p q = any_proper a b
by_name ops.Sraw imm place a b lens p q = any_proper a b
by_name ops.Mul imm place a b lens p q = any_proper a b
by_name ops.Mulh imm place a b lens p q = any_proper a b
by_name ops.Mulhsu imm place a b lens p q = any_proper a b
by_name ops.Mulhu imm place a b lens p q = any_proper a b
by_name ops.Mulw imm place a b lens p q = any_proper a b
by_name ops.Div imm place a b lens p q = any_proper a b
by_name ops.Divu imm place a b lens p q = any_proper a b
by_name ops.Rem imm place a b lens p q = any_proper a b
by_name ops.Divw imm place a b lens p q = any_proper a b
by_name ops.Divuw imm place a b lens p q = any_proper a b
by_name ops.Remw imm place a b lens p q = any_proper a b
by_name ops.Remuw imm place a b lens p q = any_proper a b
by_name _ imm place a b lens p q = tt

pub transfer_proper : TransferIsProper
unfolding transfer
transfer_proper insn place a b lens p q = by_name insn.op insn.imm place a b lens p q
