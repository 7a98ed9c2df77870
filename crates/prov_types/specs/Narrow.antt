-- What a conditional branch says of the two kinds that it compares, on the edge where it is taken and on the one behind it.
use Rattle.std.specs.Prelude.{ℕ, ◌+◌, ◌-◌, ◌*◌, ◌/◌, ◌%◌, ◌^◌, ◌==◌, ◌&&◌, not, nat_lt, Bool, true, false, Option, Some, None, if◌then◌else◌}
use Rattle.rv_decode.specs.declared.insn.Insn.{Insn}
use Rattle.rv_decode.specs.declared.insn.Op.{Op}
use Rattle.rv_decode.specs.declared.insn.Op.TheVariants as ops
use Rattle.prov_types.specs.declared.kinds.Span.{Span}
use Rattle.prov_types.specs.declared.kinds.Kind.{Kind}
use Rattle.prov_types.specs.declared.kinds.Kind.TheVariants.{Num, Ptr, Opt}
use Rattle.prov_types.specs.declared.edges.Said.{Said}
use Rattle.prov_types.specs.declared.edges.Said.TheVariants.{Below, NotBelow, Equal, Unlike, Nothing}
use Rattle.prov_types.specs.Spans.{spanning, one}
use Rattle.prov_types.specs.Fits.{is_null}

-- the numbers of a span up to a bound, and from a bound on; none where no number is left
unfoldable pub capped : Span → ℕ → Option Span
capped s top =
    if nat_lt top s.lo then None
    else (if nat_lt top s.hi then Some (spanning s.lo (s.lo + (top - s.lo) / s.by * s.by) (if nat_lt top (s.lo + s.by) then 0 else s.by)) else Some s)

unfoldable pub floored : Span → ℕ → Option Span
floored s bottom =
    if nat_lt s.hi bottom then None
    else (if nat_lt s.lo bottom then Some (spanning (s.hi - (s.hi - bottom) / s.by * s.by) s.hi (if nat_lt s.hi (bottom + s.by) then 0 else s.by)) else Some s)

-- a span without a value, where that is one of its ends
unfoldable pub without_end : Span → ℕ → Option Span
without_end s v =
    if s.lo == s.hi then (if s.lo == v then None else Some s)
    else (if s.lo == v then Some (spanning (s.lo + s.by) s.hi (if s.lo + s.by == s.hi then 0 else s.by))
    else (if s.hi == v then Some (spanning s.lo (s.hi - s.by) (if s.lo + s.by == s.hi then 0 else s.by)) else Some s))

-- a value of a span alone
unfoldable pub only : Span → ℕ → Option Span
only s v = if not (nat_lt v s.lo) && (not (nat_lt s.hi v) && (v - s.lo) % s.by == 0) then Some (one v) else None

-- Of a span s beside a span t: its numbers that are below some of t's, that are above some, that are equal to one where t has
-- one value, and that are unlike it.
unfoldable pub below_some : Span → Span → Option Span
below_some s t = if t.hi == 0 then None else capped s (t.hi - 1)

unfoldable pub above_some : Span → Span → Option Span
above_some s t = floored s (t.lo + 1)

unfoldable pub equal_some : Span → Span → Option Span
equal_some s t = if t.lo == t.hi then only s t.lo else Some s

unfoldable pub unlike_some : Span → Span → Option Span
unlike_some s t = if t.lo == t.hi then without_end s t.lo else Some s

-- whether signed order is the order of the numbers
abbrev pub both_low : Span → Span → Bool
both_low s t = nat_lt s.hi (2 ^ 63) && nat_lt t.hi (2 ^ 63)

abbrev pub order_said : Bool → Said
order_said less = if less then Below else NotBelow

abbrev pub equality_said : Bool → Said
equality_said equal = if equal then Equal else Unlike

-- BEQ that isn't taken counts as BNE, BLTU as BGEU, BLT as BGE, and the other way round.
unfoldable pub said_by : Op → Bool → Span → Span → Said
said_by ops.Beq went s t = equality_said went
said_by ops.Bne went s t = equality_said (not went)
said_by ops.Bltu went s t = order_said went
said_by ops.Bgeu went s t = order_said (not went)
said_by ops.Blt went s t = if both_low s t then order_said went else Nothing
said_by ops.Bge went s t = if both_low s t then order_said (not went) else Nothing
said_by _ went s t = Nothing

abbrev pub pair_of : (Span → Kind) → (Span → Kind) → Option Span → Option Span → Option (Kind × Kind)
pair_of f h (Some s) (Some t) = Some (f s, h t)
pair_of f h _ _ = None

-- each is narrowed against the other as it was before
unfoldable pub narrow_numbers : Said → Span → Span → Option (Kind × Kind)
narrow_numbers Below s t = pair_of Num Num (below_some s t) (above_some t s)
narrow_numbers NotBelow s t = pair_of Num Num (floored s t.lo) (capped t s.hi)
narrow_numbers Equal s t = pair_of Num Num (equal_some s t) (equal_some t s)
narrow_numbers Unlike s t = pair_of Num Num (unlike_some s t) (unlike_some t s)
narrow_numbers Nothing s t = Some (Num s, Num t)

-- two pointers: only that they are unlike narrows them, and only where they are into one region
unfoldable pub narrow_pointers : Said → (r q : ℕ) → Span → Span → Option (Kind × Kind)
narrow_pointers Unlike r q s t = if r == q then pair_of (Ptr r) (Ptr q) (unlike_some s t) (unlike_some t s) else Some (Ptr r s, Ptr q t)
narrow_pointers _ r q s t = Some (Ptr r s, Ptr q t)

abbrev pub is_equality : Op → Bool
is_equality ops.Beq = true
is_equality ops.Bne = true
is_equality _ = false

-- whether the compared values are equal, on an edge of an equality
abbrev pub says_equal : Op → Bool → Bool
says_equal ops.Beq went = went
says_equal _ went = not went

-- what may be 0 against 0
unfoldable pub against_null : Op → Bool → ℕ → Span → Kind
against_null op went r s = if says_equal op went then Num (one 0) else Ptr r s

-- the kinds on an edge of a branch between two registers, None where the edge isn't possible
unfoldable pub narrow_between : Op → Bool → Kind → Kind → Option (Kind × Kind)
narrow_between op went (Num s) (Num t) = narrow_numbers (said_by op went s t) s t
narrow_between op went (Ptr r s) (Ptr q t) = narrow_pointers (said_by op went s t) r q s t
narrow_between op went (Opt r s) (Num t) = Some (if is_equality op && is_null t then against_null op went r s else Opt r s, Num t)
narrow_between op went (Num s) (Opt r t) = Some (Num s, if is_equality op && is_null s then against_null op went r t else Opt r t)
narrow_between op went a b = Some (a, b)

-- Where both operands are one register, nothing is narrowed, and both edges are possible.
unfoldable pub narrow : Insn → Bool → Kind → Kind → Option (Kind × Kind)
narrow insn went a b = if insn.rs1 == insn.rs2 then Some (a, b) else narrow_between insn.op went a b

-- a conditional branch
abbrev pub is_branch : Op → Bool
is_branch ops.Beq = true
is_branch ops.Bne = true
is_branch ops.Blt = true
is_branch ops.Bge = true
is_branch ops.Bltu = true
is_branch ops.Bgeu = true
is_branch _ = false
