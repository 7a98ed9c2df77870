-- What quotients and remainders are. (RISC-V unprivileged manual, version 20191213, 7.2)
use Rattle.std.specs.Prelude.{ℕ, ℤ, pos, ◌≡◌, ◌<◌, ◌+◌, ◌*◌, ◌^◌, ◌+ℤ◌, ◌*ℤ◌, true, false, int_lt, unsigned_abs}
use Rattle.rv_step.specs.Values.{signed, overflows, quotient, remainder, quotient_signed, remainder_signed}

-- The dividend is the quotient times the divisor, and the remainder, which is smaller than the divisor and has the
-- dividend's sign. So the quotient is rounded towards 0.
pub record Divides (dividend divisor quotient remainder : ℤ) : Type 0 where
  pub whole : quotient *ℤ divisor +ℤ remainder ≡ dividend
  pub small : unsigned_abs remainder < unsigned_abs divisor
  pub below : int_lt remainder (pos 0) ≡ true → int_lt dividend (pos 0) ≡ true
  pub above : int_lt (pos 0) remainder ≡ true → int_lt (pos 0) dividend ≡ true

-- DIV and REM, by a divisor that isn't 0, but for the one case that overflows
abbrev pub SignedDivides : Type 0
SignedDivides = (a b : ℕ) → a < 2 ^ 64 → b < 2 ^ 64 → 0 < b → overflows a b ≡ false
    → Divides (signed a) (signed b) (signed (quotient_signed a b)) (signed (remainder_signed a b))

-- DIVU and REMU, by a divisor that isn't 0
abbrev pub UnsignedDivides : Type 0
UnsignedDivides = (a b : ℕ) → 0 < b → (quotient a b * b + remainder a b ≡ a) × (remainder a b < b)
