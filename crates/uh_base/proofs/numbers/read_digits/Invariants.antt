use Rattle.std.proofs.Common.{◌≡◌, Some, drop}
use Rattle.uh_base.specs.DigitSteps.{digits_from}
use Rattle.uh_base.proofs.numbers.read_digits.Given as goal

abbrev pub invariant-loop-byte : goal.invariant-loop-byte
invariant-loop-byte l = digits_from l.base (Some l.n) (drop l.byte-index l.bytes) ≡ digits_from l.base (Some 0) l.bytes
