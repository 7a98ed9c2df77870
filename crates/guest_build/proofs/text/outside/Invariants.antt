use Rattle.std.proofs.Common.{◌≡◌, ◌+◌, drop, false}
use Rattle.guest_build.specs.Texts.{outside}
use Rattle.guest_build.proofs.text.outside.Given as goal

abbrev pub invariant-loop-i : goal.invariant-loop-i
invariant-loop-i l = l.i + outside l.wanted l.quoted (drop l.i l.bytes) ≡ outside l.wanted false l.bytes
