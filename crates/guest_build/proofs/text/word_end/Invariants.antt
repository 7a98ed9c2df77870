use Rattle.std.proofs.Common.{◌≡◌, ◌+◌, drop}
use Rattle.std.specs.List.{position_or_len}
use Rattle.guest_build.specs.Texts.{is_blank}
use Rattle.guest_build.proofs.text.word_end.Given as goal

abbrev pub invariant-loop-i : goal.invariant-loop-i
invariant-loop-i l = l.i + position_or_len is_blank (drop l.i l.bytes) ≡ position_or_len is_blank l.bytes
