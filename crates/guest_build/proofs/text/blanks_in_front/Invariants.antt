use Rattle.std.proofs.Common.{◌≡◌, ◌<◌, ◌+◌, ◌-◌, drop}
use Rattle.std.specs.Prelude.{slice_index}
use Rattle.std.specs.List.{prefix_len}
use Rattle.guest_build.specs.Texts.{is_blank}
use Rattle.guest_build.proofs.text.blanks_in_front.Given as goal

abbrev pub invariant-loop-i : goal.invariant-loop-i
invariant-loop-i l = record {
  count : l.i + prefix_len is_blank (drop l.i l.bytes) ≡ prefix_len is_blank l.bytes;
  behind : 0 < l.i → slice_index l.bytes (l.i - 1) < 128;
}
