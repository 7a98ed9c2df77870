use Rattle.std.proofs.Common.{◌≡◌, ◌≤◌, ◌<◌, ◌+◌, length, take}
use Rattle.std.specs.Prelude.{slice_index}
use Rattle.std.specs.List.{suffix_len}
use Rattle.guest_build.specs.Texts.{is_blank}
use Rattle.guest_build.proofs.text.end_of.Given as goal

abbrev pub invariant-loop-end : goal.invariant-loop-end
invariant-loop-end l = record {
  inside : l.end ≤ length l.bytes;
  count : l.end + suffix_len is_blank l.bytes ≡ length l.bytes + suffix_len is_blank (take l.end l.bytes);
  before : l.end < length l.bytes → slice_index l.bytes l.end < 128;
}

abbrev pub decreases-loop-end : goal.decreases-loop-end
decreases-loop-end l = l.end
