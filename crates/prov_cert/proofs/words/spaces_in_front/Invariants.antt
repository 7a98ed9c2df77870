use Rattle.std.proofs.Common.{◌≡◌, ◌<◌, ◌+◌, ◌-◌, drop}
use Rattle.std.specs.Prelude.{slice_index}
use Rattle.std.specs.List.{prefix_len}
use Rattle.prov_cert.specs.Words.{is_space}
use Rattle.prov_cert.proofs.words.spaces_in_front.Given as goal

abbrev pub invariant-loop-i : goal.invariant-loop-i
invariant-loop-i l = record {
  count : l.i + prefix_len is_space (drop l.i l.bytes) ≡ prefix_len is_space l.bytes;
  behind : 0 < l.i → slice_index l.bytes (l.i - 1) < 128;
}
