use Rattle.std.proofs.Common.{◌≡◌, ◌*◌, ◌++◌, take, drop}
use Rattle.memory_map.specs.Bytes.{all_bytes}
use Rattle.memory_map.proofs.write.write_map.Given as goal

abbrev pub invariant-loop-place : goal.invariant-loop-place
invariant-loop-place l = l.to ≡ all_bytes (take l.place l.list) ++ drop (40 * l.place) l.fn.to
