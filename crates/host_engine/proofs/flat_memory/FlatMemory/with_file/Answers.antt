use Rattle.std.proofs.Common.{arith, length, ◌≤◌}
use Rattle.host_engine.proofs.ByteLemmas.{resized_bytes}
use Rattle.host_engine.proofs.flat_memory.FlatMemory.with_file.Goals as goal

pub returns : goal.returns
returns c = resized_bytes 16777216 _ _ _ _ c.in_ok-resize.ensures.items c.in_ok-bytes.ensures.items c.in_ok-bytes.ensures.len (let h : length c.args.file.now ≤ 16777216 = omega arith in h)
