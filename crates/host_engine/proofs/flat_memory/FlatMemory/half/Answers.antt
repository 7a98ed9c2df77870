use Rattle.std.proofs.Common.{arith, ◌∙◌}
use Rattle.host_engine.proofs.PartLemmas.{part_number}
use Rattle.host_engine.proofs.flat_memory.FlatMemory.half.Goals as goal

pub returns : goal.returns
returns c =
    let ok = c.args.self.now.bytes.ok.0 in
    let whole = c.args.self.now.whole in
    c.half_in.ensures ∙ part_number 2 _ _ _ c.as_slice-bytes.ensures.value (omega arith) c.requires
