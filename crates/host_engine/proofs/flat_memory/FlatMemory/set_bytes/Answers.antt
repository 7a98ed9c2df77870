use Rattle.std.proofs.Common.{◌+◌, ◌-◌, ◌≤◌, arith, refl, ◌∙◌, ap, length}
use Rattle.uh_base.specs.LittleEndian.{low_bytes}
use Rattle.host_engine.proofs.PartLemmas.{stored, part_length}
use Rattle.host_engine.proofs.flat_memory.FlatMemory.set_bytes.Goals as goal

pub returns : goal.returns
returns c =
    let ok = c.args.self.now.bytes.ok.0 in
    let whole = c.args.self.now.whole in
    let inside : c.args.at - 1073741824 + c.args.width ≤ length c.args.self.now.bytes.items = omega arith in
    let count = part_length c.args.width (c.args.at - 1073741824) _ _ c.deref_mut.ensures.value inside in
    stored c.args.width _ c.args.at c.args.value _ _ _ _ c.deref_mut.ensures.value (omega arith) (omega arith) (c.write_number.ensures ∙ ap (λ n. low_bytes n c.args.value) count) refl c.requires.inside
