use Rattle.std.proofs.Common.{List, sym, subst, ap, ◌∙◌}
use Rattle.address_view.specs.Windows.{see}
use Rattle.address_view.specs.declared.frames.ByteRange.{ByteRange}
use Rattle.address_view.specs.Ranges.{RangesSeen, lacks_ranges}
use Rattle.runtime_services.proofs.MarkLemmas.{ranges_seen, later_seen, written_told}
use Rattle.runtime_services.proofs.output.tell.Goals as goal

pub lacks_after-requires : goal.lacks_after-requires
lacks_after-requires c =
    subst (λ (ranges : List ByteRange). RangesSeen (see c.args.view.now) c.args.memory.now ranges) (sym c.requires.ranges) (ranges_seen (see c.args.view.now) c.args.memory.now c.args.outputs.now c.requires.seen)

pub put_outputs-requires-clause-seen : goal.put_outputs-requires-clause-seen
put_outputs-requires-clause-seen c = later_seen (see c.args.view.now) c.args.memory.now c.touch_outputs.new.memory c.args.outputs.now c.in_ok-touch_outputs.ensures.base c.in_ok-touch_outputs.ensures.pages c.requires.seen

pub returns-clause-ok : goal.returns-clause-ok
returns-clause-ok c =
    let frames = ap (lacks_ranges (see c.args.view.now) c.args.memory.now) (sym c.requires.ranges) ∙ sym c.if-lacks_after.ensures in
    rw c.gives.ensures (written_told c.touched_pages_suffice.ensures.marked c.touched_pages_suffice.ensures.over (see c.args.view.now) c.args.memory.now c.touch_outputs.new.memory c.put_outputs.new.memory c.args.value c.args.outputs.now
    frames c.in_ok-touch_outputs.ensures.ok c.in_ok-touch_outputs.ensures.touched c.put_outputs.ensures.written)
