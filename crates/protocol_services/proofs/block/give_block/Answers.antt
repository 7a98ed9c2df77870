use Rattle.std.proofs.Common.{◌≡◌, false, length}
use Rattle.std.specs.Prelude.{nat_lt}
use Rattle.uh_base.specs.Limits.{frame_limit}
use Rattle.guest_memory.specs.Lists.{count_true}
use Rattle.address_view.specs.Windows.{see}
use Rattle.protocol_services.specs.Blocks.{with_contents, outputs_written}
use Rattle.protocol_services.proofs.BlockLemmas.{frames_suffice, given_is, told_is}
use Rattle.protocol_services.proofs.block.give_block.Goals as goal

pub write_block-requires-clause-frames : goal.write_block-requires-clause-frames
write_block-requires-clause-frames c =
    frames_suffice c.in_ok-ram.ram (see c.args.view.now) c.args.memory.now c.pages_allocated-span.result c.in-Ok.block c.args.count c.args.bytes.now c.args.outputs c.in_ok-lacks_given.field-0 c.in_ok-ram.ensures
    (c.in_ok-lacks_given.ensures _ c.in-Ok.ensures.gives) c.if-branch.false

pub returns-in-Ok-clause-ok : goal.returns-in-Ok-clause-ok
returns-in-Ok-clause-ok c =
    let few : nat_lt frame_limit (count_true (outputs_written (see c.args.view.now) (with_contents c.args.memory.now c.pages_allocated-span.result c.in-Ok.block c.args.bytes.now) c.args.outputs c.in-Ok.block c.args.count).touched) ≡ false =
    frames_suffice c.in_ok-ram.ram (see c.args.view.now) c.args.memory.now c.pages_allocated-span.result c.in-Ok.block c.args.count c.args.bytes.now c.args.outputs c.in_ok-lacks_given.field-0 c.in_ok-ram.ensures
    (c.in_ok-lacks_given.ensures _ c.in-Ok.ensures.gives) c.if-branch.false in
    told_is c.gives.result _ c.write_block.new.memory _ _ _ _ c.gives.ensures c.in_ok-write_block-in-Ok.ensures.ok (given_is (see c.args.view.now) c.args.memory.now c.args.pages.now c.args.pool.now c.args.outputs c.args.bytes.now c.args.count c.pages_allocated-span.result _ _ _ c.in-Ok.ensures.gives c.pages_allocated-span.ensures.span few)
