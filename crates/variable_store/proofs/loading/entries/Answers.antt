use Rattle.std.proofs.Common.{sym, ◌∙◌}
use Rattle.variable_store.proofs.LoadLemmas.{one_read, not_read, all_read, more_left}
use Rattle.variable_store.proofs.loading.entries.Goals as goal

pub loop-turn-preserved : goal.loop-turn-preserved
loop-turn-preserved c =
    rw c.in_ok-push-in-Ok.ensures.ok
    (one_read c.args.count c.loop-turn.turn c.args.size c.loop-turn.left.now c.in-Ok.behind.now c.loop-turn.variables _ _ c.loop-turn-test.true c.in-Ok.ensures.reads c.loop-turn.invariant)

pub returns-in-Err : goal.returns-in-Err
returns-in-Err c = not_read c.in-Err.fault c.args.count c.loop-turn.turn c.args.size c.loop-turn.left.now c.loop-turn.variables _ c.loop-turn-test.true c.in-Err.ensures.reads c.loop-turn.invariant

pub returns-then-is_empty : goal.returns-then-is_empty
returns-then-is_empty c = all_read c.args.count c.loop-turn.turn c.args.size c.loop-turn.left.now c.loop-turn.variables _ c.loop-turn-test.false (sym c.is_empty.ensures ∙ c.if-is_empty.true) c.loop-turn.invariant

pub returns-else-is_empty : goal.returns-else-is_empty
returns-else-is_empty c =
    rw c.offset.ensures
    (more_left c.args.count c.loop-turn.turn c.args.size c.loop-turn.left.now c.loop-turn.variables _ c.loop-turn-test.false (sym c.is_empty.ensures ∙ c.if-is_empty.false) c.loop-turn.invariant)
