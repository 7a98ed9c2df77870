use Rattle.std.proofs.Common.{◌∙◌, sym}
use Rattle.handle_db.proofs.AllLemmas.{each_refused}
use Rattle.handle_db.proofs.handle.LiveHandle.add_each.Goals as goal

pub returns-then-has-clause-gives : goal.returns-then-has-clause-gives
returns-then-has-clause-gives c =
    each_refused c.loop-pair.self.protocols c.args.pairs.now c.loop-pair.pair-index _ _ c.loop-pair-test.true (sym c.has.ensures ∙ c.if-has.true) c.loop-pair.invariant.gives
