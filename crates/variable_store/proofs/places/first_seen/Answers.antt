use Rattle.variable_store.specs.Entries.{is_seen}
use Rattle.variable_store.proofs.PlaceLemmas.{found, missed, nowhere}
use Rattle.variable_store.proofs.places.first_seen.Goals as goal

pub returns-then-is_seen-clause-place : goal.returns-then-is_seen-clause-place
returns-then-is_seen-clause-place c =
    found (is_seen c.args.runtime) c.args.variables.now c.loop-index.index c.index-variables-index.result c.index-variables-index.is c.is_seen.result c.is_seen.ensures c.loop-index.invariant c.loop-index-test.true c.if-is_seen.true

pub loop-index-preserved : goal.loop-index-preserved
loop-index-preserved c =
    missed (is_seen c.args.runtime) c.args.variables.now c.loop-index.index c.index-variables-index.result c.index-variables-index.is c.is_seen.result c.is_seen.ensures c.loop-index.invariant c.loop-index-test.true c.if-is_seen.false

pub returns-clause-place : goal.returns-clause-place
returns-clause-place c = nowhere (is_seen c.args.runtime) c.args.variables.now c.loop-index.index c.loop-index.invariant c.loop-index-test.false
