use Rattle.std.specs.Prelude.{◌&&◌}
use Rattle.variable_store.specs.Entries.{is_seen, is_named}
use Rattle.variable_store.proofs.PlaceLemmas.{found, missed, nowhere}
use Rattle.variable_store.proofs.places.place_of.Goals as goal

pub returns-then-is_found-clause-place : goal.returns-then-is_found-clause-place
returns-then-is_found-clause-place c =
    found (λ entry. is_seen c.args.runtime entry && is_named c.args.name.now c.args.vendor.now entry) c.args.variables.now c.loop-index.index c.index-variables-index.result c.index-variables-index.is c.is_found.result c.is_found.ensures c.loop-index.invariant c.loop-index-test.true c.if-is_found.true

pub loop-index-preserved : goal.loop-index-preserved
loop-index-preserved c =
    missed (λ entry. is_seen c.args.runtime entry && is_named c.args.name.now c.args.vendor.now entry) c.args.variables.now c.loop-index.index c.index-variables-index.result c.index-variables-index.is c.is_found.result c.is_found.ensures c.loop-index.invariant c.loop-index-test.true c.if-is_found.false

pub returns-clause-place : goal.returns-clause-place
returns-clause-place c =
    nowhere (λ entry. is_seen c.args.runtime entry && is_named c.args.name.now c.args.vendor.now entry) c.args.variables.now c.loop-index.index c.loop-index.invariant c.loop-index-test.false
