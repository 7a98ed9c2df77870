use Rattle.std.proofs.lemmas.Bool.{false≢true}
use Rattle.uh_base.specs.ConsoleText.{is_surrogate}
use Rattle.system_tables.proofs.ConsoleLemmas.{units_are_text, text_more, any_more, text_whole}
use Rattle.system_tables.proofs.console.console_text.Goals as goal

pub loop-unit-preserved : goal.loop-unit-preserved
loop-unit-preserved c = record {
  text = text_more c.args.units.now c.loop-unit.text.items c.push_unit.new.text.items _ c.loop-unit.unit-index c.loop-unit-test.true c.in_ok-push_unit.ensures c.loop-unit.invariant.text;
  skipped = any_more is_surrogate c.args.units.now c.loop-unit.skipped c.is_surrogate-skipped.result _ c.loop-unit.unit-index c.loop-unit-test.true c.is_surrogate-skipped.ensures c.loop-unit.invariant.skipped;
}

pub unreachable-requires : goal.unreachable-requires
unreachable-requires c =
    let whole = text_whole c.args.units.now c.loop-unit.text.items _ c.loop-unit.unit-index c.loop-unit-test.false c.loop-unit.invariant.text in
    false≢true (c.in-Err.ensures.succeeds (rw whole (units_are_text c.args.units.now)))

pub returns-clause-text : goal.returns-clause-text
returns-clause-text c =
    let whole = text_whole c.args.units.now c.loop-unit.text.items _ c.loop-unit.unit-index c.loop-unit-test.false c.loop-unit.invariant.text in
    let ok = c.in-Ok.ensures.ok in
    cc
