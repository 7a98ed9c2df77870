use Rattle.std.proofs.Common.{◌≡◌, ◌++◌, drop}
use Rattle.std.specs.Prelude.{◌||◌}
use Rattle.std.specs.List.{list_any}
use Rattle.uh_base.specs.ConsoleText.{is_surrogate, units_text}
use Rattle.system_tables.proofs.console.console_text.Given as goal

abbrev pub invariant-loop-unit : goal.invariant-loop-unit
invariant-loop-unit l = record {
  text : l.text.items ++ units_text (drop l.unit-index l.units) ≡ units_text l.units;
  skipped : (l.skipped || list_any is_surrogate (drop l.unit-index l.units)) ≡ list_any is_surrogate l.units;
}
