use Rattle.std.proofs.Common.{◌≡◌, ◌-◌}
use Rattle.record_text.specs.Console.{behind_units}
use Rattle.record_text.proofs.console.are_units.Given as goal

abbrev pub invariant-loop-unit : goal.invariant-loop-unit
invariant-loop-unit l = behind_units (4096 - l.unit) l.rest ≡ behind_units 4096 l.text
