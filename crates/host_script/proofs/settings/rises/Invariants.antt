use Rattle.std.proofs.Common.{◌≡◌, drop}
use Rattle.host_script.specs.Settings.{rises}
use Rattle.host_script.proofs.settings.rises.Given as goal

abbrev pub invariant-loop-number : goal.invariant-loop-number
invariant-loop-number l = rises l.before (drop l.number-index l.numbers) ≡ rises 0 l.numbers
