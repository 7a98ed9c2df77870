use Rattle.std.proofs.Common.{length}
use Rattle.system_tables.proofs.tables.+write_units.Given as goal

abbrev pub decreases-write_units : goal.decreases-write_units
decreases-write_units l = length l.text.now
