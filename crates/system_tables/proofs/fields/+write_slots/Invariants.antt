use Rattle.system_tables.proofs.fields.+write_slots.Given as goal

abbrev pub decreases-write_slots : goal.decreases-write_slots
decreases-write_slots l = l.count
