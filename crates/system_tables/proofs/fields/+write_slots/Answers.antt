use Rattle.std.proofs.Common.{arith}
use Rattle.system_tables.proofs.FieldLemmas.{slots_more, no_slots}
use Rattle.system_tables.proofs.fields.+write_slots.Goals as goal

pub returns-then-count-gt0 : goal.returns-then-count-gt0
returns-then-count-gt0 t c =
    let rest = c.write_slots.ensures in
    let this = c.write_field.ensures in
    let slot = c.pointer.ensures in
    let more = slots_more c.args.page.now c.args.at c.args.slots c.args.first c.args.count (omega arith) in
    cc

pub returns-else-count-gt0 : goal.returns-else-count-gt0
returns-else-count-gt0 t c = no_slots c.args.page.now c.args.at c.args.slots c.args.first c.args.count c.if-count-gt0.false
