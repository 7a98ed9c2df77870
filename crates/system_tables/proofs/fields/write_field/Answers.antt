use Rattle.system_tables.proofs.FieldLemmas.{field_spliced}
use Rattle.system_tables.proofs.fields.write_field.Goals as goal

pub returns : goal.returns
returns c = field_spliced c.args.page.now c.write_number.new.bytes c.args.field c.requires.long c.requires.fit c.write_number.ensures
