use Rattle.system_tables.proofs.FieldLemmas.{fit_more, fields_more, no_fields}
use Rattle.system_tables.proofs.fields.write_fields.Goals as goal

pub loop-field-preserved : goal.loop-field-preserved
loop-field-preserved c = record {
  written = fields_more c.args.fields.now c.loop-field.page c.write_field.new.page _ c.loop-field.field-index _ c.loop-field-test.true c.write_field.ensures c.loop-field.invariant.written;
  fit = (fit_more c.args.fields.now c.loop-field.field-index (record { offset = 0; width = 0; value = 0 }) c.loop-field-test.true c.loop-field.invariant.fit).1;
}

pub write_field-requires-clause-fit : goal.write_field-requires-clause-fit
write_field-requires-clause-fit c = (fit_more c.args.fields.now c.loop-field.field-index (record { offset = 0; width = 0; value = 0 }) c.loop-field-test.true c.loop-field.invariant.fit).0

pub returns : goal.returns
returns c = no_fields c.args.fields.now c.loop-field.page _ c.loop-field.field-index c.loop-field-test.false c.loop-field.invariant.written
