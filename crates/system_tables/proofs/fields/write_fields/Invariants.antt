use Rattle.std.proofs.Common.{◌≡◌, drop, true}
use Rattle.system_tables.specs.Fields.{all_fit, with_fields}
use Rattle.system_tables.proofs.fields.write_fields.Given as goal

abbrev pub invariant-loop-field : goal.invariant-loop-field
invariant-loop-field l = record {
  written : with_fields l.page (drop l.field-index l.fields) ≡ with_fields l.fn.page l.fields;
  fit : all_fit (drop l.field-index l.fields) ≡ true;
}
