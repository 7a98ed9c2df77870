-- The rows of the code, as rows of the table.
use Rattle.std.specs.Prelude.{List, [], ◌∷◌, ◌++◌, Option, Some, None}
use Rattle.rv_decode.specs.Rows.{Row, Pattern}
use Rattle.rv_decode.specs.declared.table.Row as code
use Rattle.rv_decode.specs.declared.table.Pattern as pattern

abbrev pub pattern_of : pattern.Pattern → Pattern
pattern_of p = record { mask = p.mask; value = p.value }

abbrev pub excluded : Option pattern.Pattern → List Pattern
excluded None = []
excluded (Some p) = pattern_of p ∷ []

abbrev pub row_of : code.Row → Row
row_of r = record {
  op = r.op;
  is = record { mask = r.mask; value = r.value };
  but = excluded r.but ++ excluded r.nor;
  length = r.length;
  format = r.format;
}
