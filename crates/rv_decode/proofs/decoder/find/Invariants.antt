use Rattle.std.proofs.Common.{◌≡◌, map, drop}
use Rattle.rv_decode.specs.Views.{row_of}
use Rattle.rv_decode.specs.Means.{first}
use Rattle.rv_decode.proofs.decoder.find.Given as goal

-- no row before this one holds
abbrev pub invariant-loop-row : goal.invariant-loop-row
invariant-loop-row l = first (map row_of (drop l.row-index l.rows)) l.word ≡ first (map row_of l.rows) l.word
