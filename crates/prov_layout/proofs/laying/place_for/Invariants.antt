use Rattle.std.proofs.Common.{◌≡◌, ◌<◌, ℕ, false, Some}
use Rattle.std.specs.Prelude.{slice_get}
use Rattle.prov_layout.specs.declared.piece.Piece.{Piece}
use Rattle.prov_layout.specs.Pieces.{begins_behind}
use Rattle.prov_layout.proofs.laying.place_for.Given as goal

abbrev pub invariant-loop-i : goal.invariant-loop-i
invariant-loop-i l = (k : ℕ) (q : Piece) → k < l.i → slice_get l.pieces k ≡ Some q → begins_behind q l.p.region l.p.at ≡ false
