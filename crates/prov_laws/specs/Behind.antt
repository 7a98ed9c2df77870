-- Memory behind a change of addresses.
use Rattle.std.specs.Prelude.{ℕ, ◌≡◌, ◌+◌, ◌<◌, ◌==◌, Bool, true, false, List, Some, slice_get}
use Rattle.std.specs.List.{list_any}
use Rattle.uh_base.specs.Bytes.{number_at}
use Rattle.rv_step.specs.Exec.{Rights}
use Rattle.prov_types.specs.declared.kinds.Kind.{Kind}
use Rattle.prov_types.specs.Kinds.{Holds, length_of}
use Rattle.prov_layout.specs.declared.piece.Class.{Class}
use Rattle.prov_layout.specs.declared.piece.Class.TheVariants.{Code, Fixed}
use Rattle.prov_layout.specs.declared.piece.Piece.{Piece}
use Rattle.prov_layout.specs.Pieces.{all_of, is_code, piece_at}
use Rattle.prov_runs.specs.Sites.{WordMoves, is_sited, target_at}
use Rattle.provenance_check.specs.Ground.{Ground}
use Rattle.prov_laws.specs.Checked.{regions_of}
use Rattle.prov_laws.specs.Convert.{Between, Changes}
use Rattle.prov_laws.specs.Entries.{Shared}

-- a byte that the fix-ups change: of a fixed cell, or of code in a HIGH20 site that names an offset
abbrev pub is_fixed_up : (sites : List Piece) → (region at : ℕ) → Class → Bool
is_fixed_up sites region at (Fixed kind) = true
is_fixed_up sites region at Code = is_sited sites region at
is_fixed_up sites region at _ = false

-- Of memory `c` the fix-ups make `e`, still at the old addresses: fixed cells and HIGH20 sites name the new addresses, and other
-- bytes of pieces stay.
pub record FixesUp (g : Ground) (old new : ℕ → ℕ) (c e : ℕ → ℕ) : Type 0 where
  pub stays : (i : ℕ) (p : Piece) (j : ℕ) → slice_get g.pieces i ≡ Some p → j < p.len → is_fixed_up g.sites p.region (p.at + j) p.class ≡ false
      → e (old p.region + (p.at + j)) ≡ c (old p.region + (p.at + j))
  pub cells : (i : ℕ) (p : Piece) (kind : Kind) → slice_get g.pieces i ≡ Some p → p.class ≡ Fixed kind
      → Holds (regions_of g old new) kind (number_at c (old p.region + p.at) p.len) (number_at e (old p.region + p.at) p.len)
  pub sites : (o target : ℕ) → target_at g.sites o ≡ Some target → all_of is_code (piece_at g.pieces 0) o 4 ≡ true
      → WordMoves (regions_of g old new) target (number_at c (old 0 + o) 4) (number_at e (old 0 + o) 4)

-- the new addresses show each region's bytes
abbrev pub ShowsAtNew : Ground → (old new : ℕ → ℕ) → (e t : ℕ → ℕ) → Type 0
ShowsAtNew g old new e t = (r o : ℕ) → o < length_of g.lens r → t (new r + o) ≡ e (old r + o)

-- each convertible cell is converted
abbrev pub AllConverted : Ground → (done : List ℕ) → Type 0
AllConverted g done = (cell : ℕ) → cell < g.cells → list_any (λ c. c == cell) done ≡ true

-- The memory before and the one behind share what two runs share.
abbrev pub ChangeMoves : Type 0
ChangeMoves = (g : Ground) (old new : ℕ → ℕ) (allows : Rights) (answer : ℕ → ℕ) (b c e t : ℕ → ℕ) (done : List ℕ)
    → Changes g old new allows answer b → Between (regions_of g old new) g.pieces done b c → AllConverted g done
    → FixesUp g old new c e → ShowsAtNew g old new e t → Shared g old new b t
