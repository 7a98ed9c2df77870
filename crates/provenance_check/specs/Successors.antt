-- Where a run may go on behind a node, and what holds there.
use Rattle.std.specs.Prelude.{ℕ, ◌%◌, ◌==◌, ◌&&◌, Bool, true, false, List, [], ◌∷◌, Option, Some, None, if◌then◌else◌}
use Rattle.rv_decode.specs.declared.insn.Insn.{Insn}
use Rattle.rv_step.specs.Exec.{Rights}
use Rattle.uh_base.specs.Bytes.{plus}
use Rattle.prov_types.specs.declared.kinds.Span.{Span}
use Rattle.prov_types.specs.declared.kinds.Kind.{Kind}
use Rattle.prov_types.specs.declared.kinds.Kind.TheVariants.{Any, Num, Ptr}
use Rattle.prov_types.specs.declared.kinds.Place.{Place}
use Rattle.prov_types.specs.Spans.{one}
use Rattle.prov_types.specs.Transfer.{image_kind}
use Rattle.prov_types.specs.Narrow.{narrow}
use Rattle.prov_types.specs.Asked.{KindAsk, Sets, Loads, Stores, Forks, Goes, Jumps, Stops}
use Rattle.prov_cert.specs.declared.cert.StackPart.{StackPart}
use Rattle.prov_layout.specs.declared.piece.Class.{Class}
use Rattle.prov_layout.specs.declared.piece.Class.TheVariants.{Convert}
use Rattle.prov_layout.specs.declared.piece.Piece.{Piece}
use Rattle.prov_layout.specs.Pieces.{piece_at}
use Rattle.prov_layout.specs.Loads.{read_kind}
use Rattle.prov_layout.specs.Stack.{with_part}
use Rattle.provenance_check.specs.Ground.{Ground}
use Rattle.provenance_check.specs.Registers.{kind_at, written}
use Rattle.provenance_check.specs.Accesses.{loaded}

-- what is known at a node, before its instruction
pub record Before : Type 0 where
  pub kinds : List Kind
  pub parts : List StackPart
  -- the convertible cells that are converted
  pub done : List ℕ
  -- the node is of a notified function
  pub notified : Bool

-- where a run may go on, an offset of the image, and what is known there
pub record Successor : Type 0 where
  pub to : ℕ
  pub kinds : List Kind
  pub parts : List StackPart
  pub done : List ℕ

-- Where a jump leads: to an even offset of the image, out of the function, to the slot of ConvertPointer (UEFI 2.10, 8.4), or
-- where no node may go.
pub data Target : Type 0 where
  Inner : (to : ℕ) → Target
  Out : Target
  Converts : Target
  Astray : Target

-- one even offset of the image
abbrev pub even_offset : Kind → Option ℕ
even_offset (Ptr r s) = if r == 0 && (s.lo == s.hi && s.lo % 2 == 0) then Some s.lo else None
even_offset _ = None

-- one value that is an offset of a region
abbrev pub is_place : (r o : ℕ) → Kind → Bool
is_place r o (Ptr q s) = q == r && (s.lo == o && s.hi == o)
is_place r o _ = false

-- A call ends at the OS return page, region 3; a notified function ends at slot 67 of the slot page, region 5.
abbrev pub is_out : (notified : Bool) → Kind → Bool
is_out notified kind = if notified then is_place 5 1072 kind else is_place 3 0 kind

abbrev pub inner_or : Option ℕ → Target → Target
inner_or None other = other
inner_or (Some to) other = Inner to

-- ConvertPointer is slot 49 of the slot page. A call doesn't convert.
unfoldable pub target_by : (notified : Bool) → Kind → Target
target_by notified kind =
    inner_or (even_offset kind) (if is_out notified kind then Out else (if notified && is_place 5 784 kind then Converts else Astray))

-- the kind of the address behind an instruction
abbrev pub link_kind : Ground → Place → Kind
link_kind g place = image_kind g.lens (plus place.at place.len)

-- the kind and the number of a convertible cell that begins at an offset
abbrev pub cell_of : Class → Option (Kind × ℕ)
cell_of (Convert kind cell) = Some (kind, cell)
cell_of _ = None

abbrev pub cell_in : ℕ → Option Piece → Option (Kind × ℕ)
cell_in o None = None
cell_in o (Some p) = if p.at == o then cell_of p.class else None

abbrev pub number_of : Option (Kind × ℕ) → Option ℕ
number_of None = None
number_of (Some (kind, cell)) = Some cell

-- the number of the convertible cell at an address
abbrev pub cell_number : List Piece → Kind → Option ℕ
cell_number pieces (Ptr r s) = number_of (cell_in s.lo (piece_at pieces r s.lo))
cell_number pieces _ = None

abbrev pub and_cell : Option ℕ → List ℕ → List ℕ
and_cell None done = done
and_cell (Some cell) done = cell ∷ done

abbrev pub or_any : Option Kind → Kind
or_any None = Any
or_any (Some kind) = kind

-- on at an offset, with other kinds of registers
abbrev pub on_at : Before → ℕ → List Kind → Successor
on_at b to kinds = record { to = to; kinds = kinds; parts = b.parts; done = b.done }

-- an edge of a branch, where it is possible
abbrev pub narrowed : Before → Insn → ℕ → Option (Kind × Kind) → List Successor → List Successor
narrowed b insn to None rest = rest
narrowed b insn to (Some (x, y)) rest = on_at b to (written (written b.kinds insn.rs1 x) insn.rs2 y) ∷ rest

-- behind ConvertPointer: where ra leads, with 0 in a0, and the cell that a1 names converted
abbrev pub behind_conversion : Ground → Before → List Kind → Option ℕ → List Successor
behind_conversion g b kinds None = []
behind_conversion g b kinds (Some to) = record { to = to; kinds = written kinds 10 (Num (one 0)); parts = b.parts; done = and_cell (cell_number g.pieces (kind_at kinds 11)) b.done } ∷ []

-- behind a jump, with the kinds once the link is written
abbrev pub behind_jump : Ground → Before → List Kind → Target → List Successor
behind_jump g b kinds (Inner to) = on_at b to kinds ∷ []
behind_jump g b kinds Converts = behind_conversion g b kinds (even_offset (kind_at kinds 1))
behind_jump g b kinds _ = []

abbrev pub parts_behind : List StackPart → (r : ℕ) → Span → (width : ℕ) → Kind → List StackPart
parts_behind parts r s width kind = if r == 1 then with_part s.lo width kind parts else parts

abbrev pub behind_load : Ground → Rights → Before → Place → (rd : ℕ) → (at : Kind) → (width : ℕ) → (sign : Bool) → List Successor
behind_load g allows b place rd (Ptr r s) width sign =
    on_at b (plus place.at place.len) (written b.kinds rd (read_kind sign width (or_any (loaded g allows b.notified b.done b.parts r s width)))) ∷ []
behind_load g allows b place rd _ width sign = []

abbrev pub behind_store : Before → Place → (at : Kind) → (width : ℕ) → Kind → List Successor
behind_store b place (Ptr r s) width kind =
    record { to = plus place.at place.len; kinds = b.kinds; parts = parts_behind b.parts r s width kind; done = b.done } ∷ []
behind_store b place _ width kind = []

-- Each place where a run may go on, of a branch the taken edge first. Behind an instruction that a rule forbids there is none.
abbrev pub successors : Ground → Rights → Before → Place → Insn → KindAsk → List Successor
successors g allows b place insn (Sets rd kind) = on_at b (plus place.at place.len) (written b.kinds rd kind) ∷ []
successors g allows b place insn (Loads rd at width sign) = behind_load g allows b place rd at width sign
successors g allows b place insn (Stores at width kind) = behind_store b place at width kind
successors g allows b place insn (Forks op x y behind target) =
    narrowed b insn target (narrow insn true x y) (narrowed b insn behind (narrow insn false x y) [])
successors g allows b place insn (Goes to rd) = on_at b to (written b.kinds rd (link_kind g place)) ∷ []
successors g allows b place insn (Jumps to rd) = behind_jump g b (written b.kinds rd (link_kind g place)) (target_by b.notified to)
successors g allows b place insn Stops = []
