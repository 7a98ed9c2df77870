-- The rules of a node: tests with their names, judged in order.
use Rattle.std.specs.Prelude.{ℕ, ◌==◌, ◌&&◌, ◌||◌, nat_lt, not, Bool, true, false, List, [], ◌∷◌, Option, Some, None, if◌then◌else◌, slice_get, slice_index_or, is_some}
use Rattle.std.specs.List.{list_any}
use Rattle.rv_decode.specs.declared.insn.Insn.{Insn}
use Rattle.rv_step.specs.declared.bus.Access.TheVariants as access
use Rattle.rv_step.specs.Exec.{Rights}
use Rattle.prov_types.specs.declared.kinds.Kind.{Kind}
use Rattle.prov_types.specs.declared.kinds.Kind.TheVariants.{Num, Ptr, Opt}
use Rattle.prov_types.specs.declared.kinds.Place.{Place}
use Rattle.prov_types.specs.Spans.{one}
use Rattle.prov_types.specs.Kinds.{length_of}
use Rattle.prov_types.specs.Fits.{fits}
use Rattle.prov_types.specs.Asked.{KindAsk, Loads, Stores, Forks, Jumps, asked_kinds, may_compare}
use Rattle.prov_cert.specs.declared.cert.StackPart.{StackPart}
use Rattle.prov_cert.specs.Cert.{Node}
use Rattle.prov_layout.specs.Offsets.{every}
use Rattle.prov_layout.specs.Pieces.{piece_at}
use Rattle.prov_layout.specs.Stores.{is_number}
use Rattle.provenance_check.specs.declared.rule.Rule.{Rule}
use Rattle.provenance_check.specs.declared.rule.Rule.TheVariants as rules
use Rattle.provenance_check.specs.Ground.{Ground}
use Rattle.provenance_check.specs.Registers.{kind_at, kinds_of, written}
use Rattle.provenance_check.specs.Reading.{insn_at, is_at_most, is_clear, is_lui, place_of}
use Rattle.provenance_check.specs.Accesses.{is_allowed, loaded, stores}
use Rattle.provenance_check.specs.Successors.{Before, Successor, Target, Inner, Out, Converts, Astray, cell_in, even_offset, link_kind, successors, target_by}

-- Site: no HIGH20 site meets the instruction, or it is the 32-bit LUI at one that names an offset of the image.
unfoldable pub site_rule : Ground → Place → Insn → Bool
site_rule g place insn = is_clear g.sites place.at place.len || (is_lui insn.op && (place.len == 4 && is_at_most (length_of g.lens 0) place.target))

-- Load: the address is a pointer, and a load at each of its offsets is allowed.
abbrev pub load_rule : Ground → Rights → Before → KindAsk → Bool
load_rule g allows b (Loads rd (Ptr r s) width sign) = is_some (loaded g allows b.notified b.done b.parts r s width)
load_rule g allows b (Loads rd _ width sign) = false
load_rule g allows b _ = true

-- Store: the address is a pointer, and a store at each of its offsets is allowed and keeps what is there.
abbrev pub store_rule : Ground → Rights → Before → KindAsk → Bool
store_rule g allows b (Stores (Ptr r s) width kind) = stores g allows b.notified r s width kind
store_rule g allows b (Stores _ width kind) = false
store_rule g allows b _ = true

-- a jump leads somewhere: to ConvertPointer, where ra leads on
abbrev pub leads : List Kind → Target → Bool
leads kinds (Inner to) = true
leads kinds Out = true
leads kinds Converts = is_some (even_offset (kind_at kinds 1))
leads kinds Astray = false

-- Jump: a jump leads somewhere, once its link is written; a branch compares kinds that it may.
abbrev pub jump_rule : Ground → Before → Place → KindAsk → Bool
jump_rule g b place (Jumps to rd) = leads (written b.kinds rd (link_kind g place)) (target_by b.notified to)
jump_rule g b place (Forks op x y behind target) = may_compare op x y
jump_rule g b place _ = true

-- what a function leaves behind: sp is the end of the stack, and where a call ends a0 is a number
abbrev pub leaves : (notified : Bool) → List Kind → Target → Bool
leaves notified kinds Out = fits (kind_at kinds 2) (Ptr 1 (one 65536)) && (notified || is_number (kind_at kinds 10))
leaves notified kinds _ = true

-- Exit: a jump out of the function, once its link is written.
abbrev pub exit_rule : Ground → Before → Place → KindAsk → Bool
exit_rule g b place (Jumps to rd) = leaves b.notified (written b.kinds rd (link_kind g place)) (target_by b.notified to)
exit_rule g b place _ = true

abbrev pub is_value : ℕ → Kind → Bool
is_value v (Num s) = s.lo == v && s.hi == v
is_value v _ = false

-- the debug disposition of ConvertPointer: EFI_OPTIONAL_PTR, 1, where the pointer may be 0, and else 0 (UEFI 2.10, 8.4.2)
abbrev pub disposition : Kind → ℕ
disposition (Opt r s) = 1
disposition _ = 0

-- a convertible cell may be converted: its bytes may be written, and it isn't converted yet
abbrev pub converts_cell : Ground → Rights → (done : List ℕ) → (debug : Kind) → (r o : ℕ) → Option (Kind × ℕ) → Bool
converts_cell g allows done debug r o None = false
converts_cell g allows done debug r o (Some (kind, cell)) =
    is_value (disposition kind) debug && (is_allowed g (allows access.Store) r 8 o && not (list_any (λ c. c == cell) done))

unfoldable pub converts : Ground → Rights → (done : List ℕ) → (debug address : Kind) → Bool
converts g allows done debug (Ptr r s) = s.lo == s.hi && converts_cell g allows done debug r s.lo (cell_in s.lo (piece_at g.pieces r s.lo))
converts g allows done debug _ = false

abbrev pub converts_by : Ground → Rights → (done : List ℕ) → List Kind → Target → Bool
converts_by g allows done kinds Converts = converts g allows done (kind_at kinds 10) (kind_at kinds 11)
converts_by g allows done kinds _ = true

-- Convert: a call of ConvertPointer, once its link is written, with its arguments in a0 and a1.
abbrev pub convert_rule : Ground → Rights → Before → Place → KindAsk → Bool
convert_rule g allows b place (Jumps to rd) = converts_by g allows b.done (written b.kinds rd (link_kind g place)) (target_by b.notified to)
convert_rule g allows b place _ = true

-- a part with just these bytes, whose kind fits
unfoldable pub has_part : List StackPart → StackPart → Bool
has_part [] p = false
has_part (q ∷ qs) p = (q.at == p.at && (q.width == p.width && fits q.kind p.kind)) || has_part qs p

unfoldable pub parts_fit : List StackPart → List StackPart → Bool
parts_fit have [] = true
parts_fit have (p ∷ ps) = has_part have p && parts_fit have ps

unfoldable pub kinds_fit : List Kind → List Kind → Bool
kinds_fit have want = every (λ r. fits (kind_at have r) (kind_at want r)) 0 1 32

unfoldable pub are_among : List ℕ → List ℕ → Bool
are_among numbers [] = true
are_among numbers (n ∷ ns) = list_any (λ m. m == n) numbers && are_among numbers ns

abbrev pub same_cells : List ℕ → List ℕ → Bool
same_cells cells others = are_among cells others && are_among others cells

-- what is known where a run goes on serves a node
abbrev pub serves : Successor → Option Node → Bool
serves s None = false
serves s (Some n) = n.at == s.to && (kinds_fit s.kinds (kinds_of n.regs) && (parts_fit s.parts n.stack && same_cells s.done n.done))

-- Edge: NEXT has a node for each place where the run may go on, in order, and what is known there serves it.
unfoldable pub edges : List Node → (next : List ℕ) → List Successor → Bool
edges nodes [] [] = true
edges nodes (n ∷ ns) (s ∷ ss) = serves s (slice_get nodes n) && edges nodes ns ss
edges nodes _ _ = false

abbrev pub is_marked : List Bool → ℕ → Bool
is_marked marks n = slice_index_or marks n false

unfoldable pub all_above : ℕ → List ℕ → Bool
all_above number [] = true
all_above number (n ∷ ns) = nat_lt number n && all_above number ns

-- Order: a node of a notified function leads to nodes of greater numbers, and no call reaches it.
abbrev pub order_rule : Ground → (number : ℕ) → Node → Bool
order_rule g number node = if is_marked g.notified number then all_above number node.next && not (is_marked g.called number) else true

abbrev pub is_exit : Node → Bool
is_exit node = is_none_left node.next
  where
    is_none_left : List ℕ → Bool
    is_none_left [] = true
    is_none_left _ = false

-- Unconverted: where the last notified function ends each cell is converted.
abbrev pub unconverted_rule : Ground → (number : ℕ) → Node → Bool
unconverted_rule g number node =
    if is_marked g.last number && is_exit node then every (λ cell. list_any (λ c. c == cell) node.done) 0 1 g.cells else true

-- the first whose test fails
unfoldable pub first_of : List (Rule × Bool) → Option Rule
first_of [] = None
first_of ((rule, passes) ∷ rest) = if passes then first_of rest else Some rule

-- what is known at a node
abbrev pub before : Ground → (number : ℕ) → Node → Before
before g number node = record { kinds = kinds_of node.regs; parts = node.stack; done = node.done; notified = is_marked g.notified number }

-- the rules on where the run goes on, of which the first is judged already
abbrev pub tests_behind : Ground → (number : ℕ) → Node → (edge : Bool) → List (Rule × Bool)
tests_behind g number node edge = (rules.Edge, edge) ∷ (rules.Order, order_rule g number node) ∷ (rules.Unconverted, unconverted_rule g number node) ∷ []

-- the rules that what an instruction does to memory and to the program counter has to meet
abbrev pub tests : Ground → Rights → (number : ℕ) → Node → Place → Insn → KindAsk → List (Rule × Bool)
tests g allows number node place insn ask =
    (rules.Load, load_rule g allows (before g number node) ask)
    ∷ (rules.Store, store_rule g allows (before g number node) ask)
    ∷ (rules.Jump, jump_rule g (before g number node) place ask)
    ∷ (rules.Exit, exit_rule g (before g number node) place ask)
    ∷ (rules.Convert, convert_rule g allows (before g number node) place ask)
    ∷ tests_behind g number node (edges g.nodes node.next (successors g allows (before g number node) place insn ask))

-- all rules of a node with this instruction
abbrev pub tests_at : Ground → Rights → (number : ℕ) → Node → Option (Insn × ℕ) → List (Rule × Bool)
tests_at g allows number node None = (rules.Insn, false) ∷ []
tests_at g allows number node (Some (insn, len)) =
    (rules.Insn, true)
    ∷ (rules.Site, site_rule g (place_of g node.at len) insn)
    ∷ tests g allows number node (place_of g node.at len) insn (asked_kinds g.lens insn (place_of g node.at len) (kind_at (kinds_of node.regs)))

-- the first rule that fails at a node, none where none fails
unfoldable pub first_rule : Ground → Rights → (number : ℕ) → Node → Option Rule
first_rule g allows number node = first_of (tests_at g allows number node (insn_at g node.at))

abbrev pub first_rule_of : Ground → Rights → (number : ℕ) → Option Node → Option Rule
first_rule_of g allows number None = None
first_rule_of g allows number (Some node) = first_rule g allows number node
