-- A driver that was checked, in two runs: what the check is made over, in the words of the laws of two runs.
use Rattle.std.specs.Prelude.{ℕ, ◌≡◌, ◌+◌, ◌%◌, ◌<◌, ◌==◌, ◌&&◌, ◌||◌, Bool, true, false, List, Option, Some, None, if◌then◌else◌, slice_get, slice_index}
use Rattle.rv_step.specs.declared.bus.Access.{Access}
use Rattle.rv_step.specs.declared.bus.Access.TheVariants as access
use Rattle.rv_step.specs.Exec.{Rights}
use Rattle.prov_types.specs.declared.kinds.Kind.{Kind}
use Rattle.prov_types.specs.declared.kinds.Kind.TheVariants.{Ptr}
use Rattle.prov_types.specs.Spans.{one}
use Rattle.prov_types.specs.Kinds.{AreApart, Regions, length_of}
use Rattle.prov_types.specs.Fits.{fits}
use Rattle.prov_cert.specs.Cert.{Node}
use Rattle.prov_layout.specs.Pieces.{is_code, is_of, piece_at}
use Rattle.prov_layout.specs.Stores.{is_number}
use Rattle.prov_runs.specs.Bytes.{AreDisjoint}
use Rattle.prov_runs.specs.Memory.{IsLaid}
use Rattle.prov_runs.specs.Steps.{Runs}
use Rattle.prov_runs.specs.OneNode.{Graph, Known}
use Rattle.provenance_check.specs.Ground.{AreFormed, Ground}
use Rattle.provenance_check.specs.Registers.{kind_at, kinds_of}
use Rattle.provenance_check.specs.Rules.{first_rule, is_marked, same_cells}

-- the regions of a driver begin at `old` in the first run and at `new` in the second
abbrev pub regions_of : Ground → (old new : ℕ → ℕ) → Regions
regions_of g old new = record { old = old; new = new; lens = g.lens }

-- two runs of it, with the convertible cells that aren't compared and the rights in either run
abbrev pub runs_of : Ground → (old new : ℕ → ℕ) → (done : List ℕ) → (allows others : Rights) → Runs
runs_of g old new done allows others = record {
  regions = regions_of g old new;
  laid = record { pieces = g.pieces; sites = g.sites };
  done = done;
  image = g.image;
  old_rights = allows;
  new_rights = others;
}

-- what a certificate says of a node
abbrev pub known : Node → Known
known node = record { at = node.at; kinds = kind_at (kinds_of node.regs); parts = node.stack }

abbrev pub known_in : Option Node → Option Known
known_in None = None
known_in (Some node) = Some (known node)

-- the nodes that are marked
abbrev pub marked_nodes : List Node → (marks : List Bool) → ℕ → Option Known
marked_nodes nodes marks n = if is_marked marks n then known_in (slice_get nodes n) else None

-- A call leaves the image for the OS return page, region 3, with sp at the end of the stack, region 1, and a number in a0.
abbrev pub ends_call : (r o : ℕ) → (ℕ → Kind) → Bool
ends_call r o kinds = r == 3 && (o == 0 && (fits (kinds 2) (Ptr 1 (one 65536)) && is_number (kinds 10)))

-- A notified function leaves it for slots of 16 bytes of the slot page, region 5: for slot 49, ConvertPointer (UEFI 2.10, 8.4), and
-- where it ends for slot 67, with sp at the end of the stack.
abbrev pub leaves_function : (r o : ℕ) → (ℕ → Kind) → Bool
leaves_function r o kinds = r == 5 && (o == 784 || (o == 1072 && fits (kinds 2) (Ptr 1 (one 65536))))

-- the nodes that are reached from entries, and how calls end
abbrev pub calls : Ground → Graph
calls g = record { nodes = marked_nodes g.nodes g.called; doors = ends_call }

abbrev pub has_converted : (done : List ℕ) → Option Node → Bool
has_converted done None = false
has_converted done (Some node) = same_cells done node.done

-- the nodes that are reached from notified functions when just these cells are converted
abbrev pub function_nodes : Ground → (done : List ℕ) → ℕ → Option Known
function_nodes g done n = if has_converted done (slice_get g.nodes n) then marked_nodes g.nodes g.notified n else None

-- with how functions leave the image
abbrev pub functions : Ground → (done : List ℕ) → Graph
functions g done = record { nodes = function_nodes g done; doors = leaves_function }

-- the image, the OS return page and the slot page, which are pages, begin at even addresses
pub record BeginEven (start : ℕ → ℕ) : Type 0 where
  pub image : start 0 % 2 ≡ 0
  pub return_page : start 3 % 2 ≡ 0
  pub slot_page : start 5 % 2 ≡ 0

-- What two runs are known by besides the rules of nodes.
pub record AreRunsOf (g : Ground) (old new : ℕ → ℕ) (allows others : Rights) : Type 0 where
  -- a certificate's form: nodes name registers that there are, and spans of kinds are whole
  pub formed : AreFormed g.nodes
  -- the first run has its regions where the check was made
  pub starts : (r : ℕ) → 0 < length_of g.lens r → old r ≡ slice_index g.starts r
  -- regions are in memory, which begins above 0 and ends below 2^64
  pub apart : AreApart (regions_of g old new)
  -- Region: no region meets another; and a change of addresses shows no byte at two
  pub disjoint : AreDisjoint (regions_of g old new)
  -- Span: no span meets another, none leaves its region, and none is over the stack
  pub is_laid : IsLaid (regions_of g old new) g.pieces
  -- Span: code lies on pages that may be executed
  pub code : (o : ℕ) → is_of is_code (piece_at g.pieces 0 o) ≡ true → allows access.Fetch (old 0 + o) ≡ true
  -- a change of addresses leaves the rights of pages
  pub rights : (r o : ℕ) (right : Access) → o < length_of g.lens r → others right (new r + o) ≡ allows right (old r + o)
  pub old_even : BeginEven old
  pub new_even : BeginEven new

-- no rule of a node fails
abbrev pub NoneFails : Ground → Rights → Type 0
NoneFails g allows = (number : ℕ) (node : Node) → slice_get g.nodes number ≡ Some node → first_rule g allows number node ≡ None
