-- Notified functions while a driver's addresses change: turns until one returns, and what it leaves.
use Rattle.std.specs.Prelude.{ℕ, zero, suc, ◌≡◌, ◌+◌, ◌%◌, ◌<◌, ◌≤◌, ◌==◌, ◌&&◌, ◌||◌, not, is_none, Bool, true, List, [], ◌∷◌, Option, Some, None, if◌then◌else◌, slice_get, slice_index, slice_set}
use Rattle.std.specs.List.{list_any}
use Rattle.uh_base.specs.Bytes.{first_refused, number_at}
use Rattle.rv_step.specs.declared.bus.Access.TheVariants as access
use Rattle.rv_step.specs.Exec.{Rights, State, step_of}
use Rattle.prov_cert.specs.Cert.{Node}
use Rattle.prov_runs.specs.States.{IsHart, StandAt}
use Rattle.prov_runs.specs.Steps.{reached}
use Rattle.provenance_check.specs.Ground.{AreFormed, Ground}
use Rattle.provenance_check.specs.Reached.{MarksReached, Reached, one_if}
use Rattle.provenance_check.specs.Registers.{kind_at, kinds_of}
use Rattle.provenance_check.specs.Rules.{is_exit, is_marked}
use Rattle.prov_laws.specs.Checked.{NoneFails, regions_of}
use Rattle.prov_laws.specs.Convert.{Between, Changes, with_converted}

-- What ConvertPointer (UEFI 2.10, 8.4) makes: the pointer at the address in a1 is converted, a0 is 0, EFI_SUCCESS, and the run goes on
-- where ra leads.
abbrev pub convert : (answer : ℕ → ℕ) → State → State
convert answer s = record { x = slice_set s.x 10 0; pc = slice_index s.x 1; bytes = with_converted answer (slice_index s.x 11) s.bytes }

-- It may where the pointer can be written, and where that isn't 0 or a0 has bit 0 set, EFI_OPTIONAL_PTR.
abbrev pub may_convert : Rights → State → Bool
may_convert allows s = is_none (first_refused (allows access.Store) (slice_index s.x 11) 8) && (slice_index s.x 10 % 2 == 1 || not (number_at s.bytes (slice_index s.x 11) 8 == 0))

-- how a notified function ends: it returns behind so many turns, or not
pub data FunctionEnd : Type 0 where
  Returns : (turns : ℕ) (state : State) → FunctionEnd
  Fails : FunctionEnd

abbrev pub one_more : FunctionEnd → FunctionEnd
one_more (Returns turns state) = Returns (suc turns) state
one_more Fails = Fails

abbrev pub turn_on : (State → FunctionEnd) → Option State → FunctionEnd
turn_on on None = Fails
turn_on on (Some to) = one_more (on to)

-- a turn: ConvertPointer at slot 49 of the slot page, and elsewhere a step
abbrev pub turn_of : Rights → (slots : ℕ) → (answer : ℕ → ℕ) → State → Option State
turn_of allows slots answer s = if s.pc == slots + 784 then (if may_convert allows s then Some (convert answer s) else None) else reached (step_of allows s)

-- at most so many turns, until the function returns to slot 67
unfoldable pub function_of : Rights → (slots : ℕ) → (answer : ℕ → ℕ) → (most : ℕ) → State → FunctionEnd
function_of allows slots answer zero s = if s.pc == slots + 1072 then Returns 0 s else Fails
function_of allows slots answer (suc most) s =
    if s.pc == slots + 1072 then Returns 0 s else turn_on (function_of allows slots answer most) (turn_of allows slots answer s)

-- how many nodes are marked, from a number on
abbrev pub marked_from : List Bool → ℕ → ℕ
marked_from [] n = 0
marked_from (m ∷ marks) zero = one_if m + marked_from marks zero
marked_from (m ∷ marks) (suc n) = marked_from marks n

-- how many of so many cells aren't converted
abbrev pub cells_left : (cells : ℕ) → (done : List ℕ) → ℕ
cells_left zero done = 0
cells_left (suc n) done = (if list_any (λ c. c == n) done then 0 else 1) + cells_left n done

-- The turns of a function from a node on: one for each node from its number on, and one for each cell that isn't converted.
abbrev pub turns_left : Ground → (number : ℕ) → (done : List ℕ) → ℕ
turns_left g number done = marked_from g.notified number + cells_left g.cells done

-- a run stands at a node of a notified function, with just the cells in its DONE converted
pub record AtFunction (g : Ground) (old new : ℕ → ℕ) (b : ℕ → ℕ) (number : ℕ) (node : Node) (s : State) : Type 0 where
  pub listed : slice_get g.nodes number ≡ Some node
  pub marked : is_marked g.notified number ≡ true
  pub whole : IsHart s
  pub between : Between (regions_of g old new) g.pieces node.done b s.bytes
  pub stands : StandAt (regions_of g old old) 0 node.at (kind_at (kinds_of node.regs)) node.stack s s

-- It returned from a node that is reached from there, with just the cells in that node's DONE converted.
pub record ReturnsFrom (g : Ground) (old new : ℕ → ℕ) (b : ℕ → ℕ) (number most : ℕ) (end : FunctionEnd) : Type 0 where
  pub turns : ℕ
  pub state : State
  pub is : end ≡ Returns turns state
  pub exit : ℕ
  pub node : Node
  pub listed : slice_get g.nodes exit ≡ Some node
  pub reaches : Reached g.nodes (number ∷ []) exit
  pub last : is_exit node ≡ true
  pub whole : IsHart state
  pub between : Between (regions_of g old new) g.pieces node.done b state.bytes
  pub few : turns + cells_left g.cells node.done ≤ most

-- Where no rule of a node fails, a notified function returns, and its turns are bounded.
abbrev pub FunctionsReturn : Type 0
FunctionsReturn = (g : Ground) (old new : ℕ → ℕ) (allows : Rights) (answer : ℕ → ℕ) (b : ℕ → ℕ) (notify : List ℕ) (number : ℕ) (node : Node) (s : State) (most : ℕ)
    → Changes g old new allows answer b → MarksReached g.nodes notify g.notified → NoneFails g allows → AtFunction g old new b number node s → turns_left g number node.done ≤ most
    → ReturnsFrom g old new b number (turns_left g number node.done) (function_of allows (old 5) answer most s)

-- The last notified function leaves every cell converted.
abbrev pub LastConverts : Type 0
LastConverts = (g : Ground) (old new : ℕ → ℕ) (allows : Rights) (b : ℕ → ℕ) (number most : ℕ) (end : FunctionEnd) (from : ReturnsFrom g old new b number most end) (cell : ℕ)
    → AreFormed g.nodes → MarksReached g.nodes (number ∷ []) g.last → NoneFails g allows → cell < g.cells → list_any (λ c. c == cell) from.node.done ≡ true
