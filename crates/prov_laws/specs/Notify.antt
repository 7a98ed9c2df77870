-- All notified functions of a change of addresses, one behind another.
use Rattle.std.specs.Prelude.{ℕ, zero, suc, ◌≡◌, ◌+◌, ◌*◌, ◌<◌, ◌≤◌, ◌==◌, true, List, [], ◌∷◌, Some, slice_get}
use Rattle.std.specs.List.{list_any}
use Rattle.rv_step.specs.Exec.{Rights, State}
use Rattle.prov_cert.specs.Cert.{Node}
use Rattle.prov_runs.specs.Bytes.{AreBytes}
use Rattle.provenance_check.specs.Ground.{Ground}
use Rattle.provenance_check.specs.Reached.{MarksReached, Reached}
use Rattle.provenance_check.specs.Rules.{is_exit}
use Rattle.prov_laws.specs.Checked.{NoneFails, regions_of}
use Rattle.prov_laws.specs.Convert.{Between, Changes}
use Rattle.prov_laws.specs.Functions.{AtFunction, FunctionEnd, Fails, Returns, function_of, marked_from}
use Rattle.prov_laws.specs.Behind.{AllConverted}

-- all return behind so many turns, and leave memory so, or one doesn't
pub data FunctionsEnd : Type 0 where
  AllReturn : (turns : ℕ) (bytes : ℕ → ℕ) → FunctionsEnd
  OneFails : FunctionsEnd

abbrev pub turns_more : ℕ → FunctionsEnd → FunctionsEnd
turns_more n (AllReturn turns bytes) = AllReturn (n + turns) bytes
turns_more n OneFails = OneFails

-- a return is a turn itself
abbrev pub return_on : ((ℕ → ℕ) → FunctionsEnd) → FunctionEnd → FunctionsEnd
return_on on Fails = OneFails
return_on on (Returns turns state) = turns_more (suc turns) (on state.bytes)

-- From number i on so many functions, each of at most so many turns; `begin` gives the state where one begins, over a memory.
unfoldable pub functions_of : Rights → (slots : ℕ) → (answer : ℕ → ℕ) → (begin : ℕ → (ℕ → ℕ) → State) → (most : ℕ) → (i n : ℕ) → (ℕ → ℕ) → FunctionsEnd
functions_of allows slots answer begin most i zero c = AllReturn 0 c
functions_of allows slots answer begin most i (suc n) c = return_on (functions_of allows slots answer begin most (i + 1) n) (function_of allows slots answer most (begin i c))

abbrev pub HaveSameCells : (xs ys : List ℕ) → Type 0
HaveSameCells xs ys = (cell : ℕ) → list_any (λ c. c == cell) xs ≡ list_any (λ c. c == cell) ys

-- Notify: there is a node for each function, by its number, and none converts a cell where there is none; what is known where one
-- begins, over a memory with the cells in its node's DONE converted, serves the node; DONE of the first has no cell, and of each
-- other one those of the exits of the one before; and the nodes of the last one are known.
pub record Notifies (g : Ground) (old new : ℕ → ℕ) (b : ℕ → ℕ) (begin : ℕ → (ℕ → ℕ) → State) (start : ℕ → ℕ) (node : ℕ → Node) (count : ℕ) : Type 0 where
  pub listed : (i : ℕ) → i < count → slice_get g.nodes (start i) ≡ Some (node i)
  pub none : count ≡ 0 → g.cells ≡ 0
  pub begins : (i : ℕ) (c : ℕ → ℕ) → i < count → AreBytes c → Between (regions_of g old new) g.pieces (node i).done b c → AtFunction g old new b (start i) (node i) (begin i c)
  pub first : 0 < count → HaveSameCells (node 0).done []
  pub next : (i exit : ℕ) (last : Node) → i + 1 < count → Reached g.nodes (start i ∷ []) exit → slice_get g.nodes exit ≡ Some last → is_exit last ≡ true
      → HaveSameCells (node (i + 1)).done last.done
  pub last : (i : ℕ) → i + 1 ≡ count → MarksReached g.nodes (start i ∷ []) g.last

-- So many functions returned, in at most as many turns as each has nodes, a return each, and the cells that were converted.
pub record AllReturned (g : Ground) (old new : ℕ → ℕ) (b : ℕ → ℕ) (n before : ℕ) (end : FunctionsEnd) : Type 0 where
  pub turns : ℕ
  pub bytes : ℕ → ℕ
  pub is : end ≡ AllReturn turns bytes
  pub done : List ℕ
  pub whole : AreBytes bytes
  pub between : Between (regions_of g old new) g.pieces done b bytes
  pub all : AllConverted g done
  pub few : turns ≤ n * suc (marked_from g.notified 0) + before

-- Where no rule of a node fails, all notified functions of a change of addresses return, and every cell is converted: for F functions,
-- N nodes of functions and C cells behind at most F * N + C + F turns.
abbrev pub AllFunctionsReturn : Type 0
AllFunctionsReturn = (g : Ground) (old new : ℕ → ℕ) (allows : Rights) (answer : ℕ → ℕ) (b : ℕ → ℕ) (notify : List ℕ) (begin : ℕ → (ℕ → ℕ) → State) (start : ℕ → ℕ) (node : ℕ → Node) (count most : ℕ)
    → Changes g old new allows answer b → MarksReached g.nodes notify g.notified → NoneFails g allows → Notifies g old new b begin start node count
    → marked_from g.notified 0 + g.cells ≤ most
    → AllReturned g old new b count g.cells (functions_of allows (old 5) answer begin most 0 count b)
