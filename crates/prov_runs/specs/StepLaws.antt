-- The law of lists of steps: two runs that stand at one node of a call go on alike, step for step.
use Rattle.std.specs.Prelude.{ℕ, zero, suc, ◌≡◌, ◌≤◌, Bool, true, false, List, Option, Some, None}
use Rattle.rv_decode.specs.declared.insn.Insn.{Insn}
use Rattle.rv_step.specs.Exec.{Rights, State, step_of}
use Rattle.prov_types.specs.declared.kinds.Kind.{Kind}
use Rattle.prov_types.specs.declared.kinds.Place.{Place}
use Rattle.prov_types.specs.Kinds.{IsProperKind}
use Rattle.prov_types.specs.Asked.{asked_kinds}
use Rattle.prov_cert.specs.declared.cert.StackPart.{StackPart}
use Rattle.prov_runs.specs.Sites.{target_at}
use Rattle.prov_runs.specs.Memory.{converted}
use Rattle.prov_runs.specs.States.{Related, StandAt}
use Rattle.prov_runs.specs.FetchLaws.{IsInsnAt}
use Rattle.prov_runs.specs.Steps.{AreRuns, Runs, reached}
use Rattle.prov_runs.specs.OneNode.{AreEven, Graph, Known, Passes}

abbrev pub and_on : (State → Option State) → Option State → Option State
and_on on None = None
and_on on (Some to) = on to

-- the state behind so many steps, none where one of them traps
unfoldable pub after_steps : Rights → ℕ → State → Option State
after_steps rights zero s = Some s
after_steps rights (suc n) s = and_on (after_steps rights n) (reached (step_of rights s))

-- what a certificate's rules say of a node, with the instruction that stands there and the cells that are converted
pub record IsJudged (u : Runs) (notified : Bool) (graph : Graph) (node : Known) : Type 0 where
  pub place : Place
  pub insn : Insn
  pub cells : List ℕ
  pub next : List ℕ
  pub at : place.at ≡ node.at
  pub is_insn : IsInsnAt u.laid u.image place.at place.len insn
  pub target_is : place.target ≡ target_at u.laid.sites place.at
  pub proper : (r : ℕ) → IsProperKind (node.kinds r)
  pub not_compared : u.done ≡ converted notified cells
  pub passes : Passes u notified cells graph next place insn node.kinds node.parts (asked_kinds u.regions.lens insn place node.kinds)

abbrev pub AreJudged : Runs → Graph → Type 0
AreJudged u graph = (number : ℕ) (node : Known) → graph.nodes number ≡ Some node → IsJudged u false graph node

-- both runs stand at one node
pub record AtSomeNode (u : Runs) (graph : Graph) (s t : State) : Type 0 where
  pub number : ℕ
  pub node : Known
  pub listed : graph.nodes number ≡ Some node
  pub related : Related u.regions u.laid u.done u.image s t
  pub stands : StandAt u.regions 0 node.at node.kinds node.parts s t

-- both runs stand at one way out of the image
pub record AtSomeDoor (u : Runs) (graph : Graph) (s t : State) : Type 0 where
  pub region : ℕ
  pub offset : ℕ
  pub kinds : ℕ → Kind
  pub parts : List StackPart
  pub door : graph.doors region offset kinds ≡ true
  pub related : Related u.regions u.laid u.done u.image s t
  pub stands : StandAt u.regions region offset kinds parts s t

-- Behind so many steps both runs stand at one node; or both left the image behind equally many steps before.
pub data GoAlike (u : Runs) (graph : Graph) (n : ℕ) (s t : State) : Type 0 where
  standing : (left right : State) → after_steps u.old_rights n s ≡ Some left → after_steps u.new_rights n t ≡ Some right → AtSomeNode u graph left right → GoAlike u graph n s t
  gone : (m : ℕ) (left right : State) → m ≤ n → after_steps u.old_rights m s ≡ Some left → after_steps u.new_rights m t ≡ Some right → AtSomeDoor u graph left right → GoAlike u graph n s t

-- Two runs that stand at a node of a call go on alike for any number of steps, where all nodes are judged.
abbrev pub StepForStep : Type 0
StepForStep = (u : Runs) (graph : Graph) (n : ℕ) (s t : State) → AreRuns u → AreEven u.regions graph → AreJudged u graph → AtSomeNode u graph s t → GoAlike u graph n s t
