-- The laws of two runs of a driver that was checked.
use Rattle.std.specs.Prelude.{ℕ, ◌≡◌, true, false, List, [], Some, None, slice_get}
use Rattle.rv_step.specs.Exec.{Rights, State}
use Rattle.prov_cert.specs.Cert.{Node}
use Rattle.prov_runs.specs.StepLaws.{AtSomeNode, GoAlike, IsJudged}
use Rattle.provenance_check.specs.Ground.{Ground}
use Rattle.provenance_check.specs.Reached.{MarksReached}
use Rattle.provenance_check.specs.Rules.{first_rule, is_marked}
use Rattle.prov_laws.specs.Checked.{AreRunsOf, NoneFails, calls, functions, known, runs_of}

-- A node of a call at which no rule fails is judged.
abbrev pub CallNodesJudged : Type 0
CallNodesJudged = (g : Ground) (old new : ℕ → ℕ) (allows others : Rights) (entries : List ℕ) (number : ℕ) (node : Node)
    → AreRunsOf g old new allows others → MarksReached g.nodes entries g.called
    → slice_get g.nodes number ≡ Some node → is_marked g.called number ≡ true → is_marked g.notified number ≡ false → first_rule g allows number node ≡ None
    → IsJudged (runs_of g old new [] allows others) false (calls g) (known node)

-- So is one of a notified function, over memories whose cells in DONE aren't compared; but for a conversion it leads to nodes with the
-- same DONE.
abbrev pub FunctionNodesJudged : Type 0
FunctionNodesJudged = (g : Ground) (old new : ℕ → ℕ) (allows others : Rights) (notify : List ℕ) (number : ℕ) (node : Node)
    → AreRunsOf g old new allows others → MarksReached g.nodes notify g.notified
    → slice_get g.nodes number ≡ Some node → is_marked g.notified number ≡ true → first_rule g allows number node ≡ None
    → IsJudged (runs_of g old new node.done allows others) true (functions g node.done) (known node)

-- Where no rule of a node fails, two runs that stand at one node of a call go on alike for any number of steps.
abbrev pub CallsGoAlike : Type 0
CallsGoAlike = (g : Ground) (old new : ℕ → ℕ) (allows others : Rights) (entries : List ℕ) (n : ℕ) (s t : State)
    → AreRunsOf g old new allows others → MarksReached g.nodes entries g.called → NoneFails g allows
    → AtSomeNode (runs_of g old new [] allows others) (calls g) s t → GoAlike (runs_of g old new [] allows others) (calls g) n s t
