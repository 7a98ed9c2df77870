-- Lists of steps.
use Rattle.std.proofs.Common.{◌≡◌, ℕ, zero, suc, arith, false, refl, sym, ◌∙◌, ap, subst, Some, inl, inr}
use Rattle.std.specs.Prelude.{◌⊎◌}
use Rattle.rv_step.specs.Exec.{Rights, State, step_of}
use Rattle.prov_runs.specs.States.{StandAt}
use Rattle.prov_runs.specs.Steps.{AreRuns, AtNode, Runs, reached}
use Rattle.prov_runs.specs.OneNode.{AreEven, AtDoor, AtNext, Graph, OneNode}
use Rattle.prov_runs.specs.StepLaws.{AreJudged, AtSomeNode, GoAlike, IsJudged, StepForStep, after_steps, and_on, gone, standing}

first_step : (rights : Rights) (n : ℕ) (s left : State) → reached (step_of rights s) ≡ Some left → after_steps rights (suc n) s ≡ after_steps rights n left
unfolding after_steps
first_step rights n s left h = ap (and_on (after_steps rights n)) h

no_steps : (rights : Rights) (s : State) → after_steps rights 0 s ≡ Some s
unfolding after_steps
no_steps rights s = refl

at_node : (u : Runs) (graph : Graph) (s t : State) → AreRuns u → (here : AtSomeNode u graph s t) → (judged : IsJudged u false graph here.node) → AtNode u judged.place judged.insn here.node.kinds here.node.parts s t
at_node u graph s t runs here judged = record {
  are_runs = runs;
  is_insn = judged.is_insn;
  target_is = judged.target_is;
  proper = judged.proper;
  related = here.related;
  stands = subst (λ n. StandAt u.regions 0 n here.node.kinds here.node.parts s t) (sym judged.at) here.stands;
}

module _ (one : OneNode) (u : Runs) (graph : Graph) (runs : AreRuns u) (even : AreEven u.regions graph) (all : AreJudged u graph) where
  later : (n : ℕ) (s t left right : State) → reached (step_of u.old_rights s) ≡ Some left → reached (step_of u.new_rights t) ≡ Some right → GoAlike u graph n left right → GoAlike u graph (suc n) s t
  later n s t left right e f (standing x y a b at) = standing x y (first_step u.old_rights n s left e ∙ a) (first_step u.new_rights n t right f ∙ b) at
  later n s t left right e f (gone m x y few a b at) = gone (suc m) x y (omega (arith, few)) (first_step u.old_rights m s left e ∙ a) (first_step u.new_rights m t right f ∙ b) at

  steps : (n : ℕ) (s t : State) → AtSomeNode u graph s t → GoAlike u graph n s t
  steps zero s t here = standing s t (no_steps u.old_rights s) (no_steps u.new_rights t) here
  steps (suc n) s t here = by (λ left right at. steps n left right at) (one u false judged.cells graph judged.next judged.place judged.insn here.node.kinds here.node.parts s t judged.not_compared even (at_node u graph s t runs here judged) judged.passes)
    where
      judged : IsJudged u false graph here.node
      judged = all here.number here.node here.listed

      by : ((left right : State) → AtSomeNode u graph left right → GoAlike u graph n left right) → AtNext u graph judged.next s t ⊎ AtDoor u graph here.node.parts s t → GoAlike u graph (suc n) s t
      by more (inl next) =
          let h = next.goes in
          later n s t h.left h.right h.first h.second (more h.left h.right (record { number = next.number; node = next.node; listed = next.listed; related = h.related; stands = h.stands }))
      by more (inr out) =
          let h = out.goes in
          gone 1 h.left h.right (omega arith) (first_step u.old_rights 0 s h.left h.first ∙ no_steps u.old_rights h.left) (first_step u.new_rights 0 t h.right h.second ∙ no_steps u.new_rights h.right)
          (record { region = out.region; offset = out.offset; kinds = out.kinds; parts = here.node.parts; door = out.door; related = h.related; stands = h.stands })

pub step_for_step : OneNode → StepForStep
step_for_step one u graph n s t runs even all here = steps one u graph runs even all n s t here
