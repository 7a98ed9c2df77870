use Rattle.std.proofs.Common.{◌∙◌, ap, subst, sym}
use Rattle.map_faults.specs.Faults.{first_fault}
use Rattle.virtual_map.specs.States.{Runtime}
use Rattle.runtime_turn.specs.Functions.{ground_of}
use Rattle.map_transition.specs.Wholes.{Whole}
use Rattle.map_transition.proofs.RunLemmas.{accepted_then}
use Rattle.map_transition.proofs.WholeLemmas.{in_time, begun_fault, whole_begun, whole_ran}
use Rattle.map_transition.proofs.MakeLemmas.{made, not_made, whole_stopped, stays_ran, stays_moved}
use Rattle.map_transition.proofs.making.make.Goals as goal

pub run_all-requires-clause-whole : goal.run_all-requires-clause-whole
run_all-requires-clause-whole c =
    subst (λ (r : Runtime). Whole r) (sym c.begin.ensures) (whole_begun c.args.state.now c.requires.whole (in_time c.args.state.now c.args.map.now c.requires.accepted))

pub run_all-requires-clause-accepted : goal.run_all-requires-clause-accepted
run_all-requires-clause-accepted c =
    ap (λ (r : Runtime). first_fault (ground_of r) c.args.map.now) c.begin.ensures ∙ begun_fault c.args.state.now c.args.map.now ∙ c.requires.accepted

pub move_all-requires-clause-whole : goal.move_all-requires-clause-whole
move_all-requires-clause-whole c =
    let whole : Whole c.begin.new.state = subst (λ (r : Runtime). Whole r) (sym c.begin.ensures) (whole_begun c.args.state.now c.requires.whole (in_time c.args.state.now c.args.map.now c.requires.accepted)) in
    whole_ran c.begin.new.state c.run_all.new.state whole c.in-Ok.ensures.same c.in-Ok.ensures.touched

pub move_all-requires-clause-accepted : goal.move_all-requires-clause-accepted
move_all-requires-clause-accepted c =
    accepted_then c.begin.new.state c.run_all.new.state c.args.map.now c.in-Ok.ensures.same
    (ap (λ (r : Runtime). first_fault (ground_of r) c.args.map.now) c.begin.ensures ∙ begun_fault c.args.state.now c.args.map.now ∙ c.requires.accepted)

pub returns-in-Ok-clause-gives : goal.returns-in-Ok-clause-gives
returns-in-Ok-clause-gives c = made c.args.map.now.entries c.args.sp c.in-Ok.steps c.args.state.now c.begin.new.state c.run_all.new.state c.move_all.new.state c.begin.ensures c.in-Ok.ensures.gives c.move_all.ensures.moved

pub returns-in-Ok-clause-stays : goal.returns-in-Ok-clause-stays
returns-in-Ok-clause-stays c =
    stays_moved c.args.map.now.entries c.args.state.now c.run_all.new.state c.move_all.new.state c.move_all.ensures.moved (stays_ran c.args.state.now c.begin.new.state c.run_all.new.state c.begin.ensures c.in-Ok.ensures.same)

pub returns-in-Err-clause-gives : goal.returns-in-Err-clause-gives
returns-in-Err-clause-gives c = not_made c.args.map.now.entries c.args.sp c.args.state.now c.begin.new.state c.run_all.new.state c.in-Err.end c.begin.ensures c.in-Err.ensures.gives

pub returns-in-Err-clause-stays : goal.returns-in-Err-clause-stays
returns-in-Err-clause-stays c = stays_ran c.args.state.now c.begin.new.state c.run_all.new.state c.begin.ensures c.in-Err.ensures.same

pub returns-in-Err-clause-whole : goal.returns-in-Err-clause-whole
returns-in-Err-clause-whole c =
    let whole : Whole c.begin.new.state = subst (λ (r : Runtime). Whole r) (sym c.begin.ensures) (whole_begun c.args.state.now c.requires.whole (in_time c.args.state.now c.args.map.now c.requires.accepted)) in
    whole_stopped c.in-Err.end c.begin.new.state c.run_all.new.state whole c.in-Err.ensures.same c.in-Err.ensures.touched
