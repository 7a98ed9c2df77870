use Rattle.std.proofs.Common.{◌≡◌, ◌≤◌, ◌∙◌, ap, arith, get_or, List, subst, sym}
use Rattle.page_alloc.specs.declared.layout.Layout.{Layout}
use Rattle.page_alloc.specs.Layout.{IsLayout}
use Rattle.event_queue.specs.declared.event.Notify.{Notify}
use Rattle.virtual_map.specs.States.{Runtime}
use Rattle.map_transition.proofs.RunLemmas.{returned, stopped, done, begins, same_refl, same_then, accepted_then, ran_few, ran_keeps, stopped_keeps}
use Rattle.map_transition.proofs.running.run_all.Goals as goal

pub loop-i-init : goal.loop-i-init
loop-i-init c = record {
  left = begins c.args.map.now.entries c.args.sp c.args.state.now.notifies c.args.state.now;
  same = same_refl c.args.state.now;
  layout = c.requires.whole.ram.is_layout;
  accepted = c.requires.accepted;
  few = omega arith;
  touched = λ at h. h;
}

pub overflow_add-steps : goal.overflow_add-steps
overflow_add-steps c =
    let few : c.in-Ok.count ≤ 1000000 = ran_few c.args.map.now.entries c.args.sp c.in-Ok.count c.index-notify.result.now c.loop-i.state c.run_function.new.state c.in-Ok.ensures.gives in
    let so_far = c.loop-i.invariant.few in
    let functions = c.requires.whole.few_functions in
    let below = c.loop-i-test.true in
    let count = c.count_of-i-end.ensures in
    omega (arith, few, so_far, functions, below, count)

pub returns-in-Err-clause-gives : goal.returns-in-Err-clause-gives
returns-in-Err-clause-gives c =
    let is : c.index-notify.result.now ≡ get_or c.args.state.now.notifies c.loop-i.i c.index-notify.result.now
    = c.index-notify.ensures ∙ ap (λ (ns : List Notify). get_or ns c.loop-i.i c.index-notify.result.now) (ap (λ (r : Runtime). r.notifies) c.state-in-loop-i.view_is ∙ c.loop-i.invariant.same.notifies) in
    stopped c.args.map.now.entries c.args.sp c.loop-i.steps c.loop-i.i c.index-notify.result.now c.loop-i.state c.args.state.now (let below = c.loop-i-test.true in let count = c.count_of-i-end.ensures in omega (arith, below, count)) is c.loop-i.invariant.left c.in-Err.end c.run_function.new.state c.in-Err.ensures.gives

pub returns-in-Err-clause-touched : goal.returns-in-Err-clause-touched
returns-in-Err-clause-touched c =
    stopped_keeps c.args.map.now.entries c.args.sp c.index-notify.result.now c.args.state.now.memory c.loop-i.state c.run_function.new.state c.in-Err.end c.in-Err.ensures.same c.loop-i.invariant.touched c.in-Err.ensures.gives

pub loop-i-preserved : goal.loop-i-preserved
loop-i-preserved c =
    let is : c.index-notify.result.now ≡ get_or c.args.state.now.notifies c.loop-i.i c.index-notify.result.now
    = c.index-notify.ensures ∙ ap (λ (ns : List Notify). get_or ns c.loop-i.i c.index-notify.result.now) (ap (λ (r : Runtime). r.notifies) c.state-in-loop-i.view_is ∙ c.loop-i.invariant.same.notifies) in
    let few : c.in-Ok.count ≤ 1000000 = ran_few c.args.map.now.entries c.args.sp c.in-Ok.count c.index-notify.result.now c.loop-i.state c.run_function.new.state c.in-Ok.ensures.gives in
    let so_far = c.loop-i.invariant.few in
    record {
      left = returned c.args.map.now.entries c.args.sp c.loop-i.steps c.loop-i.i c.index-notify.result.now c.loop-i.state c.args.state.now (let below = c.loop-i-test.true in let count = c.count_of-i-end.ensures in omega (arith, below, count)) is c.loop-i.invariant.left c.in-Ok.count c.run_function.new.state c.in-Ok.ensures.gives;
      same = same_then _ _ _ c.loop-i.invariant.same c.in-Ok.ensures.same;
      layout = subst (λ (l : Layout). IsLayout l) (sym c.in-Ok.ensures.same.layout) c.loop-i.invariant.layout;
      accepted = accepted_then _ _ _ c.in-Ok.ensures.same c.loop-i.invariant.accepted;
      few = omega (arith, few, so_far);
      touched = λ at h. ran_keeps c.args.map.now.entries c.args.sp c.in-Ok.count c.index-notify.result.now c.loop-i.state c.run_function.new.state c.in-Ok.ensures.same c.in-Ok.ensures.gives at (c.loop-i.invariant.touched at h);
    }

pub returns-clause-gives : goal.returns-clause-gives
returns-clause-gives c = done c.args.map.now.entries c.args.sp c.loop-i.steps c.loop-i.i c.loop-i.state c.args.state.now.notifies c.args.state.now (let behind = c.loop-i-test.false in let count = c.count_of-i-end.ensures in omega (arith, behind, count)) c.loop-i.invariant.left
