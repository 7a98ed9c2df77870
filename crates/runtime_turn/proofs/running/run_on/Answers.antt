use Rattle.std.proofs.Common.{◌≡◌, ◌∙◌, sym, subst, refl, ap, ◌≤◌, arith}
use Rattle.std.specs.Prelude.{None}
use Rattle.map_faults.specs.Faults.{first_fault}
use Rattle.virtual_map.specs.States.{SameParts, Runtime}
use Rattle.runtime_turn.specs.Functions.{ground_of, most_steps, run_from}
use Rattle.runtime_turn.proofs.RunLemmas.{begins, went, returned, stopped, lacking, bound, same_refl, same_then, accepted_then}
use Rattle.runtime_turn.proofs.running.run_on.Goals as goal

pub loop-step-init : goal.loop-step-init
loop-step-init c = (begins c.args.map.now.entries c.args.regs.now.x c.args.regs.now.pc c.args.state.now, same_refl c.args.state.now, c.none-code.ensures _ _, c.requires.accepted)

pub returns-in-Returns-clause-gives : goal.returns-in-Returns-clause-gives
returns-in-Returns-clause-gives c =
    returned c.args.map.now.entries c.loop-step.regs.x c.loop-step.regs.pc c.loop-step.state c.args.regs.now.x c.args.regs.now.pc c.args.state.now c.loop-step.step _ _ _ c.loop-step-test.true c.loop-step.invariant.0 c.in-Returns.ensures.gives

pub returns-in-Halts-clause-gives : goal.returns-in-Halts-clause-gives
returns-in-Halts-clause-gives c =
    stopped c.args.map.now.entries c.loop-step.regs.x c.loop-step.regs.pc c.loop-step.state c.args.regs.now.x c.args.regs.now.pc c.args.state.now c.loop-step.step c.in-Halts.halt _ _ _ c.loop-step-test.true c.loop-step.invariant.0 c.in-Halts.ensures.gives

pub returns-in-Memory-clause-gives : goal.returns-in-Memory-clause-gives
returns-in-Memory-clause-gives c =
    lacking c.args.map.now.entries c.loop-step.regs.x c.loop-step.regs.pc c.loop-step.state c.args.regs.now.x c.args.regs.now.pc c.args.state.now c.loop-step.step c.loop-step-test.true c.loop-step.invariant.0 c.in-Memory.ensures.gives

pub loop-step-preserved : goal.loop-step-preserved
loop-step-preserved c = (
  went c.args.map.now.entries c.loop-step.regs.x c.loop-step.regs.pc c.loop-step.state c.args.regs.now.x c.args.regs.now.pc c.args.state.now c.loop-step.step _ _ _ c.loop-step-test.true c.loop-step.invariant.0 c.in-Goes.ensures.gives,
  same_then _ _ _ c.loop-step.invariant.1 c.in-Goes.ensures.same,
  c.in-Goes.ensures.code,
  accepted_then _ _ _ c.in-Goes.ensures.same c.loop-step.invariant.3,
)

pub returns-clause-gives : goal.returns-clause-gives
unfolding run_from
returns-clause-gives c =
    let l : most_steps ≤ c.loop-step.step = c.loop-step-test.false in
    bound c.args.map.now.entries c.loop-step.regs.x c.loop-step.regs.pc c.loop-step.state c.args.regs.now.x c.args.regs.now.pc c.args.state.now c.loop-step.step l c.loop-step.invariant.0
