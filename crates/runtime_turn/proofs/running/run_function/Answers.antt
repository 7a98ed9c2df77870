use Rattle.std.proofs.Common.{subst, List, ℕ}
use Rattle.page_alloc.specs.declared.layout.Layout.{Layout}
use Rattle.runtime_turn.specs.Functions.{RunEnds, registers_for, most_steps}
use Rattle.runtime_turn.proofs.RunLemmas.{whole_run}
use Rattle.runtime_turn.proofs.running.run_function.Goals as goal

pub returns-clause-gives : goal.returns-clause-gives
returns-clause-gives c =
    let ran : RunEnds c.run_on.result most_steps c.args.map.now.entries (registers_for c.layout_of-layout.result c.args.sp c.args.notify) c.args.notify.function c.args.state.now c.run_on.new.state
    = subst (λ (x : List ℕ). RunEnds c.run_on.result most_steps c.args.map.now.entries x c.args.notify.function c.args.state.now c.run_on.new.state) c.registers_for.ensures c.run_on.ensures.gives in
    whole_run c.run_on.result c.args.map.now.entries c.args.sp c.args.notify c.args.state.now c.run_on.new.state
    (subst (λ (l : Layout). RunEnds c.run_on.result most_steps c.args.map.now.entries (registers_for l c.args.sp c.args.notify) c.args.notify.function c.args.state.now c.run_on.new.state) c.layout_of-layout.ensures ran)
