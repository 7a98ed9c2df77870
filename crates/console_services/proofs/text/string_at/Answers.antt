use Rattle.std.proofs.Common.{◌≡◌, ◌-◌, ◌+◌, [], zero, suc, arith, refl}
use Rattle.console_services.specs.Strings.{string_at}
use Rattle.console_services.proofs.StringLemmas.{stops, ends, goes_on, runs_out, none_seen, begins}
use Rattle.console_services.proofs.text.string_at.Goals as goal

pub loop-i-init : goal.loop-i-init
loop-i-init c = record {
  rest = begins c.new-units.result.items (string_at 4096 c.args.view.now c.args.memory.now c.args.at) c.new-units.ensures.items;
  part = none_seen c.args.view.now c.args.memory.now c.args.at [] refl;
}

pub returns-in-None : goal.returns-in-None
returns-in-None c =
    let k : 4096 - c.loop-i.i ≡ suc (4096 - (c.loop-i.i + 1)) = omega arith in
    stops _ _ _ _ _ _ _ k c.loop-i.invariant.rest c.in-None.ensures.unit

pub returns-then-unit-eq0 : goal.returns-then-unit-eq0
returns-then-unit-eq0 c =
    let k : 4096 - c.loop-i.i ≡ suc (4096 - (c.loop-i.i + 1)) = omega arith in
    ends _ _ _ _ _ _ _ k c.loop-i.invariant.rest _ c.if-unit-eq0.true c.in-Some.ensures.unit

pub loop-i-preserved : goal.loop-i-preserved
loop-i-preserved c =
    let k : 4096 - c.loop-i.i ≡ suc (4096 - (c.loop-i.i + 1)) = omega arith in
    record {
      rest = goes_on _ _ _ _ _ _ _ k c.loop-i.invariant.rest _ _ _ c.in-Some.ensures.unit c.if-unit-eq0.false refl c.in_ok-push.ensures.items;
      part = c.in-Some.ensures.later;
    }

pub returns : goal.returns
returns c =
    let k : 4096 - c.loop-i.i ≡ zero = omega arith in
    runs_out _ _ _ _ _ _ k c.loop-i.invariant.rest
