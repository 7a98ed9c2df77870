use Rattle.std.proofs.Common.{◌≡◌, ◌-◌, suc, zero, arith, refl, sym}
use Rattle.guest_memory.specs.Pages.{bytes_of}
use Rattle.address_view.specs.Windows.{see, seen_bytes}
use Rattle.runtime_services.specs.Inputs.{string_from, string_test}
use Rattle.runtime_services.proofs.InputLemmas.{begins, stops, ends, goes_on, runs_out}
use Rattle.runtime_services.proofs.input.units_at.Goals as goal

pub loop-left-init : goal.loop-left-init
loop-left-init c = begins c.new-units.result.items (string_from (string_test c.args.written (see c.args.view.now) c.args.memory.now) (seen_bytes (see c.args.view.now) (bytes_of c.args.memory.now)) 4096 c.args.at) c.new-units.ensures.items

pub returns-then-not-unit_passes : goal.returns-then-not-unit_passes
returns-then-not-unit_passes c =
    let some = c.loop-left-test.true in
    let n : c.loop-left.left ≡ suc (c.loop-left.left - 1) = omega arith in
    stops _ _ _ _ _ _ _ n c.loop-left.invariant (sym c.if-not-unit_passes.ensures)

pub returns-then-unit-eq0 : goal.returns-then-unit-eq0
returns-then-unit-eq0 c =
    let some = c.loop-left-test.true in
    let n : c.loop-left.left ≡ suc (c.loop-left.left - 1) = omega arith in
    ends _ _ _ _ _ _ _ n c.loop-left.invariant _ (sym c.if-not-unit_passes.ensures) c.number_slowly-unit.ensures.value c.if-unit-eq0.true

pub loop-left-preserved : goal.loop-left-preserved
loop-left-preserved c =
    let some = c.loop-left-test.true in
    let n : c.loop-left.left ≡ suc (c.loop-left.left - 1) = omega arith in
    goes_on _ _ _ _ _ _ _ n c.loop-left.invariant _ _ _ (sym c.if-not-unit_passes.ensures) c.number_slowly-unit.ensures.value c.if-unit-eq0.false refl c.in_ok-push.ensures.items

pub returns : goal.returns
returns c =
    let over = c.loop-left-test.false in
    let n : c.loop-left.left ≡ zero = omega arith in
    runs_out _ _ _ _ _ _ n c.loop-left.invariant
