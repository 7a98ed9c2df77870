use Rattle.std.proofs.Common.{sym, arith}
use Rattle.firmware_core.proofs.PartLemmas.{whole_memory}
use Rattle.firmware_core.proofs.firmware.Firmware.wait_notified.Goals as goal

pub invariant_of-self : goal.invariant_of-self
invariant_of-self c =
    let whole = rw (sym c.self-inside.view_is) at c.self.invariant.0 in
    let after = whole_memory _ _ c.runtime.view_is whole _ c.wait_for_signal.ensures.base c.wait_for_signal.ensures.pages in
    let before = whole.clock in
    let later = c.wait_for_signal.ensures.later in
    (record { runtime = after.runtime; pool = after.pool; clock = omega (arith, before, later) }, c.none-self-inside-inside.ensures _ _)
