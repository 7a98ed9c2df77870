use Rattle.std.proofs.Common.{sym}
use Rattle.firmware_core.proofs.PartLemmas.{whole_memory}
use Rattle.firmware_core.proofs.firmware.Firmware.wait_called.Goals as goal

pub invariant_of-self : goal.invariant_of-self
invariant_of-self c =
    let whole = rw (sym c.self-inside.view_is) at c.self.invariant.0 in
    let after = whole_memory _ _ c.runtime.view_is whole _ c.wait_for_event.ensures.base c.wait_for_event.ensures.pages in
    (record { runtime = after.runtime; pool = after.pool; clock = after.clock }, c.none-self-inside-inside.ensures _ _)
