use Rattle.std.proofs.Common.{sym}
use Rattle.firmware_core.proofs.PartLemmas.{whole_pages}
use Rattle.firmware_core.proofs.firmware.Firmware.at_allocate_pool.Goals as goal

pub invariant_of-self : goal.invariant_of-self
invariant_of-self c =
    let whole = rw (sym c.self-inside.view_is) at c.self.invariant.0 in
    (whole_pages _ _ c.runtime.view_is whole _ _ _ c.allocate_pool.ensures.same c.allocate_pool.ensures.together, c.none-self-inside-inside.ensures _ _)
