use Rattle.std.proofs.Common.{sym}
use Rattle.firmware_core.proofs.PartLemmas.{whole_pages, same_pool}
use Rattle.firmware_core.proofs.firmware.Firmware.at_free_pages.Goals as goal

pub invariant_of-self : goal.invariant_of-self
invariant_of-self c =
    let whole = rw (sym c.self-inside.view_is) at c.self.invariant.0 in
    (whole_pages _ _ c.runtime.view_is whole _ _ _ c.free_pages.ensures.same (c.free_pages.ensures.together _ c.whole-2.ensures (same_pool _ _ c.runtime.view_is whole c.runtime.inside.memory)), c.none-self-inside-inside.ensures _ _)
