use Rattle.std.proofs.Common.{sym}
use Rattle.firmware_core.proofs.PartLemmas.{whole_memory}
use Rattle.firmware_core.proofs.firmware.Firmware.at_query_mode.Goals as goal

pub invariant_of-self : goal.invariant_of-self
invariant_of-self c =
    let whole = rw (sym c.self-inside.view_is) at c.self.invariant.0 in
    (whole_memory _ _ c.runtime.view_is whole _ c.query_mode.ensures.base c.query_mode.ensures.pages, c.none-self-inside-inside.ensures _ _)
