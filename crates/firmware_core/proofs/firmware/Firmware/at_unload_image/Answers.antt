use Rattle.std.proofs.Common.{sym}
use Rattle.firmware_core.proofs.firmware.Firmware.at_unload_image.Goals as goal

pub invariant_of-self : goal.invariant_of-self
invariant_of-self c =
    let whole = rw (sym c.self-inside.view_is) at c.self.invariant.0 in
    (record { runtime = c.unload_image_of.ensures.ram; pool = c.unload_image_of.ensures.together; clock = whole.clock }, c.none-self-inside-inside.ensures _ _)
