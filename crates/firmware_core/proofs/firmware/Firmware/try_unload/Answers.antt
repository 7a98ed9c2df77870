use Rattle.firmware_core.proofs.firmware.Firmware.try_unload.Goals as goal

pub invariant_of-self : goal.invariant_of-self
invariant_of-self c = (record { runtime = c.unload_image.ensures.ram; pool = c.unload_image.ensures.together; clock = c.self.invariant.0.clock }, c.none-self-inside.ensures _ _)
