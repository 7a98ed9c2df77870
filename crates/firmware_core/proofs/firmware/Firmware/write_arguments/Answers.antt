use Rattle.firmware_core.proofs.PartLemmas.{whole_memory}
use Rattle.firmware_core.proofs.firmware.Firmware.write_arguments.Goals as goal

pub invariant_of-self : goal.invariant_of-self
invariant_of-self c =
    (whole_memory _ _ c.runtime.view_is c.self.invariant.0 _ c.write_buffers.ensures.base c.write_buffers.ensures.pages, c.none-self-inside.ensures _ _)
