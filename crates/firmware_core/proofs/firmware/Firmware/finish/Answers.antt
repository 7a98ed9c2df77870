use Rattle.firmware_core.proofs.PartLemmas.{whole_memory}
use Rattle.firmware_core.proofs.firmware.Firmware.finish.Goals as goal

pub invariant_of-self : goal.invariant_of-self
invariant_of-self c =
    let after = whole_memory _ _ c.runtime.view_is c.self.invariant.0 _ c.finish_exit.ensures.base c.finish_exit.ensures.pages in
    (record { runtime = after.runtime; pool = after.pool; clock = after.clock }, c.none-self-inside.ensures _ _)

pub invariant_of-self-2 : goal.invariant_of-self-2
invariant_of-self-2 c =
    let after = whole_memory _ _ c.runtime.view_is c.self.invariant.0 _ c.finish_exit.ensures.base c.finish_exit.ensures.pages in
    (record { runtime = after.runtime; pool = after.pool; clock = after.clock }, c.none-self-inside.ensures _ _)
