use Rattle.std.proofs.Common.{sym}
use Rattle.firmware_core.proofs.PartLemmas.{whole_parts}
use Rattle.firmware_core.proofs.firmware.Firmware.at_protocols.Goals as goal

pub invariant_of-self : goal.invariant_of-self
invariant_of-self c =
    let whole = rw (sym c.self-inside.view_is) at c.self.invariant.0 in
    let after = whole_parts _ _ c.runtime.view_is whole _ _ _ c.serve_protocol.ensures.base c.serve_protocol.ensures.pages c.serve_protocol.ensures.map_base c.serve_protocol.ensures.map_pages c.serve_protocol.ensures.together in
    (record { runtime = after.runtime; pool = after.pool; clock = after.clock }, c.none-self-inside-inside.ensures _ _)
