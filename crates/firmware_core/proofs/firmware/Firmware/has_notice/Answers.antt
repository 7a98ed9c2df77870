use Rattle.std.proofs.Common.{sym, ◌∙◌}
use Rattle.firmware_core.proofs.TurnLemmas.{notified_some}
use Rattle.firmware_core.proofs.firmware.Firmware.has_notice.Goals as goal

pub returns : goal.returns
returns c = rw (← c.self.view_is) (rw (← c.self-inside.view_is) (c.has_next.ensures ∙ sym (notified_some _ _)))
