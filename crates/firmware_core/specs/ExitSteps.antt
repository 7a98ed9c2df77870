-- The end of boot services that a host asks for in place of an image.
use Rattle.std.specs.Prelude.{ℕ, replicate, slice_set, Option, Some, None, Result, Ok, Err, if◌then◌else◌}
use Rattle.uh_base.specs.Statuses.{success, invalid_parameter, unsupported}
use Rattle.page_alloc.specs.declared.layout.Layout.{Layout}
use Rattle.boot_exit.specs.declared.refusal.ExitRefusal.{ExitRefusal}
use Rattle.firmware_core.specs.declared.frame.Phase.TheVariants.{Notified}
use Rattle.firmware_core.specs.Harts.{Hart}
use Rattle.firmware_core.specs.Parts.{Parts}
use Rattle.firmware_core.specs.BootEnd.{exit_address, exit_asked, with_exit}
use Rattle.firmware_core.specs.Turns.{State}

-- the status, and the machine behind it
pub record ExitDone : Type 0 where
  pub status : ℕ
  pub state : State

-- The hart stands at the slot of ExitBootServices, behind its begin: the stack is the boot stack, and every other register is 0.
abbrev pub exit_hart : Layout → ℕ → Hart
exit_hart layout tpl = record { x = slice_set (replicate 32 0) 2 layout.boot; pc = exit_address layout; phase = Notified; tpl = tpl }

-- The job that finishes it has a bound of 1,000,000 steps, for the notifications, and no code called it.
abbrev pub with_exit_job : State → Parts → State
with_exit_job s f = record { firmware = record f { hart = exit_hart f.runtime.layout f.hart.tpl }; steps = 0; bound = 1000000; trace = s.trace }

abbrev pub exit_comes_to : State → Result (Unit {0}) ExitRefusal → ExitDone
exit_comes_to s (Ok begun) = record { status = success; state = with_exit_job s (with_exit s.firmware (Ok begun)) }
exit_comes_to s (Err refusal) = record { status = invalid_parameter; state = s }

-- without a key the present one is taken
abbrev pub key_or : ℕ → Option ℕ → ℕ
key_or present None = present
key_or present (Some key) = key

unfoldable pub exited_at_boot : State → ℕ → Option ℕ → ExitDone
exited_at_boot s handle key = exit_comes_to s (exit_asked s.firmware handle (key_or s.firmware.runtime.pages.key key))

-- Boot services end once.
unfoldable pub exited : State → ℕ → Option ℕ → ExitDone
exited s handle key = if s.firmware.runtime.gone then record { status = unsupported; state = s } else exited_at_boot s handle key
