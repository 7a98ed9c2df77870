-- RaiseTPL and RestoreTPL (UEFI 2.10, sections 7.1.8 and 7.1.9), where `x` are the registers of the call and `tpl` is the
-- present task priority level.
use Rattle.std.specs.Prelude.{ℕ, ◌&&◌, nat_le, Bool, List, Option, Some, None, if◌then◌else◌}
use Rattle.guest_call.specs.Arguments.{argument}
use Rattle.event_services.specs.declared.level.LevelSet.{LevelSet}

-- the levels that code runs at: from TPL_APPLICATION, 4, to TPL_HIGH_LEVEL, 31
abbrev pub is_level : ℕ → Bool
is_level tpl = nat_le 4 tpl && nat_le tpl 31

-- RaiseTPL(new): the level becomes the new one, and the caller is given the old one. None, and the run halts, where the
-- new one is lower or is no level.
unfoldable pub raise_tpl : List ℕ → ℕ → Option LevelSet
raise_tpl x tpl = if is_level (argument 0 x) && nat_le tpl (argument 0 x) then Some (record { tpl = argument 0 x; value = tpl }) else None

-- RestoreTPL(old): the level becomes the old one, and the caller is given 0. None, and the run halts, where the old one
-- is higher or is no level.
unfoldable pub restore_tpl : List ℕ → ℕ → Option LevelSet
restore_tpl x tpl = if is_level (argument 0 x) && nat_le (argument 0 x) tpl then Some (record { tpl = argument 0 x; value = 0 }) else None
