use Rattle.std.proofs.Common.{rules, refl}
use Rattle.boot_exit.proofs.RoomLemmas.{is_above, is_small, gives, touched}
use Rattle.boot_exit.proofs.room.make_room.Goals as goal

pub overflow_sub-page : goal.overflow_sub-page
overflow_sub-page c = is_above _ _ c.requires

pub overflow_cast-page : goal.overflow_cast-page
overflow_cast-page c = let h = is_small _ _ c.requires in search (rules, h)

pub returns-clause-gives : goal.returns-clause-gives
returns-clause-gives c = gives _ _ _ _ _ c.requires refl c.reserve.ensures.gives

pub returns-clause-touched : goal.returns-clause-touched
returns-clause-touched c = touched c.reserve.result _ _ _ _ c.requires refl c.reserve.ensures.touched
