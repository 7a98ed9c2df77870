use Rattle.std.proofs.Common.{◌≡◌, take}
use Rattle.std.specs.Prelude.{map}
use Rattle.std.specs.List.{filter}
use Rattle.std.specs.Option.{option_copied}
use Rattle.handle_db.specs.Database.{Handle, supports}
use Rattle.handle_db.proofs.handles.Handles.handles_of.Given as goal

abbrev pub invariant-loop-live : goal.invariant-loop-live
invariant-loop-live l = l.handles.items ≡ map (λ (h : Handle). h.number) (filter (supports (option_copied l.guid)) (take l.live-index l.live-items))
