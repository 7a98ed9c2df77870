use Rattle.std.proofs.Common.{◌≡◌, take}
use Rattle.handle_db.proofs.handles.Handles.copy.Given as goal

abbrev pub invariant-loop-live : goal.invariant-loop-live
invariant-loop-live l = l.copies.items ≡ take l.live-index l.live-items
