use Rattle.std.proofs.Common.{◌+◌, ◌<◌, ◌≤◌, length, sym, arith}
use Rattle.std.proofs.lemmas.Result.{err_from_is_err_and}
use Rattle.std.proofs.lemmas.List.Edits.{length-between}
use Rattle.base_reloc.proofs.MarkLemmas.{room_found, room_refused, room_kept, room_fits, stops, marked_now, width_low}
use Rattle.base_reloc.proofs.reading.keep_entry.Goals as goal

pub returns-in_err-find_room-in-Moved-clause-kept : goal.returns-in_err-find_room-in-Moved-clause-kept
returns-in_err-find_room-in-Moved-clause-kept c =
    let p = err_from_is_err_and c.from_residual.result c.from_residual.ensures.1 in
    rw (p.1, p.2, c.in-Moved.is) (stops _ _ (room_refused c.args.sites.now.items c.args.marks.now c.args.at _ c.args.index _ _ c.requires.marked (omega (arith, width_low c.in-Moved.kind)) (rw c.width-width.ensures at (sym c.in_err-find_room-in-Moved.ensures))))

pub returns-in-Unmoved-clause-kept : goal.returns-in-Unmoved-clause-kept
returns-in-Unmoved-clause-kept c = rw c.in-Unmoved.is (room_kept c.args.sites.now.items c.args.marks.now c.args.at 4 c.args.index c.find_room.result c.requires.marked (omega arith) c.find_room.ensures)

pub returns-in_ok-push-in-Moved-clause-kept : goal.returns-in_ok-push-in-Moved-clause-kept
returns-in_ok-push-in-Moved-clause-kept c =
    rw (c.in-Moved.is, c.in_ok-push-in-Moved.ensures.items) (room_found c.args.sites.now.items c.args.marks.now c.args.at _ c.args.index _ c.requires.marked (omega (arith, width_low c.in-Moved.kind)) (rw c.width-width.ensures at (sym c.in_ok-find_room-in-Moved.ensures))).0

pub returns-in_ok-push-in-Moved-clause-marked : goal.returns-in_ok-push-in-Moved-clause-marked
returns-in_ok-push-in-Moved-clause-marked c =
    let wide : 0 < c.width-width.result = omega (arith, width_low c.in-Moved.kind, c.width-width.ensures) in
    let fits : c.args.at + c.width-width.result ≤ length c.args.marks.now = room_fits c.args.sites.now.items c.args.marks.now c.args.at c.width-width.result c.args.index c.requires.marked wide (sym c.in_ok-find_room-in-Moved.ensures) in
    rw c.in_ok-push-in-Moved.ensures.items (marked_now c.args.sites.now.items c.args.marks.now c.fill.new.self c.in-Moved.kind c.args.at c.width-width.result _ c.requires.marked c.width-width.ensures fits (length-between c.args.marks.now c.args.at (c.args.at + c.width-width.result) fits) (c.fill.ensures.after (λ y is. is)))
