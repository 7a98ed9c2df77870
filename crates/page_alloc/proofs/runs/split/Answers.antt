use Rattle.std.proofs.Common.{◌+◌, arith}
use Rattle.page_alloc.proofs.SplitLemmas.{Parted, is_parted, room_to_part, Placed, placed, less_than_run}
use Rattle.page_alloc.proofs.runs.split.Goals as goal

pub unreachable-requires : goal.unreachable-requires
unreachable-requires c =
    let at : Placed c.args.runs.now.items c.args.index c.place_of-place.result.0 c.place_of-place.result.1
    = placed _ _ _ _ _ c.as_slice.ensures.value c.place_of-place.ensures.place c.place_of-place.ensures.part c.if-part-eq0.false in
    let room = room_to_part c.args.runs.now.items _ _ c.index-run.result.now c.requires.none_empty at.inside (omega arith) (less_than_run _ _ _ _ _ at c.index-run.ensures) c.index-run.ensures in
    let full = c.in-Err.ensures.full in
    let long = c.args.runs.now.ok in
    let enough = c.requires.room in
    omega (arith, room, full, long, enough)

parted_of : (c : goal.In-Ok) → Parted c.args.runs.now.items c.insert.new.self.items c.args.index (c.place_of-place.result.0 + 1)
parted_of c =
    let at : Placed c.args.runs.now.items c.args.index c.place_of-place.result.0 c.place_of-place.result.1
    = placed _ _ _ _ _ c.as_slice.ensures.value c.place_of-place.ensures.place c.place_of-place.ensures.part c.if-part-eq0.false in
    is_parted c.args.runs.now.items c.insert.new.self.items c.place_of-place.result.0 c.place_of-place.result.1 c.args.index c.index-run.result.now c.index_mut.result.now
    at.inside (omega arith) (less_than_run _ _ _ _ _ at c.index-run.ensures) c.index-run.ensures c.index_mut.ensures.value c.requires.none_empty at.there c.in-Ok.ensures.items

pub returns-clause-pages : goal.returns-clause-pages
returns-clause-pages c = (parted_of c).pages

pub returns-clause-none_empty : goal.returns-clause-none_empty
returns-clause-none_empty c = (parted_of c).none_empty

pub returns-clause-place : goal.returns-clause-place
returns-clause-place c = (parted_of c).begins

pub returns-clause-before : goal.returns-clause-before
returns-clause-before c = (parted_of c).before
