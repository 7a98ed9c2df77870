use Rattle.std.proofs.Common.{◌-◌, refl, arith}
use Rattle.page_alloc.specs.Runs.{all_pages}
use Rattle.page_alloc.proofs.EditLemmas.{last_run, before_inside, none_before}
use Rattle.page_alloc.proofs.ScanLemmas.{Searched, step, none_left, none_below, found}
use Rattle.page_alloc.proofs.runs.highest_room.Goals as goal
use Rattle.page_alloc.proofs.runs.highest_room.Goals.{After-room_end-top}

pub overflow_sub-start : goal.overflow_sub-start
overflow_sub-start c = (last_run c.args.runs.now c.loop-place.place c.loop-place.start c.from-start.result _ c.loop-place-test.true c.loop-place.auto.place c.loop-place.invariant.front c.from-start.ensures).fits

searched_of : (c : After-room_end-top) → Searched (all_pages c.args.runs.now) c.args.count c.args.lowest c.args.limit (c.loop-place.start - c.from-start.result) c.room_end-top.result
searched_of c =
    let i = c.loop-place.invariant in
    let last = last_run c.args.runs.now c.loop-place.place c.loop-place.start c.from-start.result _ c.loop-place-test.true c.loop-place.auto.place i.front c.from-start.ensures in
    step c.args.runs.now c.args.count c.args.lowest c.args.limit c.loop-place.start c.loop-place.place c.from-start.result c.loop-place.top c.room_end-top.result _ c.requires.some c.requires.none_empty i.short last c.from-start.ensures i.searched c.room_end-top.ensures

pub returns-then-top-lowest : goal.returns-then-top-lowest
returns-then-top-lowest c = none_left _ _ _ _ _ _ c.if-top-lowest.true (searched_of (goal.at.returns-then-top-lowest c).After-room_end-top)

pub overflow_add-start : goal.overflow_add-start
overflow_add-start c =
    let i = c.loop-place.invariant in
    let few = c.requires.few in
    let fewer = c.requires.fewer in
    let front = i.front in
    let inside = before_inside c.args.runs.now c.loop-place.place in
    omega (arith, few, fewer, front, inside)

pub returns-then-top-start : goal.returns-then-top-start
returns-then-top-start c = found _ _ _ _ _ _ _ (omega arith) (omega arith) refl (searched_of (goal.at.returns-then-top-start c).After-room_end-top)

pub loop-place-preserved : goal.loop-place-preserved
loop-place-preserved c =
    let last = last_run c.args.runs.now c.loop-place.place c.loop-place.start c.from-start.result _ c.loop-place-test.true c.loop-place.auto.place c.loop-place.invariant.front c.from-start.ensures in
    record {
      searched = searched_of (goal.at.loop-place-preserved c).After-room_end-top;
      short = omega arith;
      front = last.front;
    }

pub returns : goal.returns
returns c =
    let i = c.loop-place.invariant in
    none_below _ _ _ _ _ _ (none_before c.args.runs.now c.loop-place.place c.loop-place.start c.loop-place-test.false i.front) i.short i.searched
