use Rattle.std.proofs.Common.{◌∙◌, sym}
use Rattle.event_queue.proofs.Next.{next_low, next_none, next_below, next_here, next_some}
use Rattle.event_queue.proofs.queue.next_place.Goals as goal

pub returns-then-top-tpl-clause-none : goal.returns-then-top-tpl-clause-none
returns-then-top-tpl-clause-none c = next_low c.args.queue.now c.args.tpl c.args.top c.requires c.if-top-tpl.true

pub bounds-queue-place : goal.bounds-queue-place
bounds-queue-place c = next_below c.args.queue.now c.args.top c.in-Some.place (sym c.in-Some.is ∙ c.place_at.ensures)

pub returns-in-Some-clause-here : goal.returns-in-Some-clause-here
returns-in-Some-clause-here c = next_here c.args.queue.now c.args.top c.in-Some.place _ (sym c.in-Some.is ∙ c.place_at.ensures)

pub returns-in-Some-clause-some : goal.returns-in-Some-clause-some
returns-in-Some-clause-some c = next_some c.args.queue.now c.args.tpl c.args.top c.in-Some.place _ c.requires (sym c.in-Some.is ∙ c.place_at.ensures) c.if-top-tpl.false

pub returns-in-None-clause-none : goal.returns-in-None-clause-none
returns-in-None-clause-none c = next_none c.args.queue.now c.args.tpl c.args.top c.requires (sym c.in-None.is ∙ c.place_at.ensures) c.if-top-tpl.false
