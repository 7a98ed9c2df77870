use Rattle.std.proofs.Common.{◌∙◌, ap, ℕ}
use Rattle.std.specs.Prelude.{nat_lt, is_some}
use Rattle.event_queue.specs.Queue.{EventList, next_entry}
use Rattle.event_queue.proofs.LawLemmas.{has_next}
use Rattle.event_queue.proofs.events.Events.has_next.Goals as goal

pub returns : goal.returns
returns c =
    ap (λ (n : ℕ). nat_lt n c.self.inside.top) c.from.ensures
    ∙ (has_next c.self.inside.queue.items c.args.tpl c.self.inside.top c.self.invariant.3
    ∙ ap (λ (s : EventList). is_some (next_entry s.queue c.args.tpl)) c.self.view_is)
