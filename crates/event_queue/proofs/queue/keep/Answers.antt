use Rattle.std.proofs.Common.{rules}
use Rattle.std.proofs.lemmas.Fn.{filter_same}
use Rattle.event_queue.specs.Queue.{is_kept}
use Rattle.event_queue.proofs.queue.keep.Goals as goal

pub returns-clause-kept : goal.returns-clause-kept
returns-clause-kept c = filter_same _ (is_kept c.args.group.now) _ (λ x b f' k. search rules) _ _ c.retain.ensures.filtered
