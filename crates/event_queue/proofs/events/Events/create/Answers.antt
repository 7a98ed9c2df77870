use Rattle.std.proofs.Common.{◌∙◌, sym}
use Rattle.event_queue.proofs.Wholes.{request_level}
use Rattle.event_queue.proofs.events.Events.create.Goals as goal

pub add-requires-clause-level : goal.add-requires-clause-level
add-requires-clause-level c = request_level c.args.kind c.args.tpl c.args.function c.args.group (sym c.is_request.ensures ∙ c.if-not-is_request.false)
