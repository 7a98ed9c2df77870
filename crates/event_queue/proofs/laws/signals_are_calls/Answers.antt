use Rattle.event_queue.proofs.CallLemmas.{signals_are_calls}
use Rattle.event_queue.proofs.laws.signals_are_calls.Goals as goal

pub returns : goal.returns
returns c = signals_are_calls
