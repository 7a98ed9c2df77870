use Rattle.std.proofs.Common.{sym, rules}
use Rattle.host_engine.proofs.CompleteLemmas.{completes}
use Rattle.host_engine.proofs.host.host_main.Goals as goal

pub returns : goal.returns
returns g c = record {
  gives = search rules;
  complete = rw (sym c.in-Some.ensures) (λ files told read. rw c.of-status.ensures (completes files _ _ _ told read c.obey-answer.result c.obey-answer.ensures));
}
