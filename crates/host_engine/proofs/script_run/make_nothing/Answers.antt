use Rattle.std.proofs.Common.{[], arith}
use Rattle.host_engine.proofs.LineLemmas.{grown-nil}
use Rattle.host_engine.proofs.PutLemmas.{went}
use Rattle.host_engine.proofs.script_run.make_nothing.Goals as goal

pub returns-clause-puts : goal.returns-clause-puts
returns-clause-puts g c = went _ [] _ _ _ _ (grown-nil (g.O.Sink.written c.args.out.now)) (omega arith)
