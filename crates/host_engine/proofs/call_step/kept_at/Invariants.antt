use Rattle.std.proofs.Common.{◌≡◌, drop}
use Rattle.host_engine.specs.ScriptRuns.{kept_at}
use Rattle.host_engine.proofs.call_step.kept_at.Given as goal

abbrev pub invariant-loop-image : goal.invariant-loop-image
invariant-loop-image l = kept_at (drop l.image-index l.kept) l.handle l.at ≡ kept_at l.kept l.handle l.at
