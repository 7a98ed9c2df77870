use Rattle.std.proofs.Common.{◌≡◌, drop}
use Rattle.record_text.specs.Causes.{cause_in}
use Rattle.record_text.proofs.cause.cause_in.Given as goal

abbrev pub invariant-loop-cause : goal.invariant-loop-cause
invariant-loop-cause l = cause_in (drop l.cause-index l.causes) l.word ≡ cause_in l.causes l.word
