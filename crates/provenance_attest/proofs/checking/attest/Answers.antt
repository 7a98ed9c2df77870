use Rattle.provenance_attest.proofs.Judging.{stands_then, touched_whole}
use Rattle.provenance_attest.proofs.checking.attest.Goals as goal

pub touch_or_refuse-requires-clause-stands : goal.touch_or_refuse-requires-clause-stands
touch_or_refuse-requires-clause-stands c = stands_then c.args.state.now c.args.handle c.args.cert.now c.in_ok-rule.field-0 c.requires.cert c.none_fails_stands.ensures c.in_ok-rule.ensures c.in-None.is

pub returns-in-None-clause-whole : goal.returns-in-None-clause-whole
returns-in-None-clause-whole c = touched_whole c.args.state.now c.touch_or_refuse.new.state c.whole_stays.ensures c.requires.whole c.touch_or_refuse.ensures.only
