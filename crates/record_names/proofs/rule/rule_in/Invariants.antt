use Rattle.std.proofs.Common.{◌≡◌, drop}
use Rattle.record_names.specs.Rules.{rule_in}
use Rattle.record_names.proofs.rule.rule_in.Given as goal

abbrev pub invariant-loop-rule : goal.invariant-loop-rule
invariant-loop-rule l = rule_in (drop l.rule-index l.rules) l.word ≡ rule_in l.rules l.word
