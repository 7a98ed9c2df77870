-- The words of rules are read back, and are words.
use Rattle.std.proofs.Common.{◌≡◌, Some, refl}
use Rattle.record_names.specs.Rules.{rule_name, rule_of}
use Rattle.record_names.specs.Words.{IsWord}
use Rattle.record_names.specs.declared.rule.Rule.{Rule}
use Rattle.record_names.specs.declared.rule.Rule.TheVariants as rules

pub rule_back : (rule : Rule) → rule_of (rule_name rule) ≡ Some rule
unfolding rule_of
rule_back rules.Phase = refl
rule_back rules.Region = refl
rule_back rules.Span = refl
rule_back rules.Data = refl
rule_back rules.Entry = refl
rule_back rules.Notify = refl
rule_back rules.Insn = refl
rule_back rules.Site = refl
rule_back rules.Load = refl
rule_back rules.Store = refl
rule_back rules.Jump = refl
rule_back rules.Exit = refl
rule_back rules.Convert = refl
rule_back rules.Edge = refl
rule_back rules.Order = refl
rule_back rules.Unconverted = refl
rule_back rules.Frames = refl

pub rule_is_word : (rule : Rule) → IsWord (rule_name rule)
rule_is_word rules.Phase = refl
rule_is_word rules.Region = refl
rule_is_word rules.Span = refl
rule_is_word rules.Data = refl
rule_is_word rules.Entry = refl
rule_is_word rules.Notify = refl
rule_is_word rules.Insn = refl
rule_is_word rules.Site = refl
rule_is_word rules.Load = refl
rule_is_word rules.Store = refl
rule_is_word rules.Jump = refl
rule_is_word rules.Exit = refl
rule_is_word rules.Convert = refl
rule_is_word rules.Edge = refl
rule_is_word rules.Order = refl
rule_is_word rules.Unconverted = refl
rule_is_word rules.Frames = refl
