-- The words of rules.
use Rattle.std.specs.Prelude.{ℕ, List, [], ◌∷◌, codes, Option, Some, None, if◌then◌else◌}
use Rattle.std.specs.Str.{bytes_eq}
use Rattle.record_names.specs.declared.rule.Rule.{Rule}
use Rattle.record_names.specs.declared.rule.Rule.TheVariants as rules

abbrev pub rule_name : Rule → List ℕ
rule_name rules.Phase = codes "Phase"
rule_name rules.Region = codes "Region"
rule_name rules.Span = codes "Span"
rule_name rules.Data = codes "Data"
rule_name rules.Entry = codes "Entry"
rule_name rules.Notify = codes "Notify"
rule_name rules.Insn = codes "Insn"
rule_name rules.Site = codes "Site"
rule_name rules.Load = codes "Load"
rule_name rules.Store = codes "Store"
rule_name rules.Jump = codes "Jump"
rule_name rules.Exit = codes "Exit"
rule_name rules.Convert = codes "Convert"
rule_name rules.Edge = codes "Edge"
rule_name rules.Order = codes "Order"
rule_name rules.Unconverted = codes "Unconverted"
rule_name rules.Frames = codes "Frames"

-- the first of some rules with a word
abbrev pub rule_in : List Rule → List ℕ → Option Rule
rule_in [] word = None
rule_in (rule ∷ others) word = if bytes_eq (rule_name rule) word then Some rule else rule_in others word

abbrev pub all_rules : List Rule
all_rules =
    rules.Phase ∷ rules.Region ∷ rules.Span ∷ rules.Data ∷ rules.Entry ∷ rules.Notify ∷ rules.Insn ∷ rules.Site ∷ rules.Load ∷ rules.Store ∷ rules.Jump ∷ rules.Exit ∷ rules.Convert ∷ rules.Edge ∷ rules.Order ∷ rules.Unconverted ∷ rules.Frames ∷ []

-- the rule of a word
unfoldable pub rule_of : List ℕ → Option Rule
rule_of word = rule_in all_rules word
