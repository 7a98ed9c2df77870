-- The rules on a driver and its certificate: the first that fails, with its number.
use Rattle.std.specs.Prelude.{ℕ, zero, suc, ◌≡◌, ◌+◌, Bool, List, length, Option, Some, None, slice_get}
use Rattle.rv_step.specs.Exec.{Rights}
use Rattle.map_faults.specs.Grounds.{Kept}
use Rattle.virtual_map.specs.States.{Runtime}
use Rattle.prov_cert.specs.Cert.{Plain}
use Rattle.provenance_check.specs.declared.rule.Rule.{Rule}
use Rattle.provenance_check.specs.Ground.{Ground}
use Rattle.provenance_check.specs.Notified.{AreMarksOfEach}
use Rattle.provenance_check.specs.Rules.{first_rule_of}
use Rattle.provenance_tables.specs.Regions.{kept_with, rights_in}
use Rattle.provenance_tables.specs.Tables.{first_in_tables}
use Rattle.provenance_attest.specs.Grounds.{AreReaches, Reaches, ground_of}

-- a rule that fails at a node, or what fails later
abbrev pub or_behind : Option Rule → ℕ → Option (Rule × ℕ) → Option (Rule × ℕ)
or_behind None n later = later
or_behind (Some rule) n later = Some (rule, n)

-- the first that fails at nodes from a number on, of so many
unfoldable pub first_among : (ℕ → Option Rule) → (i n : ℕ) → Option (Rule × ℕ)
first_among rule i zero = None
first_among rule i (suc n) = or_behind (rule i) i (first_among rule (i + 1) n)

-- the first rule that fails at a node, by its number
abbrev pub rule_at : Ground → Rights → ℕ → Option Rule
rule_at g allows n = first_rule_of g allows n (slice_get g.nodes n)

-- Node by node in their order, and at each in the order of the rules from Insn to Unconverted: the first rule that fails, with the
-- node's number.
abbrev pub first_in_nodes : Ground → Rights → Option (Rule × ℕ)
first_in_nodes g allows = first_among (rule_at g allows) 0 (length g.nodes)

abbrev pub or_else : Option (Rule × ℕ) → Option (Rule × ℕ) → Option (Rule × ℕ)
or_else None later = later
or_else (Some first) later = Some first

-- the first at the nodes of a driver that stays
abbrev pub nodes_of : Runtime → Plain → Reaches → Option Kept → Option (Rule × ℕ)
nodes_of r cert m None = None
nodes_of r cert m (Some image) = first_in_nodes (ground_of r image cert m) (rights_in r)

-- The rules from Phase to Notify come first, those of nodes behind them.
unfoldable pub first_of_rules : Runtime → (handle : ℕ) → Plain → (marks : List (List Bool)) → Reaches → Option (Rule × ℕ)
first_of_rules r handle cert marks m = or_else (first_in_tables r handle cert marks) (nodes_of r cert m (kept_with handle r.kept))

-- What the rules from Phase to Unconverted come to: the first that fails, or none.
pub record RulesGive (r : Runtime) (handle : ℕ) (cert : Plain) (answer : Option (Rule × ℕ)) : Type 0 where
  pub marks : List (List Bool)
  pub are_marks : AreMarksOfEach cert.nodes cert.notify marks
  pub reaches : Reaches
  pub are_reaches : AreReaches cert reaches
  pub first : answer ≡ first_of_rules r handle cert marks reaches
