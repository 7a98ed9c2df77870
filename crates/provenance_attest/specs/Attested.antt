-- What a check of a driver and its certificate comes to.
use Rattle.std.specs.Prelude.{ℕ, ◌≡◌, Bool, List, Option, Some, None}
use Rattle.virtual_map.specs.States.{Runtime}
use Rattle.prov_cert.specs.Cert.{Plain}
use Rattle.provenance_check.specs.declared.rule.Rule.{Rule}
use Rattle.provenance_check.specs.Notified.{AreMarksOfEach}
use Rattle.provenance_tables.specs.Regions.{kept_with}
use Rattle.provenance_attest.specs.declared.checking.Verdict.{Verdict}
use Rattle.provenance_attest.specs.declared.checking.Verdict.TheVariants.{Yes, No}
use Rattle.provenance_attest.specs.Grounds.{AreReaches, Reaches}
use Rattle.provenance_attest.specs.Rules.{first_of_rules, or_else}
use Rattle.provenance_attest.specs.Frames.{frames_of, marked, marks_with}

-- The first of all rules that fails, with its number: Frames is the last of them.
abbrev pub first_fails : Runtime → (handle : ℕ) → Plain → (marks : List (List Bool)) → Reaches → Option (Rule × ℕ)
first_fails r handle cert marks m = or_else (first_of_rules r handle cert marks m) (frames_of r cert (kept_with handle r.kept))

abbrev pub verdict_of : Option (Rule × ℕ) → Verdict
verdict_of None = Yes
verdict_of (Some (rule, n)) = No rule n

-- A yes touches the pages of the driver's regions, a no changes nothing.
abbrev pub state_by : Runtime → (handle : ℕ) → Plain → Verdict → Runtime
state_by r handle cert Yes = marked r (marks_with r cert (kept_with handle r.kept))
state_by r handle cert (No rule n) = r

-- Yes exactly where no rule fails, and else no with the first that does.
pub record Attests (r r2 : Runtime) (handle : ℕ) (cert : Plain) (verdict : Verdict) : Type 0 where
  pub marks : List (List Bool)
  pub are_marks : AreMarksOfEach cert.nodes cert.notify marks
  pub reaches : Reaches
  pub are_reaches : AreReaches cert reaches
  pub first : verdict ≡ verdict_of (first_fails r handle cert marks reaches)
  pub state : r2 ≡ state_by r handle cert verdict
