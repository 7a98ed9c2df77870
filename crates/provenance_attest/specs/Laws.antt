-- What is so of a driver and its certificate where no rule fails.
use Rattle.std.specs.Prelude.{ℕ, ◌≡◌, ◌+◌, ◌<◌, ◌≤◌, ◌⊎◌, ◌↔◌, Bool, true, List, Some, None, length, slice_get}
use Rattle.uh_base.specs.Limits.{frame_limit}
use Rattle.guest_memory.specs.Lists.{count_true}
use Rattle.guest_memory.specs.Pages.{Pages, is_touched}
use Rattle.virtual_map.specs.States.{Runtime}
use Rattle.map_transition.specs.Wholes.{Whole}
use Rattle.prov_cert.specs.Cert.{Node, Plain}
use Rattle.prov_cert.specs.Kept.{IsCert}
use Rattle.provenance_check.specs.Rules.{first_rule}
use Rattle.provenance_tables.specs.Regions.{kept_with, lens_of, rights_in, starts_of}
use Rattle.provenance_tables.specs.Passed.{Stands}
use Rattle.provenance_attest.specs.Grounds.{CanBeJudged, Reaches, ground_of}
use Rattle.provenance_attest.specs.Frames.{AreInRam, marks_with, page_at, with_regions}
use Rattle.provenance_attest.specs.Attested.{first_fails}

-- The driver stands as the rules from Phase to Notify say; its regions are in RAM; no rule of a node fails; and there are frames for
-- its pages.
pub record AllPass (r : Runtime) (handle : ℕ) (cert : Plain) (marks : List (List Bool)) (m : Reaches) : Type 0 where
  pub stands : Stands r handle cert marks
  pub judged : CanBeJudged r stands.image cert
  pub regions : AreInRam r.memory.base r.memory.pages (starts_of r stands.image cert.regions) (lens_of stands.image cert.regions)
  pub nodes : (number : ℕ) (node : Node) → slice_get cert.nodes number ≡ Some node → first_rule (ground_of r stands.image cert m) (rights_in r) number node ≡ None
  pub frames : count_true (marks_with r cert (kept_with handle r.kept)) ≤ frame_limit

abbrev pub NoneFailsAllPass : Type 0
NoneFailsAllPass = (r : Runtime) (handle : ℕ) (cert : Plain) (marks : List (List Bool)) (m : Reaches) → Whole r → IsCert cert → first_fails r handle cert marks m ≡ None → AllPass r handle cert marks m

-- a page, counted from that of RAM's base, has a byte of a region
pub record HasByte (base : ℕ) (starts lens : List ℕ) (page : ℕ) : Type 0 where
  pub region : ℕ
  pub start : ℕ
  pub len : ℕ
  pub offset : ℕ
  pub begins : slice_get starts region ≡ Some start
  pub long : slice_get lens region ≡ Some len
  pub inside : offset < len
  pub there : page_at base (start + offset) ≡ page

-- With the pages of regions touched, a page is touched exactly where it was or has a byte of a region.
abbrev pub TouchedHaveBytes : Type 0
TouchedHaveBytes = (m : Pages) (starts lens : List ℕ) (page : ℕ) → length m.touched ≡ m.pages → AreInRam m.base m.pages starts lens → page < m.pages
    → (is_touched (record m { touched = with_regions m.base m.touched starts lens }) page ≡ true) ↔ ((is_touched m page ≡ true) ⊎ HasByte m.base starts lens page)
