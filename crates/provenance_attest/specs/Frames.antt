-- The pages that a checked driver needs: those in which its regions lie.
use Rattle.std.specs.Prelude.{ℕ, ◌≡◌, ◌+◌, ◌-◌, ◌*◌, ◌/◌, ◌≤◌, ◌==◌, nat_lt, Bool, true, List, ◌∷◌, Option, Some, None, if◌then◌else◌}
use Rattle.uh_base.specs.Limits.{frame_limit}
use Rattle.guest_memory.specs.Lists.{count_true, filled}
use Rattle.guest_memory.specs.Changes.{TouchedBesides}
use Rattle.map_faults.specs.Grounds.{Kept}
use Rattle.virtual_map.specs.States.{Runtime}
use Rattle.prov_cert.specs.Cert.{Plain}
use Rattle.provenance_check.specs.declared.rule.Rule.{Rule}
use Rattle.provenance_check.specs.declared.rule.Rule.TheVariants as rules
use Rattle.provenance_tables.specs.Regions.{lens_of, starts_of}

-- the page of an address, counted from that of RAM's base
abbrev pub page_at : (base at : ℕ) → ℕ
page_at base at = (at - base) / 4096

-- how many pages so many bytes from an address on lie in
abbrev pub pages_in : (base at len : ℕ) → ℕ
pages_in base at len = if len == 0 then 0 else page_at base (at + len - 1) - page_at base at + 1

-- the touched marks of RAM, with those of the pages in which so many bytes lie
abbrev pub with_pages : (base : ℕ) → List Bool → (at len : ℕ) → List Bool
with_pages base marks at len = filled marks (page_at base at) (pages_in base at len) true

-- the same with the pages of all regions, by where each begins and how long it is
unfoldable pub with_regions : (base : ℕ) → List Bool → (starts lens : List ℕ) → List Bool
with_regions base marks (start ∷ starts) (len ∷ lens) = with_regions base (with_pages base marks start len) starts lens
with_regions base marks starts lens = marks

-- so many bytes lie in a RAM of so many pages from an address on
pub record IsInRam (base pages at len : ℕ) : Type 0 where
  pub low : base ≤ at
  pub high : at + len ≤ base + 4096 * pages

abbrev pub AreInRam : (base pages : ℕ) → (starts lens : List ℕ) → Type 0
AreInRam base pages (start ∷ starts) (len ∷ lens) = IsInRam base pages start len × AreInRam base pages starts lens
AreInRam base pages starts lens = Unit {0}

-- the touched marks of a state, with those of the pages of a driver's regions
abbrev pub marks_with : Runtime → Plain → Option Kept → List Bool
marks_with r cert None = r.memory.touched
marks_with r cert (Some image) = with_regions r.memory.base r.memory.touched (starts_of r image cert.regions) (lens_of image cert.regions)

-- a number of touched pages, where there are fewer frames
abbrev pub beyond : ℕ → Option ℕ
beyond pages = if nat_lt frame_limit pages then Some pages else None

abbrev pub frames_rule : Option ℕ → Option (Rule × ℕ)
frames_rule None = None
frames_rule (Some pages) = Some (rules.Frames, pages)

-- Frames: there are frames for all pages that are touched once those of the driver's regions are. It fails with the number of these
-- pages.
abbrev pub frames_of : Runtime → Plain → Option Kept → Option (Rule × ℕ)
frames_of r cert image = frames_rule (beyond (count_true (marks_with r cert image)))

-- a state with other touched marks
abbrev pub marked : Runtime → List Bool → Runtime
marked r marks = record r { memory = record r.memory { touched = marks } }

-- the state behind a count of pages: where there are frames for them they are touched
abbrev pub marked_unless : Runtime → List Bool → Option ℕ → Runtime
marked_unless r marks None = marked r marks
marked_unless r marks (Some pages) = r

-- A reserve of pages gives how many pages would be touched, where these are more than there are frames, and leaves the state; else
-- they are touched.
pub record Reserves (r r2 : Runtime) (marks : List Bool) (pages : Option ℕ) : Type 0 where
  pub fails : pages ≡ beyond (count_true marks)
  pub state : r2 ≡ marked_unless r marks pages

-- at most pages of memory are touched
pub record OnlyTouches (r r2 : Runtime) : Type 0 where
  pub rest : r2 ≡ record r { memory = r2.memory }
  pub memory : TouchedBesides r.memory r2.memory
