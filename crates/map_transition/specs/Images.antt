-- Runtime drivers that stay when boot services end.
use Rattle.std.specs.Prelude.{ℕ, ◌≡◌, ◌≢◌, ◌≤◌, ◌<◌, ◌+◌, ◌*◌, true, length}
use Rattle.std.specs.List.{All}
use Rattle.base_reloc.specs.declared.site.Site.{Site}
use Rattle.base_reloc.specs.Sites.{AreSites, end_of}
use Rattle.guest_memory.specs.Pages.{Pages, touched_at}
use Rattle.map_faults.specs.Grounds.{Kept, IsKept}
use Rattle.map_faults.specs.Rules.{behind}

-- all pages from one address to another are touched
abbrev pub AreTouched : Pages → ℕ → ℕ → Type 0
AreTouched m from to = (at : ℕ) → from ≤ at → at < to → touched_at m at ≡ true

-- Two images have different handles, and share no page.
pub record AreApart (a b : Kept) : Type 0 where
  pub handles : a.handle ≢ b.handle
  pub pages : (at : ℕ) → a.base ≤ at → at < behind a.base a.pages → b.base ≤ at → at < behind b.base b.pages → ⊥

-- The sites of an image lie in its pages, and no two share a byte. They are as many as its words and its marks, and their
-- pages are touched.
pub record HasSites (m : Pages) (image : Kept) : Type 0 where
  pub sites : AreSites (4096 * image.pages) image.sites
  pub words : IsKept image
  pub marks : length image.same ≡ length image.sites
  pub touched : All (λ (site : Site). AreTouched m (image.base + site.at) (image.base + end_of site)) image.sites
