-- Sites of a placed image, by the bytes that they have.
use Rattle.std.specs.Prelude.{◌≤◌, ◌⊎◌, ℕ, ◌+◌, List, Bool, ◌&&◌, nat_le, nat_lt, All}
use Rattle.std.specs.List.{AllPairs}
use Rattle.base_reloc.specs.declared.site.Site.{Site}
use Rattle.base_reloc.specs.declared.site.SiteKind.{SiteKind}
use Rattle.base_reloc.specs.declared.site.SiteKind.TheVariants.{Dir64, Highlow, High20}

-- how many bytes a site has
abbrev pub width_of : SiteKind → ℕ
width_of Dir64 = 8
width_of Highlow = 4
width_of High20 = 4

abbrev pub end_of : Site → ℕ
end_of site = site.at + width_of site.kind

-- a site has the byte at an offset
abbrev pub covers : ℕ → Site → Bool
covers at site = nat_le site.at at && nat_lt at (end_of site)

-- so many bytes from an offset on meet those of a site
abbrev pub meets : ℕ → ℕ → Site → Bool
meets at width site = nat_lt site.at (at + width) && nat_lt at (end_of site)

abbrev pub AreApart : Site → Site → Type 0
AreApart first second = (end_of first ≤ second.at) ⊎ (end_of second ≤ first.at)

-- Sites lie in so many bytes, and no two share a byte.
pub record AreSites (size : ℕ) (sites : List Site) : Type 0 where
  pub inside : All (λ (site : Site). end_of site ≤ size) sites
  pub apart : AllPairs AreApart sites
