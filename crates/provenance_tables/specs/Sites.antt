-- What base relocation says of a driver's bytes (PE/COFF, "Base Relocation Types").
use Rattle.std.specs.Prelude.{ℕ, ◌-◌, ◌==◌, ◌&&◌, nat_le, nat_lt, not, Bool, true, false, List, ◌∷◌, Option, Some, None, if◌then◌else◌}
use Rattle.std.specs.List.{list_any}
use Rattle.base_reloc.specs.declared.site.Site.{Site}
use Rattle.base_reloc.specs.declared.site.SiteKind.{SiteKind}
use Rattle.base_reloc.specs.declared.site.SiteKind.TheVariants.{Dir64, High20}
use Rattle.base_reloc.specs.Sites.{meets}
use Rattle.prov_cert.specs.declared.cert.CertSpan.{CertSpan}

abbrev pub is_dir64 : SiteKind → Bool
is_dir64 Dir64 = true
is_dir64 _ = false

abbrev pub is_high20 : SiteKind → Bool
is_high20 High20 = true
is_high20 _ = false

-- the word that the load left at a DIR64 site at an offset
unfoldable pub loaded_at : ℕ → List Site → List ℕ → Option ℕ
loaded_at o (site ∷ sites) (word ∷ words) = if is_dir64 site.kind && site.at == o then Some word else loaded_at o sites words
loaded_at o sites words = None

-- the offset of the image that a word names, where it is the one that the load left
abbrev pub target_by : (base size word : ℕ) → Option ℕ → Option ℕ
target_by base size word None = None
target_by base size word (Some loaded) = if word == loaded && (nat_le base word && nat_lt (word - base) size) then Some (word - base) else None

-- a site has one of the bytes of a span of the image
abbrev pub site_meets : CertSpan → Site → Bool
site_meets s site = nat_lt 0 s.len && meets s.at s.len site

-- a site does
abbrev pub meets_site : CertSpan → List Site → Bool
meets_site s sites = s.region == 0 && list_any (λ (site : Site). site_meets s site) sites

-- one does that isn't a HIGH20 site
abbrev pub meets_address : CertSpan → List Site → Bool
meets_address s sites = s.region == 0 && list_any (λ (site : Site). not (is_high20 site.kind) && site_meets s site) sites
