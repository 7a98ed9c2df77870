-- What the words at the sites of an image name (PE/COFF, "Base Relocation Types").
use Rattle.std.specs.Prelude.{ℕ, ◌-◌, ◌==◌, ◌&&◌, nat_le, List, [], ◌∷◌, Option, Some, None, if◌then◌else◌, slice_index}
use Rattle.uh_base.specs.Bytes.{number_at, plus}
use Rattle.base_reloc.specs.declared.site.Site.{Site}
use Rattle.base_reloc.specs.Moved.{upper_of}
use Rattle.map_faults.specs.Grounds.{Kept}
use Rattle.prov_cert.specs.declared.cert.CertSpan.{CertSpan}
use Rattle.prov_cert.specs.declared.cert.Class.{Class}
use Rattle.prov_cert.specs.declared.cert.Class.TheVariants.{Plain, Fixed}
use Rattle.prov_layout.specs.declared.piece.Piece.{Piece}
use Rattle.prov_layout.specs.Laid.{laid}
use Rattle.provenance_tables.specs.Regions.{size_of}
use Rattle.provenance_tables.specs.Sites.{is_high20}

-- The offset that a HIGH20 site's word names while it is the one that the load left: that of the address of its bits 31 to 12, from
-- the image's start to its end.
abbrev pub upper_target : (base size word loaded : ℕ) → Option ℕ
upper_target base size word loaded =
    if word == loaded && (nat_le base (upper_of word) && nat_le (upper_of word - base) size) then Some (upper_of word - base) else None

-- the same of a site, by the bytes that are seen
abbrev pub named_by : (ℕ → ℕ) → (base size : ℕ) → Site → (loaded : ℕ) → Option ℕ
named_by bytes base size site loaded = upper_target base size (number_at bytes (plus base site.at) 4) loaded

abbrev pub or_nought : Option ℕ → ℕ
or_nought None = 0
or_nought (Some n) = n

abbrev pub class_by : Option ℕ → Class
class_by None = Plain
class_by (Some target) = Fixed

-- a HIGH20 site as 4 bytes of the image, which are fixed where they name an offset; another site as no bytes
abbrev pub span_of : Site → Option ℕ → CertSpan
span_of site target = record { region = 0; at = site.at; len = if is_high20 site.kind then 4 else 0; class = class_by target }

unfoldable pub site_spans : (ℕ → ℕ) → (base size : ℕ) → List Site → List ℕ → List CertSpan
site_spans bytes base size (site ∷ sites) (word ∷ words) = span_of site (named_by bytes base size site word) ∷ site_spans bytes base size sites words
site_spans bytes base size sites words = []

unfoldable pub site_targets : (ℕ → ℕ) → (base size : ℕ) → List Site → List ℕ → List ℕ
site_targets bytes base size (site ∷ sites) (word ∷ words) = or_nought (named_by bytes base size site word) ∷ site_targets bytes base size sites words
site_targets bytes base size sites words = []

-- The HIGH20 sites of an image as pieces of region 0, in the order of their places. Pieces of other regions, which are given with
-- them, are no sites.
abbrev pub sites_laid : (ℕ → ℕ) → Kept → List Piece
sites_laid bytes image =
    laid (slice_index (site_targets bytes image.base (size_of image) image.sites image.words)) (site_spans bytes image.base (size_of image) image.sites image.words)
