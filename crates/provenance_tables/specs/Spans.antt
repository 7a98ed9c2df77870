-- The rules on spans: where they lie, and what their bytes hold.
use Rattle.std.specs.Prelude.{ℕ, ◌+◌, ◌≤◌, ◌==◌, ◌&&◌, ◌||◌, nat_le, nat_lt, not, Bool, true, false, List, length, Option, Some, None, is_some, if◌then◌else◌, slice_get}
use Rattle.uh_base.specs.Bytes.{number_at}
use Rattle.rv_step.specs.declared.bus.Access.TheVariants as access
use Rattle.rv_step.specs.Exec.{Rights}
use Rattle.address_view.specs.Seen.{all_pass}
use Rattle.map_faults.specs.Grounds.{Kept}
use Rattle.virtual_map.specs.States.{Runtime}
use Rattle.prov_types.specs.declared.kinds.Kind.{Kind}
use Rattle.prov_types.specs.declared.kinds.Kind.TheVariants.{Ptr, Opt}
use Rattle.prov_types.specs.Kinds.{IsProperKind, length_of, regions_of}
use Rattle.prov_types.specs.Tests.{holds}
use Rattle.prov_cert.specs.declared.cert.CertSpan.{CertSpan}
use Rattle.prov_cert.specs.declared.cert.Class.{Class}
use Rattle.prov_cert.specs.declared.cert.Class.TheVariants.{Code, Plain, Num, Fixed, Convert}
use Rattle.prov_layout.specs.Offsets.{every}
use Rattle.prov_layout.specs.Laid.{spans_meet}
use Rattle.provenance_tables.specs.Regions.{address_of, bytes_in, rights_in, size_of}
use Rattle.provenance_tables.specs.Sites.{loaded_at, meets_address, meets_site, target_by}

-- two spans have a byte in common
abbrev pub share_a_byte : CertSpan → CertSpan → Bool
share_a_byte s t = (nat_lt 0 s.len && nat_lt 0 t.len) && spans_meet s t

abbrev pub shares_with : CertSpan → Option CertSpan → Bool
shares_with s None = false
shares_with s (Some t) = share_a_byte s t

-- a span's bytes may be executed, where they are code
abbrev pub may_run : Rights → List ℕ → CertSpan → Class → Bool
may_run allows starts s Code = all_pass (allows access.Fetch) (address_of starts s.region s.at) s.len
may_run allows starts s _ = true

abbrev pub lies_well : Rights → (starts lens : List ℕ) → List CertSpan → (i : ℕ) → Option CertSpan → Bool
lies_well allows starts lens spans i None = true
lies_well allows starts lens spans i (Some s) =
    (nat_le (s.at + s.len) (length_of lens s.region) && (s.region == 0 || nat_lt 5 s.region))
    && (every (λ j. j == i || not (shares_with s (slice_get spans j))) 0 1 (length spans) && may_run allows starts s s.class)

-- Span: a span is inside its region, which is the image or an own one, meets no other, and may be executed where it is code.
unfoldable pub span_passes : Runtime → (starts lens : List ℕ) → List CertSpan → (i : ℕ) → Bool
span_passes r starts lens spans i = lies_well (rights_in r) starts lens spans i (slice_get spans i)

-- what a span holds, as a number of its bytes
abbrev pub value_of : (ℕ → ℕ) → List ℕ → CertSpan → ℕ
value_of bytes starts s = number_at bytes (address_of starts s.region s.at) s.len

-- the value is of a kind
abbrev pub holds_now : (starts lens : List ℕ) → Kind → ℕ → Bool
holds_now starts lens kind v = holds (regions_of starts starts lens) kind v v

-- the offset of the image that a fixed span holds the address of
abbrev pub fixed_target : Kept → (ℕ → ℕ) → (starts : List ℕ) → CertSpan → Option ℕ
fixed_target image bytes starts s = if s.region == 0 then target_by image.base (size_of image) (value_of bytes starts s) (loaded_at s.at image.sites image.words) else None

-- what may be converted: addresses in the image, in the firmware's pages and in own regions, each before the region's end
abbrev pub converts_in : List ℕ → (r hi : ℕ) → Bool
converts_in lens r hi = (r == 0 || nat_lt 3 r) && nat_lt hi (length_of lens r)

abbrev pub may_convert : List ℕ → Kind → Bool
may_convert lens (Ptr r s) = converts_in lens r s.hi
may_convert lens (Opt r s) = converts_in lens r s.hi
may_convert lens _ = false

abbrev pub holds_well : Kept → (ℕ → ℕ) → (starts lens : List ℕ) → CertSpan → Class → Bool
holds_well image bytes starts lens s Code = not (meets_address s image.sites)
holds_well image bytes starts lens s Plain = not (meets_site s image.sites)
holds_well image bytes starts lens s (Num kind) = not (meets_site s image.sites) && holds_now starts lens kind (value_of bytes starts s)
holds_well image bytes starts lens s Fixed = is_some (fixed_target image bytes starts s)
holds_well image bytes starts lens s (Convert kind) = (not (meets_site s image.sites) && holds_now starts lens kind (value_of bytes starts s)) && may_convert lens kind

abbrev pub data_of : Kept → (ℕ → ℕ) → (starts lens : List ℕ) → Option CertSpan → Bool
data_of image bytes starts lens None = true
data_of image bytes starts lens (Some s) = holds_well image bytes starts lens s s.class

-- Data: a fixed span is a DIR64 site that holds its load value, an address in the image; other spans meet no site, code no site of an
-- address; numbers and convertible cells hold values of their kinds; and what is converted may be.
unfoldable pub data_passes : Kept → Runtime → (starts lens : List ℕ) → List CertSpan → (i : ℕ) → Bool
data_passes image r starts lens spans i = data_of image (bytes_in r) starts lens (slice_get spans i)

-- a span of 8 bytes or fewer, of a proper kind, where it holds a number or an address
abbrev pub IsSound : CertSpan → Class → Type 0
IsSound s (Num kind) = (s.len ≤ 8) × IsProperKind kind
IsSound s (Convert kind) = (s.len ≤ 8) × IsProperKind kind
IsSound s Fixed = s.len ≤ 8
IsSound s _ = Unit {0}
