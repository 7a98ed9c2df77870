-- The regions of a driver that stays, by their numbers in its certificate, and the rule on them.
use Rattle.std.specs.Prelude.{ℕ, ◌+◌, ◌-◌, ◌*◌, ◌==◌, ◌&&◌, nat_le, nat_lt, not, Bool, true, false, List, [], ◌∷◌, ◌++◌, length, map, Option, Some, None, if◌then◌else◌, slice_get, slice_index}
use Rattle.std.specs.List.{find, list_any}
use Rattle.uh_base.specs.Bytes.{number_at, plus}
use Rattle.rv_step.specs.Exec.{Rights}
use Rattle.guest_memory.specs.Pages.{bytes_of, rights_at}
use Rattle.address_view.specs.Windows.{see, seen_bytes}
use Rattle.address_view.specs.Seen.{view_allows}
use Rattle.page_alloc.specs.declared.layout.Layout.{Layout}
use Rattle.memory_map.specs.declared.descriptor.Descriptor.{Descriptor}
use Rattle.map_faults.specs.Grounds.{Kept}
use Rattle.map_faults.specs.Rules.{behind}
use Rattle.map_faults.specs.Faults.{entry_at}
use Rattle.virtual_map.specs.States.{Runtime}
use Rattle.prov_types.specs.Kinds.{length_of}
use Rattle.prov_cert.specs.declared.cert.OwnRegion.{OwnRegion}
use Rattle.prov_cert.specs.declared.cert.CertSpan.{CertSpan}
use Rattle.prov_cert.specs.Reading.{is_convert}
use Rattle.prov_layout.specs.Offsets.{every}

-- the bytes that code sees, and the rights there
abbrev pub bytes_in : Runtime → ℕ → ℕ
bytes_in r = seen_bytes (see r.view) (bytes_of r.memory)

abbrev pub rights_in : Runtime → Rights
rights_in r = view_allows (see r.view) (rights_at r.memory)

-- the runtime driver with a handle
abbrev pub kept_with : ℕ → List Kept → Option Kept
kept_with handle kept = find (λ (k : Kept). k.handle == handle) kept

abbrev pub size_of : Kept → ℕ
size_of image = 4096 * image.pages

-- Regions 0 to 5: the image, and the OS stack, the OS arguments, the OS return page, the system page and the slot page, whose
-- places are those of the layout.
abbrev pub fixed_starts : Layout → Kept → List ℕ
fixed_starts layout image = image.base ∷ layout.os_stack ∷ layout.os_args ∷ layout.os_return ∷ layout.system ∷ layout.slots ∷ []

abbrev pub fixed_lens : Kept → List ℕ
fixed_lens image = size_of image ∷ 65536 ∷ 65536 ∷ 4096 ∷ 4096 ∷ 4096 ∷ []

-- the address of an offset of a region
abbrev pub address_of : List ℕ → (r o : ℕ) → ℕ
address_of starts r o = plus (slice_index starts r) o

-- Own regions begin where their cells say, each of which lies in a region before.
unfoldable pub with_own : (ℕ → ℕ) → List ℕ → List OwnRegion → List ℕ
with_own bytes starts [] = starts
with_own bytes starts (o ∷ os) = with_own bytes (starts ++ number_at bytes (address_of starts o.cell_region o.cell_at) 8 ∷ []) os

-- where regions begin, and how long they are
abbrev pub starts_of : Runtime → Kept → List OwnRegion → List ℕ
starts_of r image own = with_own (bytes_in r) (fixed_starts r.layout image) own

abbrev pub lens_of : Kept → List OwnRegion → List ℕ
lens_of image own = fixed_lens image ++ map (λ (o : OwnRegion). o.len) own

-- ---- the rule

-- the system table holds the address of the runtime services table, and that holds those of the services, each a slot
unfoldable pub holds_given : (ℕ → ℕ) → List ℕ → Bool
holds_given bytes starts =
    number_at bytes (address_of starts 4 88) 8 == address_of starts 4 256
    && every (λ i. number_at bytes (address_of starts 4 (280 + 8 * i)) 8 == address_of starts 5 (16 * (44 + i))) 0 1 14

-- so many bytes from one address on have one in common with so many from another on
abbrev pub ranges_meet : (a m b n : ℕ) → Bool
ranges_meet a m b n = (nat_lt 0 m && nat_lt 0 n) && (nat_lt a (b + n) && nat_lt b (a + m))

-- so many bytes are inside the runtime descriptor that holds the first
abbrev pub is_inside : (start len : ℕ) → Option Descriptor → Bool
is_inside start len None = false
is_inside start len (Some d) = nat_le (start + len) (behind d.start d.pages)

-- a convertible cell begins where an own region's address stands
abbrev pub is_cell : OwnRegion → CertSpan → Bool
is_cell o s = is_convert s.class && (s.region == o.cell_region && s.at == o.cell_at)

-- a region meets another
abbrev pub meets_region : List ℕ → List ℕ → (n m : ℕ) → Bool
meets_region starts lens n m = not (m == n) && ranges_meet (slice_index starts n) (length_of lens n) (slice_index starts m) (length_of lens m)

abbrev pub meets_image : (start len : ℕ) → Kept → Bool
meets_image start len k = ranges_meet start len k.base (size_of k)

-- An own region: its cell lies in the cell's region and is a convertible one; it is inside one runtime descriptor; and it meets no
-- other region and no page of a driver that stays.
abbrev pub own_passes : Runtime → (starts lens : List ℕ) → List CertSpan → (n : ℕ) → Option OwnRegion → Bool
own_passes r starts lens spans n None = true
own_passes r starts lens spans n (Some o) =
    (nat_le (o.cell_at + 8) (length_of lens o.cell_region) && list_any (λ (s : CertSpan). is_cell o s) spans)
    && (is_inside (slice_index starts n) o.len (entry_at r.descriptors (slice_index starts n))
    && (not (list_any (λ (k : Kept). meets_image (slice_index starts n) o.len k) r.kept) && every (λ m. not (meets_region starts lens n m)) 0 1 (length starts)))

-- Region: the system page holds what is given, and own regions are where they may be.
unfoldable pub region_passes : Runtime → (starts lens : List ℕ) → List OwnRegion → List CertSpan → (n : ℕ) → Bool
region_passes r starts lens own spans n =
    if n == 4 then holds_given (bytes_in r) starts
    else (if nat_lt n 6 then true else own_passes r starts lens spans n (slice_get own (n - 6)))
