-- The first fault of a virtual address map, if it has one (UEFI 2.10, section 8.4).
use Rattle.std.specs.Prelude.{ℕ, ◌+◌, ◌-◌, ◌^◌, ◌%◌, ◌/◌, ◌==◌, ◌&&◌, ◌||◌, not, nat_le, Bool, List, [], ◌∷◌, ◌++◌, length, Option, Some, None, is_none, if◌then◌else◌}
use Rattle.std.specs.List.{list_any, find}
use Rattle.base_reloc.specs.declared.site.Site.{Site}
use Rattle.base_reloc.specs.Moved.{moved_word}
use Rattle.memory_map.specs.declared.descriptor.Descriptor.{Descriptor}
use Rattle.memory_map.specs.Map.{holds}
use Rattle.map_faults.specs.declared.fault.MapFault.{MapFault}
use Rattle.map_faults.specs.declared.fault.MapFault.TheVariants as faults
use Rattle.map_faults.specs.Grounds.{Kept, Ground, Call, window_pages}
use Rattle.map_faults.specs.Rules.{is_runtime, is_named_by, is_known, is_twice, is_unaligned, is_out, overlaps, shadows}

-- the first of two faults
abbrev pub or_next : Option MapFault → Option MapFault → Option MapFault
or_next None next = next
or_next (Some fault) next = Some fault

-- ---- the call

-- so many bytes are those of at most 1,024 descriptors of 40 bytes
abbrev pub is_size : ℕ → Bool
is_size bytes = bytes % 40 == 0 && nat_le (bytes / 40) 1024

-- A map is made once, after boot services, by descriptors of this size and version.
unfoldable pub call_fault : Ground → Call → Option MapFault
call_fault g call =
    if not g.gone then Some faults.BeforeExit
    else (if g.mapped then Some faults.AlreadyMapped
    else (if not (call.descriptor_size == 40) then Some faults.DescriptorSize
    else (if not (call.version == 1) then Some faults.DescriptorVersion
    else (if not (is_size call.map_size) then Some faults.MapSize
    else None))))

-- ---- the entries

-- The first rule that an entry for the runtime fails, by its number and the entries before it.
unfoldable pub entry_fault : Ground → List Descriptor → ℕ → Descriptor → Option MapFault
entry_fault g earlier i e =
    if not (is_known g.descriptors e) then Some (faults.NotFound i)
    else (if is_twice earlier e then Some (faults.Twice i)
    else (if is_unaligned e.virt then Some (faults.Unaligned i)
    else (if is_out e.virt e.pages then Some (faults.OutOfRange i)
    else (if overlaps earlier e.virt e.pages then Some (faults.Overlap i)
    else (if shadows g.layout g.descriptors e.virt e.pages then Some (faults.Shadow i)
    else None)))))

-- Other entries count in the numbers alone.
abbrev pub fault_of : Ground → List Descriptor → ℕ → Descriptor → Option MapFault
fault_of g earlier i e = if is_runtime e then entry_fault g earlier i e else None

-- the first fault of entries behind some
unfoldable pub entries_fault : Ground → List Descriptor → List Descriptor → Option MapFault
entries_fault g earlier [] = None
entries_fault g earlier (e ∷ es) = or_next (fault_of g earlier (length earlier) e) (entries_fault g (earlier ++ e ∷ []) es)

-- ---- the operating system's window

-- Its new place keeps the rules of a virtual range; its own old pages don't stand in the way.
unfoldable pub window_fault : Ground → List Descriptor → Option MapFault
window_fault g entries =
    if is_unaligned g.os_virtual || (is_out g.os_virtual window_pages || (overlaps entries g.os_virtual window_pages || shadows g.layout g.descriptors g.os_virtual window_pages))
    then Some faults.OsWindow else None

-- ---- runtime descriptors

-- an entry for the runtime names the descriptor
abbrev pub is_mapped : List Descriptor → Descriptor → Bool
is_mapped entries d = list_any (λ (e : Descriptor). is_runtime e && is_named_by e d) entries

-- the first runtime descriptor without an entry, of descriptors that are numbered from one number on
unfoldable pub unmapped_fault : List Descriptor → ℕ → List Descriptor → Option MapFault
unmapped_fault entries number [] = None
unmapped_fault entries number (d ∷ ds) =
    if is_runtime d && not (is_mapped entries d) then Some (faults.NoMapping number) else unmapped_fault entries (number + 1) ds

-- ---- images

-- the entry for the runtime that holds an address
abbrev pub entry_at : List Descriptor → ℕ → Option Descriptor
entry_at entries at = find (λ (e : Descriptor). is_runtime e && holds at e) entries

-- the displacement of what an entry holds, modulo 2^64
abbrev pub displacement_by : Option Descriptor → ℕ
displacement_by None = 0
displacement_by (Some e) = (e.virt + (2 ^ 64 - e.start)) % 2 ^ 64

-- the first site whose word leaves its range, of sites that are numbered from one number on
unfoldable pub leaving : ℕ → ℕ → List Site → List ℕ → Option ℕ
leaving by number (site ∷ sites) (word ∷ words) = if is_none (moved_word site.kind word by) then Some number else leaving by (number + 1) sites words
leaving by number sites words = None

abbrev pub reloc_by : ℕ → Option ℕ → Option MapFault
reloc_by image None = None
reloc_by image (Some site) = Some (faults.Reloc32 image site)

-- the first site of a kept image whose load value leaves its range, of images that are numbered from one number on
unfoldable pub reloc_fault : List Descriptor → ℕ → List Kept → Option MapFault
reloc_fault entries number [] = None
reloc_fault entries number (image ∷ images) =
    or_next (reloc_by number (leaving (displacement_by (entry_at entries image.base)) 0 image.sites image.words)) (reloc_fault entries (number + 1) images)

-- ---- all

abbrev pub fault_after : Ground → List Descriptor → Option MapFault
fault_after g entries =
    or_next (entries_fault g [] entries)
    (or_next (window_fault g entries)
    (or_next (unmapped_fault entries 0 g.descriptors)
    (reloc_fault entries 0 g.kept)))

unfoldable pub first_fault : Ground → Call → Option MapFault
first_fault g call = or_next (call_fault g call) (fault_after g call.entries)
