-- Marks of the bytes that sites have, one for each byte of an image.
use Rattle.std.specs.Prelude.{◌≡◌, ◌<◌, ℕ, ◌+◌, List, length, Bool, false, nat_lt, slice_index_or, slice_range, Result, Ok, Err, if◌then◌else◌}
use Rattle.std.specs.List.{list_any}
use Rattle.base_reloc.specs.declared.fault.RelocFault.{RelocFault}
use Rattle.base_reloc.specs.declared.fault.RelocFault.TheVariants as faults
use Rattle.base_reloc.specs.declared.site.Site.{Site}
use Rattle.base_reloc.specs.Sites.{covers}
use Rattle.base_reloc.specs.Kept.{Stops}

-- Exactly the bytes of the sites are marked.
abbrev pub AreMarked : List Site → List Bool → Type 0
AreMarked sites marks = (at : ℕ) → at < length marks → slice_index_or marks at false ≡ list_any (covers at) sites

-- bytes without a mark, or why there are none
abbrev pub unmarked : List Bool → ℕ → ℕ → ℕ → Result (Unit {0}) RelocFault
unmarked marks at width i =
    if nat_lt (length marks) (at + width) then Err (faults.Outside i)
    else (if list_any (λ mark. mark) (slice_range marks at (at + width)) then Err (faults.Overlap i) else Ok tt)

-- What a call left is what judging gives, or its fault is, unless memory ran out.
abbrev pub Keeps : Result (Unit {0}) RelocFault → List Site → Result (List Site) RelocFault → Type 0
Keeps (Ok done) sites judged = judged ≡ Ok sites
Keeps (Err fault) sites judged = Stops fault judged
