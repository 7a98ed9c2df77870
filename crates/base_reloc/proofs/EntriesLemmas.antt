-- The sites of entries, in order.
use Rattle.std.proofs.Common.{◌≡◌, ℕ, ◌+◌, List, [], ◌∷◌, ◌++◌, refl, sym, ap, ◌∙◌, Bool, true, false}
use Rattle.std.specs.Prelude.{nat_lt, Result, Ok, Err, if◌then◌else◌}
use Rattle.std.specs.List.{list_any}
use Rattle.std.proofs.lemmas.List.{append_assoc, append-nil}
use Rattle.base_reloc.specs.declared.fault.RelocFault.{RelocFault}
use Rattle.base_reloc.specs.declared.fault.RelocFault.TheVariants as faults
use Rattle.base_reloc.specs.declared.site.Site.{Site}
use Rattle.base_reloc.specs.declared.entry.EntryKind.{EntryKind}
use Rattle.base_reloc.specs.declared.entry.EntryKind.TheVariants.{Padding, Moved, Unmoved, Unknown}
use Rattle.base_reloc.specs.Sites.{width_of, meets}
use Rattle.base_reloc.specs.Blocks.{Part, Entry, Broken, parts_of, table_of}
use Rattle.base_reloc.specs.Kept.{kind_of, type_in, offset_in, kept_with, sites_from, sites_in, ◌>>=◌}
use Rattle.base_reloc.specs.Moved.{moved_word, moved_byte}
use Rattle.base_reloc.specs.Laws.{site_before, moved_entries, SitesAreEntries, OtherBytesStay, Dir64Moves}

with_room_ok : {X : Type 0} (a b : Bool) (i : ℕ) (x y : X) → (if a then Err (faults.Outside i) else (if b then Err (faults.Overlap i) else Ok x)) ≡ Ok y → x ≡ y
with_room_ok true b i x y e = absurd (cc)
with_room_ok false true i x y e = absurd (cc)
with_room_ok false false i x y e = cc

-- what an entry that is kept adds
kept_adds : (size : ℕ) (kept : List Site) (i at : ℕ) (kind : EntryKind) (sites rest : List Site) → kept_with size kept i at kind ≡ Ok sites → sites ++ rest ≡ kept ++ site_before at kind rest
kept_adds size kept i at Padding sites rest e = ap (λ s. s ++ rest) (let same : kept ≡ sites = cc in sym same)
kept_adds size kept i at Unknown sites rest e = absurd (cc)
kept_adds size kept i at Unmoved sites rest e = ap (λ s. s ++ rest) (sym (with_room_ok (nat_lt size (at + 4)) (list_any (meets at 4) kept) i kept sites e))
kept_adds size kept i at (Moved kind) sites rest e =
    ap (λ s. s ++ rest) (sym (with_room_ok (nat_lt size (at + width_of kind)) (list_any (meets at (width_of kind)) kept) i (kept ++ record { at = at; kind = kind } ∷ []) sites e))
    ∙ append_assoc kept (record { at = at; kind = kind } ∷ []) rest

are_entries : (size : ℕ) (kept : List Site) (i : ℕ) (parts : List Part) (sites : List Site) → sites_from size kept i parts ≡ Ok sites → sites ≡ kept ++ moved_entries parts
unfolding sites_from
are_entries size kept i [] sites e = let same : kept ≡ sites = cc in sym same ∙ sym (append-nil kept)
are_entries size kept i (Broken block ∷ parts) sites e = absurd (cc)
are_entries size kept i (Entry page word ∷ parts) sites e = by (kept_with size kept i (page + offset_in word) (kind_of (type_in word))) refl (λ ss h. are_entries size ss (i + 1) parts sites h) e
  where
    by : (r : Result (List Site) RelocFault) → kept_with size kept i (page + offset_in word) (kind_of (type_in word)) ≡ r
        → ((ss : List Site) → sites_from size ss (i + 1) parts ≡ Ok sites → sites ≡ ss ++ moved_entries parts) → (r >>= λ ss. sites_from size ss (i + 1) parts) ≡ Ok sites
        → sites ≡ kept ++ site_before (page + offset_in word) (kind_of (type_in word)) (moved_entries parts)
    by (Ok ss) is more h = more ss h ∙ kept_adds size kept i (page + offset_in word) (kind_of (type_in word)) ss (moved_entries parts) is
    by (Err fault) is more h = absurd (cc)

pub sites_are_entries : SitesAreEntries
unfolding sites_in
sites_are_entries image placed sites e = are_entries image.size [] 0 (parts_of (table_of image placed)) sites e

pub other_bytes_stay : OtherBytesStay
unfolding moved_byte
other_bytes_stay bytes sites displacement at e = rw e refl

pub dir64_moves : Dir64Moves
unfolding moved_word
dir64_moves word displacement = refl
