-- Images whose sites are moved, one after another.
use Rattle.std.proofs.Common.{◌≡◌, ℕ, zero, suc, ◌+◌, ◌*◌, ◌-◌, ◌^◌, ◌≤◌, ◌<◌, Bool, true, false, List, [], ◌∷◌, length, get_or, drop, refl, sym, ap, subst, ◌∙◌, arith, inl, inr, Some, None}
use Rattle.std.specs.Prelude.{nat_le, nat_lt, ◌&&◌, find, if◌then◌else◌}
use Rattle.std.specs.List.{All, AllPairs}
use Rattle.std.proofs.lemmas.Bool.Decides.{nat_tests}
use Rattle.std.proofs.lemmas.Bool.{cases_Bool}
use Rattle.std.proofs.lemmas.List.{drop_more, drop_all, get_or-drop, length-drop}
use Rattle.std.proofs.lemmas.List.Elements.{All-head, All-tail}
use Rattle.uh_base.specs.Bytes.{next}
use Rattle.base_reloc.specs.declared.site.Site.{Site}
use Rattle.base_reloc.specs.Sites.{end_of}
use Rattle.memory_map.specs.declared.descriptor.Descriptor.{Descriptor}
use Rattle.guest_memory.specs.Pages.{Pages, Whole, bytes_of, holds}
use Rattle.guest_memory.specs.Runs.{bytes_from}
use Rattle.map_faults.specs.Grounds.{Kept}
use Rattle.map_transition.specs.Images.{AreApart, HasSites}
use Rattle.map_transition.specs.Fixes.{OnlyBytes, owns, fixed_in, fixed_by, fixed, with_fixed}
use Rattle.map_transition.proofs.ByteLemmas.{touched_still}
use Rattle.map_transition.proofs.SiteLemmas.{NoneHas, stays_by}

pub sites_still : (old new : Pages) (image : Kept) → OnlyBytes old new → HasSites old image → HasSites new image
sites_still old new image e h = record {
  sites = h.sites;
  words = h.words;
  marks = h.marks;
  touched = λ k d l at low high. touched_still old new at e ∙ h.touched k d l at low high;
}

none_outside : (base size at : ℕ) (sites : List Site) → All (λ (site : Site). end_of site ≤ size) sites → (nat_le base at && nat_lt at (base + size)) ≡ false → NoneHas base at sites
none_outside base size at [] h e = tt
none_outside base size at (site ∷ sites) h e =
    let first : end_of site ≤ size = All-head (λ (s : Site). end_of s ≤ size) site sites h in
    (grind (arith, nat_tests), none_outside base size at sites (All-tail (λ (s : Site). end_of s ≤ size) site sites h) e)

none_owns : (at : ℕ) (image d : Kept) (others : List Kept) → ((k : ℕ) → k < length others → AreApart image (get_or others k d)) → owns at image ≡ true → find (owns at) others ≡ None
none_owns at image d [] h e = refl
none_owns at image d (other ∷ others) h e =
    elim (cases_Bool (owns at other)) [
      | inl both ↦ absurd ((h 0 (omega arith)).pages at (grind (arith, nat_tests)) (grind (arith, nat_tests)) (grind (arith, nat_tests)) (grind (arith, nat_tests)))
      | inr free ↦ rw free (none_owns at image d others (λ k l. h (suc k) (omega arith)) e)
    ]

at_image : (entries : List Descriptor) (image : Kept) (images : List Kept) (at old new total : ℕ) (b : Bool) → owns at image ≡ b
    → (owns at image ≡ true → find (owns at) images ≡ None) → (owns at image ≡ false → NoneHas image.base at image.sites)
    → new ≡ fixed_in entries image at old → fixed_by entries (if b then Some image else find (owns at) images) at old ≡ total → fixed_by entries (find (owns at) images) at new ≡ total
at_image entries image images at old new total true e none out n h = let gone = none e in rw gone (n ∙ h)
at_image entries image images at old new total false e none out n h =
    let same_byte : new ≡ old = n ∙ stays_by image.base _ image.sites image.words image.same at old (out e) in
    rw same_byte h

-- One image more is moved.
pub images_next : (entries : List Descriptor) (kept : List Kept) (i : ℕ) (image : Kept) (m : Pages) (at old new total : ℕ) → image ≡ get_or kept i image → AllPairs AreApart kept → HasSites m image → i < length kept
    → new ≡ fixed_in entries image at old
    → fixed_by entries (find (owns at) (drop i kept)) at old ≡ total → fixed_by entries (find (owns at) (drop (i + 1) kept)) at new ≡ total
images_next entries kept i image m at old new total is apart has l n h =
    let a : drop i kept ≡ image ∷ drop (i + 1) kept = drop_more kept i image l ∙ ap (λ (x : Kept). x ∷ drop (i + 1) kept) (sym is) in
    let all : fixed_by entries (find (owns at) (image ∷ drop (i + 1) kept)) at old ≡ total = rw a at h in
    at_image entries image (drop (i + 1) kept) at old new total (owns at image) refl
    (none_owns at image image (drop (i + 1) kept) (λ k below.
    let long : length (drop (i + 1) kept) ≡ length kept - (i + 1) = length-drop (i + 1) kept in
    rw (get_or-drop (i + 1) kept k image) (subst (λ (x : Kept). AreApart x (get_or kept (i + 1 + k) image)) (sym is) (apart i (i + 1 + k) image (omega arith) (omega arith)))))
    (none_outside image.base (4096 * image.pages) at image.sites has.sites.inside) n all

pub images_done : (entries : List Descriptor) (kept : List Kept) (i at old total : ℕ) → length kept ≤ i → fixed_by entries (find (owns at) (drop i kept)) at old ≡ total → old ≡ total
images_done entries kept i at old total l h = rw (drop_all i kept l) at h

-- ---- the bytes of a memory

from_list : (xs : List ℕ) (f : ℕ → ℕ) (base : ℕ) → base + length xs < 2 ^ 64 → ((k : ℕ) → k < length xs → f (base + k) ≡ get_or xs k 0) → bytes_from f base (length xs) ≡ xs
unfolding bytes_from
from_list [] f base l h = refl
from_list (x ∷ xs) f base l h =
    let first : f base ≡ x = (let z : base + 0 ≡ base = omega arith in rw z at (h 0 (omega arith))) in
    let step : next base ≡ base + 1 = grind arith in
    let rest : bytes_from f (base + 1) (length xs) ≡ xs = from_list xs f (base + 1) (omega arith) (λ k below. let there : base + 1 + k ≡ base + suc k = omega arith in rw there (h (suc k) (omega arith))) in
    rw (first, step, rest) refl

same_from : (f g : ℕ → ℕ) (n at : ℕ) → ((here : ℕ) → f here ≡ g here) → bytes_from f at n ≡ bytes_from g at n
unfolding bytes_from
same_from f g zero at h = refl
same_from f g (suc n) at h = rw (h at, same_from f g n (next at) h) refl

byte_in_ram : (m : Pages) (k : ℕ) → Whole m → k < length m.bytes → bytes_of m (m.base + k) ≡ get_or m.bytes k 0
unfolding bytes_of
byte_in_ram m k w l =
    let long = w.bytes_long in
    let in_ram : holds m (m.base + k) ≡ true = grind (arith, nat_tests) in
    let place : m.base + k - m.base ≡ k = omega arith in
    rw (in_ram, place) refl

bytes_are : (m : Pages) → Whole m → bytes_from (bytes_of m) m.base (length m.bytes) ≡ m.bytes
bytes_are m w = let end = w.end in let long = w.bytes_long in from_list m.bytes (bytes_of m) m.base (omega arith) (λ k l. byte_in_ram m k w l)

-- A memory whose bytes alone have changed, and are those of a definition, is the memory with them.
pub fixed_memory : (entries : List Descriptor) (kept : List Kept) (old new : Pages) → Whole new → OnlyBytes old new → ((at : ℕ) → bytes_of new at ≡ fixed entries kept (bytes_of old) at) → new ≡ with_fixed entries kept old
fixed_memory entries kept old new w e h =
    let base : new.base ≡ old.base = ap (λ (m : Pages). m.base) e in
    let pages : new.pages ≡ old.pages = ap (λ (m : Pages). m.pages) e in
    let long : length new.bytes ≡ 4096 * old.pages = w.bytes_long ∙ ap (λ (n : ℕ). 4096 * n) pages in
    let list : bytes_from (bytes_of new) old.base (4096 * old.pages) ≡ new.bytes = subst (λ (n : ℕ). bytes_from (bytes_of new) old.base n ≡ new.bytes) long (subst (λ (b : ℕ). bytes_from (bytes_of new) b (length new.bytes) ≡ new.bytes) base (bytes_are new w)) in
    e ∙ ap (λ (bytes : List ℕ). record old { bytes = bytes }) (sym list ∙ same_from (bytes_of new) (fixed entries kept (bytes_of old)) (4096 * old.pages) old.base h)
