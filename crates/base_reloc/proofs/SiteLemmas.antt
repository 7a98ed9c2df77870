-- The sites that are kept lie in the image and are apart.
use Rattle.std.proofs.Common.{◌≡◌, ℕ, ◌+◌, ◌-◌, ◌<◌, ◌≤◌, List, [], ◌∷◌, ◌++◌, length, get_or, true, false, ltb, Result, Ok, Err, refl, sym, ◌∙◌, arith, inl, inr}
use Rattle.std.specs.List.{list_any}
use Rattle.std.proofs.lemmas.Bool.{cases_Bool}
use Rattle.std.proofs.lemmas.List.Elements.{All-nil, All-push}
use Rattle.std.proofs.lemmas.List.Folds.{list_any_at}
use Rattle.std.proofs.lemmas.List.Quantifiers.{all_pairs_push}
use borrow.Author.Tests.{ltb-false}
use Rattle.pe_image.specs.ImageOf.{Fields}
use Rattle.base_reloc.specs.declared.fault.RelocFault.{RelocFault}
use Rattle.base_reloc.specs.declared.fault.RelocFault.TheVariants as faults
use Rattle.base_reloc.specs.declared.entry.EntryKind.{EntryKind}
use Rattle.base_reloc.specs.declared.entry.EntryKind.TheVariants.{Padding, Moved, Unmoved, Unknown}
use Rattle.base_reloc.specs.declared.site.Site.{Site}
use Rattle.base_reloc.specs.declared.site.SiteKind.{SiteKind}
use Rattle.base_reloc.specs.Sites.{width_of, end_of, meets, AreApart, AreSites}
use Rattle.base_reloc.specs.Blocks.{Part, Entry, Broken, parts_of, parts_at, table_of}
use Rattle.base_reloc.specs.Kept.{◌>>=◌, with_room, kept_with, kind_of, type_in, offset_in, sites_from, sites_in, Stops}

-- room says what it says
has_room : {X : Type 0} (size : ℕ) (kept : List Site) (i at width : ℕ) (x y : X) → with_room size kept i at width x ≡ Ok y → (y ≡ x) × (at + width ≤ size) × (list_any (meets at width) kept ≡ false)
has_room {X} size kept i at width x y h =
    elim (cases_Bool (ltb size (at + width))) [
      | inl outside ↦ absurd (let e : ◌≡◌ {A = Result X RelocFault} (Err (faults.Outside i)) (Ok y) = rw outside at h in cc)
      | inr inside ↦
          elim (cases_Bool (list_any (meets at width) kept)) [
            | inl met ↦ absurd (let e : ◌≡◌ {A = Result X RelocFault} (Err (faults.Overlap i)) (Ok y) = rw (inside, met) at h in cc)
            | inr free ↦ (let e : ◌≡◌ {A = Result X RelocFault} (Ok x) (Ok y) = rw (inside, free) at h in cc, ltb-false size (at + width) inside, free)
          ]
    ]

no_sites : (size : ℕ) → AreSites size []
no_sites size = record { inside = All-nil (λ (site : Site). end_of site ≤ size); apart = λ i j d _ h. absurd (omega arith) }

apart_from : (at : ℕ) (kind : SiteKind) (kept : List Site) → list_any (meets at (width_of kind)) kept ≡ false → (k : ℕ) (d : Site) → k < length kept → AreApart (get_or kept k d) (record { at = at; kind = kind })
apart_from at kind kept free k d below =
    let site : Site = get_or kept k d in
    let not_met : meets at (width_of kind) site ≡ false =
    elim (cases_Bool (meets at (width_of kind) site)) [
      | inl met ↦ absurd (let e : true ≡ false = sym (list_any_at (meets at (width_of kind)) kept k d below met) ∙ free in cc)
      | inr apart ↦ apart
    ] in
    elim (cases_Bool (ltb site.at (at + width_of kind))) [
      | inl before ↦
          let rest : ltb at (end_of site) ≡ false = rw before at not_met in
          inl (ltb-false at (end_of site) rest)
      | inr behind ↦ inr (ltb-false site.at (at + width_of kind) behind)
    ]

site_more : (size at : ℕ) (kind : SiteKind) (kept : List Site) → AreSites size kept → at + width_of kind ≤ size → list_any (meets at (width_of kind)) kept ≡ false → AreSites size (kept ++ record { at = at; kind = kind } ∷ [])
site_more size at kind kept sound fits free = record {
  inside = All-push (λ (site : Site). end_of site ≤ size) kept (record { at = at; kind = kind }) sound.inside fits;
  apart = all_pairs_push AreApart kept (record { at = at; kind = kind }) sound.apart (apart_from at kind kept free);
}

kept_sound : (size : ℕ) (kept : List Site) (i at : ℕ) (kind : EntryKind) (sites : List Site) → AreSites size kept → kept_with size kept i at kind ≡ Ok sites → AreSites size sites
kept_sound size kept i at Padding sites sound h = let same : kept ≡ sites = cc in rw (← same) sound
kept_sound size kept i at Unknown sites sound h = absurd (let e : ◌≡◌ {A = Result (List Site) RelocFault} (Err (faults.Kind i)) (Ok sites) = h in cc)
kept_sound size kept i at Unmoved sites sound h = rw (has_room size kept i at 4 kept sites h).0 sound
kept_sound size kept i at (Moved kind) sites sound h =
    let room = has_room size kept i at (width_of kind) (kept ++ record { at = at; kind = kind } ∷ []) sites h in
    rw room.0 (site_more size at kind kept sound room.1 room.2)

pub sites_sound : (size : ℕ) (kept : List Site) (i : ℕ) (parts : List Part) (sites : List Site) → AreSites size kept → sites_from size kept i parts ≡ Ok sites → AreSites size sites
unfolding sites_from
sites_sound size kept i [] sites sound h = let same : kept ≡ sites = cc in rw (← same) sound
sites_sound size kept i (Broken block ∷ parts) sites sound h = absurd (let e : ◌≡◌ {A = Result (List Site) RelocFault} (Err (faults.BlockSize block)) (Ok sites) = h in cc)
sites_sound size kept i (Entry page word ∷ parts) sites sound h = by (kept_with size kept i (page + offset_in word) (kind_of (type_in word))) refl h (λ new. sites_sound size new (i + 1) parts sites)
  where
    by : (r : Result (List Site) RelocFault) → kept_with size kept i (page + offset_in word) (kind_of (type_in word)) ≡ r → (r >>= λ s. sites_from size s (i + 1) parts) ≡ Ok sites → ((new : List Site) → AreSites size new → sites_from size new (i + 1) parts ≡ Ok sites → AreSites size sites) → AreSites size sites
    by (Ok new) is rest later = later new (kept_sound size kept i (page + offset_in word) (kind_of (type_in word)) new sound is) rest
    by (Err e) is rest later = absurd (let f : ◌≡◌ {A = Result (List Site) RelocFault} (Err e) (Ok sites) = rest in cc)

-- ---- the sites of an image

pub sites_in_sound : (image : Fields) (placed : List ℕ) (sites : List Site) → sites_in image placed ≡ Ok sites → AreSites image.size sites
unfolding sites_in
sites_in_sound image placed sites h = sites_sound image.size [] 0 (parts_of (table_of image placed)) sites (no_sites image.size) h

pub nothing_in : (image : Fields) (placed : List ℕ) (sites : List Site) → image.reloc_len ≡ 0 → sites ≡ [] → sites_in image placed ≡ Ok sites
unfolding sites_in sites_from parts_at
nothing_in image placed sites none is =
    let empty : image.reloc_at + image.reloc_len - image.reloc_at ≡ 0 = omega arith in
    rw (empty, is) refl

pub read_in : (image : Fields) (placed : List ℕ) (size : ℕ) (kept : List Site) (r : Result (List Site) RelocFault) → kept ≡ [] → size ≡ image.size → sites_from size kept 0 (parts_of (table_of image placed)) ≡ r → sites_in image placed ≡ r
unfolding sites_in
read_in image placed size kept r none same h = rw (none, same) at h

pub stops_in : (image : Fields) (placed : List ℕ) (size : ℕ) (kept : List Site) (fault : RelocFault) → kept ≡ [] → size ≡ image.size → Stops fault (sites_from size kept 0 (parts_of (table_of image placed))) → Stops fault (sites_in image placed)
unfolding sites_in
stops_in image placed size kept fault none same h = rw (none, same) at h
