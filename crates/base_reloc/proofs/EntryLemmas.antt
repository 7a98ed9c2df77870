-- Entries and blocks one after another.
use Rattle.std.proofs.Common.{◌≡◌, ℕ, ◌+◌, ◌*◌, zero, suc, List, ◌++◌, Result, Ok, Err, refl, sym, ◌∙◌, arith}
use Rattle.pe_image.specs.Numbers.{u16_at}
use Rattle.base_reloc.specs.declared.fault.RelocFault.{RelocFault}
use Rattle.base_reloc.specs.declared.fault.RelocFault.TheVariants as faults
use Rattle.base_reloc.specs.declared.site.Site.{Site}
use Rattle.base_reloc.specs.Blocks.{Part, entries_at}
use Rattle.base_reloc.specs.Kept.{◌>>=◌, kept_with, kind_of, type_in, offset_in, sites_from, Stops}

-- what stops a first step stops the whole
pub stops_first : {A B : Type 0} (fault : RelocFault) (first : Result A RelocFault) (f : A → Result B RelocFault) (whole : Result B RelocFault) → Stops fault first → (first >>= f) ≡ whole → Stops fault whole
stops_first faults.Memory first f whole h same = tt
stops_first fault first f whole h same = sym same ∙ rw h refl

-- The first of the entries that are left, and the others.
module _ (size : ℕ) (kept : List Site) (index page at k left fewer : ℕ) (table : List ℕ) (one_more : left ≡ suc fewer) (whole : Result (List Site) RelocFault) (so_far : sites_from size kept (index + k) (entries_at table page (at + 2 * k) left) ≡ whole) where
  turn : (kept_with size kept (index + k) (page + offset_in (u16_at table (at + 2 * k))) (kind_of (type_in (u16_at table (at + 2 * k)))) >>= λ sites. sites_from size sites (index + (k + 1)) (entries_at table page (at + 2 * (k + 1)) fewer)) ≡ whole
  unfolding entries_at sites_from
  turn =
      let further : at + 2 * k + 2 ≡ at + 2 * (k + 1) = omega arith in
      let next : index + k + 1 ≡ index + (k + 1) = omega arith in
      rw (← further, ← next) (rw one_more at so_far)

  pub entry_goes_on : (sites : List Site) → kept_with size kept (index + k) (page + offset_in (u16_at table (at + 2 * k))) (kind_of (type_in (u16_at table (at + 2 * k)))) ≡ Ok sites → sites_from size sites (index + (k + 1)) (entries_at table page (at + 2 * (k + 1)) fewer) ≡ whole
  entry_goes_on sites h = rw h at turn

  pub entry_fails : (fault : RelocFault) → Stops fault (kept_with size kept (index + k) (page + offset_in (u16_at table (at + 2 * k))) (kind_of (type_in (u16_at table (at + 2 * k))))) → Stops fault whole
  entry_fails fault h = stops_first fault (kept_with size kept (index + k) (page + offset_in (u16_at table (at + 2 * k))) (kind_of (type_in (u16_at table (at + 2 * k))))) _ whole h turn

pub no_entries : (size : ℕ) (kept : List Site) (index page at left : ℕ) (table : List ℕ) → left ≡ 0 → sites_from size kept index (entries_at table page at left) ≡ Ok kept
unfolding entries_at sites_from
no_entries size kept index page at left table none = rw none refl

bind_assoc : {A B C : Type 0} (r : Result A RelocFault) (f : A → Result B RelocFault) (g : B → Result C RelocFault) → ((r >>= f) >>= g) ≡ (r >>= λ x. f x >>= g)
bind_assoc (Ok x) f g = refl
bind_assoc (Err e) f g = refl

same_bind : {A B : Type 0} (r : Result A RelocFault) (f g : A → Result B RelocFault) → ((x : A) → f x ≡ g x) → (r >>= f) ≡ (r >>= g)
same_bind (Ok x) f g h = h x
same_bind (Err e) f g h = refl

-- the sites of entries and of what follows them
pub sites_from-append : (size : ℕ) (kept : List Site) (index page at n : ℕ) (table : List ℕ) (rest : List Part) → sites_from size kept index (entries_at table page at n ++ rest) ≡ (sites_from size kept index (entries_at table page at n) >>= λ sites. sites_from size sites (index + n) rest)
unfolding entries_at sites_from
sites_from-append size kept index page at zero table rest = let same : index + 0 ≡ index = omega arith in rw same refl
sites_from-append size kept index page at (suc n) table rest =
    let next : index + 1 + n ≡ index + suc n = omega arith in
    let word : ℕ = u16_at table at in
    let entry : Result (List Site) RelocFault = kept_with size kept index (page + offset_in word) (kind_of (type_in word)) in
    same_bind entry (λ sites. sites_from size sites (index + 1) (entries_at table page (at + 2) n ++ rest)) (λ sites. sites_from size sites (index + 1) (entries_at table page (at + 2) n) >>= λ s. sites_from size s (index + suc n) rest)
    (λ sites. rw (← next) (sites_from-append size sites (index + 1) page (at + 2) n table rest))
    ∙ sym (bind_assoc entry (λ sites. sites_from size sites (index + 1) (entries_at table page (at + 2) n)) (λ s. sites_from size s (index + suc n) rest))
