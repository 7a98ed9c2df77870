-- Blocks one after another.
use Rattle.std.proofs.Common.{◌≡◌, ℕ, ◌+◌, ◌-◌, ◌%◌, ◌<◌, ◌≤◌, ◌&&◌, zero, suc, List, [], ◌∷◌, ◌++◌, length, true, false, leb, ltb, eqb, Option, Some, None, Result, Ok, Err, refl, sym, ap, ◌∙◌, arith, inl, inr}
use Rattle.std.proofs.lemmas.Bool.{cases_Bool}
use borrow.Author.Tests.{leb-true, leb-false, le-leb, lt-leb}
use Rattle.pe_image.specs.Numbers.{u32_at}
use Rattle.base_reloc.proofs.ListLemmas.{both_true}
use Rattle.base_reloc.specs.declared.fault.RelocFault.{RelocFault}
use Rattle.base_reloc.specs.declared.fault.RelocFault.TheVariants as faults
use Rattle.base_reloc.specs.declared.reading.Block.{Block}
use Rattle.base_reloc.specs.declared.site.Site.{Site}
use Rattle.base_reloc.specs.Blocks.{Part, Broken, entries_at, with_block, parts_at, parts_from, is_block_size, entry_count}
use Rattle.base_reloc.specs.Kept.{◌>>=◌, sites_from, Stops}
use Rattle.base_reloc.specs.Steps.{block_at}
use Rattle.base_reloc.proofs.MarkLemmas.{stops}
use Rattle.base_reloc.proofs.EntryLemmas.{stops_first, sites_from-append}

-- a proper block leaves fewer bytes behind it
block_takes : (size left : ℕ) → is_block_size size left ≡ true → (8 ≤ size) × (size ≤ left)
block_takes size left h =
    let parts = both_true (leb 8 size) (eqb (size % 2) 0 && leb size left) h in
    let ends = both_true (eqb (size % 2) 0) (leb size left) parts.1 in
    (leb-true 8 size parts.0, leb-true size left ends.1)

-- what follows a block hangs on the offsets behind it alone
same_block : (table : List ℕ) (at block : ℕ) (f g : ℕ → ℕ → List Part) → ((size : ℕ) → 8 ≤ size → at + size ≤ length table → f (at + size) (block + 1) ≡ g (at + size) (block + 1)) → at < length table → with_block table at block f ≡ with_block table at block g
same_block table at block f g h below =
    let page : ℕ = u32_at table at in
    let size : ℕ = u32_at table (at + 4) in
    elim (cases_Bool (ltb (length table) (at + 8))) [
      | inl short ↦ rw short refl
      | inr long ↦
          elim (cases_Bool (eqb page 0 && eqb size 0)) [
            | inl last ↦ rw (long, last) refl
            | inr more ↦
                elim (cases_Bool (is_block_size size (length table - at))) [
                  | inl proper ↦
                      let takes = block_takes size (length table - at) proper in
                      rw (long, more, proper) (ap (λ (rest : List Part). entries_at table page (at + 8) (entry_count size) ++ rest) (h size takes.0 (omega (arith, takes.1))))
                  | inr broken ↦ rw (long, more, broken) refl
                ]
          ]
    ]

-- blocks enough are enough
parts_enough : (n m : ℕ) (table : List ℕ) (at block : ℕ) → length table - at ≤ n → length table - at ≤ m → parts_at n table at block ≡ parts_at m table at block
unfolding parts_at
parts_enough zero zero table at block few many = refl
parts_enough zero (suc m) table at block few many = let over : leb (length table) at ≡ true = le-leb (length table) at (omega arith) in rw over refl
parts_enough (suc n) zero table at block few many = let over : leb (length table) at ≡ true = le-leb (length table) at (omega arith) in rw over refl
parts_enough (suc n) (suc m) table at block few many =
    elim (cases_Bool (leb (length table) at)) [
      | inl over ↦ rw over refl
      | inr under ↦
          let below : at < length table = leb-false (length table) at under in
          rw under (same_block table at block (parts_at n table) (parts_at m table) (λ size wide inside. parts_enough n m table (at + size) (block + 1) (omega arith) (omega arith)) below)
    ]

-- the first block, and the others
pub parts_next : (table : List ℕ) (at block : ℕ) → at < length table → parts_from table at block ≡ with_block table at block (parts_from table)
unfolding parts_at
parts_next table at block below =
    let fuel : length table - at ≡ suc (length table - at - 1) = omega arith in
    let under : leb (length table) at ≡ false = lt-leb (length table) at below in
    ap (λ (n : ℕ). parts_at n table at block) fuel ∙ rw under (same_block table at block (parts_at (length table - at - 1) table) (parts_from table) (λ size wide inside. parts_enough (length table - at - 1) (length table - (at + size)) table (at + size) (block + 1) (omega arith) (omega arith)) below)

pub parts_end : (table : List ℕ) (at block : ℕ) → length table ≤ at → parts_from table at block ≡ []
unfolding parts_at
parts_end table at block over = let none : length table - at ≡ 0 = omega arith in rw none refl

-- a block by what its header says
data BlockCase (table : List ℕ) (at block : ℕ) (f : ℕ → ℕ → List Part) : Type 0 where
  broken : block_at table at block ≡ Err (faults.BlockSize block) → with_block table at block f ≡ Broken block ∷ [] → BlockCase table at block f
  last : block_at table at block ≡ Ok None → with_block table at block f ≡ [] → BlockCase table at block f
  proper : (b : Block) → block_at table at block ≡ Ok (Some b) → with_block table at block f ≡ entries_at table b.page (at + 8) (entry_count b.size) ++ f (at + b.size) (block + 1) → BlockCase table at block f

block_case : (table : List ℕ) (at block : ℕ) (f : ℕ → ℕ → List Part) → BlockCase table at block f
block_case table at block f =
    let page : ℕ = u32_at table at in
    let size : ℕ = u32_at table (at + 4) in
    elim (cases_Bool (ltb (length table) (at + 8))) [
      | inl short ↦ broken (rw short refl) (rw short refl)
      | inr long ↦
          elim (cases_Bool (eqb page 0 && eqb size 0)) [
            | inl end ↦ last (rw (long, end) refl) (rw (long, end) refl)
            | inr more ↦
                elim (cases_Bool (is_block_size size (length table - at))) [
                  | inl fits ↦ proper (record { page = page; size = size }) (rw (long, more, fits) refl) (rw (long, more, fits) refl)
                  | inr misfits ↦ broken (rw (long, more, misfits) refl) (rw (long, more, misfits) refl)
                ]
          ]
    ]

module _ (size : ℕ) (kept : List Site) (index at block : ℕ) (table : List ℕ) (below : at < length table) (whole : Result (List Site) RelocFault) (so_far : sites_from size kept index (parts_from table at block) ≡ whole) where
  turn : sites_from size kept index (with_block table at block (parts_from table)) ≡ whole
  turn = ap (λ (parts : List Part). sites_from size kept index parts) (sym (parts_next table at block below)) ∙ so_far

  pub block_fails : (fault : RelocFault) → block_at table at block ≡ Err fault → Stops fault whole
  unfolding sites_from
  block_fails fault h = elim (block_case table at block (parts_from table)) [
    | broken is parts ↦
        let e : ◌≡◌ {A = Result (Option Block) RelocFault} (Err fault) (Err (faults.BlockSize block)) = sym h ∙ is in
        let same : fault ≡ faults.BlockSize block = cc in
        stops fault whole (sym turn ∙ ap (λ (ps : List Part). sites_from size kept index ps) parts ∙ rw same refl)
    | last is parts ↦ absurd (let e : ◌≡◌ {A = Result (Option Block) RelocFault} (Err fault) (Ok None) = sym h ∙ is in cc)
    | proper b is parts ↦ absurd (let e : ◌≡◌ {A = Result (Option Block) RelocFault} (Err fault) (Ok (Some b)) = sym h ∙ is in cc)
  ]

  pub block_last : block_at table at block ≡ Ok None → whole ≡ Ok kept
  unfolding sites_from
  block_last h = elim (block_case table at block (parts_from table)) [
    | broken is parts ↦ absurd (let e : ◌≡◌ {A = Result (Option Block) RelocFault} (Ok None) (Err (faults.BlockSize block)) = sym h ∙ is in cc)
    | last is parts ↦ sym turn ∙ ap (λ (ps : List Part). sites_from size kept index ps) parts
    | proper b is parts ↦ absurd (let e : ◌≡◌ {A = Result (Option Block) RelocFault} (Ok None) (Ok (Some b)) = sym h ∙ is in cc)
  ]

  block_read : (b : Block) → block_at table at block ≡ Ok (Some b) → (sites_from size kept index (entries_at table b.page (at + 8) (entry_count b.size)) >>= λ sites. sites_from size sites (index + entry_count b.size) (parts_from table (at + b.size) (block + 1))) ≡ whole
  block_read b h = elim (block_case table at block (parts_from table)) [
    | broken is parts ↦ absurd (let e : ◌≡◌ {A = Result (Option Block) RelocFault} (Ok (Some b)) (Err (faults.BlockSize block)) = sym h ∙ is in cc)
    | last is parts ↦ absurd (let e : ◌≡◌ {A = Result (Option Block) RelocFault} (Ok (Some b)) (Ok None) = sym h ∙ is in cc)
    | proper c is parts ↦
        let e : ◌≡◌ {A = Result (Option Block) RelocFault} (Ok (Some b)) (Ok (Some c)) = sym h ∙ is in
        let same : b ≡ c = cc in
        rw same (sym (sites_from-append size kept index c.page (at + 8) (entry_count c.size) table (parts_from table (at + c.size) (block + 1))) ∙ ap (λ (ps : List Part). sites_from size kept index ps) (sym parts) ∙ turn)
  ]

  pub block_goes_on : (b : Block) (sites : List Site) → block_at table at block ≡ Ok (Some b) → sites_from size kept index (entries_at table b.page (at + 8) (entry_count b.size)) ≡ Ok sites → sites_from size sites (index + entry_count b.size) (parts_from table (at + b.size) (block + 1)) ≡ whole
  block_goes_on b sites h kept_is = rw kept_is at (block_read b h)

  pub entries_fail : (b : Block) (fault : RelocFault) → block_at table at block ≡ Ok (Some b) → Stops fault (sites_from size kept index (entries_at table b.page (at + 8) (entry_count b.size))) → Stops fault whole
  entries_fail b fault h failed = stops_first fault (sites_from size kept index (entries_at table b.page (at + 8) (entry_count b.size))) _ whole failed (block_read b h)

pub no_blocks : (size : ℕ) (kept : List Site) (index at block : ℕ) (table : List ℕ) → length table ≤ at → (whole : Result (List Site) RelocFault) → sites_from size kept index (parts_from table at block) ≡ whole → whole ≡ Ok kept
unfolding sites_from
no_blocks size kept index at block table over whole so_far = sym so_far ∙ ap (λ (parts : List Part). sites_from size kept index parts) (parts_end table at block over)
