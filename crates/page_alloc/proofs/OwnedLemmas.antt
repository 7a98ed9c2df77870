-- Pages in a row that are one owner's.
use Rattle.std.proofs.Common.{◌≡◌, ℕ, ◌+◌, ◌<◌, ◌≤◌, List, [], ◌++◌, length, replicate, drop, get_or, refl, sym, ap, ◌∙◌, arith, Bool, true, false, inl, inr, length-drop}
use Rattle.std.specs.Prelude.{nat_le}
use Rattle.std.proofs.lemmas.Bool.Decides.{nat_tests, leb_tells}
use Rattle.page_alloc.specs.declared.page.Page.{Page}
use Rattle.page_alloc.specs.declared.page.Owner.{Owner}
use Rattle.page_alloc.specs.Pages.{all_from}
use Rattle.page_alloc.specs.Calls.{is_same_owner}
use Rattle.page_alloc.proofs.PageLemmas.{all_from_tells}
use Rattle.page_alloc.proofs.FitLemmas.{tells}
use Rattle.page_alloc.proofs.ScanLemmas.{here}

abbrev pub Seen : List Page → Owner → ℕ → ℕ → ℕ → Type 0
Seen pages owner index stop end = (k : ℕ) (d : Page) → index ≤ k → k < stop → k < end → is_same_owner (get_or pages k d).owner owner ≡ true

-- a run more
pub seen_more : (pages rest : List Page) (owner : Owner) (index stop end n : ℕ) (page : Page) → drop end pages ≡ replicate n page ++ rest
    → Seen pages owner index stop end → (index < end + n → end < stop → is_same_owner page.owner owner ≡ true) → Seen pages owner index stop (end + n)
seen_more pages rest owner index stop end n page e seen same k d low high more = elim (leb_tells end k) [
  | inl p ↦ (let l : end ≤ k = p.1 in let is : get_or pages k d ≡ page = here pages rest end n k page d e l more in
      ap (λ q. is_same_owner q.owner owner) is ∙ same (omega arith) (omega arith))
  | inr p ↦ seen k d low high p.1
]

-- a run that meets the pages asked for is another's
pub other_owner : (pages rest : List Page) (owner : Owner) (index count end n : ℕ) (page : Page) → drop end pages ≡ replicate n page ++ rest
    → 0 < n → index < end + n → end < index + count → 0 < count → is_same_owner page.owner owner ≡ false → all_from (λ p. is_same_owner p.owner owner) pages index count ≡ false
other_owner pages rest owner index count end n page e more low high some other = elim (tells (all_from (λ p. is_same_owner p.owner owner) pages index count)) [
  | inr no_pass ↦ no_pass
  | inl passes ↦ absurd (
      let p = (all_from_tells (λ p. is_same_owner p.owner owner) pages index count).0 passes in
      elim (leb_tells index end) [
        | inl q ↦ (let l : index ≤ end = q.1 in
            let is : get_or pages end page ≡ page = here pages rest end n end page page e (omega arith) (omega arith) in
            let clash : is_same_owner page.owner owner ≡ true = ap (λ q. is_same_owner q.owner owner) (sym is) ∙ p.each end page l high in cc)
        | inr q ↦ (let l : end < index = q.1 in
            let is : get_or pages index page ≡ page = here pages rest end n index page page e (omega arith) low in
            let clash : is_same_owner page.owner owner ≡ true = ap (λ q. is_same_owner q.owner owner) (sym is) ∙ p.each index page (omega arith) (omega arith) in cc)
      ])
]

-- behind the last run
owned_by : (pages : List Page) (owner : Owner) (index count end : ℕ) (b : Bool) → length pages ≡ end → Seen pages owner index (index + count) end → nat_le (index + count) end ≡ b
    → b ≡ all_from (λ p. is_same_owner p.owner owner) pages index count
owned_by pages owner index count end true long seen inside =
    let fits : index + count ≤ end = grind (arith, nat_tests) in
    sym ((all_from_tells (λ p. is_same_owner p.owner owner) pages index count).1 (record { inside = omega arith; each = λ k d low high. seen k d low high (omega arith) }))
owned_by pages owner index count end false long seen outside = elim (tells (all_from (λ p. is_same_owner p.owner owner) pages index count)) [
  | inr no_pass ↦ sym no_pass
  | inl passes ↦ absurd (let p = (all_from_tells (λ p. is_same_owner p.owner owner) pages index count).0 passes in
      let i = p.inside in let over : end < index + count = grind (arith, nat_tests) in omega arith)
]

pub owned_all : (pages : List Page) (owner : Owner) (index count end : ℕ) → end ≤ length pages → drop end pages ≡ [] → Seen pages owner index (index + count) end
    → nat_le (index + count) end ≡ all_from (λ p. is_same_owner p.owner owner) pages index count
owned_all pages owner index count end inside e seen =
    let l = ap length e in
    owned_by pages owner index count end (nat_le (index + count) end) (omega (arith, l, length-drop end pages)) seen refl
