-- The search for the highest room, from the highest run down.
use Rattle.std.proofs.Common.{◌≡◌, ℕ, ◌+◌, ◌-◌, ◌<◌, ◌≤◌, List, ◌++◌, length, drop, get_or, replicate, refl, sym, ap, ◌∙◌, arith, subst, Bool, true, false, min, inl, inr, length-append, length-drop}
use Rattle.std.specs.Prelude.{◌&&◌, nat_le, Some, None, if◌then◌else◌}
use Rattle.std.specs.Bool.{Decides}
use Rattle.std.proofs.lemmas.Bool.Decides.{nat_tests, leb_tells}
use Rattle.std.proofs.lemmas.List.{get_or-drop, get_or_append_left, get_or-replicate, length-replicate}
use Rattle.page_alloc.specs.declared.page.Page.{Page}
use Rattle.page_alloc.specs.Pages.{all_from, is_conventional}
use Rattle.page_alloc.specs.Fit.{IsHighest, is_room}
use Rattle.page_alloc.proofs.PageLemmas.{Passes, all_from_tells, and_true}
use Rattle.page_alloc.proofs.FitLemmas.{tells}
use Rattle.page_alloc.specs.declared.runs.Run.{Run}
use Rattle.page_alloc.specs.Runs.{all_pages, NoneEmpty}
use Rattle.page_alloc.proofs.EditLemmas.{LastRun}

-- the pages of a run behind an end
pub here : (pages rest : List Page) (end c k : ℕ) (page d : Page) → drop end pages ≡ replicate c page ++ rest → end ≤ k → k < end + c → get_or pages k d ≡ page
here pages rest end c k page d e low high =
    let there : end + (k - end) ≡ k = omega arith in
    let short : k - end < c = omega arith in
    let long : k - end < length (replicate c page) = omega (arith, length-replicate c page) in
    ap (λ j. get_or pages j d) (sym there) ∙ sym (get_or-drop end pages (k - end) d) ∙ ap (λ ps. get_or ps (k - end) d) e
    ∙ get_or_append_left (replicate c page) rest d (k - end) long ∙ get_or-replicate c (k - end) page d short

pub end_inside : (pages rest : List Page) (end c : ℕ) (page : Page) → end ≤ length pages → drop end pages ≡ replicate c page ++ rest → end + c ≤ length pages
end_inside pages rest end c page low e =
    let l = ap length e in
    omega (arith, l, length-drop end pages, length-append (replicate c page) rest, length-replicate c page)

-- so many conventional pages from a start on, at least at a lowest start, end at most at a limit
pub record Room (pages : List Page) (count lowest limit start : ℕ) : Type 0 where
  pub passes : Passes is_conventional pages start count
  pub begins : lowest ≤ start
  pub ends : start + count ≤ limit

room_tells : (pages : List Page) (count lowest limit n : ℕ) → Decides (is_room pages count lowest limit n) (Room pages count lowest limit n)
unfolding is_room
room_tells pages count lowest limit n = (
  λ h. let p = and_true (all_from is_conventional pages n count) (nat_le lowest n && nat_le (n + count) limit) h in
      let q = and_true (nat_le lowest n) (nat_le (n + count) limit) p.1 in
      let low : nat_le lowest n ≡ true = q.0 in
      let high : nat_le (n + count) limit ≡ true = q.1 in
      record { passes = (all_from_tells is_conventional pages n count).0 p.0; begins = grind (arith, nat_tests); ends = grind (arith, nat_tests) },
  λ r. let b = r.begins in
      let l = r.ends in
      let low : nat_le lowest n ≡ true = grind (arith, nat_tests) in
      let high : nat_le (n + count) limit ≡ true = grind (arith, nat_tests) in
      rw ((all_from_tells is_conventional pages n count).1 r.passes) (rw (low, high) refl),
)

fails : (pages : List Page) (count lowest limit n : ℕ) → (Room pages count lowest limit n → ⊥) → is_room pages count lowest limit n ≡ false
fails pages count lowest limit n h = elim (tells (is_room pages count lowest limit n)) [ inl holds ↦ absurd (h ((room_tells pages count lowest limit n).0 holds)) | inr no_room ↦ no_room ]

-- what is known of the pages from a start on: those up to a top are conventional, and no room ends above it
pub record Searched (pages : List Page) (count lowest limit start top : ℕ) : Type 0 where
  pub inside : top ≤ length pages
  pub under : top ≤ limit
  pub stretch : (k : ℕ) (d : Page) → start ≤ k → k < top → is_conventional (get_or pages k d) ≡ true
  pub rooms : (n : ℕ) → Room pages count lowest limit n → n + count ≤ top

-- above the highest run
pub begin : (pages : List Page) (count lowest limit total top : ℕ) → total ≡ length pages → top ≡ min total limit → Searched pages count lowest limit total top
begin pages count lowest limit total top e t = record {
  inside = omega arith;
  under = omega arith;
  stretch = λ k d low high. absurd (omega arith);
  rooms = λ n r. let i = r.passes.inside in let l = r.ends in omega arith;
}

module _ (pages rest : List Page) (count lowest limit start c top : ℕ) (page : Page) (some : 0 < count) (more : 0 < c) (short : top < start + c + count)
    (before : Searched pages count lowest limit (start + c) top) (e : drop start pages ≡ replicate c page ++ rest) where
  -- a run of conventional pages
  longer : is_conventional page ≡ true → Searched pages count lowest limit start top
  longer conv = record {
    inside = before.inside;
    under = before.under;
    stretch = λ k d low high. elim (leb_tells (start + c) k) [
      | inl p ↦ before.stretch k d p.1 high
      | inr p ↦ (let l : k < start + c = p.1 in rw (here pages rest start c k page d e low l) conv)
    ];
    rooms = before.rooms;
  }

  -- no room has a page of a run of others
  not_over : is_conventional page ≡ false → (n : ℕ) → Room pages count lowest limit n → n + count ≤ start
  not_over not_conv n r = elim (leb_tells (n + count) start) [
    | inl p ↦ p.1
    | inr p ↦ absurd (let over : start < n + count = p.1 in
        let under = before.rooms n r in
        elim (leb_tells n start) [
          | inl q ↦ (let low : n ≤ start = q.1 in
              let is : get_or pages start page ≡ page = here pages rest start c start page page e (omega arith) (omega arith) in
              let conv = r.passes.each start page low over in
              let clash : is_conventional page ≡ true = rw is at conv in cc)
          | inr q ↦ (let low : start < n = q.1 in
              let is : get_or pages n page ≡ page = here pages rest start c n page page e (omega arith) (omega arith) in
              let conv = r.passes.each n page (omega arith) (omega arith) in
              let clash : is_conventional page ≡ true = rw is at conv in cc)
        ])
  ]

  lower : is_conventional page ≡ false → Searched pages count lowest limit start (min top start)
  lower not_conv =
      let inside = before.inside in
      let under = before.under in
      record {
        inside = omega arith;
        under = omega arith;
        stretch = λ k d low high. absurd (omega arith);
        rooms = λ n r. let a = not_over not_conv n r in let b = before.rooms n r in omega (arith, a, b);
      }

  step_by : (b : Bool) → is_conventional page ≡ b → Searched pages count lowest limit start (if b then top else min top start)
  step_by true b = longer b
  step_by false b = lower b

-- a run more, the last one before a place
pub step : (runs : List Run) (count lowest limit start place n top top' : ℕ) (d : Run) → 0 < count → NoneEmpty runs → top < start + count → LastRun runs place start n d → n ≡ (get_or runs (place - 1) d).count
    → Searched (all_pages runs) count lowest limit start top → top' ≡ (if is_conventional (get_or runs (place - 1) d).page then top else min top (start - n)) → Searched (all_pages runs) count lowest limit (start - n) top'
step runs count lowest limit start place n top top' d some all short last e before t =
    let fits = last.fits in
    let back : start ≡ start - n + n = omega arith in
    let pages : drop (start - n) (all_pages runs) ≡ replicate n (get_or runs (place - 1) d).page ++ all_pages (drop (place - 1 + 1) runs)
    = last.pages ∙ ap (λ k. replicate k (get_or runs (place - 1) d).page ++ all_pages (drop (place - 1 + 1) runs)) (sym e) in
    let before' : Searched (all_pages runs) count lowest limit (start - n + n) top = subst (λ k. Searched (all_pages runs) count lowest limit k top) back before in
    subst (λ k. Searched (all_pages runs) count lowest limit (start - n) k) (sym t)
    (step_by (all_pages runs) (all_pages (drop (place - 1 + 1) runs)) count lowest limit (start - n) n top (get_or runs (place - 1) d).page some (last.some all) (omega arith) before' pages
    (is_conventional (get_or runs (place - 1) d).page) refl)

-- no room is left above the lowest start
pub none_left : (pages : List Page) (count lowest limit start top : ℕ) → top < lowest + count → Searched pages count lowest limit start top → IsHighest (is_room pages count lowest limit) None
none_left pages count lowest limit start top over s = λ n. fails pages count lowest limit n (λ r. let low = r.begins in let high = s.rooms n r in omega (arith, low, high))

-- nor below the lowest run
pub none_below : (pages : List Page) (count lowest limit start top : ℕ) → start ≡ 0 → top < start + count → Searched pages count lowest limit start top → IsHighest (is_room pages count lowest limit) None
none_below pages count lowest limit start top e short s = λ n. fails pages count lowest limit n (λ r. let high = s.rooms n r in omega (arith, high))

-- the conventional pages below the top are enough
pub found : (pages : List Page) (count lowest limit start top best : ℕ) → lowest + count ≤ top → start + count ≤ top → best ≡ top - count → Searched pages count lowest limit start top → IsHighest (is_room pages count lowest limit) (Some best)
found pages count lowest limit start top best low enough e s =
    let inside = s.inside in
    let under = s.under in (
      (room_tells pages count lowest limit best).1 (record {
        passes = record { inside = omega arith; each = λ k d from to. s.stretch k d (omega arith) (omega arith) };
        begins = omega arith;
        ends = omega arith;
      }),
      λ n t. (let high = s.rooms n ((room_tells pages count lowest limit n).0 t) in omega (arith, high)),
    )
