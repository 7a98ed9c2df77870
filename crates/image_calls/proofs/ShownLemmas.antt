-- The pages that addresses show, counted.
use Rattle.std.proofs.Common.{◌≡◌, ◌∙◌, ℕ, zero, suc, ◌-◌, ◌/◌, Bool, true, false, ◌<◌, ◌≤◌, ◌+◌, List, [], ◌∷◌, ◌++◌, length, append_assoc, append-nil, arith, refl, sym, ap, slice_set}
use Rattle.std.specs.Prelude.{nat_lt, Option, Some, None, is_none, All, if◌then◌else◌}
use Rattle.std.proofs.lemmas.List.Elements.{All-push}
use Rattle.uh_base.specs.Bytes.{next, first_refused}
use Rattle.uh_base.specs.Limits.{frame_limit}
use Rattle.guest_memory.specs.Lists.{count_true}
use Rattle.guest_memory.specs.Pages.{Pages}
use Rattle.guest_memory.specs.Runs.{bytes_from}
use Rattle.uh_base.specs.LittleEndian.{low_bytes}
use Rattle.address_view.specs.Seen.{all_pass, is_seen}
use Rattle.address_view.specs.Laws.{RangesSuffice}
use Rattle.address_view.specs.Ranges.{lacks_ranges}
use Rattle.address_view.specs.Stored.{marked, mark_seen, lacks_seen, store_seen}
use Rattle.image_services.specs.Loads.{also_marked, lacks_also}
use Rattle.image_calls.specs.Loading.{page_shown, pages_shown}

one_more : (see : ℕ → Option ℕ) (base at n : ℕ) (o : Option ℕ) (marks : List Bool) → ((marks : List Bool) → marked see base marks at n ≡ also_marked marks (pages_shown see base at n))
    → marked see base (mark_seen base marks o) at n ≡ also_marked marks (page_shown base o ++ pages_shown see base at n)
unfolding also_marked
one_more see base at n None marks rest = rest marks
one_more see base at n (Some place) marks rest = rest (slice_set marks ((place - base) / 4096) true)

-- their marks are those that a store there sets
shown_marked : (see : ℕ → Option ℕ) (base : ℕ) (marks : List Bool) (at n : ℕ) → marked see base marks at n ≡ also_marked marks (pages_shown see base at n)
unfolding marked pages_shown also_marked
shown_marked see base marks at zero = refl
shown_marked see base marks at (suc n) = one_more see base (next at) n (see at) marks (λ marks. shown_marked see base marks (next at) n)

pub suffices : (see : ℕ → Option ℕ) (m : Pages) (base at n : ℕ) (pages : List ℕ) → pages ≡ pages_shown see base at n → m.base ≡ base → lacks_also m pages ≡ false → lacks_seen see m at n ≡ false
suffices see m base at n pages e b h =
    ap (λ (marks : List Bool). nat_lt frame_limit (count_true marks))
    (shown_marked see m.base m.touched at n ∙ ap (λ k. also_marked m.touched (pages_shown see k at n)) b ∙ ap (also_marked m.touched) (sym e))
    ∙ h

as_long : (n v : ℕ) → length (low_bytes n v) ≡ n
unfolding low_bytes
as_long zero v = refl
as_long (suc n) v = ap suc (as_long n (v / 256))

-- Where stores into two ranges don't lack frames together, the first doesn't, and the second doesn't behind it.
pub first_fits : RangesSuffice → (see : ℕ → Option ℕ) (m : Pages) (first second len more : ℕ)
    → lacks_ranges see m (record { at = first; len = len } ∷ record { at = second; len = more } ∷ []) ≡ false → lacks_seen see m first len ≡ false
first_fits law see m first second len more e = (law see m _ _ e).first

pub second_fits : RangesSuffice → (see : ℕ → Option ℕ) (m : Pages) (first second len more value : ℕ)
    → lacks_ranges see m (record { at = first; len = len } ∷ record { at = second; len = more } ∷ []) ≡ false → lacks_seen see (store_seen see m first len value) second more ≡ false
second_fits law see m first second len more value e =
    (law see (store_seen see m first len value) _ [] ((law see m _ _ e).stored (low_bytes len value) (as_long len value))).first

-- ---- pages one after another

-- the pages so far, of so many addresses of which so many are gone through, and those from an address on
pub record Going (see : ℕ → Option ℕ) (m : Pages) (at count here gone : ℕ) (pages : List ℕ) : Type 0 where
  pub upto : gone ≤ count
  pub same : pages ++ pages_shown see m.base here (count - gone) ≡ pages_shown see m.base at count
  pub seen : all_pass (is_seen see m) here (count - gone) ≡ true
  pub inside : All (λ (page : ℕ). page < m.pages) pages

unrefused : (b : Bool) (at : ℕ) (rest : Option ℕ) → is_none (if b then rest else Some at) ≡ true → (b ≡ true) × (is_none rest ≡ true)
unrefused true at rest e = (refl, e)
unrefused false at rest e = grind arith

seen_first : (test : ℕ → Bool) (here n : ℕ) → all_pass test here (suc n) ≡ true → (test here ≡ true) × (all_pass test (next here) n ≡ true)
unfolding first_refused
seen_first test here n e = unrefused (test here) here (first_refused test (next here) n) e

one_less : (count gone : ℕ) → gone < count → count - gone ≡ suc (count - (gone + 1))
one_less count gone l = omega arith

pub here_seen : (see : ℕ → Option ℕ) (m : Pages) (at count here gone : ℕ) (pages : List ℕ) → gone < count → Going see m at count here gone pages → is_seen see m here ≡ true
here_seen see m at count here gone pages l g = (seen_first (is_seen see m) here (count - (gone + 1)) (ap (all_pass (is_seen see m) here) (sym (one_less count gone l)) ∙ g.seen)).0

pushed : (see : ℕ → Option ℕ) (base here n page : ℕ) (pages : List ℕ) → page_shown base (see here) ≡ page ∷ [] → (pages ++ page ∷ []) ++ pages_shown see base (next here) n ≡ pages ++ pages_shown see base here (suc n)
unfolding pages_shown
pushed see base here n page pages e = append_assoc pages (page ∷ []) (pages_shown see base (next here) n) ∙ ap (λ (k : List ℕ). pages ++ (k ++ pages_shown see base (next here) n)) (sym e)

pub goes_on : (see : ℕ → Option ℕ) (m : Pages) (at count here gone page : ℕ) (pages : List ℕ) → gone < count → Going see m at count here gone pages → page_shown m.base (see here) ≡ page ∷ [] → page < m.pages
    → Going see m at count (next here) (gone + 1) (pages ++ page ∷ [])
goes_on see m at count here gone page pages l g e low = record {
  upto = omega arith;
  same = pushed see m.base here (count - (gone + 1)) page pages e ∙ ap (λ k. pages ++ pages_shown see m.base here k) (sym (one_less count gone l)) ∙ g.same;
  seen = (seen_first (is_seen see m) here (count - (gone + 1)) (ap (all_pass (is_seen see m) here) (sym (one_less count gone l)) ∙ g.seen)).1;
  inside = All-push (λ (page : ℕ). page < m.pages) pages page g.inside low;
}

pub starts : (see : ℕ → Option ℕ) (m : Pages) (at count : ℕ) → all_pass (is_seen see m) at count ≡ true → Going see m at count at 0 []
starts see m at count e =
    let all : count - 0 ≡ count = omega arith in
    record { upto = omega arith; same = ap (pages_shown see m.base at) all; seen = ap (all_pass (is_seen see m) at) all ∙ e; inside = λ k d i. absurd (omega (arith, i)) }

pub ends : (see : ℕ → Option ℕ) (m : Pages) (at count here gone : ℕ) (pages : List ℕ) → count ≤ gone → Going see m at count here gone pages → pages ≡ pages_shown see m.base at count
unfolding pages_shown
ends see m at count here gone pages l g =
    let none : count - gone ≡ 0 = (let u = g.upto in omega (arith, l)) in
    sym (append-nil pages) ∙ ap (λ k. pages ++ pages_shown see m.base here k) (sym none) ∙ g.same

-- ---- a file

many : (f : ℕ → ℕ) (at n : ℕ) → length (bytes_from f at n) ≡ n
unfolding bytes_from
many f at zero = refl
many f at (suc n) = ap suc (many f (next at) n)

pub few_bytes : (f : ℕ → ℕ) (at n most : ℕ) (bytes : List ℕ) → bytes ≡ bytes_from f at n → n ≤ most → length bytes ≤ most
few_bytes f at n most bytes e l = let same : length bytes ≡ n = ap length e ∙ many f at n in omega (arith, l, same)
