-- The loops of a store: each step takes a run of the addresses that are left.
use Rattle.std.proofs.Common.{◌≡◌, ℕ, ◌+◌, ◌-◌, ◌/◌, ◌<◌, ◌≤◌, ◌^◌, Bool, true, false, List, refl, sym, ◌∙◌, ap, arith, [], ◌∷◌, ◌++◌, zero, suc, length, take, drop}
use Rattle.std.specs.Prelude.{◌&&◌, Option, Some, None, slice_set, slice_get}
use Rattle.std.proofs.lemmas.Bool.Decides.{nat_tests}
use Rattle.uh_base.specs.Bytes.{next, behind, first_refused}
use Rattle.uh_base.specs.Limits.{frame_limit}
use Rattle.guest_memory.specs.Lists.{count_true, filled}
use Rattle.guest_memory.specs.Pages.{Pages, Whole, page_of, is_touched, or_false}
use Rattle.guest_memory.specs.Changes.{TouchedBesides, SomeUntouched, has_pages, lacks, put_part}
use Rattle.guest_memory.specs.Laws.{PartsArePut}
use Rattle.address_view.specs.declared.run.PageRun.{PageRun}
use Rattle.address_view.specs.Seen.{is_seen, IsRun}
use Rattle.address_view.specs.Stored.{stored, mark_seen, marked, lacks_seen, is_marked, all_marked, all_touched, AllSeen}
use Rattle.std.proofs.lemmas.List.{set_split, drop-drop, take-append-drop}
use Rattle.std.proofs.lemmas.Option.{slice_get-get_or}
use Rattle.std.proofs.Common.{get_or, add-one}
use Rattle.address_view.proofs.BaseLemmas.{base_of_stored, pages_of_stored}
use Rattle.address_view.proofs.MemoryLemmas.{count_set, set_again}
use Rattle.address_view.proofs.MarkedLemmas.{marked_less, marked_keeps, length_mark, both}
use Rattle.address_view.proofs.RunLaws.{run_marks, run_all, run_stored}
use Rattle.address_view.proofs.SplitLemmas.{pass_split, marked_split, all_split, stored_split}
use Rattle.address_view.proofs.TouchLaws.{marks_written}

-- while pages are touched: so many addresses are left, from `here` on
pub record Touching (see : ℕ → Option ℕ) (m0 m : Pages) (at len here left : ℕ) : Type 0 where
  pub low : here < 2 ^ 64
  pub same : m ≡ record m0 { touched = m.touched }
  pub rest : marked see m0.base m.touched here left ≡ marked see m0.base m0.touched at len
  pub allowed : AllSeen see m0 here left
  pub kept : (page : ℕ) → is_touched m0 page ≡ true → is_touched m page ≡ true
  pub all : all_touched see m0 at len ≡ true → all_marked see m0.base m0.touched here left ≡ true

-- while bytes are put: these are left, from `here` on
pub record Putting (see : ℕ → Option ℕ) (m0 m : Pages) (at : ℕ) (bytes : List ℕ) (here : ℕ) (left : List ℕ) : Type 0 where
  pub low : here < 2 ^ 64
  pub rest : stored see m here left ≡ stored see m0 at bytes
  pub allowed : AllSeen see m here (length left)
  pub touched : all_touched see m here (length left) ≡ true

-- ---- what is left behind so many addresses

pub low_behind : (at n here : ℕ) → here ≡ behind at n → here < 2 ^ 64
low_behind at n here h = omega (arith, h)

pub seen_behind : (see : ℕ → Option ℕ) (m : Pages) (at here n left : ℕ) → here ≡ behind at n → n ≤ left → at < 2 ^ 64 → AllSeen see m at left → AllSeen see m here (left - n)
seen_behind see m at here n left h few low ok = ap (λ k. first_refused (is_seen see m) k (left - n)) h ∙ (pass_split (is_seen see m) at left n (left - n) (omega arith) low ok).1

pub marks_behind : (see : ℕ → Option ℕ) (base : ℕ) (marks marks2 : List Bool) (at here n left : ℕ) → here ≡ behind at n → n ≤ left → at < 2 ^ 64 → marks2 ≡ marked see base marks at n → marked see base marks2 here (left - n) ≡ marked see base marks at left
marks_behind see base marks marks2 at here n left h few low e =
    ap (λ k. marked see base k here (left - n)) e ∙ ap (λ k. marked see base (marked see base marks at n) k (left - n)) h
    ∙ sym (marked_split see base marks at left n (left - n) (omega arith) low)

pub marked_over : (see : ℕ → Option ℕ) (base : ℕ) (marks : List Bool) (at left : ℕ) → left ≡ 0 → marked see base marks at left ≡ marks
unfolding marked
marked_over see base marks at left e = rw e refl

pub all_over : (see : ℕ → Option ℕ) (base : ℕ) (marks : List Bool) (at left : ℕ) → left ≡ 0 → all_marked see base marks at left ≡ true
unfolding all_marked
all_over see base marks at left e = rw e refl

-- all are marked exactly where those of a first part are and those behind it
pub all_behind : (see : ℕ → Option ℕ) (base : ℕ) (marks : List Bool) (at here n left : ℕ) → here ≡ behind at n → n ≤ left → at < 2 ^ 64
    → (all_marked see base marks at n && all_marked see base marks here (left - n)) ≡ all_marked see base marks at left
all_behind see base marks at here n left h few low =
    ap (λ k. all_marked see base marks at n && all_marked see base marks k (left - n)) h ∙ sym (all_split see base marks at left n (left - n) (omega arith) low)

pub all_true : (b c d : Bool) → b ≡ true → (b && c) ≡ d → c ≡ d
all_true b c d e f = (rw e at f)

pub all_false : (b c d : Bool) → b ≡ false → (b && c) ≡ d → false ≡ d
all_false b c d e f = (rw e at f)

-- ---- one mark among others

pub marked_already : (see : ℕ → Option ℕ) (m : Pages) (marks : List Bool) (at : ℕ) (run : PageRun) (d : Bool) → IsRun see m at run → Whole m → length marks ≡ m.pages → get_or marks run.page d ≡ true
    → marks ≡ marked see m.base marks at run.len
marked_already see m marks at run d is whole long t =
    let low = is.low in
    let g : or_false (slice_get marks run.page) ≡ true = ap or_false (slice_get-get_or marks run.page d (omega arith)) ∙ t in
    sym (set_again marks run.page g) ∙ sym (run_marks see m at run is marks whole)

pub marked_anew : (see : ℕ → Option ℕ) (m : Pages) (marks : List Bool) (at : ℕ) (run : PageRun) (d : Bool) → IsRun see m at run → length marks ≡ m.pages → get_or marks run.page d ≡ false
    → count_true (slice_set marks run.page true) ≡ count_true marks + 1
marked_anew see m marks at run d is long t =
    let low = is.low in
    let g : or_false (slice_get marks run.page) ≡ false = ap or_false (slice_get-get_or marks run.page d (omega arith)) ∙ t in
    count_set marks run.page (omega arith) g

-- one page reserved is one page marked
pub run_reserved : (see : ℕ → Option ℕ) (m : Pages) (at : ℕ) (run : PageRun) → IsRun see m at run → Whole m → filled m.touched run.page 1 true ≡ marked see m.base m.touched at run.len
run_reserved see m at run is whole =
    let low = is.low in let long = whole.touched_long in
    let one : drop 1 (drop run.page m.touched) ≡ drop (suc run.page) m.touched = drop-drop 1 run.page m.touched ∙ ap (λ k. drop k m.touched) (add-one run.page) in
    ap (λ ms. take run.page m.touched ++ true ∷ ms) one ∙ sym (set_split m.touched run.page true (omega arith)) ∙ sym (run_marks see m at run is m.touched whole)

-- what a run needs to be touched
pub run_has : (see : ℕ → Option ℕ) (m : Pages) (at : ℕ) (run : PageRun) → IsRun see m at run → has_pages m run.page 1 ≡ true
run_has see m at run is = let low = is.low in grind (arith, nat_tests)

pub run_lacks : (see : ℕ → Option ℕ) (m : Pages) (at : ℕ) (run : PageRun) → IsRun see m at run → Whole m → SomeUntouched m run.page 1 → all_touched see m at run.len ≡ false
run_lacks see m at run is whole some =
    let low = some.low in let high = some.high in
    let e : some.at ≡ run.page = omega arith in
    sym (run_all see m at run is m.touched whole) ∙ ap (λ k. or_false (slice_get m.touched k)) (sym e) ∙ some.untouched

-- a run whose page is touched
pub run_touched : (see : ℕ → Option ℕ) (m : Pages) (at : ℕ) (run : PageRun) → IsRun see m at run → Whole m → all_touched see m at run.len ≡ true → is_touched m (page_of m run.place) ≡ true
run_touched see m at run is whole all = ap (λ k. or_false (slice_get m.touched k)) (sym is.page) ∙ run_all see m at run is m.touched whole ∙ all

pub run_room : (m : Pages) (page : ℕ) → is_touched m page ≡ true → lacks m page ≡ true → ⊥
run_room m page t e = let c : false ≡ true = (rw t at e) in cc

-- ---- pages are touched

pub touching_behind : (see : ℕ → Option ℕ) (m0 m new : Pages) (at len here here2 n left : ℕ) → here2 ≡ behind here n → n ≤ left → Touching see m0 m at len here left
    → new ≡ record m { touched = marked see m.base m.touched here n } → Touching see m0 new at len here2 (left - n)
touching_behind see m0 m new at len here here2 n left h few t made =
    let b : m.base ≡ m0.base = ap (λ (k : Pages). k.base) t.same in
    let marks : new.touched ≡ marked see m0.base m.touched here n = ap (λ (k : Pages). k.touched) made ∙ ap (λ k. marked see k m.touched here n) b in
    record {
      low = low_behind here n here2 h;
      same = made ∙ ap (λ (k : Pages). record k { touched = marked see m.base m.touched here n }) t.same ∙ ap (λ ms. record m0 { touched = ms }) (sym (ap (λ (k : Pages). k.touched) made));
      rest = marks_behind see m0.base m.touched new.touched here here2 n left h few t.low marks ∙ t.rest;
      allowed = seen_behind see m0 here here2 n left h few t.low t.allowed;
      kept = λ page before. ap (λ ms. or_false (slice_get ms page)) marks ∙ marked_keeps see m0.base m.touched here n page (t.kept page before);
      all = λ every. (both (all_marked see m0.base m0.touched here n) (all_marked see m0.base m0.touched here2 (left - n)) (all_behind see m0.base m0.touched here here2 n left h few t.low ∙ t.all every)).1;
    }

pub touching_seen : (see : ℕ → Option ℕ) (m0 m : Pages) (at len here left : ℕ) → Touching see m0 m at len here left → AllSeen see m here left
touching_seen see m0 m at len here left t =
    let b : m.base ≡ m0.base = ap (λ (k : Pages). k.base) t.same in
    let p : m.pages ≡ m0.pages = ap (λ (k : Pages). k.pages) t.same in
    rw (b, p) t.allowed

pub touching_few : (see : ℕ → Option ℕ) (m0 m : Pages) (at len here n left : ℕ) → n ≤ left → lacks_seen see m0 at len ≡ false → Touching see m0 m at len here left
    → count_true (marked see m.base m.touched here n) ≤ frame_limit
touching_few see m0 m at len here n left few enough t =
    let b : m.base ≡ m0.base = ap (λ (k : Pages). k.base) t.same in
    let less = marked_less see m0.base (marked see m0.base m.touched here n) (behind here n) (left - n) in
    let total : count_true (marked see m0.base m0.touched at len) ≤ frame_limit = grind (arith, nat_tests) in
    let all = ap count_true (sym (marked_split see m0.base m.touched here left n (left - n) (omega arith) t.low) ∙ t.rest) in
    rw b (omega arith)

falsely : (b : Bool) → (b ≡ true → ⊥) → b ≡ false
falsely true no_more = absurd (no_more refl)
falsely false no_more = refl

both_true : (a b : Bool) → a ≡ true → b ≡ true → (a && b) ≡ true
both_true a b e f = rw (e, f) refl

is_marked_kept : (base : ℕ) (ms0 ms : List Bool) (o : Option ℕ) → ((page : ℕ) → or_false (slice_get ms0 page) ≡ true → or_false (slice_get ms page) ≡ true) → is_marked base ms0 o ≡ true → is_marked base ms o ≡ true
is_marked_kept base ms0 ms None kept e = refl
is_marked_kept base ms0 ms (Some place) kept e = kept ((place - base) / 4096) e

all_kept : (see : ℕ → Option ℕ) (base : ℕ) (ms0 ms : List Bool) (at n : ℕ) → ((page : ℕ) → or_false (slice_get ms0 page) ≡ true → or_false (slice_get ms page) ≡ true)
    → all_marked see base ms0 at n ≡ true → all_marked see base ms at n ≡ true
unfolding all_marked
all_kept see base ms0 ms at zero kept e = refl
all_kept see base ms0 ms at (suc n) kept e =
    let b = both (is_marked base ms0 (see at)) (all_marked see base ms0 (next at) n) e in
    both_true (is_marked base ms (see at)) (all_marked see base ms (next at) n) (is_marked_kept base ms0 ms (see at) kept b.0) (all_kept see base ms0 ms (next at) n kept b.1)

-- memory is lacking only where a page wasn't touched
pub touching_ends : (see : ℕ → Option ℕ) (m0 m new : Pages) (at len here n left : ℕ) → n ≤ left → Touching see m0 m at len here left
    → (all_touched see m here n ≡ false) × TouchedBesides m new → (all_touched see m0 at len ≡ false) × TouchedBesides m0 new
touching_ends see m0 m new at len here n left few t end =
    let b : m.base ≡ m0.base = ap (λ (k : Pages). k.base) t.same in (
      falsely (all_touched see m0 at len) (λ every.
          let part = (both (all_marked see m0.base m0.touched here n) (all_marked see m0.base m0.touched (behind here n) (left - n)) (all_behind see m0.base m0.touched here (behind here n) n left refl few t.low ∙ t.all every)).0 in
          let k : all_touched see m here n ≡ true = rw b (all_kept see m0.base m0.touched m.touched here n t.kept part) in
          let c : true ≡ false = sym k ∙ end.0 in cc),
      record {
        rest = end.1.rest ∙ ap (λ (k : Pages). record k { touched = new.touched }) t.same;
        kept = λ page before. end.1.kept page (t.kept page before);
      },
    )

pub touching_over : (see : ℕ → Option ℕ) (m0 m : Pages) (at len here left : ℕ) → left ≡ 0 → Touching see m0 m at len here left → m ≡ record m0 { touched = marked see m0.base m0.touched at len }
touching_over see m0 m at len here left e t = t.same ∙ ap (λ ms. record m0 { touched = ms }) (sym (marked_over see m0.base m.touched here left e) ∙ t.rest)

-- ---- bytes are put

pub run_put : (see : ℕ → Option ℕ) (m new : Pages) (at : ℕ) (run : PageRun) (bytes : List ℕ) → PartsArePut → IsRun see m at run → Whole m → length bytes ≡ run.len → new ≡ put_part m run.place bytes → new ≡ stored see m at bytes
run_put see m new at run bytes put is whole long made =
    let low = is.inside.low in let high = is.inside.high in let one = is.inside.one in let some = is.some in
    made ∙ put m run.place bytes whole (record { low = low; high = omega arith; one = omega arith }) (omega arith) ∙ sym (run_stored see m at run is bytes long)

pub putting_touched : (see : ℕ → Option ℕ) (m0 m : Pages) (at : ℕ) (bytes : List ℕ) (here n : ℕ) (left : List ℕ) → n ≤ length left → Putting see m0 m at bytes here left → all_touched see m here n ≡ true
putting_touched see m0 m at bytes here n left few p =
    (both (all_marked see m.base m.touched here n) (all_marked see m.base m.touched (behind here n) (length left - n)) (all_behind see m.base m.touched here (behind here n) n (length left) refl few p.low ∙ p.touched)).0

pub putting_behind : (see : ℕ → Option ℕ) (m0 m new : Pages) (at : ℕ) (bytes : List ℕ) (here here2 n : ℕ) (left part later : List ℕ) → here2 ≡ behind here n → part ≡ take n left → later ≡ drop n left
    → length part ≡ n → length later + n ≡ length left → Putting see m0 m at bytes here left → new ≡ stored see m here part → Putting see m0 new at bytes here2 later
putting_behind see m0 m new at bytes here here2 n left part later h is_part is_later long lengths p made =
    let all : all_touched see m here (length part) ≡ true = ap (λ k. all_marked see m.base m.touched here k) long ∙ putting_touched see m0 m at bytes here n left (omega arith) p in
    let marks : new.touched ≡ m.touched = marks_written see m new here part all made in
    let base : new.base ≡ m.base = base_of_stored new m see here part made in
    let pages : new.pages ≡ m.pages = pages_of_stored new m see here part made in
    let whole : part ++ later ≡ left = ap (λ xs. xs ++ later) is_part ∙ ap (λ ys. take n left ++ ys) is_later ∙ take-append-drop n left in
    let rest : length left - n ≡ length later = omega arith in
    record {
      low = low_behind here n here2 h;
      rest = ap (λ k. stored see k here2 later) made ∙ ap (λ k. stored see (stored see m here part) k later) (h ∙ ap (behind here) (sym long))
          ∙ sym (stored_split see m here part later p.low) ∙ ap (stored see m here) whole ∙ p.rest;
      allowed = rw (base, pages, ← rest) (seen_behind see m here here2 n (length left) h (omega arith) p.low p.allowed);
      touched = rw (base, marks, ← rest) ((both (all_marked see m.base m.touched here n) (all_marked see m.base m.touched here2 (length left - n)) (all_behind see m.base m.touched here here2 n (length left) h (omega arith) p.low ∙ p.touched)).1);
    }

stored_none : (see : ℕ → Option ℕ) (m : Pages) (at : ℕ) (bytes : List ℕ) → length bytes ≡ 0 → stored see m at bytes ≡ m
unfolding stored
stored_none see m at [] e = refl
stored_none see m at (b ∷ bs) e = absurd (omega arith)

pub putting_over : (see : ℕ → Option ℕ) (m0 m : Pages) (at : ℕ) (bytes : List ℕ) (here : ℕ) (left : List ℕ) → length left ≡ 0 → Putting see m0 m at bytes here left → m ≡ stored see m0 at bytes
putting_over see m0 m at bytes here left e p = sym (stored_none see m here left e) ∙ p.rest

pub length_marked : (see : ℕ → Option ℕ) (base : ℕ) (marks : List Bool) (at n : ℕ) → length (marked see base marks at n) ≡ length marks
unfolding marked
length_marked see base marks at zero = refl
length_marked see base marks at (suc n) = length_marked see base (mark_seen base marks (see at)) (next at) n ∙ length_mark base marks (see at)
