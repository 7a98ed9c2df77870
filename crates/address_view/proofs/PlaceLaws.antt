-- What is loaded and stored depends on the places alone.
use Rattle.std.proofs.Common.{◌≡◌, ℕ, ◌+◌, ◌*◌, ◌<◌, ◌^◌, Bool, true, false, List, [], ◌∷◌, length, refl, sym, ap, ◌∙◌, arith, cond, zero, suc}
use Rattle.std.specs.Prelude.{◌&&◌, ◌↔◌, nat_lt, is_none, Option, Some, None}
use Rattle.uh_base.specs.Bytes.{next, first_refused, number_at}
use Rattle.rv_step.specs.declared.bus.Access.{Access}
use Rattle.uh_base.specs.Limits.{frame_limit}
use Rattle.guest_memory.specs.Lists.{count_true}
use Rattle.guest_memory.specs.Runs.{bytes_from}
use Rattle.guest_memory.specs.Pages.{Pages, bytes_of, rights_at, holds}
use Rattle.address_view.specs.Windows.{at_place, seen_bytes}
use Rattle.address_view.specs.Seen.{may, all_pass, view_allows}
use Rattle.address_view.specs.Stored.{put_seen, stored, mark_seen, marked, is_marked, all_marked}
use Rattle.address_view.specs.Laws.{AllPass, SamePlaces, PlacesDecide}
use Rattle.address_view.proofs.StoreLaws.{none_is, is_none_of}
use Rattle.address_view.proofs.RangeLemmas.{behind_next, behind_none, next_low, pass_of_none, none_of_pass}

same_here : (see other : ℕ → Option ℕ) (at there n : ℕ) → at < 2 ^ 64 → there < 2 ^ 64 → SamePlaces see other at there (suc n) → see at ≡ other there
same_here see other at there n low low2 same = ap see (sym (behind_none at low)) ∙ same 0 (omega arith) ∙ ap other (behind_none there low2)

same_next : (see other : ℕ → Option ℕ) (at there n : ℕ) → SamePlaces see other at there (suc n) → SamePlaces see other (next at) (next there) n
same_next see other at there n same = λ i h. ap see (behind_next at i) ∙ same (suc i) (omega arith) ∙ ap other (sym (behind_next there i))

numbers_alike : (see other : ℕ → Option ℕ) (bytes : ℕ → ℕ) (at there n : ℕ) → at < 2 ^ 64 → there < 2 ^ 64 → SamePlaces see other at there n
    → number_at (seen_bytes see bytes) at n ≡ number_at (seen_bytes other bytes) there n
unfolding number_at seen_bytes
numbers_alike see other bytes at there zero low low2 same = refl
numbers_alike see other bytes at there (suc n) low low2 same =
    ap (λ o. at_place 0 bytes o + 256 * number_at (seen_bytes see bytes) (next at) n) (same_here see other at there n low low2 same)
    ∙ ap (λ k. at_place 0 bytes (other there) + 256 * k) (numbers_alike see other bytes (next at) (next there) n (next_low at) (next_low there) (same_next see other at there n same))

bytes_alike : (see other : ℕ → Option ℕ) (bytes : ℕ → ℕ) (at there n : ℕ) → at < 2 ^ 64 → there < 2 ^ 64 → SamePlaces see other at there n
    → bytes_from (seen_bytes see bytes) at n ≡ bytes_from (seen_bytes other bytes) there n
unfolding bytes_from seen_bytes
bytes_alike see other bytes at there zero low low2 same = refl
bytes_alike see other bytes at there (suc n) low low2 same =
    ap (λ o. at_place 0 bytes o ∷ bytes_from (seen_bytes see bytes) (next at) n) (same_here see other at there n low low2 same)
    ∙ ap (λ k. at_place 0 bytes (other there) ∷ k) (bytes_alike see other bytes (next at) (next there) n (next_low at) (next_low there) (same_next see other at there n same))

pass_step : (b : Bool) (x y : Option ℕ) (at there : ℕ) → is_none x ≡ is_none y → is_none (cond b x (Some at)) ≡ is_none (cond b y (Some there))
pass_step true x y at there e = e
pass_step false x y at there e = refl

-- tests of places
tests_alike : (see other : ℕ → Option ℕ) (test : Option ℕ → Bool) (at there n : ℕ) → at < 2 ^ 64 → there < 2 ^ 64 → SamePlaces see other at there n
    → all_pass (λ a. test (see a)) at n ≡ all_pass (λ a. test (other a)) there n
unfolding first_refused
tests_alike see other test at there zero low low2 same = refl
tests_alike see other test at there (suc n) low low2 same =
    ap (λ o. is_none (cond (test o) (first_refused (λ a. test (see a)) (next at) n) (Some at))) (same_here see other at there n low low2 same)
    ∙ pass_step (test (other there)) (first_refused (λ a. test (see a)) (next at) n) (first_refused (λ a. test (other a)) (next there) n) at there
    (tests_alike see other test (next at) (next there) n (next_low at) (next_low there) (same_next see other at there n same))

allowed_alike : (see other : ℕ → Option ℕ) (m : Pages) (kind : Access) (at there n : ℕ) → at < 2 ^ 64 → there < 2 ^ 64 → SamePlaces see other at there n
    → all_pass (view_allows see (rights_at m) kind) at n ≡ all_pass (view_allows other (rights_at m) kind) there n
unfolding view_allows
allowed_alike see other m kind at there n low low2 same = tests_alike see other (λ o. may kind (at_place None (rights_at m) o)) at there n low low2 same

stores_alike : (see other : ℕ → Option ℕ) (m : Pages) (at there : ℕ) (bytes : List ℕ) → at < 2 ^ 64 → there < 2 ^ 64 → SamePlaces see other at there (length bytes)
    → stored see m at bytes ≡ stored other m there bytes
unfolding stored
stores_alike see other m at there [] low low2 same = refl
stores_alike see other m at there (byte ∷ bytes) low low2 same =
    ap (λ o. stored see (put_seen m byte o) (next at) bytes) (same_here see other at there (length bytes) low low2 same)
    ∙ stores_alike see other (put_seen m byte (other there)) (next at) (next there) bytes (next_low at) (next_low there) (same_next see other at there (length bytes) same)

marks_alike : (see other : ℕ → Option ℕ) (base : ℕ) (marks : List Bool) (at there n : ℕ) → at < 2 ^ 64 → there < 2 ^ 64 → SamePlaces see other at there n
    → marked see base marks at n ≡ marked other base marks there n
unfolding marked
marks_alike see other base marks at there zero low low2 same = refl
marks_alike see other base marks at there (suc n) low low2 same =
    ap (λ o. marked see base (mark_seen base marks o) (next at) n) (same_here see other at there n low low2 same)
    ∙ marks_alike see other base (mark_seen base marks (other there)) (next at) (next there) n (next_low at) (next_low there) (same_next see other at there n same)

all_alike : (see other : ℕ → Option ℕ) (base : ℕ) (marks : List Bool) (at there n : ℕ) → at < 2 ^ 64 → there < 2 ^ 64 → SamePlaces see other at there n
    → all_marked see base marks at n ≡ all_marked other base marks there n
unfolding all_marked
all_alike see other base marks at there zero low low2 same = refl
all_alike see other base marks at there (suc n) low low2 same =
    ap (λ o. is_marked base marks o && all_marked see base marks (next at) n) (same_here see other at there n low low2 same)
    ∙ ap (λ k. is_marked base marks (other there) && k) (all_alike see other base marks (next at) (next there) n (next_low at) (next_low there) (same_next see other at there n same))

pub places_decide : PlacesDecide
places_decide see other m at there n low low2 same = record {
  number = numbers_alike see other (bytes_of m) at there n low low2 same;
  bytes = bytes_alike see other (bytes_of m) at there n low low2 same;
  allowed = λ kind. allowed_alike see other m kind at there n low low2 same;
  seen = tests_alike see other (λ o. at_place false (holds m) o) at there n low low2 same;
  after = λ bytes e. stores_alike see other m at there bytes low low2 (λ i h. same i (omega (arith, h, e)));
  lacks = ap (λ marks. nat_lt frame_limit (count_true marks)) (marks_alike see other m.base m.touched at there n low low2 same);
  touched = all_alike see other m.base m.touched at there n low low2 same;
}

pub pass_is_all : (test : ℕ → Bool) (at n : ℕ) → at < 2 ^ 64 → (all_pass test at n ≡ true) ↔ AllPass test at n
pass_is_all test at n low = (λ e. pass_of_none test at n low (none_is (first_refused test at n) e), λ all. is_none_of (first_refused test at n) (none_of_pass test at n low all))

pub pass_is_none : (test : ℕ → Bool) (at n : ℕ) → (all_pass test at n ≡ true) ↔ (first_refused test at n ≡ None)
pass_is_none test at n = (λ e. none_is (first_refused test at n) e, λ e. is_none_of (first_refused test at n) e)
