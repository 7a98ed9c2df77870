-- A run of addresses that show a run of places.
use Rattle.std.proofs.Common.{◌≡◌, ℕ, ◌+◌, ◌*◌, ◌-◌, ◌/◌, ◌%◌, ◌^◌, ◌<◌, ◌≤◌, Bool, true, false, List, refl, sym, ◌∙◌, ap, arith, zero, suc}
use Rattle.std.specs.Prelude.{nat_lt, Option, Some, None, Ok, slice_set}
use Rattle.std.proofs.lemmas.Grind.{common_steps}
use Rattle.std.proofs.lemmas.Bool.Decides.{nat_tests}
use Rattle.std.specs.Prelude.{IsTrue}
use Rattle.uh_base.specs.Bytes.{is_width, next, first_refused, number_at, loaded}
use Rattle.uh_base.specs.LittleEndian.{low_bytes}
use Rattle.rv_step.specs.declared.bus.Access.{Access}
use Rattle.uh_base.specs.Limits.{frame_limit}
use Rattle.guest_memory.specs.Lists.{count_true}
use Rattle.guest_memory.specs.Pages.{Pages, Whole, bytes_of, rights_at, InPage, page_of, is_touched}
use Rattle.guest_memory.specs.Changes.{put_to, put_number, lacks, TouchedBesides}
use Rattle.address_view.proofs.MemoryLemmas.{set_twice, too_many}
use Rattle.address_view.specs.Windows.{seen_bytes}
use Rattle.address_view.specs.Seen.{view_allows, OnePage}
use Rattle.address_view.specs.Stored.{put_seen, stored, store_seen, marked, lacks_seen, all_marked, all_touched}

pub next_is : (at : ℕ) → at + 1 < 2 ^ 64 → next at ≡ at + 1
next_is at h = omega arith

-- the next address of a run
pub shift : (P : ℕ → ℕ → Type 0) (at place n : ℕ) → ((i : ℕ) → i < suc n → P (at + i) (place + i)) → (i : ℕ) → i < n → P (at + 1 + i) (place + 1 + i)
shift P at place n h i lt =
    let a : at + 1 + i ≡ at + (i + 1) = omega arith in
    let b : place + 1 + i ≡ place + (i + 1) = omega arith in
    rw (a, b) (h (i + 1) (omega arith))

pub first : (P : ℕ → ℕ → Type 0) (at place n : ℕ) → ((i : ℕ) → i < suc n → P (at + i) (place + i)) → P at place
first P at place n h =
    let a : at + 0 ≡ at = omega arith in
    let b : place + 0 ≡ place = omega arith in
    let g : P (at + 0) (place + 0) = h 0 (omega arith) in rw (a, b) at g

pub run_allowed : (allows : ℕ → Bool) (at n : ℕ) → ((i : ℕ) → i < n → allows (at + i) ≡ true) → at + n ≤ 2 ^ 64 → first_refused allows at n ≡ None
unfolding first_refused
run_allowed allows at zero h end = refl
run_allowed allows at (suc zero) h end = let e : allows at ≡ true = first (λ a b. allows a ≡ true) at 0 0 h in rw e refl
run_allowed allows at (suc (suc n)) h end =
    let e : allows at ≡ true = first (λ a b. allows a ≡ true) at 0 (suc n) h in
    let s : next at ≡ at + 1 = next_is at (omega arith) in
    rw (e, s) (run_allowed allows (at + 1) (suc n) (shift (λ a b. allows a ≡ true) at 0 (suc n) h) (omega arith))

pub run_number : (see : ℕ → Option ℕ) (bytes : ℕ → ℕ) (at place n : ℕ) → ((i : ℕ) → i < n → see (at + i) ≡ Some (place + i)) → at + n ≤ 2 ^ 64 → place + n < 2 ^ 64
    → number_at (seen_bytes see bytes) at n ≡ number_at bytes place n
unfolding number_at seen_bytes
run_number see bytes at place zero h end below = refl
run_number see bytes at place (suc zero) h end below = let e : see at ≡ Some place = first (λ a p. see a ≡ Some p) at place 0 h in rw e refl
run_number see bytes at place (suc (suc n)) h end below =
    let e : see at ≡ Some place = first (λ a p. see a ≡ Some p) at place (suc n) h in
    let s : next at ≡ at + 1 = next_is at (omega arith) in
    let t : next place ≡ place + 1 = next_is place (omega arith) in
    rw (e, s, t) (ap (λ rest. bytes place + 256 * rest)
    (run_number see bytes (at + 1) (place + 1) (suc n) (shift (λ a p. see a ≡ Some p) at place (suc n) h) (omega arith) (omega arith)))

pub run_store : (see : ℕ → Option ℕ) (m : Pages) (at place n value : ℕ) → ((i : ℕ) → i < n → see (at + i) ≡ Some (place + i)) → at + n ≤ 2 ^ 64 → place + n < 2 ^ 64
    → store_seen see m at n value ≡ put_number m place n value
unfolding stored low_bytes put_number
run_store see m at place zero value h end below = refl
run_store see m at place (suc zero) value h end below =
    ap (λ o. stored see (put_seen m (value % 256) o) (next at) (low_bytes 0 (value / 256))) (first (λ a p. see a ≡ Some p) at place 0 h)
run_store see m at place (suc (suc n)) value h end below =
    let e : see at ≡ Some place = first (λ a p. see a ≡ Some p) at place (suc n) h in
    let s : next at ≡ at + 1 = next_is at (omega arith) in
    let t : next place ≡ place + 1 = next_is place (omega arith) in
    ap (λ o. stored see (put_seen m (value % 256) o) (next at) (low_bytes (suc n) (value / 256))) e
    ∙ ap (λ k. stored see (put_to m place (value % 256)) k (low_bytes (suc n) (value / 256))) s
    ∙ run_store see (put_to m place (value % 256)) (at + 1) (place + 1) (suc n) (value / 256)
    (shift (λ a p. see a ≡ Some p) at place (suc n) h) (omega arith) (omega arith)
    ∙ ap (λ k. put_number (put_to m place (value % 256)) k (suc n) (value / 256)) (sym t)

pub fast_load : (see : ℕ → Option ℕ) (m : Pages) (kind : Access) (at width place : ℕ) → OnePage see m kind at width place
    → loaded (seen_bytes see (bytes_of m)) (view_allows see (rights_at m) kind) at width ≡ Ok (number_at (bytes_of m) place width)
unfolding loaded
fast_load see m kind at width place one =
    let r = run_allowed (view_allows see (rights_at m) kind) at width one.allowed one.end in
    let n = run_number see (bytes_of m) at place width one.seen one.end one.place_end in
    rw (r, n) refl

-- a run in one page marks that page
pub run_marked : (see : ℕ → Option ℕ) (base at place n : ℕ) (marks : List Bool) → ((i : ℕ) → i < suc n → see (at + i) ≡ Some (place + i)) → at + suc n ≤ 2 ^ 64
    → base ≤ place → base % 4096 ≡ 0 → place % 4096 + suc n ≤ 4096 → marked see base marks at (suc n) ≡ slice_set marks ((place - base) / 4096) true
unfolding marked
run_marked see base at place zero marks h end low even one = let e : see at ≡ Some place = first (λ a p. see a ≡ Some p) at place 0 h in rw e refl
run_marked see base at place (suc n) marks h end low even one =
    let e : see at ≡ Some place = first (λ a p. see a ≡ Some p) at place (suc n) h in
    let s : next at ≡ at + 1 = next_is at (omega arith) in
    let q : (place + 1 - base) / 4096 ≡ (place - base) / 4096 = omega arith in
    rw (e, s) (run_marked see base (at + 1) (place + 1) n (slice_set marks ((place - base) / 4096) true) (shift (λ a p. see a ≡ Some p) at place (suc n) h) (omega arith) (omega arith) even (omega arith)
    ∙ ap (λ k. slice_set (slice_set marks ((place - base) / 4096) true) k true) q ∙ set_twice marks ((place - base) / 4096))

page_in : (m : Pages) (place width : ℕ) → InPage m place width → 1 ≤ width → page_of m place < m.pages
page_in m place width p some = let low = p.low in let high = p.high in omega arith

pub lacks_is : (see : ℕ → Option ℕ) (m : Pages) (kind : Access) (at width place : ℕ) → Whole m → 1 ≤ width → OnePage see m kind at width place → lacks_seen see m at width ≡ lacks m (page_of m place)
lacks_is see m kind at zero place whole some one = absurd (omega arith)
lacks_is see m kind at (suc n) place whole some one =
    ap (λ marks. nat_lt frame_limit (count_true marks)) (run_marked see m.base at place n m.touched one.seen one.end one.page.low whole.base_even one.page.one)
    ∙ too_many m (page_of m place) whole (page_in m place (suc n) one.page some)

pub unsure : (see : ℕ → Option ℕ) (m : Pages) (kind : Access) (at width place : ℕ) → 1 ≤ width → OnePage see m kind at width place → is_touched m (page_of m place) ≡ false → all_touched see m at width ≡ false
unfolding all_marked
unsure see m kind at zero place some one e = absurd (omega arith)
unsure see m kind at (suc n) place some one e =
    let f : see at ≡ Some place = first (λ a p. see a ≡ Some p) at place n one.seen in rw (f, e) refl

pub fast_content : (see : ℕ → Option ℕ) (m new : Pages) (kind : Access) (at width place value : ℕ) → OnePage see m kind at width place → new ≡ put_number m place width value → new ≡ store_seen see m at width value
fast_content see m new kind at width place value one e =
    e ∙ sym (run_store see m at place width value one.seen one.end one.place_end)

pub fast_allowed : (see : ℕ → Option ℕ) (m : Pages) (kind : Access) (at width place : ℕ) → OnePage see m kind at width place → first_refused (view_allows see (rights_at m) kind) at width ≡ None
fast_allowed see m kind at width place one = run_allowed (view_allows see (rights_at m) kind) at width one.allowed one.end

-- the first byte of a number, and the rest
pub below : (a b width : ℕ) → a < 256 → 0 < width → b < 256 ^ (width - 1) → a + 256 * b < 256 ^ width
below a b width ha some hb =
    let p : 256 ^ width ≡ 256 * 256 ^ (width - 1) = grind (arith, common_steps) in omega arith

pub some_width : (width : ℕ) → IsTrue (is_width width) → 1 ≤ width
some_width width w = grind (arith, nat_tests)

-- what is the same has at most more marks
pub kept_all : (old new : Pages) → new ≡ old → TouchedBesides old new
kept_all old new e = rw e (record { rest = refl; kept = λ page h. h })

-- the halves of what lies in one page
first_half : (see : ℕ → Option ℕ) (m : Pages) (kind : Access) (at place : ℕ) → OnePage see m kind at 4 place → OnePage see m kind at 2 place
first_half see m kind at place one = record {
  seen = λ i h. one.seen i (omega (arith, h));
  end = omega (arith, one.end);
  place_end = omega (arith, one.place_end);
  page = record { low = one.page.low; high = omega (arith, one.page.high); one = omega (arith, one.page.one) };
  allowed = λ i h. one.allowed i (omega (arith, h));
}

second_half : (see : ℕ → Option ℕ) (m : Pages) (kind : Access) (at place : ℕ) → OnePage see m kind at 4 place → OnePage see m kind (at + 2) 2 (place + 2)
second_half see m kind at place one = record {
  seen = λ i h. let a : at + 2 + i ≡ at + (2 + i) = omega arith in let p : place + 2 + i ≡ place + (2 + i) = omega arith in rw (a, p) (one.seen (2 + i) (omega (arith, h)));
  end = omega (arith, one.end);
  place_end = omega (arith, one.place_end);
  page = record { low = omega (arith, one.page.low); high = omega (arith, one.page.high); one = omega (arith, one.page.one) };
  allowed = λ i h. let a : at + 2 + i ≡ at + (2 + i) = omega arith in rw a (one.allowed (2 + i) (omega (arith, h)));
}

pub half_inside : (see : ℕ → Option ℕ) (m : Pages) (kind : Access) (at place : ℕ) → OnePage see m kind at 4 place → InPage m place 2
half_inside see m kind at place one = (first_half see m kind at place one).page

pub other_inside : (see : ℕ → Option ℕ) (m : Pages) (kind : Access) (at place : ℕ) → OnePage see m kind at 4 place → InPage m (place + 2) 2
other_inside see m kind at place one = (second_half see m kind at place one).page

pub halves_loaded : (see : ℕ → Option ℕ) (m : Pages) (kind : Access) (at place : ℕ) → OnePage see m kind at 4 place
    → (loaded (seen_bytes see (bytes_of m)) (view_allows see (rights_at m) kind) at 2 ≡ Ok (number_at (bytes_of m) place 2))
    × (loaded (seen_bytes see (bytes_of m)) (view_allows see (rights_at m) kind) ((at + 2) % 2 ^ 64) 2 ≡ Ok (number_at (bytes_of m) (place + 2) 2))
halves_loaded see m kind at place one =
    let e : (at + 2) % 2 ^ 64 ≡ at + 2 = omega (arith, one.end) in
    (fast_load see m kind at 2 place (first_half see m kind at place one), rw e (fast_load see m kind (at + 2) 2 (place + 2) (second_half see m kind at place one)))
