-- What is so of a run of addresses that show one page.
use Rattle.std.proofs.Common.{◌≡◌, ℕ, ◌+◌, ◌-◌, ◌/◌, ◌%◌, ◌<◌, ◌≤◌, ◌^◌, Bool, true, false, List, [], ◌∷◌, length, refl, sym, ◌∙◌, ap, arith, zero, suc}
use Rattle.std.specs.Prelude.{◌&&◌, Option, Some, None, slice_get, slice_set, if◌then◌else◌}
use Rattle.uh_base.specs.Bytes.{next, first_refused}
use Rattle.guest_memory.specs.Runs.{bytes_from}
use Rattle.guest_memory.specs.Pages.{Pages, Whole, bytes_of, rights_at, holds, page_of, or_false}
use Rattle.guest_memory.specs.Changes.{put_to, put_bytes}
use Rattle.rv_step.specs.declared.bus.Access.{Access}
use Rattle.address_view.specs.declared.view.Window.{Window}
use Rattle.address_view.specs.declared.run.PageRun.{PageRun}
use Rattle.address_view.specs.Windows.{Fits, AreWindows, shows, see, window_at, place_in, at_place, seen_bytes}
use Rattle.address_view.specs.Seen.{may, all_pass, is_seen, view_allows, IsRun}
use Rattle.address_view.specs.Stored.{put_seen, stored, marked, all_marked, AllSeen}
use Rattle.address_view.proofs.ViewLemmas.{is_shown, shown, same_window}
use Rattle.address_view.proofs.MemoryLemmas.{page_held}
use Rattle.address_view.proofs.RunLemmas.{shift, first, next_is, run_allowed, run_marked}
use Rattle.address_view.proofs.StoreLaws.{place_allows, first_allows, is_none_of}
use Rattle.address_view.proofs.PageRun.{in_memory, holds_it}

-- what is found is a run
pub run_is : (ws : List Window) (m : Pages) (w : Window) (at len page : ℕ) → AreWindows ws → Whole m → window_at ws at ≡ Some w → Fits w → shows w at ≡ true
    → 1 ≤ len → len ≤ w.len - (at - w.virt) → len ≤ 4096 - (w.phys + (at - w.virt)) % 4096 → holds m (w.phys + (at - w.virt)) ≡ true → page ≡ page_of m (w.phys + (at - w.virt))
    → IsRun (see ws) m at (record { place = w.phys + (at - w.virt); page = page; len = len })
run_is ws m w at len page are whole found fits s some room one held numbered =
    let b = is_shown w at s in
    let ve = fits.virt_end in
    let p = in_memory m (w.phys + (at - w.virt)) held in
    let even = whole.base_even in
    let last = whole.end in
    record {
      some = some;
      seen = λ i lt. (let f : window_at ws (at + i) ≡ Some w = same_window ws w at (at + i) are found (shown w (at + i) (omega arith) (omega arith)) in
          let e : w.phys + (at + i - w.virt) ≡ w.phys + (at - w.virt) + i = omega arith in
          ap (place_in (at + i)) f ∙ ap Some e);
      end = omega arith;
      place_end = omega arith;
      inside = record { low = omega arith; high = omega arith; one = omega arith };
      page = numbered;
      low = rw numbered (page_held m (w.phys + (at - w.virt)) held);
    }

-- an address that no window shows, or none of memory
pub unseen_there : (ws : List Window) (m : Pages) (at : ℕ) → window_at ws at ≡ None → is_seen (see ws) m at ≡ false
unseen_there ws m at e = ap (λ o. at_place false (holds m) (place_in at o)) e

if_held : (b : Bool) (page : ℕ) → None ≡ (if b then Some page else None) → b ≡ false
if_held true page e = grind arith
if_held false page e = refl

pub unseen_place : (ws : List Window) (m : Pages) (w : Window) (at : ℕ) → window_at ws at ≡ Some w → None ≡ (if holds m (w.phys + (at - w.virt)) then Some (page_of m (w.phys + (at - w.virt))) else None) → is_seen (see ws) m at ≡ false
unseen_place ws m w at e f = ap (λ o. at_place false (holds m) (place_in at o)) e ∙ if_held (holds m (w.phys + (at - w.virt))) (page_of m (w.phys + (at - w.virt))) f

if_numbered : (b : Bool) (page p : ℕ) → Some p ≡ (if b then Some page else None) → (b ≡ true) × (p ≡ page)
if_numbered true page p e = (refl, cc)
if_numbered false page p e = grind arith

pub found_page : (m : Pages) (place page : ℕ) → Some page ≡ (if holds m place then Some (page_of m place) else None) → (holds m place ≡ true) × (page ≡ page_of m place)
found_page m place page e = if_numbered (holds m place) (page_of m place) page e

-- a run has one mark
and_true : (b : Bool) → (b && true) ≡ b
and_true true = refl
and_true false = refl

and_same : (b : Bool) → (b && b) ≡ b
and_same true = refl
and_same false = refl

all_run : (see : ℕ → Option ℕ) (base at place n : ℕ) (marks : List Bool) → ((i : ℕ) → i < suc n → see (at + i) ≡ Some (place + i)) → at + suc n ≤ 2 ^ 64
    → base ≤ place → base % 4096 ≡ 0 → place % 4096 + suc n ≤ 4096 → all_marked see base marks at (suc n) ≡ or_false (slice_get marks ((place - base) / 4096))
unfolding all_marked
all_run see base at place zero marks h end low even one =
    let e : see at ≡ Some place = first (λ a p. see a ≡ Some p) at place 0 h in rw e (and_true (or_false (slice_get marks ((place - base) / 4096))))
all_run see base at place (suc n) marks h end low even one =
    let e : see at ≡ Some place = first (λ a p. see a ≡ Some p) at place (suc n) h in
    let s : next at ≡ at + 1 = next_is at (omega arith) in
    let q : (place + 1 - base) / 4096 ≡ (place - base) / 4096 = omega arith in
    let rest : all_marked see base marks (at + 1) (suc n) ≡ or_false (slice_get marks ((place + 1 - base) / 4096)) =
    all_run see base (at + 1) (place + 1) n marks (shift (λ a p. see a ≡ Some p) at place (suc n) h) (omega arith) (omega arith) even (omega arith) in
    rw (e, s) (ap (λ b. or_false (slice_get marks ((place - base) / 4096)) && b) (rest ∙ ap (λ k. or_false (slice_get marks k)) q) ∙ and_same (or_false (slice_get marks ((place - base) / 4096))))

stored_run : (see : ℕ → Option ℕ) (m : Pages) (at place : ℕ) (bytes : List ℕ) → ((i : ℕ) → i < length bytes → see (at + i) ≡ Some (place + i)) → at + length bytes ≤ 2 ^ 64 → place + length bytes < 2 ^ 64
    → stored see m at bytes ≡ put_bytes m place bytes
unfolding stored put_bytes
stored_run see m at place [] h end below = refl
stored_run see m at place (b ∷ []) h end below = ap (λ o. stored see (put_seen m b o) (next at) []) (first (λ a p. see a ≡ Some p) at place 0 h)
stored_run see m at place (b ∷ c ∷ bytes) h end below =
    let e : see at ≡ Some place = first (λ a p. see a ≡ Some p) at place (suc (length bytes)) h in
    let s : next at ≡ at + 1 = next_is at (omega arith) in
    let t : next place ≡ place + 1 = next_is place (omega arith) in
    ap (λ o. stored see (put_seen m b o) (next at) (c ∷ bytes)) e
    ∙ ap (λ k. stored see (put_to m place b) k (c ∷ bytes)) s
    ∙ stored_run see (put_to m place b) (at + 1) (place + 1) (c ∷ bytes) (shift (λ a p. see a ≡ Some p) at place (suc (length bytes)) h) (omega arith) (omega arith)
    ∙ ap (λ k. put_bytes (put_to m place b) k (c ∷ bytes)) (sym t)

bytes_run : (see : ℕ → Option ℕ) (bytes : ℕ → ℕ) (at place n : ℕ) → ((i : ℕ) → i < n → see (at + i) ≡ Some (place + i)) → at + n ≤ 2 ^ 64 → place + n < 2 ^ 64
    → bytes_from (seen_bytes see bytes) at n ≡ bytes_from bytes place n
unfolding bytes_from seen_bytes
bytes_run see bytes at place zero h end below = refl
bytes_run see bytes at place (suc zero) h end below = let e : see at ≡ Some place = first (λ a p. see a ≡ Some p) at place 0 h in rw e refl
bytes_run see bytes at place (suc (suc n)) h end below =
    let e : see at ≡ Some place = first (λ a p. see a ≡ Some p) at place (suc n) h in
    let s : next at ≡ at + 1 = next_is at (omega arith) in
    let t : next place ≡ place + 1 = next_is place (omega arith) in
    rw (e, s, t) (ap (λ rest. bytes place ∷ rest)
    (bytes_run see bytes (at + 1) (place + 1) (suc n) (shift (λ a p. see a ≡ Some p) at place (suc n) h) (omega arith) (omega arith)))

pub seen_first : (see : ℕ → Option ℕ) (m : Pages) (at most : ℕ) → 1 ≤ most → AllSeen see m at most → is_seen see m at ≡ false → ⊥
seen_first see m at most some ok e =
    let n : most ≡ suc (most - 1) = omega arith in
    let c : true ≡ false = sym (first_allows see m at most (most - 1) n ok).0 ∙ e in cc

long_as : (bytes : ℕ → ℕ) (at n : ℕ) → length (bytes_from bytes at n) ≡ n
unfolding bytes_from
long_as bytes at zero = refl
long_as bytes at (suc n) = ap suc (long_as bytes (next at) n)

-- what shows no memory allows nothing
pub unseen_refuses : (see : ℕ → Option ℕ) (m : Pages) (kind : Access) (at : ℕ) → is_seen see m at ≡ false → view_allows see (rights_at m) kind at ≡ false
unfolding view_allows
unseen_refuses see m kind at e = falsely (view_allows see (rights_at m) kind at) (λ t. (let c : true ≡ false = sym (place_allows m kind (see at) t) ∙ e in cc))
  where
    falsely : (b : Bool) → (b ≡ true → ⊥) → b ≡ false
    falsely true no_more = absurd (no_more refl)
    falsely false no_more = refl

module _ (see : ℕ → Option ℕ) (m : Pages) (at : ℕ) (run : PageRun) (is : IsRun see m at run) where
  held : (i : ℕ) → i < run.len → holds m (run.place + i) ≡ true
  held i h = let low = is.inside.low in let high = is.inside.high in holds_it m (run.place + i) (omega arith) (omega arith)

  -- each address of it shows memory
  pub run_seen : first_refused (is_seen see m) at run.len ≡ None
  run_seen = run_allowed (is_seen see m) at run.len (λ i h. ap (at_place false (holds m)) (is.seen i h) ∙ held i h) is.end

  right_there : Whole m → (i : ℕ) → i < run.len → rights_at m (run.place + i) ≡ rights_at m run.place
  unfolding rights_at
  right_there whole i h =
      let low = is.inside.low in let one = is.inside.one in let even = whole.base_even in let some = is.some in
      let here : holds m run.place ≡ true = holds_it m run.place (omega arith) (let high = is.inside.high in omega arith) in
      let there = held i h in
      let page : page_of m (run.place + i) ≡ page_of m run.place = omega arith in
      rw (here, there, page) refl

  allows_each : (kind : Access) → Whole m → (i : ℕ) → i < run.len → view_allows see (rights_at m) kind (at + i) ≡ may kind (rights_at m run.place)
  unfolding view_allows
  allows_each kind whole i h = ap (λ o. may kind (at_place None (rights_at m) o)) (is.seen i h) ∙ ap (may kind) (right_there whole i h)

  -- each address of it allows what its page allows
  pub run_allows : (kind : Access) → Whole m → may kind (rights_at m run.place) ≡ true → first_refused (view_allows see (rights_at m) kind) at run.len ≡ None
  run_allows kind whole can = run_allowed (view_allows see (rights_at m) kind) at run.len (λ i h. allows_each kind whole i h ∙ can) is.end

  pub run_refuses : (kind : Access) → Whole m → may kind (rights_at m run.place) ≡ false → view_allows see (rights_at m) kind at ≡ false
  run_refuses kind whole cannot =
      let z : at + 0 ≡ at = omega arith in
      let e : view_allows see (rights_at m) kind (at + 0) ≡ may kind (rights_at m run.place) = allows_each kind whole 0 (let some = is.some in omega arith) in
      (rw z at e) ∙ cannot

  -- one page is marked
  pub run_marks : (marks : List Bool) → Whole m → marked see m.base marks at run.len ≡ slice_set marks run.page true
  run_marks marks whole = by run.len refl
    where
      by : (n : ℕ) → n ≡ run.len → marked see m.base marks at run.len ≡ slice_set marks run.page true
      by zero e = let some = is.some in absurd (omega arith)
      by (suc n) e =
          let end = is.end in let one = is.inside.one in
          ap (λ k. marked see m.base marks at k) (sym e)
          ∙ run_marked see m.base at run.place n marks (λ i h. is.seen i (omega arith)) (omega arith) is.inside.low whole.base_even (omega arith)
          ∙ ap (λ k. slice_set marks k true) (sym is.page)

  -- one mark says whether all are marked
  pub run_all : (marks : List Bool) → Whole m → or_false (slice_get marks run.page) ≡ all_marked see m.base marks at run.len
  run_all marks whole = by run.len refl
    where
      by : (n : ℕ) → n ≡ run.len → or_false (slice_get marks run.page) ≡ all_marked see m.base marks at run.len
      by zero e = let some = is.some in absurd (omega arith)
      by (suc n) e =
          let end = is.end in let one = is.inside.one in
          ap (λ k. or_false (slice_get marks k)) is.page
          ∙ sym (all_run see m.base at run.place n marks (λ i h. is.seen i (omega arith)) (omega arith) is.inside.low whole.base_even (omega arith))
          ∙ ap (λ k. all_marked see m.base marks at k) e

  -- bytes are stored in one page
  pub run_stored : (bytes : List ℕ) → length bytes ≡ run.len → stored see m at bytes ≡ put_bytes m run.place bytes
  run_stored bytes e =
      let end = is.end in let place_end = is.place_end in
      stored_run see m at run.place bytes (λ i h. is.seen i (omega arith)) (omega arith) (omega arith)

  -- bytes are loaded from one page
  pub run_bytes : bytes_from (seen_bytes see (bytes_of m)) at run.len ≡ bytes_from (bytes_of m) run.place run.len
  run_bytes = bytes_run see (bytes_of m) at run.place run.len is.seen is.end is.place_end

  pub part_long : (part : List ℕ) → part ≡ bytes_from (bytes_of m) run.place run.len → length part ≡ run.len
  part_long part e = ap length e ∙ long_as (bytes_of m) run.place run.len

  pub part_is : (part : List ℕ) → part ≡ bytes_from (bytes_of m) run.place run.len → part ≡ bytes_from (seen_bytes see (bytes_of m)) at (length part)
  part_is part e = e ∙ sym run_bytes ∙ ap (bytes_from (seen_bytes see (bytes_of m)) at) (sym (part_long part e))

  pub run_passes : (part : List ℕ) → part ≡ bytes_from (bytes_of m) run.place run.len → all_pass (is_seen see m) at (length part) ≡ true
  run_passes part e = ap (all_pass (is_seen see m) at) (part_long part e) ∙ is_none_of (first_refused (is_seen see m) at run.len) run_seen
