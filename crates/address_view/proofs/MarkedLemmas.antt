-- The pages that a store marks.
use Rattle.std.proofs.Common.{◌≡◌, ℕ, ◌+◌, ◌-◌, ◌/◌, ◌<◌, ◌≤◌, Bool, true, false, List, refl, sym, ◌∙◌, ap, arith, [], ◌∷◌, zero, suc, length, length-set}
use Rattle.std.specs.Prelude.{◌&&◌, Option, Some, None, slice_set, slice_get}
use Rattle.std.proofs.lemmas.Bool.Decides.{nat_tests}
use Rattle.uh_base.specs.Bytes.{next, first_refused}
use Rattle.uh_base.specs.Limits.{frame_limit}
use Rattle.guest_memory.specs.Lists.{count_true}
use Rattle.guest_memory.specs.Pages.{Pages, holds, page_of, or_false}
use Rattle.address_view.proofs.MemoryLemmas.{set_again}
use Rattle.address_view.specs.Seen.{is_seen}
use Rattle.address_view.specs.Stored.{put_seen, stored, mark_seen, marked, lacks_seen, is_marked, all_marked, all_touched, AllSeen}
use Rattle.address_view.proofs.MemoryLemmas.{page_held}
use Rattle.address_view.proofs.StoreLaws.{unrefused, seen_place}

set_keeps : (marks : List Bool) (i j : ℕ) → or_false (slice_get marks i) ≡ true → or_false (slice_get (slice_set marks j true) i) ≡ true
set_keeps [] i j e = e
set_keeps (mark ∷ marks) zero zero e = refl
set_keeps (mark ∷ marks) zero (suc j) e = e
set_keeps (mark ∷ marks) (suc i) zero e = e
set_keeps (mark ∷ marks) (suc i) (suc j) e = set_keeps marks i j e

pub set_there : (marks : List Bool) (i : ℕ) → i < length marks → or_false (slice_get (slice_set marks i true) i) ≡ true
set_there [] i h = absurd (omega arith)
set_there (mark ∷ marks) zero h = refl
set_there (mark ∷ marks) (suc i) h = set_there marks i (omega arith)

pub seen_keeps : (base : ℕ) (marks : List Bool) (o : Option ℕ) (i : ℕ) → or_false (slice_get marks i) ≡ true → or_false (slice_get (mark_seen base marks o) i) ≡ true
seen_keeps base marks None i e = e
seen_keeps base marks (Some place) i e = set_keeps marks i ((place - base) / 4096) e

-- a mark stays
pub marked_keeps : (see : ℕ → Option ℕ) (base : ℕ) (marks : List Bool) (at n i : ℕ) → or_false (slice_get marks i) ≡ true → or_false (slice_get (marked see base marks at n) i) ≡ true
unfolding marked
marked_keeps see base marks at zero i e = e
marked_keeps see base marks at (suc n) i e = marked_keeps see base (mark_seen base marks (see at)) (next at) n i (seen_keeps base marks (see at) i e)

pub length_mark : (base : ℕ) (marks : List Bool) (o : Option ℕ) → length (mark_seen base marks o) ≡ length marks
length_mark base marks None = refl
length_mark base marks (Some place) = length-set marks ((place - base) / 4096) true

pub both : (a b : Bool) → (a && b) ≡ true → (a ≡ true) × (b ≡ true)
both true b e = (refl, e)
both false b e = grind arith

pub mark_same : (base : ℕ) (marks : List Bool) (o : Option ℕ) → is_marked base marks o ≡ true → mark_seen base marks o ≡ marks
mark_same base marks None e = refl
mark_same base marks (Some place) e = set_again marks ((place - base) / 4096) e

-- marks that are all there stay as they are
pub same_marked : (see : ℕ → Option ℕ) (base : ℕ) (marks : List Bool) (at n : ℕ) → all_marked see base marks at n ≡ true → marked see base marks at n ≡ marks
unfolding marked all_marked
same_marked see base marks at zero e = refl
same_marked see base marks at (suc n) e =
    let b = both (is_marked base marks (see at)) (all_marked see base marks (next at) n) e in
    ap (λ k. marked see base k (next at) n) (mark_same base marks (see at) b.0) ∙ same_marked see base marks (next at) n b.1

-- where addresses show memory, the first shows a place in it
pub place_of : (see : ℕ → Option ℕ) (m : Pages) (at n : ℕ) → AllSeen see m at (suc n) → (place : ℕ) × (see at ≡ Some place) × (holds m place ≡ true) × AllSeen see m (next at) n
unfolding first_refused
place_of see m at n ok =
    let u = unrefused (is_seen see m at) at (first_refused (is_seen see m) (next at) n) ok in
    let p = seen_place m (see at) u.0 in (p.0, p.1, p.2, u.1)

both_true : (a b : Bool) → a ≡ true → b ≡ true → (a && b) ≡ true
both_true a b e f = rw (e, f) refl

marked_next : (see : ℕ → Option ℕ) (base : ℕ) (marks : List Bool) (at place n : ℕ) → see at ≡ Some place → marked see base marks at (suc n) ≡ marked see base (slice_set marks ((place - base) / 4096) true) (next at) n
unfolding marked
marked_next see base marks at place n e = ap (λ o. marked see base (mark_seen base marks o) (next at) n) e

all_marked_next : (see : ℕ → Option ℕ) (base : ℕ) (marks : List Bool) (at n : ℕ) → is_marked base marks (see at) ≡ true → all_marked see base marks (next at) n ≡ true → all_marked see base marks at (suc n) ≡ true
unfolding all_marked
all_marked_next see base marks at n e f = both_true (is_marked base marks (see at)) (all_marked see base marks (next at) n) e f

no_addresses : (see : ℕ → Option ℕ) (base : ℕ) (marks : List Bool) (at : ℕ) → all_marked see base marks at 0 ≡ true
unfolding all_marked
no_addresses see base marks at = refl

-- marking leaves all marked
pub all_after : (see : ℕ → Option ℕ) (m : Pages) (marks : List Bool) (at n : ℕ) → length marks ≡ m.pages → AllSeen see m at n → all_marked see m.base (marked see m.base marks at n) at n ≡ true
all_after see m marks at zero long ok = no_addresses see m.base (marked see m.base marks at 0) at
all_after see m marks at (suc n) long ok =
    let p = place_of see m at n ok in
    let page : page_of m p.0 < m.pages = page_held m p.0 p.2 in
    let marks2 : List Bool = slice_set marks (page_of m p.0) true in
    let after : List Bool = marked see m.base marks2 (next at) n in
    let there : or_false (slice_get marks2 (page_of m p.0)) ≡ true = set_there marks (page_of m p.0) (omega arith) in
    let kept : or_false (slice_get after (page_of m p.0)) ≡ true = marked_keeps see m.base marks2 (next at) n (page_of m p.0) there in
    let later : all_marked see m.base after (next at) n ≡ true =
    all_after see m marks2 (next at) n (length-set marks (page_of m p.0) true ∙ long) p.3 in
    ap (λ k. all_marked see m.base k at (suc n)) (marked_next see m.base marks at p.0 n p.1)
    ∙ all_marked_next see m.base after at n (ap (is_marked m.base after) p.1 ∙ kept) later

put_over : (m : Pages) (marks : List Bool) (byte : ℕ) (o : Option ℕ) → put_seen (record m { touched = marks }) byte o ≡ record (put_seen m byte o) { touched = mark_seen m.base marks o }
put_over m marks byte None = refl
put_over m marks byte (Some place) = refl

pub base_put : (m : Pages) (byte : ℕ) (o : Option ℕ) → (put_seen m byte o).base ≡ m.base
base_put m byte None = refl
base_put m byte (Some place) = refl

-- bytes are stored whatever is marked
pub stored_over : (see : ℕ → Option ℕ) (m : Pages) (marks : List Bool) (at : ℕ) (bytes : List ℕ)
    → stored see (record m { touched = marks }) at bytes ≡ record (stored see m at bytes) { touched = marked see m.base marks at (length bytes) }
unfolding stored marked
stored_over see m marks at [] = refl
stored_over see m marks at (byte ∷ bytes) =
    ap (λ k. stored see k (next at) bytes) (put_over m marks byte (see at))
    ∙ stored_over see (put_seen m byte (see at)) (mark_seen m.base marks (see at)) (next at) bytes
    ∙ ap (λ k. record (stored see (put_seen m byte (see at)) (next at) bytes) { touched = marked see k (mark_seen m.base marks (see at)) (next at) (length bytes) }) (base_put m byte (see at))

-- to touch the pages first changes nothing
pub touched_first : (see : ℕ → Option ℕ) (m : Pages) (at : ℕ) (bytes : List ℕ) → length m.touched ≡ m.pages → AllSeen see m at (length bytes)
    → stored see (record m { touched = marked see m.base m.touched at (length bytes) }) at bytes ≡ stored see m at bytes
touched_first see m at bytes long ok =
    let marks : List Bool = marked see m.base m.touched at (length bytes) in
    stored_over see m marks at bytes
    ∙ ap (λ k. record (stored see m at bytes) { touched = k }) (same_marked see m.base marks at (length bytes) (all_after see m m.touched at (length bytes) long ok))
    ∙ sym (stored_over see m m.touched at bytes)

-- counts
count_less : (marks : List Bool) (i : ℕ) → count_true marks ≤ count_true (slice_set marks i true)
unfolding count_true
count_less [] i = omega arith
count_less (true ∷ marks) zero = omega arith
count_less (false ∷ marks) zero = omega arith
count_less (true ∷ marks) (suc i) = let h = count_less marks i in omega arith
count_less (false ∷ marks) (suc i) = count_less marks i

count_one : (marks : List Bool) (i : ℕ) → count_true (slice_set marks i true) ≤ count_true marks + 1
unfolding count_true
count_one [] i = omega arith
count_one (true ∷ marks) zero = omega arith
count_one (false ∷ marks) zero = omega arith
count_one (true ∷ marks) (suc i) = let h = count_one marks i in omega arith
count_one (false ∷ marks) (suc i) = count_one marks i

seen_less : (base : ℕ) (marks : List Bool) (o : Option ℕ) → count_true marks ≤ count_true (mark_seen base marks o)
seen_less base marks None = omega arith
seen_less base marks (Some place) = count_less marks ((place - base) / 4096)

seen_one : (base : ℕ) (marks : List Bool) (o : Option ℕ) → count_true (mark_seen base marks o) ≤ count_true marks + 1
seen_one base marks None = omega arith
seen_one base marks (Some place) = count_one marks ((place - base) / 4096)

pub marked_less : (see : ℕ → Option ℕ) (base : ℕ) (marks : List Bool) (at n : ℕ) → count_true marks ≤ count_true (marked see base marks at n)
unfolding marked
marked_less see base marks at zero = omega arith
marked_less see base marks at (suc n) =
    let a = seen_less base marks (see at) in let b = marked_less see base (mark_seen base marks (see at)) (next at) n in omega arith

pub marked_most : (see : ℕ → Option ℕ) (base : ℕ) (marks : List Bool) (at n : ℕ) → count_true (marked see base marks at n) ≤ count_true marks + n
unfolding marked
marked_most see base marks at zero = omega arith
marked_most see base marks at (suc n) =
    let a = seen_one base marks (see at) in let b = marked_most see base (mark_seen base marks (see at)) (next at) n in omega arith

pub count_length : (marks : List Bool) → count_true marks ≤ length marks
unfolding count_true
count_length [] = omega arith
count_length (true ∷ marks) = let h = count_length marks in omega arith
count_length (false ∷ marks) = let h = count_length marks in omega arith

-- whether frames lack
pub room_for : (see : ℕ → Option ℕ) (m : Pages) (at n : ℕ) → count_true m.touched + n ≤ frame_limit → lacks_seen see m at n ≡ false
room_for see m at n h = let a = marked_most see m.base m.touched at n in grind (arith, nat_tests)

pub no_more : (see : ℕ → Option ℕ) (m : Pages) (at n : ℕ) → count_true m.touched ≤ frame_limit → all_touched see m at n ≡ true → lacks_seen see m at n ≡ false
no_more see m at n few all = let a = ap count_true (same_marked see m.base m.touched at n all) in grind (arith, nat_tests)
