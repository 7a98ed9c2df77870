-- Touched marks by address.
use Rattle.std.proofs.Common.{◌≡◌, ◌≢◌, ℕ, ◌+◌, ◌*◌, ◌-◌, ◌/◌, ◌%◌, ◌^◌, ◌<◌, ◌≤◌, Bool, true, false, List, length, get_or, refl, sym, ◌∙◌, ap, arith, slice_set, ◌⊎◌, inl, inr, cond, [], ◌∷◌, zero, suc}
use Rattle.std.specs.Prelude.{slice_get, if◌then◌else◌, Result, Ok, Err, OnOk, IsTrue}
use Rattle.std.proofs.lemmas.Bool.Decides.{nat_tests, eqb_tells}
use Rattle.std.proofs.lemmas.List.{take-append-drop}
use Rattle.std.proofs.lemmas.Option.{slice_get-get_or}
use Rattle.std.proofs.Math.Path.{fun_ext}
use Rattle.uh_base.specs.Bytes.{is_width, next}
use Rattle.guest_memory.specs.declared.rights.Rights.{Rights}
use Rattle.guest_memory.specs.Lists.{filled}
use Rattle.guest_memory.specs.Pages.{Pages, Whole, InPage, holds, page_of, is_touched, or_false, touched_at, same_page, with_mark}
use Rattle.guest_memory.specs.Changes.{touch, put_to, put_number, PutGives, NumberGives, PartGives, PagesGive, ReserveGives, has_pages, cleared, with_rights, in_run, zeroed, TouchedBesides, OnlyMarks}
use Rattle.guest_memory.specs.Laws.{MarksArePut}
use Rattle.guest_memory.specs.declared.rights.PutEnd.{PutEnd}
use Rattle.guest_memory.proofs.MarkLemmas.{set_twice}
use Rattle.guest_memory.proofs.NumberLemmas.{is_held}
use Rattle.guest_memory.proofs.RunLemmas.{at_filled, length_filled, same_page_test, outside_run, page_held, same_bytes, same_rights}

pub set_there : (marks : List Bool) (i : ℕ) → i < length marks → or_false (slice_get (slice_set marks i true) i) ≡ true
set_there [] i h = absurd (omega arith)
set_there (mark ∷ marks) zero h = refl
set_there (mark ∷ marks) (suc i) h = set_there marks i (omega arith)

pub set_elsewhere : (marks : List Bool) (p q : ℕ) → q ≢ p → or_false (slice_get (slice_set marks q true) p) ≡ or_false (slice_get marks p)
set_elsewhere [] p q ne = refl
set_elsewhere (mark ∷ marks) zero zero ne = absurd (ne refl)
set_elsewhere (mark ∷ marks) zero (suc q) ne = refl
set_elsewhere (mark ∷ marks) (suc p) zero ne = refl
set_elsewhere (mark ∷ marks) (suc p) (suc q) ne = set_elsewhere marks p q (λ e. ne (ap suc e))

in_memory : (m : Pages) (a : ℕ) → holds m a ≡ true → (m.base ≤ a) × (a < m.base + 4096 * m.pages)
in_memory m a h = grind (arith, nat_tests)

other_page : (m : Pages) (at a : ℕ) → m.base % 4096 ≡ 0 → holds m at ≡ true → holds m a ≡ false → same_page at a ≡ false
other_page m at a even h out =
    let i = in_memory m at h in
    elim (eqb_tells (at / 4096) (a / 4096)) [
      | inl same ↦ (let e = same.1 in let k : holds m a ≡ true = is_held m a (omega arith) (omega arith) in let c : true ≡ false = sym k ∙ out in grind arith)
      | inr other ↦ other.0
    ]

mark_there : (m : Pages) (at a : ℕ) → m.base % 4096 ≡ 0 → length m.touched ≡ m.pages → holds m at ≡ true → (b : Bool) → holds m a ≡ b
    → cond b (or_false (slice_get (slice_set m.touched (page_of m at) true) (page_of m a))) false ≡ cond (same_page at a) true (cond b (or_false (slice_get m.touched (page_of m a))) false)
mark_there m at a even long h true e =
    let i = in_memory m at h in
    let k = in_memory m a e in
    let low = page_held m at h in
    elim (eqb_tells (at / 4096) (a / 4096)) [
      | inl same ↦ (let s = same.1 in let q : page_of m a ≡ page_of m at = omega arith in rw (same.0, q) (set_there m.touched (page_of m at) (omega arith)))
      | inr other ↦ (let n = other.1 in let q : page_of m at ≢ page_of m a = omega arith in rw other.0 (set_elsewhere m.touched (page_of m a) (page_of m at) q))
    ]
mark_there m at a even long h false e = rw (other_page m at a even h e) refl

-- a touch of the page of an address
pub touched_touch : MarksArePut
unfolding touched_at
touched_touch m at even long h = fun_ext (λ a. mark_there m at a even long h (holds m a) refl)

-- marks alone say what is touched
pub touched_same : (m new : Pages) → new.base ≡ m.base → new.pages ≡ m.pages → new.touched ≡ m.touched → touched_at new ≡ touched_at m
unfolding touched_at
touched_same m new b p t = rw (b, p, t) refl

pub touched_put : (m new : Pages) (at : ℕ) → Whole m → holds m at ≡ true → new.base ≡ m.base → new.pages ≡ m.pages → new.touched ≡ slice_set m.touched (page_of m at) true
    → touched_at new ≡ with_mark (touched_at m) at
touched_put m new at whole h b p t = touched_same (touch m (page_of m at)) new b p t ∙ touched_touch m at whole.base_even whole.touched_long h

pub touched_after : {X : Type 0} (r : Result X PutEnd) (old new : Pages) (at byte : ℕ) → Whole old → PutGives r old new at byte → OnOk r (touched_at new ≡ with_mark (touched_at old) at)
touched_after (Ok x) old new at byte whole gives =
    touched_put old new at whole gives.0 (ap (λ (m : Pages). m.base) gives.2) (ap (λ (m : Pages). m.pages) gives.2) (ap (λ (m : Pages). m.touched) gives.2)
touched_after (Err e) old new at byte whole gives = tt

in_page : (m : Pages) (at width : ℕ) → InPage m at width → 1 ≤ width → holds m at ≡ true
in_page m at width inside some = is_held m at inside.low (let high = inside.high in omega arith)

pub touched_parted : {X : Type 0} (r : Result X PutEnd) (old new : Pages) (at : ℕ) (ys : List ℕ) → Whole old → InPage old at (length ys) → 1 ≤ length ys → PartGives r old new at ys
    → OnOk r (touched_at new ≡ with_mark (touched_at old) at)
touched_parted (Ok x) old new at ys whole inside some gives =
    touched_put old new at whole (in_page old at (length ys) inside some) (ap (λ (m : Pages). m.base) gives.1) (ap (λ (m : Pages). m.pages) gives.1) (ap (λ (m : Pages). m.touched) gives.1)
touched_parted (Err e) old new at ys whole inside some gives = tt

-- a number in one page marks that page
marks_number : (m : Pages) (at n v : ℕ) → m.base ≤ at → m.base % 4096 ≡ 0 → at % 4096 + suc n ≤ 4096 → at + suc n < 2 ^ 64
    → (put_number m at (suc n) v).touched ≡ slice_set m.touched (page_of m at) true
unfolding put_number
marks_number m at zero v low even one small = refl
marks_number m at (suc n) v low even one small =
    let more : next at ≡ at + 1 = omega arith in
    let q : (at + 1 - m.base) / 4096 ≡ (at - m.base) / 4096 = omega arith in
    ap (λ k. (put_number (put_to m at (v % 256)) k (suc n) (v / 256)).touched) more
    ∙ marks_number (put_to m at (v % 256)) (at + 1) n (v / 256) (omega arith) even (omega arith) (omega arith)
    ∙ ap (λ k. slice_set (slice_set m.touched ((at - m.base) / 4096) true) k true) q ∙ set_twice m.touched ((at - m.base) / 4096)

base_number : (m : Pages) (at n v : ℕ) → (put_number m at n v).base ≡ m.base
unfolding put_number
base_number m at zero v = refl
base_number m at (suc n) v = base_number (put_to m at (v % 256)) (next at) n (v / 256)

pages_number : (m : Pages) (at n v : ℕ) → (put_number m at n v).pages ≡ m.pages
unfolding put_number
pages_number m at zero v = refl
pages_number m at (suc n) v = pages_number (put_to m at (v % 256)) (next at) n (v / 256)

touched_number : (m : Pages) (at n v : ℕ) → Whole m → InPage m at n → 1 ≤ n → touched_at (put_number m at n v) ≡ with_mark (touched_at m) at
touched_number m at zero v whole inside some = absurd (omega arith)
touched_number m at (suc n) v whole inside some =
    let end = whole.end in let high = inside.high in
    touched_put m (put_number m at (suc n) v) at whole (in_page m at (suc n) inside some) (base_number m at (suc n) v) (pages_number m at (suc n) v)
    (marks_number m at n v inside.low whole.base_even inside.one (omega arith))

some_width : (width : ℕ) → IsTrue (is_width width) → 1 ≤ width
some_width width w = grind (arith, nat_tests)

pub touched_numbered : {X : Type 0} (r : Result X PutEnd) (old new : Pages) (at width value : ℕ) → Whole old → InPage old at width → IsTrue (is_width width) → NumberGives r old new at width value
    → OnOk r (touched_at new ≡ with_mark (touched_at old) at)
touched_numbered (Ok x) old new at width value whole inside w gives = ap touched_at gives.1 ∙ touched_number old at width value whole inside (some_width width w)
touched_numbered (Err e) old new at width value whole inside w gives = tt

-- one mark for so many pages
mark_filled : (m : Pages) (page count a : ℕ) (b : Bool) → Whole m → page + count ≤ m.pages → (h : Bool) → holds m a ≡ h
    → cond h (or_false (slice_get (filled m.touched page count b) (page_of m a))) false ≡ cond (in_run m page count a) b (cond h (or_false (slice_get m.touched (page_of m a))) false)
mark_filled m page count a b whole inside true h =
    let long = whole.touched_long in
    let low : page_of m a < m.pages = page_held m a h in
    let room : page + count ≤ length m.touched = omega arith in
    ap or_false (slice_get-get_or (filled m.touched page count b) (page_of m a) b (omega (arith, length_filled m.touched page count b room)))
    ∙ at_filled m.touched page count (page_of m a) b b room
    ∙ ap (λ t. cond t b (get_or m.touched (page_of m a) b)) (same_page_test m.base m.pages page count a inside h)
    ∙ ap (λ o. cond (in_run m page count a) b (or_false o)) (sym (slice_get-get_or m.touched (page_of m a) b (omega arith)))
mark_filled m page count a b whole inside false h = rw (outside_run m.base m.pages page count a inside h) refl

touched_filled : (old new : Pages) (page count : ℕ) (b : Bool) → Whole old → page + count ≤ old.pages → new.base ≡ old.base → new.pages ≡ old.pages → new.touched ≡ filled old.touched page count b
    → touched_at new ≡ (λ at. if in_run old page count at then b else touched_at old at)
unfolding touched_at
touched_filled old new page count b whole inside base pages e = rw (base, pages, e) (fun_ext (λ a. mark_filled old page count a b whole inside (holds old a) refl))

pub touched_cleared : (old new : Pages) (page count : ℕ) → Whole old → page + count ≤ old.pages → new ≡ cleared old page count
    → touched_at new ≡ (λ at. if in_run old page count at then false else touched_at old at)
touched_cleared old new page count whole inside e =
    touched_filled old new page count false whole inside (ap (λ (m : Pages). m.base) e) (ap (λ (m : Pages). m.pages) e) (ap (λ (m : Pages). m.touched) e)

pub touched_right : (old new : Pages) (page count : ℕ) (r : Rights) → new ≡ with_rights old page count r → touched_at new ≡ touched_at old
touched_right old new page count r e = touched_same old new (ap (λ (m : Pages). m.base) e) (ap (λ (m : Pages). m.pages) e) (ap (λ (m : Pages). m.touched) e)

pub touched_zeroed : (old new : Pages) (at len : ℕ) → new ≡ zeroed old at len → touched_at new ≡ touched_at old
touched_zeroed old new at len e = touched_same old new (ap (λ (m : Pages). m.base) e) (ap (λ (m : Pages). m.pages) e) (ap (λ (m : Pages). m.touched) e)

no_run : (m : Pages) (page count a : ℕ) → count ≡ 0 → in_run m page count a ≡ false
no_run m page count a e = grind (arith, nat_tests)

none_filled : (marks : List Bool) (page count : ℕ) → count ≡ 0 → filled marks page count true ≡ marks
none_filled marks page count e = rw e (take-append-drop page marks)

runs_by : (old new : Pages) (page count : ℕ) → Whole old → new.base ≡ old.base → new.pages ≡ old.pages → new.touched ≡ filled old.touched page count true
    → (count ≡ 0) ⊎ (page + count ≤ old.pages) → touched_at new ≡ (λ at. if in_run old page count at then true else touched_at old at)
runs_by old new page count whole base pages e (inl none) =
    touched_same old new base pages (e ∙ none_filled old.touched page count none) ∙ fun_ext (λ a. ap (λ t. cond t true (touched_at old a)) (sym (no_run old page count a none)))
runs_by old new page count whole base pages e (inr room) = touched_filled old new page count true whole room base pages e

room_or_none : (m : Pages) (page count : ℕ) → has_pages m page count ≡ true → (count ≡ 0) ⊎ (page + count ≤ m.pages)
room_or_none m page count h = elim (eqb_tells count 0) [
  | inl same ↦ inl same.1
  | inr other ↦ inr (let k = other.1 in grind (arith, nat_tests))
]

pub touched_reserved : {X : Type 0} (r : Result X PutEnd) (old new : Pages) (page count : ℕ) → Whole old → ReserveGives r old new page count
    → OnOk r (touched_at new ≡ (λ at. if in_run old page count at then true else touched_at old at))
touched_reserved (Ok x) old new page count whole gives =
    runs_by old new page count whole (ap (λ (m : Pages). m.base) gives.2) (ap (λ (m : Pages). m.pages) gives.2) (ap (λ (m : Pages). m.touched) gives.2) (room_or_none old page count gives.0)
touched_reserved (Err e) old new page count whole gives = tt

pub touched_written : {X : Type 0} (r : Result X PutEnd) (old new : Pages) (page : ℕ) (bytes : List ℕ) → Whole old → length bytes % 4096 ≡ 0 → 4096 * page + length bytes ≤ 4096 * old.pages
    → PagesGive r old new page bytes → OnOk r (touched_at new ≡ (λ at. if in_run old page (length bytes / 4096) at then true else touched_at old at))
touched_written (Ok x) old new page bytes whole even inside gives =
    touched_filled old new page (length bytes / 4096) true whole (omega arith) (ap (λ (m : Pages). m.base) gives.1) (ap (λ (m : Pages). m.pages) gives.1) (ap (λ (m : Pages). m.touched) gives.1)
touched_written (Err e) old new page bytes whole even inside gives = tt

-- where at most marks were added, by address
kept_by : (old new : Pages) (at : ℕ) → TouchedBesides old new → (b : Bool) → holds old at ≡ b → cond b (is_touched old (page_of old at)) false ≡ true → cond b (is_touched new (page_of old at)) false ≡ true
kept_by old new at besides true h e = besides.kept (page_of old at) e
kept_by old new at besides false h e = e

pub marks_alone : (old new : Pages) → TouchedBesides old new → OnlyMarks old new
unfolding touched_at
marks_alone old new besides =
    let b : new.base ≡ old.base = ap (λ (m : Pages). m.base) besides.rest in
    let p : new.pages ≡ old.pages = ap (λ (m : Pages). m.pages) besides.rest in
    record {
      base = b;
      pages = p;
      bytes = same_bytes old new besides.rest;
      rights = same_rights old new besides.rest;
      touched = λ at e. rw (b, p) (kept_by old new at besides (holds old at) refl e);
    }
