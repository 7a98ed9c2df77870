-- Touched pages, before and after a store.
use Rattle.std.proofs.Common.{◌≡◌, ◌≢◌, ℕ, ◌*◌, ◌-◌, ◌%◌, ◌<◌, ◌^◌, Bool, true, false, List, [], ◌∷◌, length, refl, sym, ap, ◌∙◌, arith, ◌⊎◌, inl, inr, cond, zero, suc, slice_set, length-set}
use Rattle.std.specs.Prelude.{Option, Some, Result, Ok, Err, OnOk}
use Rattle.uh_base.specs.Bytes.{next, behind}
use Rattle.guest_memory.specs.Runs.{with_bytes}
use Rattle.guest_memory.specs.Pages.{Pages, Whole, page_of, bytes_of, rights_at, touched_at, same_page, with_mark}
use Rattle.guest_memory.specs.Changes.{touch, put_to}
use Rattle.guest_memory.specs.Laws.{BytesArePut, MarksArePut}
use Rattle.guest_memory.specs.declared.rights.PutEnd.{PutEnd}
use Rattle.guest_memory.specs.declared.rights.PutEnd.TheVariants.{Outside, Frames, Memory}
use Rattle.address_view.specs.declared.view.Window.{Window}
use Rattle.address_view.specs.Windows.{AreWindows, see, seen_bytes}
use Rattle.address_view.specs.Seen.{all_pass, is_seen}
use Rattle.address_view.specs.Stored.{put_seen, stored, mark_seen, marked, all_touched, TouchesGive, AllSeen}
use Rattle.address_view.specs.Laws.{ShowsPage, OthersStay, TouchedSuffice, SameMarked, StoredOver}
use Rattle.address_view.proofs.MemoryLemmas.{same_bytes, same_rights}
use Rattle.address_view.proofs.StoreLaws.{seen_store, rights_store, once, all_seen}
use Rattle.address_view.proofs.BaseLemmas.{base_stored, pages_stored}
use Rattle.address_view.proofs.RangeLemmas.{behind_next, behind_none, byte_other, next_low}
use Rattle.address_view.proofs.MarkedLemmas.{place_of, all_after, stored_over, same_marked, no_more}

only_marks : {X : Type 0} (r : Result X PutEnd) (see : ℕ → Option ℕ) (old new : Pages) (at n : ℕ) → TouchesGive r see old new at n → new ≡ record old { touched = new.touched }
only_marks (Ok x) see old new at n gives = gives.1 ∙ ap (λ (m : Pages). record old { touched = m.touched }) (sym gives.1)
only_marks (Err Outside) see old new at n gives = absurd gives
only_marks (Err Frames) see old new at n gives = gives.1 ∙ ap (λ (m : Pages). record old { touched = m.touched }) (sym gives.1)
only_marks (Err Memory) see old new at n gives = gives.2.rest

pub all_touched_then : {X : Type 0} (r : Result X PutEnd) (see : ℕ → Option ℕ) (old new : Pages) (at n : ℕ) → Whole old → all_pass (is_seen see old) at n ≡ true → TouchesGive r see old new at n
    → OnOk r (all_touched see new at n ≡ true)
all_touched_then (Ok x) see old new at n whole ok gives = ap (λ (m : Pages). all_touched see m at n) gives.1 ∙ all_after see old old.touched at n whole.touched_long (all_seen see old at n ok)
all_touched_then (Err e) see old new at n whole ok gives = tt

pub bytes_touched : {X : Type 0} (r : Result X PutEnd) (see : ℕ → Option ℕ) (old new : Pages) (at n : ℕ) → TouchesGive r see old new at n → bytes_of new ≡ bytes_of old
bytes_touched r see old new at n gives = same_bytes old new (only_marks r see old new at n gives)

pub rights_touched : {X : Type 0} (r : Result X PutEnd) (see : ℕ → Option ℕ) (old new : Pages) (at n : ℕ) → TouchesGive r see old new at n → rights_at new ≡ rights_at old
rights_touched r see old new at n gives = same_rights old new (only_marks r see old new at n gives)

pub base_touched : {X : Type 0} (r : Result X PutEnd) (see : ℕ → Option ℕ) (old new : Pages) (at n : ℕ) → TouchesGive r see old new at n → new.base ≡ old.base
base_touched r see old new at n gives = ap (λ (m : Pages). m.base) (only_marks r see old new at n gives)

pub pages_touched : {X : Type 0} (r : Result X PutEnd) (see : ℕ → Option ℕ) (old new : Pages) (at n : ℕ) → TouchesGive r see old new at n → new.pages ≡ old.pages
pages_touched r see old new at n gives = ap (λ (m : Pages). m.pages) (only_marks r see old new at n gives)

-- bytes on touched pages
pub bytes_written : (ws : List Window) (old new : Pages) (at : ℕ) (bytes : List ℕ) → BytesArePut → AreWindows ws → Whole old → all_pass (is_seen (see ws) old) at (length bytes) ≡ true
    → new ≡ stored (see ws) old at bytes → seen_bytes (see ws) (bytes_of new) ≡ with_bytes (seen_bytes (see ws) (bytes_of old)) at bytes
bytes_written ws old new at bytes put are whole ok e =
    ap (λ m. seen_bytes (see ws) (bytes_of m)) e ∙ seen_store (see ws) old at bytes put (once ws are) whole.bytes_long (all_seen (see ws) old at (length bytes) ok)

pub rights_written : (see : ℕ → Option ℕ) (old new : Pages) (at : ℕ) (bytes : List ℕ) → new ≡ stored see old at bytes → rights_at new ≡ rights_at old
rights_written see old new at bytes e = ap rights_at e ∙ rights_store see old at bytes

pub marks_stored : (see : ℕ → Option ℕ) (m : Pages) (at : ℕ) (bytes : List ℕ) → (stored see m at bytes).touched ≡ marked see m.base m.touched at (length bytes)
marks_stored see m at bytes = ap (λ (k : Pages). k.touched) (stored_over see m m.touched at bytes)

pub marks_written : (see : ℕ → Option ℕ) (old new : Pages) (at : ℕ) (bytes : List ℕ) → all_touched see old at (length bytes) ≡ true → new ≡ stored see old at bytes → new.touched ≡ old.touched
marks_written see old new at bytes all e = ap (λ (k : Pages). k.touched) e ∙ marks_stored see old at bytes ∙ same_marked see old.base old.touched at (length bytes) all

pub marked_same : SameMarked
marked_same see m at n all = same_marked see m.base m.touched at n all

pub over_marks : StoredOver
over_marks see m marks at bytes = stored_over see m marks at bytes

pub touched_suffice : TouchedSuffice
touched_suffice see m at bytes whole all = record {
  marks = marks_written see m (stored see m at bytes) at bytes all refl;
  frames = no_more see m at (length bytes) whole.touched_few all;
}

-- a place that no address shows keeps its byte
byte_kept : (see : ℕ → Option ℕ) (m : Pages) (at place : ℕ) (bytes : List ℕ) → BytesArePut → at < 2 ^ 64 → length m.bytes ≡ 4096 * m.pages → AllSeen see m at (length bytes)
    → ((i : ℕ) → i < length bytes → see (behind at i) ≢ Some place) → bytes_of (stored see m at bytes) place ≡ bytes_of m place
unfolding stored
byte_kept see m at place [] put low long ok apart = refl
byte_kept see m at place (byte ∷ bytes) put low long ok apart =
    let p = place_of see m at (length bytes) ok in
    let m2 : Pages = put_to m p.0 byte in
    let here : see (behind at 0) ≡ Some p.0 = ap see (behind_none at low) ∙ p.1 in
    let other : place ≢ p.0 = λ e. apart 0 (omega arith) (here ∙ ap Some (sym e)) in
    ap (λ o. bytes_of (stored see (put_seen m byte o) (next at) bytes) place) p.1
    ∙ byte_kept see m2 (next at) place bytes put (next_low at) (length-set m.bytes (p.0 - m.base) byte ∙ long) p.3 (λ i h e. apart (suc i) (omega arith) (ap see (sym (behind_next at i)) ∙ e))
    ∙ ap (λ f. f place) (put m p.0 byte long p.2) ∙ byte_other (bytes_of m) p.0 byte place other

-- a mark is there where it was or where it is met
pub record Marks (see : ℕ → Option ℕ) (m : Pages) (at n place : ℕ) : Type 0 where
  pub to : touched_at (record m { touched = marked see m.base m.touched at n }) place ≡ true → (touched_at m place ≡ true) ⊎ ShowsPage see at n place
  pub was : touched_at m place ≡ true → touched_at (record m { touched = marked see m.base m.touched at n }) place ≡ true
  pub met : ShowsPage see at n place → touched_at (record m { touched = marked see m.base m.touched at n }) place ≡ true

none_marked : (see : ℕ → Option ℕ) (m : Pages) (at place : ℕ) → Marks see m at 0 place
unfolding marked
none_marked see m at place = record { to = λ e. inl e; was = λ e. e; met = λ s. let h = s.1 in absurd (omega (arith, h)) }

with_by : (b t : Bool) → cond b true t ≡ true → (b ≡ true) ⊎ (t ≡ true)
with_by true t e = inl refl
with_by false t e = inr e

by_page : (b t : Bool) → b ≡ true → cond b true t ≡ true
by_page true t e = refl
by_page false t e = grind arith

by_mark : (b t : Bool) → t ≡ true → cond b true t ≡ true
by_mark true t e = refl
by_mark false t e = e

shows_later : (see : ℕ → Option ℕ) (at n place : ℕ) → ShowsPage see (next at) n place → ShowsPage see at (suc n) place
shows_later see at n place s = let h = s.1 in (suc s.0, omega (arith, h), s.2, ap see (sym (behind_next at s.0)) ∙ s.3, s.4)

split : (see : ℕ → Option ℕ) (at n p place : ℕ) → at < 2 ^ 64 → see at ≡ Some p → ShowsPage see at (suc n) place → (same_page p place ≡ true) ⊎ ShowsPage see (next at) n place
split see at n p place low e s = split_by s.0 s.1 s.2 s.3 s.4
  where
    split_by : (i : ℕ) → i < suc n → (shown : ℕ) → see (behind at i) ≡ Some shown → same_page shown place ≡ true → (same_page p place ≡ true) ⊎ ShowsPage see (next at) n place
    split_by zero h shown f g =
        let k : Some shown ≡ Some p = sym f ∙ ap see (behind_none at low) ∙ e in
        let q : shown ≡ p = cc in inl (ap (λ x. same_page x place) (sym q) ∙ g)
    split_by (suc i) h shown f g = inr (i, omega (arith, h), shown, ap see (behind_next at i) ∙ f, g)

marked_first : (see : ℕ → Option ℕ) (m : Pages) (at p n : ℕ) → see at ≡ Some p → marked see m.base m.touched at (suc n) ≡ marked see m.base (slice_set m.touched (page_of m p) true) (next at) n
unfolding marked
marked_first see m at p n e = ap (λ o. marked see m.base (mark_seen m.base m.touched o) (next at) n) e

pub marked_there : (see : ℕ → Option ℕ) (m : Pages) (at n place : ℕ) → MarksArePut → at < 2 ^ 64 → m.base % 4096 ≡ 0 → length m.touched ≡ m.pages → AllSeen see m at n → Marks see m at n place
marked_there see m at zero place put low even long ok = none_marked see m at place
marked_there see m at (suc n) place put low even long ok =
    let p = place_of see m at n ok in
    let m2 : Pages = touch m (page_of m p.0) in
    let later = marked_there see m2 (next at) n place put (next_low at) even (length-set m.touched (page_of m p.0) true ∙ long) p.3 in
    let one : touched_at m2 place ≡ with_mark (touched_at m) p.0 place = ap (λ f. f place) (put m p.0 even long p.2) in
    let step : marked see m.base m.touched at (suc n) ≡ marked see m.base m2.touched (next at) n = marked_first see m at p.0 n p.1 in
    let same : touched_at (record m { touched = marked see m.base m.touched at (suc n) }) place ≡ touched_at (record m { touched = marked see m.base m2.touched (next at) n }) place =
    ap (λ marks. touched_at (record m { touched = marks }) place) step in
    record {
      to = λ e. to_by p.0 p.1 one (later.to (sym same ∙ e));
      was = λ e. same ∙ later.was (one ∙ by_mark (same_page p.0 place) (touched_at m place) e);
      met = λ s. same ∙ met_by p.0 one later (split see at n p.0 place low p.1 s);
    }
  where
    to_by : (p : ℕ) → see at ≡ Some p → touched_at (touch m (page_of m p)) place ≡ with_mark (touched_at m) p place
        → (touched_at (touch m (page_of m p)) place ≡ true) ⊎ ShowsPage see (next at) n place → (touched_at m place ≡ true) ⊎ ShowsPage see at (suc n) place
    to_by p e one (inl t) = elim (with_by (same_page p place) (touched_at m place) (sym one ∙ t)) [
      | inl here ↦ inr (0, omega arith, p, ap see (behind_none at low) ∙ e, here)
      | inr before ↦ inl before
    ]
    to_by p e one (inr s) = inr (shows_later see at n place s)

    met_by : (p : ℕ) → touched_at (touch m (page_of m p)) place ≡ with_mark (touched_at m) p place → Marks see (touch m (page_of m p)) (next at) n place
        → (same_page p place ≡ true) ⊎ ShowsPage see (next at) n place → touched_at (record m { touched = marked see m.base (slice_set m.touched (page_of m p) true) (next at) n }) place ≡ true
    met_by p one later (inl here) = later.was (one ∙ by_page (same_page p place) (touched_at m place) here)
    met_by p one later (inr s) = later.met s

touched_same : (m new : Pages) → new.base ≡ m.base → new.pages ≡ m.pages → new.touched ≡ m.touched → touched_at new ≡ touched_at m
unfolding touched_at
touched_same m new b p t = rw (b, p, t) refl

back : (see : ℕ → Option ℕ) (m : Pages) (at n place : ℕ) → Marks see m at n place → (touched_at m place ≡ true) ⊎ ShowsPage see at n place → touched_at (record m { touched = marked see m.base m.touched at n }) place ≡ true
back see m at n place marks (inl t) = marks.was t
back see m at n place marks (inr s) = marks.met s

pub others_stay : BytesArePut → MarksArePut → OthersStay
others_stay put mark see m at bytes low whole ok = record {
  byte = λ place apart. byte_kept see m at place bytes put low whole.bytes_long seen apart;
  touched = λ place. (λ e. (marks place).to (sym (same place) ∙ e), λ s. same place ∙ back see m at (length bytes) place (marks place) s);
  marked = λ place. ((marks place).to, λ s. back see m at (length bytes) place (marks place) s);
}
  where
    seen : AllSeen see m at (length bytes)
    seen = all_seen see m at (length bytes) ok

    marks : (place : ℕ) → Marks see m at (length bytes) place
    marks place = marked_there see m at (length bytes) place mark low whole.base_even whole.touched_long seen

    same : (place : ℕ) → touched_at (stored see m at bytes) place ≡ touched_at (record m { touched = marked see m.base m.touched at (length bytes) }) place
    same place = ap (λ f. f place) (touched_same (record m { touched = marked see m.base m.touched at (length bytes) }) (stored see m at bytes) (base_stored see m at bytes) (pages_stored see m at bytes) (marks_stored see m at bytes))
