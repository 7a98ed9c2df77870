-- Which pages stay touched.
use Rattle.std.proofs.Common.{◌≡◌, ◌⊎◌, ℕ, ◌+◌, ◌*◌, ◌-◌, ◌/◌, ◌≤◌, ◌<◌, Bool, true, false, List, [], ◌∷◌, length, refl, ap, ◌∙◌, arith, inl, inr, Some, None}
use Rattle.std.specs.Prelude.{Option, if◌then◌else◌}
use Rattle.std.proofs.lemmas.Bool.Decides.{nat_tests, leb_tells}
use Rattle.uh_base.specs.Bytes.{next}
use Rattle.guest_memory.specs.Pages.{Pages, or_false, holds, is_touched, page_of, touched_at}
use Rattle.guest_memory.specs.Changes.{cleared, reserved}
use Rattle.address_view.specs.Stored.{put_seen, stored}
use Rattle.map_transition.specs.Laws.{StayTouched}
use Rattle.runtime_whole.proofs.ListLemmas.{inside, outside, there, set_keeps, exists}

-- ---- addresses and pages

pub record Holds (m : Pages) (at : ℕ) : Type 0 where
  pub low : m.base ≤ at
  pub high : at < m.base + 4096 * m.pages

pub held : (m : Pages) (at : ℕ) → holds m at ≡ true → Holds m at
held m at h = record { low = grind (arith, nat_tests); high = grind (arith, nat_tests) }

pub is_held : (m : Pages) (at : ℕ) → m.base ≤ at → at < m.base + 4096 * m.pages → holds m at ≡ true
is_held m at low high = grind (arith, nat_tests)

marked_by : (m : Pages) (at : ℕ) (b : Bool) → holds m at ≡ b → (if b then is_touched m (page_of m at) else false) ≡ true → (holds m at ≡ true) × (is_touched m (page_of m at) ≡ true)
marked_by m at true e h = (e, h)
marked_by m at false e h = let bad : ⊥ = cc in absurd bad

-- a touched address is one of memory, on a touched page
pub marked : (m : Pages) (at : ℕ) → touched_at m at ≡ true → (holds m at ≡ true) × (is_touched m (page_of m at) ≡ true)
unfolding touched_at
marked m at h = marked_by m at (holds m at) refl h

pub is_marked : (m : Pages) (at : ℕ) → holds m at ≡ true → is_touched m (page_of m at) ≡ true → touched_at m at ≡ true
unfolding touched_at
is_marked m at e h = rw e h

-- an address stays touched where its page does
pub stays_marked : (a b : Pages) (at : ℕ) → b.base ≡ a.base → b.pages ≡ a.pages → (is_touched a (page_of a at) ≡ true → is_touched b (page_of a at) ≡ true) → touched_at a at ≡ true → touched_at b at ≡ true
stays_marked a b at base count keep h =
    let m = marked a at h in
    let e : holds b at ≡ true = rw (base, count) m.0 in
    let page : page_of b at ≡ page_of a at = ap (λ (n : ℕ). (at - n) / 4096) base in
    is_marked b at e (rw page (keep m.1))

pub stay_marked : (a b : Pages) → b.base ≡ a.base → b.pages ≡ a.pages → StayTouched a b → (at : ℕ) → touched_at a at ≡ true → touched_at b at ≡ true
stay_marked a b base count keep at h = stays_marked a b at base count (keep (page_of a at)) h

-- ---- what touches keep

pub reserved_keeps : (m : Pages) (page count : ℕ) → StayTouched m (reserved m page count)
reserved_keeps m page count k h =
    let e = there m.touched k h in
    elim (leb_tells page k) [
      | inr p ↦ ap or_false (outside m.touched page count k true true e (inl p.1))
      | inl p ↦ elim (leb_tells (page + count) k) [
        | inl q ↦ ap or_false (outside m.touched page count k true true e (inr q.1))
        | inr q ↦ ap or_false (inside m.touched _ page count k true true e p.1 q.1)
      ]
    ]

-- pages that are there are touched then
pub reserved_marks : (m : Pages) (page count k : ℕ) → page ≤ k → k < page + count → k < length m.touched → is_touched (reserved m page count) k ≡ true
reserved_marks m page count k low high l = let x = exists m.touched k l in ap or_false (inside m.touched _ page count k true x.0 x.1 low high)

pub put_keeps : (m : Pages) (byte page : ℕ) (place : Option ℕ) → is_touched m page ≡ true → is_touched (put_seen m byte place) page ≡ true
put_keeps m byte page None h = h
put_keeps m byte page (Some place) h = set_keeps m.touched (page_of m place) page h

pub stored_keeps : (shown : ℕ → Option ℕ) (m : Pages) (at : ℕ) (bytes : List ℕ) → StayTouched m (stored shown m at bytes)
unfolding stored
stored_keeps shown m at [] page h = h
stored_keeps shown m at (byte ∷ bytes) page h = stored_keeps shown (put_seen m byte (shown at)) (next at) bytes page (put_keeps m byte page (shown at) h)

put_parts : (m : Pages) (byte : ℕ) (place : Option ℕ) → ((put_seen m byte place).base ≡ m.base) × ((put_seen m byte place).pages ≡ m.pages)
put_parts m byte None = (refl, refl)
put_parts m byte (Some place) = (refl, refl)

pub stored_parts : (shown : ℕ → Option ℕ) (m : Pages) (at : ℕ) (bytes : List ℕ) → ((stored shown m at bytes).base ≡ m.base) × ((stored shown m at bytes).pages ≡ m.pages)
unfolding stored
stored_parts shown m at [] = (refl, refl)
stored_parts shown m at (byte ∷ bytes) =
    let p = put_parts m byte (shown at) in
    let q = stored_parts shown (put_seen m byte (shown at)) (next at) bytes in
    (q.0 ∙ p.0, q.1 ∙ p.1)

-- a page apart from those that are cleared stays touched
pub cleared_keeps : (m : Pages) (page count k : ℕ) → (k < page) ⊎ (page + count ≤ k) → is_touched m k ≡ true → is_touched (cleared m page count) k ≡ true
cleared_keeps m page count k apart h = ap or_false (outside m.touched page count k false true (there m.touched k h) apart)

-- ---- memories that grow

-- from one memory to another pages stay touched
pub record Grows (a b : Pages) : Type 0 where
  pub base : b.base ≡ a.base
  pub count : b.pages ≡ a.pages
  pub stay : StayTouched a b

pub grows_on : (a b c : Pages) → Grows a b → Grows b c → Grows a c
grows_on a b c h k = record { base = k.base ∙ h.base; count = k.count ∙ h.count; stay = λ page e. k.stay page (h.stay page e) }

pub reserved_grows : (m : Pages) (page count : ℕ) → Grows m (reserved m page count)
reserved_grows m page count = record { base = refl; count = refl; stay = reserved_keeps m page count }

pub itself : (m : Pages) → Grows m m
itself m = record { base = refl; count = refl; stay = λ page e. e }

pub stored_grows : (shown : ℕ → Option ℕ) (m : Pages) (at : ℕ) (bytes : List ℕ) → Grows m (stored shown m at bytes)
stored_grows shown m at bytes = record { base = (stored_parts shown m at bytes).0; count = (stored_parts shown m at bytes).1; stay = stored_keeps shown m at bytes }

-- what a service comes to has a memory that grows
pub record Leads {D : Type 0} (memory : D → Pages) (m : Pages) (done : D) : Type 0 where
  pub grows : Grows m (memory done)

pub one_of : {D : Type 0} (memory : D → Pages) (b : Bool) (m : Pages) (a c : D) → Leads memory m a → Leads memory m c → Leads memory m (if b then a else c)
one_of memory true m a c h k = h
one_of memory false m a c h k = k
