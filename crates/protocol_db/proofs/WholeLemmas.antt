-- What the calls leave so of every state.
use Rattle.std.proofs.Common.{◌≡◌, ℕ, zero, suc, ◌+◌, ◌-◌, ◌*◌, ◌<◌, ◌^◌, List, [], ◌∷◌, ◌++◌, length, length-append, get_or, drop, refl, ap, subst, arith, Bool, true, false}
use Rattle.std.specs.Prelude.{map, if◌then◌else◌, not, ◌==◌}
use Rattle.std.specs.List.{filter, list_any, AllPairs}
use Rattle.std.proofs.lemmas.List.{length-map}
use Rattle.std.proofs.lemmas.List.Sums.{length-filter, count_by-le-length}
use Rattle.std.proofs.lemmas.List.Elements.{All-map, All-filter, All-push, All-weaker}
use Rattle.std.proofs.lemmas.List.Kept.{AllPairs-filter}
use Rattle.std.proofs.lemmas.List.Quantifiers.{all_pairs_push}
use Rattle.uh_base.specs.declared.guid.Guid.{Guid}
use Rattle.handle_db.specs.Database.{Database}
use Rattle.handle_db.specs.Whole.{IsDatabase}
use Rattle.protocol_db.proofs.ListLemmas.{none_passes, pairs_at, all_at, length_at}
use Rattle.protocol_db.specs.Registrations.{Registration, Protocols, is_numbered, is_for, pended, notified, silenced, all_notified, all_silenced, first_taken}
use Rattle.protocol_db.specs.Calls.{forgotten, with_registration}
use Rattle.protocol_db.specs.Whole.{IsRegistration, IsWhole}

key_map : {X K : Type 0} (key : X → K) (f : X → X) (same : (x : X) → key (f x) ≡ key x) (xs : List X) (i : ℕ) (d : X) → i < length xs → key (get_or (map f xs) i d) ≡ key (get_or xs i d)
key_map key f same [] i d h = absurd (omega arith)
key_map key f same (x ∷ xs) zero d h = same x
key_map key f same (x ∷ xs) (suc i) d h = key_map key f same xs i d (omega arith)

pairs_map : {X K : Type 0} (R : K → K → Type 0) (key : X → K) (f : X → X) (same : (x : X) → key (f x) ≡ key x) (xs : List X) → AllPairs (λ a b. R (key a) (key b)) xs → AllPairs (λ a b. R (key a) (key b)) (map f xs)
pairs_map R key f same xs all = λ i j d l h.
    let len = length-map xs f in
    let in' : j < length xs = omega (arith, len) in
    rw (key_map key f same xs i d (omega (arith, l))) (rw (key_map key f same xs j d in') (all i j d l in'))

-- a handle that becomes pending, or ceases to be
pended_once : (n : ℕ) (pending : List ℕ) → AllPairs (λ (a b : ℕ). (a == b) ≡ false) pending → AllPairs (λ (a b : ℕ). (a == b) ≡ false) (pended n pending)
pended_once n pending all = by (list_any (λ h. h == n) pending) refl
  where
    by : (b : Bool) → list_any (λ h. h == n) pending ≡ b → AllPairs (λ (a b : ℕ). (a == b) ≡ false) (if b then pending else pending ++ n ∷ [])
    by true e = all
    by false e = all_pairs_push (λ (a b : ℕ). (a == b) ≡ false) pending n all (λ k d l. none_passes (λ h. h == n) pending k d l e)

notified_is : (made : ℕ) (is_concerned : Registration → Bool) (n : ℕ) (r : Registration) → IsRegistration made r → IsRegistration made (notified is_concerned n r)
notified_is made is_concerned n r all = by (is_concerned r)
  where
    by : (b : Bool) → IsRegistration made (if b then record r { pending = pended n r.pending } else r)
    by true = record { once = pended_once n r.pending all.once; shown = all.shown; from = all.from; to = all.to }
    by false = all

silenced_is : (made : ℕ) (guid : Guid) (n : ℕ) (r : Registration) → IsRegistration made r → IsRegistration made (silenced guid n r)
silenced_is made guid n r all = by (is_for guid r)
  where
    by : (b : Bool) → IsRegistration made (if b then record r { pending = filter (λ h. not (h == n)) r.pending } else r)
    by true = record { once = AllPairs-filter (λ (a b : ℕ). (a == b) ≡ false) (λ h. not (h == n)) r.pending all.once; shown = all.shown; from = all.from; to = all.to }
    by false = all

notified_number : (is_concerned : Registration → Bool) (n : ℕ) (r : Registration) → (notified is_concerned n r).number ≡ r.number
notified_number is_concerned n r = by (is_concerned r)
  where
    by : (b : Bool) → (if b then record r { pending = pended n r.pending } else r).number ≡ r.number
    by true = refl
    by false = refl

silenced_number : (guid : Guid) (n : ℕ) (r : Registration) → (silenced guid n r).number ≡ r.number
silenced_number guid n r = by (is_for guid r)
  where
    by : (b : Bool) → (if b then record r { pending = filter (λ h. not (h == n)) r.pending } else r).number ≡ r.number
    by true = refl
    by false = refl

-- the registrations that are concerned have a handle pending
pub notified_whole : (p : Protocols) (d : Database) (is_concerned : Registration → Bool) (n : ℕ) → IsWhole p → IsDatabase d → IsWhole (record p { handles = d; registrations = all_notified p.registrations is_concerned n })
unfolding all_notified
notified_whole p d is_concerned n all there =
    let few = all.few in
    let len = length-map p.registrations (notified is_concerned n) in
    record {
      handles = there;
      few = omega (arith, few, len);
      made = all.made;
      registrations = All-map (IsRegistration p.made) (notified is_concerned n) p.registrations (All-weaker (IsRegistration p.made) (λ r. IsRegistration p.made (notified is_concerned n r)) (λ r h. notified_is p.made is_concerned n r h) p.registrations all.registrations);
      order = pairs_map ◌<◌ (λ (r : Registration). r.number) (notified is_concerned n) (λ r. notified_number is_concerned n r) p.registrations all.order;
    }

pub silenced_whole : (p : Protocols) (d : Database) (guid : Guid) (n : ℕ) → IsWhole p → IsDatabase d → IsWhole (record p { handles = d; registrations = all_silenced p.registrations guid n })
unfolding all_silenced
silenced_whole p d guid n all there =
    let few = all.few in
    let len = length-map p.registrations (silenced guid n) in
    record {
      handles = there;
      few = omega (arith, few, len);
      made = all.made;
      registrations = All-map (IsRegistration p.made) (silenced guid n) p.registrations (All-weaker (IsRegistration p.made) (λ r. IsRegistration p.made (silenced guid n r)) (λ r h. silenced_is p.made guid n r h) p.registrations all.registrations);
      order = pairs_map ◌<◌ (λ (r : Registration). r.number) (silenced guid n) (λ r. silenced_number guid n r) p.registrations all.order;
    }

-- other handles
pub handles_whole : (p : Protocols) (d : Database) → IsWhole p → IsDatabase d → IsWhole (record p { handles = d })
handles_whole p d all there = record { handles = there; few = all.few; made = all.made; registrations = all.registrations; order = all.order }

-- a registration more
pub registered_whole : (p : Protocols) (guid : Guid) (event : ℕ) → IsWhole p → length p.registrations < 256 → p.made < 2 ^ 60 - 1 → IsWhole (with_registration p guid event)
registered_whole p guid event all few less =
    let l = length-append p.registrations (record { number = 16 * (p.made + 1) + 4; guid = guid; event = event; pending = [] } ∷ []) in
    record {
      handles = all.handles;
      few = omega (arith, few, l);
      made = omega (arith, less);
      registrations = All-push (IsRegistration (p.made + 1)) p.registrations _ (All-weaker (IsRegistration p.made) (IsRegistration (p.made + 1)) (λ r k. later p.made r k) p.registrations all.registrations) first;
      order = all_pairs_push (λ (a b : Registration). a.number < b.number) p.registrations _ all.order (λ k r in'. (let to = (all.registrations k r in').to in omega (arith, to)));
    }
  where
    later : (made : ℕ) (r : Registration) → IsRegistration made r → IsRegistration (made + 1) r
    later made r all = record { once = all.once; shown = all.shown; from = all.from; to = (let to = all.to in omega (arith, to)) }

    first : IsRegistration (p.made + 1) (record { number = 16 * (p.made + 1) + 4; guid = guid; event = event; pending = [] })
    first = record { once = λ i j d l h. absurd (omega arith); shown = omega arith; from = omega arith; to = omega arith }

-- registrations less
pub forgotten_whole : (p : Protocols) (event : ℕ) → IsWhole p → IsWhole (forgotten p event)
unfolding forgotten
forgotten_whole p event all = record {
  handles = all.handles;
  few = (let few = all.few in let l = length-filter (λ (r : Registration). not (r.event == event)) p.registrations in let m = count_by-le-length (λ (r : Registration). not (r.event == event)) p.registrations in omega (arith, few, l, m));
  made = all.made;
  registrations = All-filter (λ r. not (r.event == event)) (IsRegistration p.made) p.registrations all.registrations;
  order = AllPairs-filter (λ (a b : Registration). a.number < b.number) (λ r. not (r.event == event)) p.registrations all.order;
}

-- a handle that is taken
drop_once : (pending : List ℕ) → AllPairs (λ (a b : ℕ). (a == b) ≡ false) pending → AllPairs (λ (a b : ℕ). (a == b) ≡ false) (drop 1 pending)
drop_once [] all = all
drop_once (x ∷ xs) all = λ i j d l h. all (suc i) (suc j) d (omega arith) (omega arith)

pub taken_whole : (p : Protocols) (number : ℕ) → IsWhole p → IsWhole (first_taken p number)
unfolding first_taken
taken_whole p number all =
    let few = all.few in
    let l = length_at (is_numbered number) (λ r. record r { pending = drop 1 r.pending }) p.registrations in
    record {
      handles = all.handles;
      few = omega (arith, few, l);
      made = all.made;
      registrations = all_at (IsRegistration p.made) (is_numbered number) (λ r. record r { pending = drop 1 r.pending }) p.registrations
          (λ r k. record { once = drop_once r.pending k.once; shown = k.shown; from = k.from; to = k.to }) all.registrations;
      order = pairs_at ◌<◌ (λ (r : Registration). r.number) (is_numbered number) (λ r. record r { pending = drop 1 r.pending }) (λ r. refl) p.registrations all.order;
    }

-- what a call writes
pub notified_write : (hs d : Database) (before after : List Registration) (made : ℕ) (is_concerned : Registration → Bool) (n : ℕ) → IsWhole (record { handles = hs; registrations = before; made = made }) → IsDatabase d → after ≡ all_notified before is_concerned n
    → IsWhole (record { handles = d; registrations = after; made = made })
notified_write hs d before after made is_concerned n all there k =
    rw k (notified_whole (record { handles = hs; registrations = before; made = made }) d is_concerned n all there)

pub silenced_write : (p : Protocols) (hs d : Database) (before after : List Registration) (made : ℕ) (guid : Guid) (n : ℕ) → IsWhole (record { handles = hs; registrations = before; made = made }) → IsDatabase d → after ≡ all_silenced before guid n
    → IsWhole (record { handles = d; registrations = after; made = made })
silenced_write p hs d before after made guid n all there k =
    rw k (silenced_whole (record { handles = hs; registrations = before; made = made }) d guid n all there)

pub forgotten_write : (p : Protocols) (hs : Database) (before after : List Registration) (made event : ℕ) → record { handles = hs; registrations = before; made = made } ≡ p → after ≡ filter (λ r. not (r.event == event)) before → record { handles = hs; registrations = after; made = made } ≡ forgotten p event
unfolding forgotten
forgotten_write p hs before after made event e k = subst (λ (q : Protocols). record { handles = hs; registrations = after; made = made } ≡ record q { registrations = filter (λ r. not (r.event == event)) q.registrations }) e (ap (λ rs. record { handles = hs; registrations = rs; made = made }) k)
