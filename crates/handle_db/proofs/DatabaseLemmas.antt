-- What a change of one handle leaves so of every database.
use Rattle.std.proofs.Common.{◌≡◌, ◌∙◌, ℕ, ◌+◌, ◌*◌, ◌-◌, ◌<◌, ◌^◌, List, [], ◌∷◌, ◌++◌, length, get_or, set, length-append, refl, sym, ap, subst, arith, Bool, true, false}
use Rattle.std.specs.Prelude.{Option, Some, None, Ok, if◌then◌else◌, not, ◌==◌, ◌&&◌}
use Rattle.std.specs.List.{filter, position, list_any, list_all}
use Rattle.std.proofs.lemmas.List.Elements.{All-filter, All-push, All-weaker, All-nil, All-cons}
use Rattle.std.specs.Option.{IfSome, IfNone}
use Rattle.std.proofs.lemmas.List.{get_or_default}
use Rattle.std.proofs.lemmas.List.Kept.{AllPairs-filter}
use Rattle.std.proofs.lemmas.List.Quantifiers.{all_pairs_push}
use Rattle.uh_base.specs.declared.guid.Guid.{Guid}
use Rattle.handle_db.specs.declared.entry.OpenEntry.{OpenEntry}
use Rattle.handle_db.specs.Database.{Protocol, Handle, Database, same_guid, has_number, has_guid, handle_in, at_first, with_protocols, all_but, left_with, fresh, is_kept, is_like, once_more, noted, closed, with_opens, reopened, with_open}
use Rattle.handle_db.specs.Calls.{installed_on, has_interface}
use Rattle.handle_db.specs.Whole.{AreKept, IsHandle, IsDatabase}
use Rattle.handle_db.proofs.ListLemmas.{any_both, all_at, unchanged, none_left, place_inside, kept_count, none_passes, change_some, find_none, find_some, any_none, all_at_found, pairs_at, length_at, found_has, change_found, some_left}

-- searches for a handle
pub handle_none : (d : Database) (n : ℕ) → position (has_number n) d.live ≡ None → handle_in d n ≡ None
unfolding handle_in
handle_none d n e = find_none (has_number n) d.live (any_none (has_number n) d.live e)

pub handle_some : (d : Database) (n i : ℕ) (x : Handle) → position (has_number n) d.live ≡ Some i → handle_in d n ≡ Some (get_or d.live i x)
unfolding handle_in
handle_some d n i x e = find_some (has_number n) d.live i x e

pub handle_is : (d : Database) (n : ℕ) (h : Handle) → IsDatabase d → handle_in d n ≡ Some h → IsHandle d.made h
unfolding handle_in
handle_is d n h all e = found_has (IsHandle d.made) (has_number n) d.live h all.handles e

-- a write at the place of a handle
pub write_is : (d : Database) (n i : ℕ) (f : Handle → Handle) (live : List Handle) (made : ℕ) (x y : Handle) → record { live = live; made = made } ≡ d → position (has_number n) d.live ≡ Some i → x ≡ get_or live i x → y ≡ f x
    → record { live = set live i y; made = made } ≡ record d { live = at_first (has_number n) f d.live }
write_is d n i f live made x y e p is m =
    let same : live ≡ d.live = ap (λ (b : Database). b.live) e in
    let there : at_first (has_number n) f live ≡ set live i (f (get_or live i x)) = change_some (has_number n) f live i x (subst (λ hs. position (has_number n) hs ≡ Some i) (sym same) p) in
    let step : set live i y ≡ at_first (has_number n) f live = ap (λ h. set live i h) (m ∙ ap f is) ∙ sym there in
    subst (λ (b : Database). record { live = set live i y; made = made } ≡ record b { live = at_first (has_number n) f b.live }) e (ap (λ hs. record { live = hs; made = made }) step)

-- a handle that changes
pub changed_is : (d : Database) (n : ℕ) (f : Handle → Handle) (h : Handle) → IsDatabase d → handle_in d n ≡ Some h → ((g : Handle) → (f g).number ≡ g.number) → IsHandle d.made (f h) → IsDatabase (record d { live = at_first (has_number n) f d.live })
unfolding handle_in
changed_is d n f h all e same there =
    let few = all.few in
    let l = length_at (has_number n) f d.live in
    record {
      few = omega (arith, few, l);
      made = all.made;
      handles = all_at_found (IsHandle d.made) (has_number n) f d.live h e there all.handles;
      order = pairs_at ◌<◌ (λ (g : Handle). g.number) (has_number n) f same d.live all.order;
    }

-- a new handle
pub first_is : (made : ℕ) (guid : Guid) (interface : ℕ) → IsHandle (made + 1) (record { number = 16 * (made + 1); protocols = fresh guid interface ∷ [] })
first_is made guid interface = record {
  some = omega arith;
  apart = λ i j p l h. absurd (omega arith);
  opens = All-cons (λ (p : Protocol). AreKept p.opens) (fresh guid interface) [] (All-nil (λ e. is_kept e ≡ true)) (All-nil (λ (p : Protocol). AreKept p.opens));
  shown = omega arith;
  from = omega arith;
  to = omega arith;
}

pub new_handle_is : (d : Database) (new : Handle) → IsDatabase d → length d.live < 1024 → d.made < 2 ^ 60 - 1 → IsHandle (d.made + 1) new → new.number ≡ 16 * (d.made + 1) → IsDatabase (record { live = d.live ++ new ∷ []; made = d.made + 1 })
new_handle_is d new all few made is n =
    let l = length-append d.live (new ∷ []) in
    record {
      few = omega (arith, few, l);
      made = omega (arith, made);
      handles = All-push (IsHandle (d.made + 1)) d.live new (All-weaker (IsHandle d.made) (IsHandle (d.made + 1)) (λ h k. later d.made h k) d.live all.handles) is;
      order = all_pairs_push (λ (a b : Handle). a.number < b.number) d.live new all.order (λ k h in'. (let to = (all.handles k h in').to in omega (arith, to, n)));
    }
  where
    later : (made : ℕ) (h : Handle) → IsHandle made h → IsHandle (made + 1) h
    later made h all = record { some = all.some; apart = all.apart; opens = all.opens; shown = all.shown; from = all.from; to = (let to = all.to in omega (arith, to)) }

pub new_is : (d : Database) (guid : Guid) (interface : ℕ) → IsDatabase d → length d.live < 1024 → d.made < 2 ^ 60 - 1
    → IsDatabase (record { live = d.live ++ record { number = 16 * (d.made + 1); protocols = fresh guid interface ∷ [] } ∷ []; made = d.made + 1 })
new_is d guid interface all few made = new_handle_is d (record { number = 16 * (d.made + 1); protocols = fresh guid interface ∷ [] }) all few made (first_is d.made guid interface) refl

-- a handle that goes
pub gone_is : (d : Database) (n : ℕ) → IsDatabase d → IsDatabase (record d { live = filter (λ h. not (has_number n h)) d.live })
gone_is d n all = record {
  few = (let few = all.few in let l = kept_count (λ h. not (has_number n h)) d.live in omega (arith, few, l));
  made = all.made;
  handles = All-filter (λ h. not (has_number n h)) (IsHandle d.made) d.live all.handles;
  order = AllPairs-filter (λ (a b : Handle). a.number < b.number) (λ h. not (has_number n h)) d.live all.order;
}

-- a handle with one protocol more
pub added_is : (made : ℕ) (h : Handle) (guid : Guid) (interface : ℕ) → IsHandle made h → list_any (has_guid guid) h.protocols ≡ false → IsHandle made (record h { protocols = h.protocols ++ fresh guid interface ∷ [] })
added_is made h guid interface all none = record {
  some = (let l = length-append h.protocols (fresh guid interface ∷ []) in omega (arith, l));
  apart = all_pairs_push (λ (p q : Protocol). same_guid p.guid q.guid ≡ false) h.protocols (fresh guid interface) all.apart (λ k d l. none_passes (has_guid guid) h.protocols k d l none);
  opens = All-push (λ (p : Protocol). AreKept p.opens) h.protocols (fresh guid interface) all.opens (All-nil (λ e. is_kept e ≡ true));
  shown = all.shown;
  from = all.from;
  to = all.to;
}

-- a handle with one protocol less
pub less_is : (made : ℕ) (h : Handle) (guid : Guid) → IsHandle made h → list_all (has_guid guid) h.protocols ≡ false → IsHandle made (record h { protocols = all_but guid h.protocols })
less_is made h guid all some = record {
  some = some_left (has_guid guid) h.protocols some;
  apart = AllPairs-filter (λ (p q : Protocol). same_guid p.guid q.guid ≡ false) (λ p. not (has_guid guid p)) h.protocols all.apart;
  opens = All-filter (λ p. not (has_guid guid p)) (λ (p : Protocol). AreKept p.opens) h.protocols all.opens;
  shown = all.shown;
  from = all.from;
  to = all.to;
}

pub left_some : (d : Database) (n : ℕ) (ps : List Protocol) → 0 < length ps → left_with d n ps ≡ with_protocols d n ps
left_some d n [] h = absurd (omega arith)
left_some d n (p ∷ ps) h = refl

pub left_none : (d : Database) (n : ℕ) (ps : List Protocol) → ps ≡ [] → left_with d n ps ≡ record d { live = filter (λ h. not (has_number n h)) d.live }
left_none d n ps e = rw e refl

-- what a call reads and writes at a place
pub place_none : (d : Database) (n : ℕ) (r : Option ℕ) → r ≡ position (has_number n) d.live → IfNone r (handle_in d n ≡ None)
place_none d n None e = handle_none d n (sym e)
place_none d n (Some i) e = tt

pub place_some : (d : Database) (n : ℕ) (r : Option ℕ) → r ≡ position (has_number n) d.live → IfSome r (λ i. (x : Handle) → handle_in d n ≡ Some (get_or d.live i x))
place_some d n None e = tt
place_some d n (Some i) e = λ x. handle_some d n i x (sym e)

pub same_read : (live : List Handle) (i : ℕ) (x y : Handle) → i < length live → x ≡ get_or live i x → y ≡ get_or live i y → x ≡ y
same_read live i x y h is that = is ∙ get_or_default live i x y h ∙ sym that

pub read_is : (d : Database) (live : List Handle) (made i : ℕ) (x e : Handle) → record { live = live; made = made } ≡ d → i < length live → x ≡ get_or live i x → x ≡ get_or d.live i e
read_is d live made i x e is h read = read ∙ get_or_default live i x e h ∙ ap (λ (b : Database). get_or b.live i e) is

pub inside : (d : Database) (n i : ℕ) (live : List Handle) (made : ℕ) → record { live = live; made = made } ≡ d → position (has_number n) d.live ≡ Some i → i < length live
inside d n i live made e p = let h = place_inside (has_number n) d.live i (record { number = 0; protocols = [] }) p in let l = ap (λ (b : Database). length b.live) e in omega (arith, h, l)

pub read_some : (d : Database) (n i : ℕ) (live : List Handle) (made : ℕ) (x : Handle) → record { live = live; made = made } ≡ d → position (has_number n) d.live ≡ Some i → x ≡ get_or live i x → handle_in d n ≡ Some x
read_some d n i live made x e p is = handle_some d n i x p ∙ ap Some (sym (read_is d live made i x x e (inside d n i live made e p) is))

pub protocols_write : (g : List Protocol → List Protocol) (d : Database) (n i : ℕ) (live : List Handle) (made : ℕ) (x y : Handle) → record { live = live; made = made } ≡ d → position (has_number n) d.live ≡ Some i → x ≡ get_or live i x → y ≡ record x { protocols = g x.protocols }
    → IsDatabase d → (IsHandle d.made x → IsHandle d.made (record x { protocols = g x.protocols })) → IsDatabase (record { live = set live i y; made = made })
protocols_write g d n i live made x y e p is m all there =
    let found = read_some d n i live made x e p is in
    subst IsDatabase (sym (write_is d n i (λ h. record h { protocols = g h.protocols }) live made x y e p is m))
    (changed_is d n (λ h. record h { protocols = g h.protocols }) x all found (λ h. refl) (there (handle_is d n x all found)))

pub protocols_view : (g : List Protocol → List Protocol) (d : Database) (n i : ℕ) (live : List Handle) (made : ℕ) (x y : Handle) → record { live = live; made = made } ≡ d → position (has_number n) d.live ≡ Some i → x ≡ get_or live i x → y ≡ record x { protocols = g x.protocols }
    → (z : Handle) → record { live = set live i y; made = made } ≡ with_protocols d n (g (get_or d.live i z).protocols)
unfolding handle_in
protocols_view g d n i live made x y e p is m z =
    let found = read_some d n i live made x e p is in
    let there = read_is d live made i x z e (inside d n i live made e p) is in
    write_is d n i (λ h. record h { protocols = g h.protocols }) live made x y e p is m
    ∙ ap (λ hs. record d { live = hs }) (change_found (has_number n) (λ h. record h { protocols = g h.protocols }) (λ h. record h { protocols = g (get_or d.live i z).protocols }) d.live x found (ap (λ (h : Handle). record x { protocols = g h.protocols }) there))

-- a handle that is taken away whole
pub gone_view : (d : Database) (n : ℕ) (live kept : List Handle) (made : ℕ) → record { live = live; made = made } ≡ d → kept ≡ filter (λ h. not (has_number n h)) live → record { live = kept; made = made } ≡ record d { live = filter (λ h. not (has_number n h)) d.live }
gone_view d n live kept made e k = subst (λ (b : Database). record { live = kept; made = made } ≡ record b { live = filter (λ h. not (has_number n h)) b.live }) e (ap (λ hs. record { live = hs; made = made }) k)

pub gone_write : (d : Database) (n : ℕ) (live kept : List Handle) (made : ℕ) → record { live = live; made = made } ≡ d → kept ≡ filter (λ h. not (has_number n h)) live → IsDatabase d → IsDatabase (record { live = kept; made = made })
gone_write d n live kept made e k all =
    subst IsDatabase (sym (gone_view d n live kept made e k)) (gone_is d n all)

-- a new handle that is written
pub new_write : (live reserved after : List Handle) (made : ℕ) (guid : Guid) (interface : ℕ) (h : Handle) (p : Protocol) → IsDatabase (record { live = live; made = made }) → length live < 1024 → made < 2 ^ 60 - 1
    → reserved ≡ live → after ≡ reserved ++ h ∷ [] → h ≡ record { number = 16 * (made + 1); protocols = p ∷ [] } → p ≡ fresh guid interface → IsDatabase (record { live = after; made = made + 1 })
new_write live reserved after made guid interface h p all few less e f g k =
    rw f (rw e (rw g (rw k (new_is (record { live = live; made = made }) guid interface all few less))))

-- a test of what stands at a place, by another read of it
pub test_same : (t : Handle → Bool) (d : Database) (n i : ℕ) (live : List Handle) (made : ℕ) (x y : Handle) (r b : Bool) → record { live = live; made = made } ≡ d → position (has_number n) d.live ≡ Some i → x ≡ get_or live i x → y ≡ get_or live i y → r ≡ t x → r ≡ b → t y ≡ b
test_same t d n i live made x y r b e p is that tests so =
    ap t (sym (same_read live i x y (inside d n i live made e p) is that)) ∙ sym tests ∙ so

pub test_there : (t : Handle → Bool) (d : Database) (n i : ℕ) (live : List Handle) (made : ℕ) (x z : Handle) (r b : Bool) → record { live = live; made = made } ≡ d → position (has_number n) d.live ≡ Some i → x ≡ get_or live i x → r ≡ t x → r ≡ b → t (get_or d.live i z) ≡ b
test_there t d n i live made x z r b e p is tests so =
    ap t (sym (read_is d live made i x z e (inside d n i live made e p) is)) ∙ sym tests ∙ so

pub installed_there : (d after : Database) (n i : ℕ) (guid : Guid) (interface : ℕ) (h : Handle) → handle_in d n ≡ Some h → list_any (has_guid guid) h.protocols ≡ false → after ≡ with_protocols d n (h.protocols ++ fresh guid interface ∷ [])
    → installed_on d n guid interface (handle_in d n) ≡ Ok (record { handle = n; database = after })
installed_there d after n i guid interface h found none e = rw found (rw none (rw e refl))

-- a handle with another interface for a GUID of its own
pub renewed_is : (made : ℕ) (h : Handle) (guid : Guid) (interface : ℕ) → IsHandle made h → IsHandle made (record h { protocols = all_but guid h.protocols ++ fresh guid interface ∷ [] })
renewed_is made h guid interface all = record {
  some = (let l = length-append (all_but guid h.protocols) (fresh guid interface ∷ []) in omega (arith, l));
  apart = all_pairs_push (λ (p q : Protocol). same_guid p.guid q.guid ≡ false) (all_but guid h.protocols) (fresh guid interface)
      (AllPairs-filter (λ (p q : Protocol). same_guid p.guid q.guid ≡ false) (λ p. not (has_guid guid p)) h.protocols all.apart) (λ k d l. none_passes (has_guid guid) (all_but guid h.protocols) k d l (none_left (has_guid guid) h.protocols));
  opens = All-push (λ (p : Protocol). AreKept p.opens) (all_but guid h.protocols) (fresh guid interface) (All-filter (λ p. not (has_guid guid p)) (λ (p : Protocol). AreKept p.opens) h.protocols all.opens) (All-nil (λ e. is_kept e ≡ true));
  shown = all.shown;
  from = all.from;
  to = all.to;
}

-- a handle with other opens
pub opens_is : (made : ℕ) (h : Handle) (guid : Guid) (f : List OpenEntry → List OpenEntry) → ((opens : List OpenEntry) → AreKept opens → AreKept (f opens)) → IsHandle made h → IsHandle made (record h { protocols = with_opens guid f h.protocols })
opens_is made h guid f keeps all =
    let l = length_at (has_guid guid) (λ p. record p { opens = f p.opens }) h.protocols in
    let some = all.some in
    record {
      some = omega (arith, some, l);
      apart = pairs_at (λ a b. same_guid a b ≡ false) (λ (p : Protocol). p.guid) (has_guid guid) (λ p. record p { opens = f p.opens }) (λ p. refl) h.protocols all.apart;
      opens = all_at (λ (p : Protocol). AreKept p.opens) (has_guid guid) (λ p. record p { opens = f p.opens }) h.protocols (λ p k. keeps p.opens k) all.opens;
      shown = all.shown;
      from = all.from;
      to = all.to;
    }

pub noted_kept : (entry : OpenEntry) → is_kept entry ≡ true → (opens : List OpenEntry) → AreKept opens → AreKept (noted entry opens)
noted_kept entry k opens all = by (list_any (is_like entry) opens)
  where
    by : (b : Bool) → AreKept (if b then at_first (is_like entry) once_more opens else opens ++ entry ∷ [])
    by true = all_at (λ e. is_kept e ≡ true) (is_like entry) once_more opens (λ e h. h) all
    by false = All-push (λ e. is_kept e ≡ true) opens entry all k

pub closed_kept : (agent controller : ℕ) (opens : List OpenEntry) → AreKept opens → AreKept (closed agent controller opens)
closed_kept agent controller opens all = All-filter (λ e. not (e.agent == agent && e.controller == controller)) (λ e. is_kept e ≡ true) opens all

pub opens_view : (f : List OpenEntry → List OpenEntry) (guid : Guid) (d : Database) (n i : ℕ) (live : List Handle) (made : ℕ) (x y : Handle) → record { live = live; made = made } ≡ d → position (has_number n) d.live ≡ Some i → x ≡ get_or live i x
    → y ≡ record x { protocols = with_opens guid f x.protocols } → record { live = set live i y; made = made } ≡ reopened d n guid f
unfolding reopened
opens_view f guid d n i live made x y e p is m = write_is d n i (λ h. record h { protocols = with_opens guid f h.protocols }) live made x y e p is m

pub opens_gone : (f : List OpenEntry → List OpenEntry) (guid : Guid) (d : Database) (n : ℕ) → handle_in d n ≡ None → reopened d n guid f ≡ d
unfolding handle_in reopened
opens_gone f guid d n e = ap (λ hs. record d { live = hs }) (unchanged (has_number n) (λ h. record h { protocols = with_opens guid f h.protocols }) d.live e)

pub has_there : (d : Database) (n i : ℕ) (guid : Guid) (interface : ℕ) (live : List Handle) (made : ℕ) (x : Handle) (r : Bool) → record { live = live; made = made } ≡ d → position (has_number n) d.live ≡ Some i → x ≡ get_or live i x → r ≡ has_interface guid interface x → r ≡ true
    → (z : Handle) → list_any (has_guid guid) (get_or d.live i z).protocols ≡ true
has_there d n i guid interface live made x r e p is tests so z =
    any_both (has_guid guid) (λ q. q.interface == interface) (get_or d.live i z).protocols (test_there (λ h. has_interface guid interface h) d n i live made x z r true e p is tests so)

pub no_open : (entry : OpenEntry) (guid : Guid) (d : Database) (n : ℕ) → handle_in d n ≡ None → d ≡ with_open d n guid entry
no_open entry guid d n e = by (is_kept entry)
  where
    by : (b : Bool) → d ≡ (if b then reopened d n guid (noted entry) else d)
    by true = sym (opens_gone (noted entry) guid d n e)
    by false = refl
