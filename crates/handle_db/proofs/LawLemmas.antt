-- What the definitions come to.
use Rattle.std.proofs.Common.{◌≡◌, ℕ, ◌+◌, ◌*◌, ◌<◌, List, [], ◌∷◌, ◌++◌, ◌∙◌, length, refl, sym, ap, subst, arith, Bool, true, false}
use Rattle.std.specs.Prelude.{Option, Some, None, Ok, Err, if◌then◌else◌, not, ◌&&◌, ◌||◌, ◌==◌}
use Rattle.std.specs.List.{find, filter, list_any, All}
use Rattle.uh_base.specs.declared.guid.Guid.{Guid}
use Rattle.std.proofs.lemmas.Bool.Decides.{nat_tests}
use Rattle.handle_db.specs.Database.{Protocol, Handle, Database, same_guid, has_number, has_guid, handle_in, protocol_on, protocol_in, at_first, with_protocols, all_but, left_with, fresh}
use Rattle.handle_db.specs.Calls.{Done, is_full, with_handle, has_interface, installation, removal, removed_from, replacement, replaced_on, discarded, discarded_on}
use Rattle.handle_db.specs.declared.refusal.HandleRefusal.TheVariants.{NotFound, Full}
use Rattle.handle_db.specs.Whole.{IsDatabase}
use Rattle.handle_db.specs.Laws.{SameIsEqual, NewIsNew, RemovedIsGone, ReplacedIsFresh, DiscardedIsGone, living, left_of, DiscardLeavesOthers}
use Rattle.handle_db.proofs.ListLemmas.{none_left, find_none}

both : (a b : Bool) → (a && b) ≡ true → (a ≡ true) × (b ≡ true)
both true b h = (refl, h)
both false b h = absurd (cc)

same_number : (a b : ℕ) → (a == b) ≡ true → a ≡ b
same_number a b h = grind (arith, nat_tests)

pub same_is_equal : SameIsEqual
same_is_equal a b h =
    let p = both (a.d1 == b.d1) (a.d2 == b.d2 && (a.d3 == b.d3 && a.d4 == b.d4)) h in
    let q = both (a.d2 == b.d2) (a.d3 == b.d3 && a.d4 == b.d4) p.1 in
    let r = both (a.d3 == b.d3) (a.d4 == b.d4) q.1 in
    made (same_number a.d1 b.d1 p.0) (same_number a.d2 b.d2 q.0) (same_number a.d3 b.d3 r.0) (same_number a.d4 b.d4 r.1)
  where
    made : a.d1 ≡ b.d1 → a.d2 ≡ b.d2 → a.d3 ≡ b.d3 → a.d4 ≡ b.d4 → ◌≡◌ {A = Guid} (record { d1 = a.d1; d2 = a.d2; d3 = a.d3; d4 = a.d4 }) (record { d1 = b.d1; d2 = b.d2; d3 = b.d3; d4 = b.d4 })
    made e1 e2 e3 e4 = rw e1 (rw e2 (rw e3 (rw e4 refl)))

new_by : (d : Database) (guid : Guid) (interface : ℕ) (done : Done) (full : Bool) → IsDatabase d → (if full then Err Full else Ok (record { handle = 16 * (d.made + 1); database = with_handle d guid interface })) ≡ Ok done
    → All (λ (h : Handle). h.number < done.handle) d.live × (16 * d.made < done.handle) × (done.database.made ≡ d.made + 1)
new_by d guid interface done true all e = absurd (cc)
new_by d guid interface done false all e =
    let is : record { handle = 16 * (d.made + 1); database = with_handle d guid interface } ≡ done = cc in
    subst (λ (it : Done). All (λ (h : Handle). h.number < it.handle) d.live × (16 * d.made < it.handle) × (it.database.made ≡ d.made + 1)) is
    ((λ k h in'. (let to = (all.handles k h in').to in omega (arith, to))), omega arith, refl)

pub new_is_new : NewIsNew
unfolding installation
new_is_new d guid interface done all e = new_by d guid interface done (is_full d) all e

-- a handle that was changed is found changed
found_at : {X : Type 0} (test : X → Bool) (f : X → X) (xs : List X) (x : X) → ((y : X) → test (f y) ≡ test y) → find test xs ≡ Some x → find test (at_first test f xs) ≡ Some (f x)
unfolding at_first
found_at test f [] x same e = absurd (cc)
found_at test f (y ∷ ys) x same e = by (test y) refl e (found_at test f ys x same)
  where
    by : (b : Bool) → test y ≡ b → (if b then Some y else find test ys) ≡ Some x → (find test ys ≡ Some x → find test (at_first test f ys) ≡ Some (f x)) → find test (if b then f y ∷ ys else y ∷ at_first test f ys) ≡ Some (f x)
    by true t h more = let is : y ≡ x = cc in rw (same y) (rw t (ap (λ z. Some (f z)) is))
    by false t h more = rw t (more h)

-- a handle that was taken away is not found
gone : {X : Type 0} (test : X → Bool) (xs : List X) → find test (filter (λ x. not (test x)) xs) ≡ None
gone test xs = find_none test (filter (λ x. not (test x)) xs) (none_left test xs)

pub protocols_found : (d : Database) (n : ℕ) (h : Handle) (ps : List Protocol) → handle_in d n ≡ Some h → handle_in (with_protocols d n ps) n ≡ Some (record h { protocols = ps })
unfolding handle_in
protocols_found d n h ps e = found_at (has_number n) (λ g. record g { protocols = ps }) d.live h (λ g. refl) e

left_is : (d : Database) (n : ℕ) (guid : Guid) (h : Handle) (ps : List Protocol) → handle_in d n ≡ Some h → find (has_guid guid) ps ≡ None → protocol_in (left_with d n ps) n guid ≡ None
unfolding handle_in protocol_on
left_is d n guid h [] e none = rw (gone (has_number n) d.live) refl
left_is d n guid h (p ∷ ps) e none = rw (protocols_found d n h (p ∷ ps) e) none

removed_by : (d new : Database) (n : ℕ) (guid : Guid) (interface : ℕ) (o : Option Handle) → handle_in d n ≡ o → removed_from d n guid interface o ≡ Ok new → protocol_in new n guid ≡ None
removed_by d new n guid interface None e h = absurd (cc)
removed_by d new n guid interface (Some handle) e h = by (has_interface guid interface handle) h
  where
    by : (b : Bool) → (if b then Ok (left_with d n (all_but guid handle.protocols)) else Err NotFound) ≡ Ok new → protocol_in new n guid ≡ None
    by true k = let is : left_with d n (all_but guid handle.protocols) ≡ new = cc in subst (λ (it : Database). protocol_in it n guid ≡ None) is (left_is d n guid handle (all_but guid handle.protocols) e (gone (has_guid guid) handle.protocols))
    by false k = absurd (cc)

pub removed_is_gone : RemovedIsGone
unfolding removal
removed_is_gone d new n guid interface e = removed_by d new n guid interface (handle_in d n) refl e

same_itself : (a : Guid) → same_guid a a ≡ true
same_itself a = rw (itself a.d1) (rw (itself a.d2) (rw (itself a.d3) (itself a.d4)))
  where
    itself : (n : ℕ) → (n == n) ≡ true
    itself n = grind (arith, nat_tests)

pub last_found : {X : Type 0} (test : X → Bool) (xs : List X) (x : X) → list_any test xs ≡ false → test x ≡ true → find test (xs ++ x ∷ []) ≡ Some x
last_found test [] x none t = rw t refl
last_found test (y ∷ ys) x none t = by (test y) none (λ h. last_found test ys x h t)
  where
    by : (b : Bool) → (b || list_any test ys) ≡ false → (list_any test ys ≡ false → find test (ys ++ x ∷ []) ≡ Some x) → (if b then Some y else find test (ys ++ x ∷ [])) ≡ Some x
    by true h more = absurd (cc)
    by false h more = more h

replaced_by : (d after : Database) (n : ℕ) (guid : Guid) (old new : ℕ) (o : Option Handle) → handle_in d n ≡ o → replaced_on d n guid old new o ≡ Ok after → protocol_in after n guid ≡ Some (fresh guid new)
unfolding protocol_on
replaced_by d after n guid old new None e h = absurd (cc)
replaced_by d after n guid old new (Some handle) e h = by (has_interface guid old handle) h
  where
    by : (b : Bool) → (if b then Ok (with_protocols d n (all_but guid handle.protocols ++ fresh guid new ∷ [])) else Err NotFound) ≡ Ok after → protocol_in after n guid ≡ Some (fresh guid new)
    by true k =
        let is : with_protocols d n (all_but guid handle.protocols ++ fresh guid new ∷ []) ≡ after = cc in
        subst (λ (it : Database). protocol_in it n guid ≡ Some (fresh guid new)) is
        (rw (protocols_found d n handle (all_but guid handle.protocols ++ fresh guid new ∷ []) e) (last_found (has_guid guid) (all_but guid handle.protocols) (fresh guid new) (none_left (has_guid guid) handle.protocols) (same_itself guid)))
    by false k = absurd (cc)

pub replaced_is_fresh : ReplacedIsFresh
unfolding replacement
replaced_is_fresh d after n guid old new e = replaced_by d after n guid old new (handle_in d n) refl e

discarded_by : (d : Database) (n : ℕ) (guid : Guid) (o : Option Handle) → handle_in d n ≡ o → protocol_in (discarded_on d n guid o) n guid ≡ None
unfolding protocol_on
discarded_by d n guid None e = rw e refl
discarded_by d n guid (Some handle) e = by (list_any (has_guid guid) handle.protocols) refl
  where
    by : (b : Bool) → list_any (has_guid guid) handle.protocols ≡ b → protocol_in (if b then left_with d n (all_but guid handle.protocols) else d) n guid ≡ None
    by true k = left_is d n guid handle (all_but guid handle.protocols) e (gone (has_guid guid) handle.protocols)
    by false k = rw e (find_none (has_guid guid) handle.protocols k)

pub discarded_is_gone : DiscardedIsGone
unfolding discarded
discarded_is_gone d n guid = discarded_by d n guid (handle_in d n) refl

-- what a discard leaves
none_taken : {X : Type 0} (test : X → Bool) (xs : List X) → list_any test xs ≡ false → filter (λ x. not (test x)) xs ≡ xs
none_taken test [] e = refl
none_taken test (x ∷ xs) e = by (test x) e (none_taken test xs)
  where
    by : (b : Bool) → (b || list_any test xs) ≡ false → (list_any test xs ≡ false → filter (λ y. not (test y)) xs ≡ xs) → (if not b then x ∷ filter (λ y. not (test y)) xs else filter (λ y. not (test y)) xs) ≡ x ∷ xs
    by true h more = absurd (cc)
    by false h more = ap (λ ys. x ∷ ys) (more h)

living_itself : (h : Handle) → 0 < length h.protocols → living h h.protocols ≡ Some h
living_itself h l = by h.protocols refl l
  where
    by : (ps : List Protocol) → h.protocols ≡ ps → 0 < length ps → living h ps ≡ Some h
    by [] e l = absurd (omega arith)
    by (p ∷ ps) e l = ap (λ qs. Some (record h { protocols = qs })) (sym e)

left_handle : (d : Database) (n : ℕ) (h : Handle) (ps : List Protocol) → handle_in d n ≡ Some h → handle_in (left_with d n ps) n ≡ living h ps
unfolding handle_in
left_handle d n h [] e = gone (has_number n) d.live
left_handle d n h (p ∷ ps) e = protocols_found d n h (p ∷ ps) e

discard_leaves_by : (d : Database) (n : ℕ) (guid : Guid) (o : Option Handle) → handle_in d n ≡ o → ((h : Handle) → o ≡ Some h → 0 < length h.protocols) → handle_in (discarded_on d n guid o) n ≡ left_of guid o
discard_leaves_by d n guid None e some = e
discard_leaves_by d n guid (Some h) e some = by (list_any (has_guid guid) h.protocols) refl
  where
    by : (b : Bool) → list_any (has_guid guid) h.protocols ≡ b → handle_in (if b then left_with d n (all_but guid h.protocols) else d) n ≡ living h (all_but guid h.protocols)
    by true k = left_handle d n h (all_but guid h.protocols) e
    by false k = e ∙ sym (ap (living h) (none_taken (has_guid guid) h.protocols k) ∙ living_itself h (some h refl))

pub discard_leaves_others : DiscardLeavesOthers
unfolding discarded
discard_leaves_others d n guid some = discard_leaves_by d n guid (handle_in d n) refl some
