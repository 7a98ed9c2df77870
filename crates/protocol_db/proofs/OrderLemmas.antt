-- Pairs that are taken away together go as they go one after another.
use Rattle.std.proofs.Common.{◌≡◌, ◌∙◌, ℕ, ◌<◌, List, [], ◌∷◌, ◌++◌, length, refl, sym, ap, subst, arith, Bool, true, false}
use Rattle.std.specs.Prelude.{Option, Some, None, Result, Ok, Err, if◌then◌else◌, not, ◌==◌, ◌&&◌, ◌||◌}
use Rattle.std.specs.List.{find, filter, fold, list_any}
use Rattle.std.specs.Option.{is_some, option_map}
use Rattle.std.proofs.lemmas.List.Folds.{list_any-append}
use Rattle.std.proofs.lemmas.Map.Views.{any-filter_same}
use Rattle.uh_base.specs.declared.guid.Guid.{Guid}
use Rattle.handle_db.specs.declared.refusal.HandleRefusal.TheVariants as handle
use Rattle.handle_db.specs.Whole.{IsHandle}
use Rattle.handle_db.specs.Laws.{SameIsEqual, DiscardLeavesOthers, living, left_of}
use Rattle.handle_db.specs.Database.{Protocol, Handle, Database, same_guid, has_number, has_guid, handle_in, protocol_on, all_but, left_with}
use Rattle.handle_db.specs.Calls.{is_among, keeps_some, stays_live, has_interface, has_interface_on, has_interface_in, removal, removed_from, discarded as handle_discarded, discarded_on}
use Rattle.protocol_db.proofs.ListLemmas.{found_has}
use Rattle.protocol_db.proofs.CallLemmas.{found_any}
use Rattle.protocol_db.specs.declared.refusal.ProtocolRefusal.{ProtocolRefusal}
use Rattle.protocol_db.specs.declared.refusal.ProtocolRefusal.TheVariants.{Invalid, NotFound, AccessDenied}
use Rattle.protocol_db.specs.Opening.{holds_any, is_held}
use Rattle.protocol_db.specs.Registrations.{Protocols}
use Rattle.protocol_db.specs.Whole.{IsWhole}
use Rattle.protocol_db.specs.Calls.{withdrawn, uninstalled, uninstallation, discarded, is_before, refusal_after, or_later, first_refusal, all_uninstalled, uninstallation_of_all}
use Rattle.protocol_db.specs.Laws.{uninstalled_next, AllUninstalledInOrder}

-- what pairs leave of a handle
abbrev left_by : List (Guid × ℕ) → Option Handle → Option Handle
left_by before None = None
left_by before (Some h) = living h (filter (λ q. not (is_among before q)) h.protocols)

living_same : (h : Handle) (ps qs : List Protocol) → living (record h { protocols = ps }) qs ≡ living h qs
living_same h ps [] = refl
living_same h ps (q ∷ qs) = refl

left_living : (guid : Guid) (h : Handle) (ps : List Protocol) → left_of guid (living h ps) ≡ living h (all_but guid ps)
left_living guid h [] = refl
left_living guid h (p ∷ ps) = living_same h (p ∷ ps) (all_but guid (p ∷ ps))

living_some : (h g : Handle) (ps : List Protocol) → living h ps ≡ Some g → 0 < length g.protocols
living_some h g [] e = absurd (cc)
living_some h g (p ∷ ps) e = let is : record h { protocols = p ∷ ps } ≡ g = cc in subst (λ (k : Handle). 0 < length k.protocols) is (omega arith)

left_some : (before : List (Guid × ℕ)) (o : Option Handle) (g : Handle) → left_by before o ≡ Some g → 0 < length g.protocols
left_some before None g e = absurd (cc)
left_some before (Some h) g e = living_some h g (filter (λ q. not (is_among before q)) h.protocols) e

-- one pair more
both_gone : (before : List (Guid × ℕ)) (guid : Guid) (interface : ℕ) (ps : List Protocol) → all_but guid (filter (λ q. not (is_among before q)) ps) ≡ filter (λ q. not (is_among (before ++ (guid, interface) ∷ []) q)) ps
both_gone before guid interface [] = refl
both_gone before guid interface (p ∷ ps) = by (is_among before p) (has_guid guid p) refl refl (both_gone before guid interface ps)
  where
    rest : List Protocol
    rest = filter (λ q. not (is_among (before ++ (guid, interface) ∷ []) q)) ps

    among : (a b : Bool) → is_among before p ≡ a → has_guid guid p ≡ b → is_among (before ++ (guid, interface) ∷ []) p ≡ (a || (b || false))
    among a b e f = list_any-append (λ (pair : Guid × ℕ). has_guid pair.0 p) before ((guid, interface) ∷ []) ∙ ap (λ c. c || (has_guid guid p || false)) e ∙ ap (λ c. a || (c || false)) f

    by : (a b : Bool) → is_among before p ≡ a → has_guid guid p ≡ b → all_but guid (filter (λ q. not (is_among before q)) ps) ≡ rest
        → all_but guid (if not a then p ∷ filter (λ q. not (is_among before q)) ps else filter (λ q. not (is_among before q)) ps) ≡ (if not (is_among (before ++ (guid, interface) ∷ []) p) then p ∷ rest else rest)
    by true b e f more = more ∙ sym (ap (λ c. if not c then p ∷ rest else rest) (among true b e f))
    by false true e f more = ap (λ c. if not c then p ∷ all_but guid (filter (λ q. not (is_among before q)) ps) else all_but guid (filter (λ q. not (is_among before q)) ps)) f ∙ more ∙ sym (ap (λ c. if not c then p ∷ rest else rest) (among false true e f))
    by false false e f more = ap (λ c. if not c then p ∷ all_but guid (filter (λ q. not (is_among before q)) ps) else all_but guid (filter (λ q. not (is_among before q)) ps)) f ∙ ap (λ qs. p ∷ qs) more ∙ sym (ap (λ c. if not c then p ∷ rest else rest) (among false false e f))

left_more : (before : List (Guid × ℕ)) (guid : Guid) (interface : ℕ) (o : Option Handle) → left_of guid (left_by before o) ≡ left_by (before ++ (guid, interface) ∷ []) o
left_more before guid interface None = refl
left_more before guid interface (Some h) = left_living guid h (filter (λ q. not (is_among before q)) h.protocols) ∙ ap (living h) (both_gone before guid interface h.protocols)

-- at first
all_kept : (ps : List Protocol) → filter (λ q. not (is_among [] q)) ps ≡ ps
all_kept [] = refl
all_kept (p ∷ ps) = ap (λ qs. p ∷ qs) (all_kept ps)

living_itself : (h : Handle) → 0 < length h.protocols → living h h.protocols ≡ Some h
living_itself h l = by h.protocols refl l
  where
    by : (ps : List Protocol) → h.protocols ≡ ps → 0 < length ps → living h ps ≡ Some h
    by [] e l = absurd (omega arith)
    by (p ∷ ps) e l = ap (λ qs. Some (record h { protocols = qs })) (sym e)

left_none : (o : Option Handle) → ((h : Handle) → o ≡ Some h → 0 < length h.protocols) → o ≡ left_by [] o
left_none None some = refl
left_none (Some h) some = sym (ap (living h) (all_kept h.protocols) ∙ living_itself h (some h refl))

have_some : (p : Protocols) (n : ℕ) → IsWhole p → (h : Handle) → handle_in p.handles n ≡ Some h → 0 < length h.protocols
unfolding handle_in
have_some p n all h e = (found_has (IsHandle p.handles.made) (has_number n) p.handles.live h all.handles.handles e).some

-- what is left of a handle has an interface where that was there, and no pair before has its GUID
before_same : SameIsEqual → (before : List (Guid × ℕ)) (guid : Guid) (p : Protocol) → has_guid guid p ≡ true → not (is_among before p) ≡ not (is_before before guid)
before_same equal before guid p e = ap (λ g. not (list_any (λ (pair : Guid × ℕ). same_guid g pair.0) before)) (equal p.guid guid e)

first_true : (a b : Bool) → (a && b) ≡ true → a ≡ true
first_true true b e = refl
first_true false b e = absurd (cc)

has_left : SameIsEqual → (before : List (Guid × ℕ)) (guid : Guid) (interface : ℕ) (h : Handle) → list_any (λ (p : Protocol). has_guid guid p && p.interface == interface) (filter (λ q. not (is_among before q)) h.protocols) ≡ (not (is_before before guid) && has_interface guid interface h)
has_left equal before guid interface h =
    any-filter_same (λ (p : Protocol). has_guid guid p && p.interface == interface) (λ q. not (is_among before q)) (not (is_before before guid)) (λ p e. before_same equal before guid p (first_true (has_guid guid p) (p.interface == interface) e)) h.protocols

find_kept : (test keep : Protocol → Bool) (ps : List Protocol) → ((p : Protocol) → test p ≡ true → keep p ≡ true) → find test (filter keep ps) ≡ find test ps
find_kept test keep [] kept = refl
find_kept test keep (p ∷ ps) kept = by (test p) (keep p) refl refl (find_kept test keep ps kept)
  where
    by : (a b : Bool) → test p ≡ a → keep p ≡ b → find test (filter keep ps) ≡ find test ps → find test (if b then p ∷ filter keep ps else filter keep ps) ≡ (if a then Some p else find test ps)
    by a true e f more = ap (λ c. if c then Some p else find test (filter keep ps)) e ∙ ap (λ o. if a then Some p else o) more
    by true false e f more = absurd (let no = kept p e in cc)
    by false false e f more = more

any_has : (guid : Guid) (interface : ℕ) (ps : List Protocol) → list_any (λ (p : Protocol). has_guid guid p && p.interface == interface) ps ≡ true → list_any (has_guid guid) ps ≡ true
any_has guid interface [] e = e
any_has guid interface (p ∷ ps) e = by (has_guid guid p) (p.interface == interface) e (any_has guid interface ps)
  where
    by : (a b : Bool) → (a && b || list_any (λ (q : Protocol). has_guid guid q && q.interface == interface) ps) ≡ true → (list_any (λ (q : Protocol). has_guid guid q && q.interface == interface) ps ≡ true → list_any (has_guid guid) ps ≡ true) → (a || list_any (has_guid guid) ps) ≡ true
    by true b h more = refl
    by false b h more = more h

none_kept : (keep : Protocol → Bool) (ps : List Protocol) → filter keep ps ≡ [] → list_any keep ps ≡ false
none_kept keep [] e = refl
none_kept keep (p ∷ ps) e = by (keep p) e (none_kept keep ps)
  where
    by : (b : Bool) → (if b then p ∷ filter keep ps else filter keep ps) ≡ [] → (filter keep ps ≡ [] → list_any keep ps ≡ false) → (b || list_any keep ps) ≡ false
    by true h more = absurd (cc)
    by false h more = more h

some_kept : (keep : Protocol → Bool) (ps : List Protocol) (q : Protocol) (qs : List Protocol) → filter keep ps ≡ q ∷ qs → list_any keep ps ≡ true
some_kept keep [] q qs e = absurd (cc)
some_kept keep (p ∷ ps) q qs e = by (keep p) e (some_kept keep ps q qs)
  where
    by : (b : Bool) → (if b then p ∷ filter keep ps else filter keep ps) ≡ q ∷ qs → (filter keep ps ≡ q ∷ qs → list_any keep ps ≡ true) → (b || list_any keep ps) ≡ true
    by true h more = refl
    by false h more = more h

-- calls by the handle that is found
abbrev held_on : Guid → Option Handle → Bool
held_on guid o = holds_any (option_map (λ (p : Protocol). p.opens) (protocol_on guid o))

abbrev refusal_on : Guid → ℕ → List (Guid × ℕ) → Option Handle → Option ProtocolRefusal
refusal_on guid interface before o =
    if not (keeps_some before o) then Some Invalid
    else if not (has_interface_on guid interface o) || is_before before guid then Some NotFound
    else if held_on guid o then Some AccessDenied
    else None

abbrev taken_on : Protocols → ℕ → Guid → ℕ → Option Handle → Result Protocols ProtocolRefusal
taken_on q n guid interface None = Err Invalid
taken_on q n guid interface (Some h) =
    if has_interface guid interface h then if held_on guid (Some h) then Err AccessDenied else Ok (withdrawn q (left_with q.handles n (all_but guid h.protocols)) n guid)
    else Err NotFound

abbrev gone_on : Protocols → ℕ → Guid → Option Handle → Protocols
gone_on q n guid o = if is_some (protocol_on guid o) then withdrawn q (discarded_on q.handles n guid o) n guid else q

abbrev answered : Option ProtocolRefusal → Protocols → Result Protocols ProtocolRefusal
answered None after = Ok after
answered (Some refusal) after = Err refusal

taken_is : (q : Protocols) (n : ℕ) (guid : Guid) (interface : ℕ) (o : Option Handle) → handle_in q.handles n ≡ o → uninstalled q n guid (removed_from q.handles n guid interface o) ≡ taken_on q n guid interface o
unfolding is_held
taken_is q n guid interface None e = refl
taken_is q n guid interface (Some h) e = by (has_interface guid interface h)
  where
    by : (b : Bool) → uninstalled q n guid (if b then Ok (left_with q.handles n (all_but guid h.protocols)) else Err handle.NotFound)
        ≡ (if b then if held_on guid (Some h) then Err AccessDenied else Ok (withdrawn q (left_with q.handles n (all_but guid h.protocols)) n guid) else Err NotFound)
    by true = ap (λ o. if held_on guid o then Err AccessDenied else Ok (withdrawn q (left_with q.handles n (all_but guid h.protocols)) n guid)) e
    by false = refl

judged_some : SameIsEqual → (q : Protocols) (n : ℕ) (guid : Guid) (interface : ℕ) (before : List (Guid × ℕ)) (h : Handle) (p : Protocol) (ps : List Protocol) → filter (λ k. not (is_among before k)) h.protocols ≡ p ∷ ps
    → taken_on q n guid interface (Some (record h { protocols = p ∷ ps }))
    ≡ answered (if not (has_interface guid interface h) || is_before before guid then Some NotFound else if held_on guid (Some h) then Some AccessDenied else None) (gone_on q n guid (Some (record h { protocols = p ∷ ps })))
unfolding protocol_on
judged_some equal q n guid interface before h p ps e = by (has_interface guid interface h) (is_before before guid) refl refl
  where
    g : Handle
    g = record h { protocols = p ∷ ps }

    has : (c b : Bool) → has_interface guid interface h ≡ c → is_before before guid ≡ b → has_interface guid interface g ≡ (not b && c)
    has c b k l = ap (λ qs. list_any (λ (r : Protocol). has_guid guid r && r.interface == interface) qs) (sym e) ∙ has_left equal before guid interface h ∙ ap (λ x. not x && has_interface guid interface h) l ∙ ap (λ x. not b && x) k

    kept : is_before before guid ≡ false → (r : Protocol) → has_guid guid r ≡ true → not (is_among before r) ≡ true
    kept l r k = before_same equal before guid r k ∙ ap not l

    held : is_before before guid ≡ false → held_on guid (Some g) ≡ held_on guid (Some h)
    held l = ap (λ o. holds_any (option_map (λ (r : Protocol). r.opens) o)) (ap (find (has_guid guid)) (sym e) ∙ find_kept (has_guid guid) (λ r. not (is_among before r)) h.protocols (kept l))

    gone : has_interface guid interface g ≡ true → gone_on q n guid (Some g) ≡ withdrawn q (left_with q.handles n (all_but guid g.protocols)) n guid
    gone k =
        let any : list_any (has_guid guid) g.protocols ≡ true = any_has guid interface g.protocols k in
        ap (λ c. if c then withdrawn q (discarded_on q.handles n guid (Some g)) n guid else q) (found_any (has_guid guid) g.protocols ∙ any)
        ∙ ap (λ c. withdrawn q (if c then left_with q.handles n (all_but guid g.protocols) else q.handles) n guid) any

    by : (c b : Bool) → has_interface guid interface h ≡ c → is_before before guid ≡ b
        → taken_on q n guid interface (Some g) ≡ answered (if not c || b then Some NotFound else if held_on guid (Some h) then Some AccessDenied else None) (gone_on q n guid (Some g))
    by false b k l = rw (has false b k l) (none b)
      where
        none : (b : Bool) → (if not b && false then if held_on guid (Some g) then Err AccessDenied else Ok (withdrawn q (left_with q.handles n (all_but guid g.protocols)) n guid) else Err NotFound) ≡ Err NotFound
        none true = refl
        none false = refl
    by true true k l = rw (has true true k l) refl
    by true false k l = rw (has true false k l) (rw (held l) (rw (gone (has true false k l)) (last (held_on guid (Some h)))))
      where
        last : (b : Bool) → (if b then Err AccessDenied else Ok (withdrawn q (left_with q.handles n (all_but guid g.protocols)) n guid)) ≡ answered (if b then Some AccessDenied else None) (withdrawn q (left_with q.handles n (all_but guid g.protocols)) n guid)
        last true = refl
        last false = refl

judged_left : SameIsEqual → (q : Protocols) (n : ℕ) (guid : Guid) (interface : ℕ) (before : List (Guid × ℕ)) (o : Option Handle) → taken_on q n guid interface (left_by before o) ≡ answered (refusal_on guid interface before o) (gone_on q n guid (left_by before o))
judged_left equal q n guid interface before None = refl
judged_left equal q n guid interface before (Some h) = by (filter (λ k. not (is_among before k)) h.protocols) refl
  where
    later : Option ProtocolRefusal
    later = if not (has_interface guid interface h) || is_before before guid then Some NotFound else if held_on guid (Some h) then Some AccessDenied else None

    by : (ps : List Protocol) → filter (λ k. not (is_among before k)) h.protocols ≡ ps → taken_on q n guid interface (living h ps) ≡ answered (refusal_on guid interface before (Some h)) (gone_on q n guid (living h ps))
    by [] e = sym (ap (λ c. answered (if not c then Some Invalid else later) (gone_on q n guid None)) (none_kept (λ k. not (is_among before k)) h.protocols e))
    by (p ∷ ps) e =
        judged_some equal q n guid interface before h p ps e
        ∙ sym (ap (λ c. answered (if not c then Some Invalid else later) (gone_on q n guid (Some (record h { protocols = p ∷ ps })))) (some_kept (λ k. not (is_among before k)) h.protocols p ps e))

uninstall_step : SameIsEqual → (d : Database) (q : Protocols) (n : ℕ) (pair : Guid × ℕ) (before : List (Guid × ℕ)) → handle_in q.handles n ≡ left_by before (handle_in d n)
    → uninstallation q n pair.0 pair.1 ≡ answered (refusal_after d n before pair) (discarded q n pair.0)
unfolding uninstallation removal refusal_after stays_live has_interface_in is_held discarded handle_discarded
uninstall_step equal d q n pair before e =
    taken_is q n pair.0 pair.1 (handle_in q.handles n) refl ∙ ap (taken_on q n pair.0 pair.1) e ∙ judged_left equal q n pair.0 pair.1 before (handle_in d n)
    ∙ sym (ap (λ o. answered (refusal_on pair.0 pair.1 before (handle_in d n)) (gone_on q n pair.0 o)) e)

gone_is : (q : Protocols) (n : ℕ) (guid : Guid) (o : Option Handle) → (gone_on q n guid o).handles ≡ discarded_on q.handles n guid o
unfolding protocol_on
gone_is q n guid None = refl
gone_is q n guid (Some h) = by (list_any (has_guid guid) h.protocols) (found_any (has_guid guid) h.protocols)
  where
    by : (b : Bool) → is_some (find (has_guid guid) h.protocols) ≡ b
        → (if is_some (find (has_guid guid) h.protocols) then withdrawn q (if b then left_with q.handles n (all_but guid h.protocols) else q.handles) n guid else q).handles ≡ (if b then left_with q.handles n (all_but guid h.protocols) else q.handles)
    by true k = rw k refl
    by false k = rw k refl

left_next : DiscardLeavesOthers → (d : Database) (q : Protocols) (n : ℕ) (pair : Guid × ℕ) (before : List (Guid × ℕ)) → handle_in q.handles n ≡ left_by before (handle_in d n) → handle_in (discarded q n pair.0).handles n ≡ left_by (before ++ pair ∷ []) (handle_in d n)
unfolding discarded handle_discarded
left_next leaves d q n pair before e =
    ap (λ b. handle_in b n) (gone_is q n pair.0 (handle_in q.handles n)) ∙ leaves q.handles n pair.0 (λ h k. left_some before (handle_in d n) h (sym e ∙ k)) ∙ ap (left_of pair.0) e
    ∙ left_more before pair.0 pair.1 (handle_in d n)

refused_next : (n : ℕ) (e : ProtocolRefusal) (pairs : List (Guid × ℕ)) → fold (uninstalled_next n) (Err e) pairs ≡ Err e
refused_next n e [] = refl
refused_next n e (pair ∷ pairs) = refused_next n e pairs

in_order : SameIsEqual → DiscardLeavesOthers → (d : Database) (pairs : List (Guid × ℕ)) (q : Protocols) (n : ℕ) (before : List (Guid × ℕ)) → handle_in q.handles n ≡ left_by before (handle_in d n)
    → all_uninstalled q n pairs (first_refusal d n before pairs) ≡ fold (uninstalled_next n) (Ok q) pairs
unfolding first_refusal
in_order equal leaves d [] q n before e = refl
in_order equal leaves d (pair ∷ pairs) q n before e =
    by (refusal_after d n before pair) (uninstall_step equal d q n pair before e) (first_refusal d n (before ++ pair ∷ []) pairs) (in_order equal leaves d pairs (discarded q n pair.0) n (before ++ pair ∷ []) (left_next leaves d q n pair before e))
  where
    by : (r : Option ProtocolRefusal) → uninstallation q n pair.0 pair.1 ≡ answered r (discarded q n pair.0) → (later : Option ProtocolRefusal) → all_uninstalled (discarded q n pair.0) n pairs later ≡ fold (uninstalled_next n) (Ok (discarded q n pair.0)) pairs
        → all_uninstalled q n (pair ∷ pairs) (or_later r later) ≡ fold (uninstalled_next n) (uninstallation q n pair.0 pair.1) pairs
    by (Some refusal) step later more = sym (ap (λ o. fold (uninstalled_next n) o pairs) step ∙ refused_next n refusal pairs)
    by None step None more = more ∙ sym (ap (λ o. fold (uninstalled_next n) o pairs) step)
    by None step (Some refusal) more = more ∙ sym (ap (λ o. fold (uninstalled_next n) o pairs) step)

pub all_uninstalled_in_order : SameIsEqual → DiscardLeavesOthers → AllUninstalledInOrder
unfolding uninstallation_of_all
all_uninstalled_in_order equal leaves p n pairs whole = in_order equal leaves p.handles pairs p n [] (left_none (handle_in p.handles n) (have_some p n whole))
