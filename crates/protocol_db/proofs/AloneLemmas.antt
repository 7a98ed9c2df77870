-- At most one entry of a protocol is by a driver or exclusive.
use Rattle.std.proofs.Common.{◌≡◌, ℕ, ◌+◌, ◌*◌, ◌<◌, List, [], ◌∷◌, ◌++◌, length, get_or, refl, subst, arith, Bool, true, false}
use Rattle.std.specs.Prelude.{Option, Some, None, Result, Ok, Err, if◌then◌else◌, not, ◌&&◌}
use Rattle.std.specs.List.{fold, list_any, All}
use Rattle.std.specs.Option.{is_some}
use Rattle.std.proofs.lemmas.List.Elements.{All-nil, All-cons, All-push, All-filter}
use Rattle.std.proofs.lemmas.List.Kept.{AllPairs-filter}
use Rattle.std.proofs.lemmas.List.Quantifiers.{all_pairs_push}
use Rattle.uh_base.specs.declared.guid.Guid.{Guid}
use Rattle.handle_db.specs.declared.entry.OpenEntry.{OpenEntry}
use Rattle.handle_db.specs.declared.refusal.HandleRefusal.{HandleRefusal}
use Rattle.handle_db.specs.declared.refusal.HandleRefusal.TheVariants as handle
use Rattle.handle_db.specs.Database.{Protocol, Handle, Database, has_number, has_guid, handle_in, protocol_on, protocol_in, opens_in, at_first, with_protocols, with_opens, reopened, all_but, left_with, fresh, is_like, once_more, noted, is_kept, with_open, is_between, closed}
use Rattle.handle_db.specs.Calls.{Done as HandleDone, AllDone as AllHandleDone, one_more, installed_next, installation_of_all as handle_installation_of_all, is_full, with_handle, installed_on, installation as handle_installation, has_interface, removal, removed_from, replacement, replaced_on, discarded as handle_discarded, discarded_on}
use Rattle.protocol_db.proofs.ListLemmas.{none_passes, found_has, pairs_at, all_at, all_at_found}
use Rattle.protocol_db.proofs.AllLemmas.{refused_all}
use Rattle.protocol_db.specs.declared.request.OpenRequest.{OpenRequest}
use Rattle.protocol_db.specs.declared.refusal.ProtocolRefusal.{ProtocolRefusal}
use Rattle.protocol_db.specs.declared.refusal.ProtocolRefusal.TheVariants.{Invalid, NotFound, AccessDenied, AlreadyStarted}
use Rattle.protocol_db.specs.Opening.{is_alone, is_by_driver, is_askable, entry_of, judged, opening, is_held}
use Rattle.protocol_db.specs.Registrations.{Protocols}
use Rattle.protocol_db.specs.Calls.{Done, Installation, InstallationOfAll, all_announced, all_installed, installation_of_all, first_refusal, all_discarded, all_uninstalled, uninstallation_of_all, announced, installed, installation, withdrawn, uninstalled, uninstallation, reinstalled, reinstallation, opened, protocol_opening, may_close, has_between, closing, discarded}
use Rattle.protocol_db.specs.Laws.{IsOneAlone, AreAlone, OneAloneStays}

abbrev Fine : List Protocol → Type 0
Fine protocols = All (λ (q : Protocol). IsOneAlone q.opens) protocols

fresh_fine : (guid : Guid) (interface : ℕ) → Fine (fresh guid interface ∷ [])
fresh_fine guid interface = All-cons (λ (q : Protocol). IsOneAlone q.opens) (fresh guid interface) [] (λ i j d l h. absurd (omega arith)) (All-nil (λ (q : Protocol). IsOneAlone q.opens))

-- the handles once one has other protocols
protocols_fine : (d : Database) (n : ℕ) (ps : List Protocol) → Fine ps → AreAlone d → AreAlone (with_protocols d n ps)
protocols_fine d n ps fine all = all_at (λ (h : Handle). Fine h.protocols) (has_number n) (λ h. record h { protocols = ps }) d.live (λ h k. fine) all

left_fine : (d : Database) (n : ℕ) (ps : List Protocol) → Fine ps → AreAlone d → AreAlone (left_with d n ps)
left_fine d n [] fine all = All-filter (λ h. not (has_number n h)) (λ (h : Handle). Fine h.protocols) d.live all
left_fine d n (p ∷ ps) fine all = protocols_fine d n (p ∷ ps) fine all

found_fine : (d : Database) (n : ℕ) (h : Handle) → AreAlone d → handle_in d n ≡ Some h → Fine h.protocols
unfolding handle_in
found_fine d n h all e = found_has (λ (g : Handle). Fine g.protocols) (has_number n) d.live h all e

all_but_fine : (guid : Guid) (ps : List Protocol) → Fine ps → Fine (all_but guid ps)
all_but_fine guid ps fine = All-filter (λ p. not (has_guid guid p)) (λ (q : Protocol). IsOneAlone q.opens) ps fine

-- an install
new_fine : (d : Database) (guid : Guid) (interface : ℕ) (done : HandleDone) (full : Bool) → AreAlone d → (if full then Err handle.Full else Ok (record { handle = 16 * (d.made + 1); database = with_handle d guid interface })) ≡ Ok done → AreAlone done.database
new_fine d guid interface done true all e = absurd (cc)
new_fine d guid interface done false all e =
    let is : record { handle = 16 * (d.made + 1); database = with_handle d guid interface } ≡ done = cc in
    subst (λ (it : HandleDone). AreAlone it.database) is (All-push (λ (h : Handle). Fine h.protocols) d.live (record { number = 16 * (d.made + 1); protocols = fresh guid interface ∷ [] }) all (fresh_fine guid interface))

more_fine : (d : Database) (n : ℕ) (guid : Guid) (interface : ℕ) (done : HandleDone) (o : Option Handle) → AreAlone d → handle_in d n ≡ o → installed_on d n guid interface o ≡ Ok done → AreAlone done.database
more_fine d n guid interface done None all e h = absurd (cc)
more_fine d n guid interface done (Some g) all e h = by (list_any (has_guid guid) g.protocols) h
  where
    by : (b : Bool) → (if b then Err handle.Invalid else Ok (record { handle = n; database = with_protocols d n (g.protocols ++ fresh guid interface ∷ []) })) ≡ Ok done → AreAlone done.database
    by true k = absurd (cc)
    by false k =
        let is : record { handle = n; database = with_protocols d n (g.protocols ++ fresh guid interface ∷ []) } ≡ done = cc in
        subst (λ (it : HandleDone). AreAlone it.database) is
        (protocols_fine d n (g.protocols ++ fresh guid interface ∷ []) (All-push (λ (q : Protocol). IsOneAlone q.opens) g.protocols (fresh guid interface) (found_fine d n g all e) (λ i j x l m. absurd (omega arith))) all)

install_fine : (d : Database) (number : Option ℕ) (guid : Guid) (interface : ℕ) (done : HandleDone) → AreAlone d → handle_installation d number guid interface ≡ Ok done → AreAlone done.database
unfolding handle_installation
install_fine d None guid interface done all e = new_fine d guid interface done (is_full d) all e
install_fine d (Some n) guid interface done all e = more_fine d n guid interface done (handle_in d n) all refl e

installed_fine : (p : Protocols) (done : Done Installation) (number : Option ℕ) (guid : Guid) (interface : ℕ) (o : Result HandleDone HandleRefusal) → AreAlone p.handles → handle_installation p.handles number guid interface ≡ o → installed p guid o ≡ Ok done → AreAlone done.after.handles
installed_fine p done number guid interface (Err refusal) all e h = absurd (cc)
installed_fine p done number guid interface (Ok it) all e h =
    let is : announced p it.database it.handle guid ≡ done = cc in
    subst (λ (q : Done Installation). AreAlone q.after.handles) is (install_fine p.handles number guid interface it all e)

-- an install of pairs
all_fine : (pairs : List (Guid × ℕ)) (it done : AllHandleDone) → AreAlone it.database → fold installed_next (Ok it) pairs ≡ Ok done → AreAlone done.database
all_fine [] it done all e = let is : it ≡ done = cc in subst (λ (d : AllHandleDone). AreAlone d.database) is all
all_fine (pair ∷ pairs) it done all e = by (handle_installation it.database it.handle pair.0 pair.1) refl e (λ one more. all_fine pairs (record { handle = Some one.handle; database = one.database }) done more)
  where
    by : (o : Result HandleDone HandleRefusal) → handle_installation it.database it.handle pair.0 pair.1 ≡ o → fold installed_next (one_more o) pairs ≡ Ok done
        → ((one : HandleDone) → AreAlone one.database → fold installed_next (one_more (Ok one)) pairs ≡ Ok done → AreAlone done.database) → AreAlone done.database
    by (Err refusal) k h more = absurd (let no = refused_all refusal pairs in cc)
    by (Ok one) k h more = more one (install_fine it.database it.handle pair.0 pair.1 one all k) h

all_installed_fine : (p : Protocols) (done : Done InstallationOfAll) (number : Option ℕ) (pairs : List (Guid × ℕ)) (o : Result AllHandleDone HandleRefusal) → AreAlone p.handles → handle_installation_of_all p.handles number pairs ≡ o → all_installed p pairs o ≡ Ok done
    → AreAlone done.after.handles
unfolding handle_installation_of_all
all_installed_fine p done number pairs (Err refusal) all e h = absurd (cc)
all_installed_fine p done number pairs (Ok it) all e h =
    let is : all_announced p pairs it ≡ done = cc in
    subst (λ (q : Done InstallationOfAll). AreAlone q.after.handles) is (all_fine pairs (record { handle = number; database = p.handles }) it all e)

-- what goes
removal_fine : (d x : Database) (n : ℕ) (guid : Guid) (interface : ℕ) (o : Option Handle) → AreAlone d → handle_in d n ≡ o → removed_from d n guid interface o ≡ Ok x → AreAlone x
removal_fine d x n guid interface None all e h = absurd (cc)
removal_fine d x n guid interface (Some g) all e h = by (has_interface guid interface g) h
  where
    by : (b : Bool) → (if b then Ok (left_with d n (all_but guid g.protocols)) else Err handle.NotFound) ≡ Ok x → AreAlone x
    by true k = let is : left_with d n (all_but guid g.protocols) ≡ x = cc in subst AreAlone is (left_fine d n (all_but guid g.protocols) (all_but_fine guid g.protocols (found_fine d n g all e)) all)
    by false k = absurd (cc)

uninstalled_fine : (p new : Protocols) (n : ℕ) (guid : Guid) (interface : ℕ) (o : Result Database HandleRefusal) → AreAlone p.handles → removal p.handles n guid interface ≡ o → uninstalled p n guid o ≡ Ok new → AreAlone new.handles
unfolding removal
uninstalled_fine p new n guid interface (Err refusal) all e h = absurd (cc)
uninstalled_fine p new n guid interface (Ok d) all e h = by (is_held p.handles n guid) h
  where
    by : (b : Bool) → (if b then Err AccessDenied else Ok (withdrawn p d n guid)) ≡ Ok new → AreAlone new.handles
    by true k = absurd (cc)
    by false k = let is : withdrawn p d n guid ≡ new = cc in subst (λ (q : Protocols). AreAlone q.handles) is (removal_fine p.handles d n guid interface (handle_in p.handles n) all refl e)

replacement_fine : (d x : Database) (n : ℕ) (guid : Guid) (old new : ℕ) (o : Option Handle) → AreAlone d → handle_in d n ≡ o → replaced_on d n guid old new o ≡ Ok x → AreAlone x
replacement_fine d x n guid old new None all e h = absurd (cc)
replacement_fine d x n guid old new (Some g) all e h = by (has_interface guid old g) h
  where
    by : (b : Bool) → (if b then Ok (with_protocols d n (all_but guid g.protocols ++ fresh guid new ∷ [])) else Err handle.NotFound) ≡ Ok x → AreAlone x
    by true k =
        let is : with_protocols d n (all_but guid g.protocols ++ fresh guid new ∷ []) ≡ x = cc in
        subst AreAlone is (protocols_fine d n (all_but guid g.protocols ++ fresh guid new ∷ []) (All-push (λ (q : Protocol). IsOneAlone q.opens) (all_but guid g.protocols) (fresh guid new) (all_but_fine guid g.protocols (found_fine d n g all e)) (λ i j y l m. absurd (omega arith))) all)
    by false k = absurd (cc)

reinstalled_fine : (p : Protocols) (done : Done Installation) (n : ℕ) (guid : Guid) (old new : ℕ) (o : Result Database HandleRefusal) → AreAlone p.handles → replacement p.handles n guid old new ≡ o → reinstalled p n guid o ≡ Ok done → AreAlone done.after.handles
unfolding replacement
reinstalled_fine p done n guid old new (Err refusal) all e h = absurd (cc)
reinstalled_fine p done n guid old new (Ok d) all e h = by (is_held p.handles n guid) h
  where
    by : (b : Bool) → (if b then Err AccessDenied else Ok (announced p d n guid)) ≡ Ok done → AreAlone done.after.handles
    by true k = absurd (cc)
    by false k = let is : announced p d n guid ≡ done = cc in subst (λ (q : Done Installation). AreAlone q.after.handles) is (replacement_fine p.handles d n guid old new (handle_in p.handles n) all refl e)

discarded_fine : (d : Database) (n : ℕ) (guid : Guid) (o : Option Handle) → AreAlone d → handle_in d n ≡ o → AreAlone (discarded_on d n guid o)
discarded_fine d n guid None all e = all
discarded_fine d n guid (Some g) all e = by (list_any (has_guid guid) g.protocols)
  where
    by : (b : Bool) → AreAlone (if b then left_with d n (all_but guid g.protocols) else d)
    by true = left_fine d n (all_but guid g.protocols) (all_but_fine guid g.protocols (found_fine d n g all e)) all
    by false = all

gone_fine : (p : Protocols) (n : ℕ) (guid : Guid) (b : Bool) → AreAlone p.handles → AreAlone (if b then withdrawn p (handle_discarded p.handles n guid) n guid else p).handles
unfolding handle_discarded
gone_fine p n guid true all = discarded_fine p.handles n guid (handle_in p.handles n) all refl
gone_fine p n guid false all = all

all_discarded_fine : (pairs : List (Guid × ℕ)) (p : Protocols) (n : ℕ) → AreAlone p.handles → AreAlone (all_discarded p n pairs).handles
unfolding discarded
all_discarded_fine [] p n all = all
all_discarded_fine (pair ∷ pairs) p n all = all_discarded_fine pairs (discarded p n pair.0) n (gone_fine p n pair.0 (is_some (protocol_in p.handles n pair.0)) all)

all_uninstalled_fine : (p new : Protocols) (n : ℕ) (pairs : List (Guid × ℕ)) (o : Option ProtocolRefusal) → AreAlone p.handles → all_uninstalled p n pairs o ≡ Ok new → AreAlone new.handles
all_uninstalled_fine p new n pairs (Some refusal) all e = absurd (cc)
all_uninstalled_fine p new n pairs None all e = let is : all_discarded p n pairs ≡ new = cc in subst (λ (q : Protocols). AreAlone q.handles) is (all_discarded_fine pairs p n all)

-- a close
closed_fine : (d : Database) (n : ℕ) (guid : Guid) (agent controller : ℕ) → AreAlone d → AreAlone (reopened d n guid (closed agent controller))
unfolding reopened
closed_fine d n guid agent controller all =
    all_at (λ (h : Handle). Fine h.protocols) (has_number n) (λ h. record h { protocols = with_opens guid (closed agent controller) h.protocols }) d.live
    (λ h k. all_at (λ (q : Protocol). IsOneAlone q.opens) (has_guid guid) (λ q. record q { opens = closed agent controller q.opens }) h.protocols
    (λ q m. AllPairs-filter (λ (a b : OpenEntry). (is_alone a.attributes && is_alone b.attributes) ≡ false) (λ e. not (is_between agent controller e)) q.opens m) k) all

closing_fine : (p new : Protocols) (n : ℕ) (guid : Guid) (agent controller : ℕ) (may has : Bool) → AreAlone p.handles
    → (if may then if has then Ok (record p { handles = reopened p.handles n guid (closed agent controller) }) else Err NotFound else Err Invalid) ≡ Ok new → AreAlone new.handles
closing_fine p new n guid agent controller false has all e = absurd (cc)
closing_fine p new n guid agent controller true false all e = absurd (cc)
closing_fine p new n guid agent controller true true all e =
    let is : record p { handles = reopened p.handles n guid (closed agent controller) } ≡ new = cc in
    subst (λ (q : Protocols). AreAlone q.handles) is (closed_fine p.handles n guid agent controller all)

-- an open
neither : (a b : Bool) → b ≡ false → (a && b) ≡ false
neither true b e = e
neither false b e = refl

first_not : (a b : Bool) → a ≡ false → (a && b) ≡ false
first_not a b e = rw e refl

noted_fine : (entry : OpenEntry) (opens : List OpenEntry) → IsOneAlone opens → (is_alone entry.attributes && list_any (λ e. is_alone e.attributes) opens) ≡ false → IsOneAlone (noted entry opens)
noted_fine entry opens all free = by (list_any (is_like entry) opens)
  where
    last : (b : Bool) → is_alone entry.attributes ≡ b → (b && list_any (λ e. is_alone e.attributes) opens) ≡ false → (k : ℕ) (d : OpenEntry) → k < length opens → (is_alone (get_or opens k d).attributes && is_alone entry.attributes) ≡ false
    last true t h k d l = first_not (is_alone (get_or opens k d).attributes) (is_alone entry.attributes) (none_passes (λ e. is_alone e.attributes) opens k d l h)
    last false t h k d l = neither (is_alone (get_or opens k d).attributes) (is_alone entry.attributes) t

    by : (b : Bool) → IsOneAlone (if b then at_first (is_like entry) once_more opens else opens ++ entry ∷ [])
    by true = pairs_at (λ a b. (is_alone a && is_alone b) ≡ false) (λ (e : OpenEntry). e.attributes) (is_like entry) once_more (λ e. refl) opens all
    by false = all_pairs_push (λ (a b : OpenEntry). (is_alone a.attributes && is_alone b.attributes) ≡ false) opens entry all (last (is_alone entry.attributes) refl free)

entered_fine : (d : Database) (n : ℕ) (guid : Guid) (entry : OpenEntry) (o : Option Handle) (protocol : Protocol) → AreAlone d → handle_in d n ≡ o → protocol_on guid o ≡ Some protocol → (is_alone entry.attributes && list_any (λ e. is_alone e.attributes) protocol.opens) ≡ false
    → AreAlone (reopened d n guid (noted entry))
unfolding handle_in protocol_on reopened
entered_fine d n guid entry None protocol all e f free = absurd (cc)
entered_fine d n guid entry (Some h) protocol all e f free =
    let fine = found_has (λ (g : Handle). Fine g.protocols) (has_number n) d.live h all e in
    let one = found_has (λ (q : Protocol). IsOneAlone q.opens) (has_guid guid) h.protocols protocol fine f in
    all_at_found (λ (g : Handle). Fine g.protocols) (has_number n) (λ g. record g { protocols = with_opens guid (noted entry) g.protocols }) d.live h e
    (all_at_found (λ (q : Protocol). IsOneAlone q.opens) (has_guid guid) (λ q. record q { opens = noted entry q.opens }) h.protocols protocol f (noted_fine entry protocol.opens one free) fine) all

with_open_fine : (d : Database) (n : ℕ) (guid : Guid) (entry : OpenEntry) (protocol : Protocol) → AreAlone d → protocol_in d n guid ≡ Some protocol → (is_alone entry.attributes && list_any (λ e. is_alone e.attributes) protocol.opens) ≡ false → AreAlone (with_open d n guid entry)
with_open_fine d n guid entry protocol all e free = by (is_kept entry)
  where
    by : (b : Bool) → AreAlone (if b then reopened d n guid (noted entry) else d)
    by true = entered_fine d n guid entry (handle_in d n) protocol all refl e free
    by false = all

pub record IsFree (r : OpenRequest) (protocol : Protocol) : Type 0 where
  pub free : (is_alone r.attributes && list_any (λ e. is_alone e.attributes) protocol.opens) ≡ false

judged_free : (r : OpenRequest) (o : Option Protocol) (interface : ℕ) → judged r o ≡ Ok interface → (protocol : Protocol) × (o ≡ Some protocol) × IsFree r protocol
judged_free r None interface e = absurd (cc)
judged_free r (Some protocol) interface e = (protocol, refl, by (is_by_driver r.attributes && list_any (is_like (entry_of r)) protocol.opens) (is_alone r.attributes && list_any (λ e. is_alone e.attributes) protocol.opens) refl e)
  where
    by : (a b : Bool) → (is_alone r.attributes && list_any (λ e. is_alone e.attributes) protocol.opens) ≡ b → (if a then Err AlreadyStarted else if b then Err AccessDenied else Ok protocol.interface) ≡ Ok interface → IsFree r protocol
    by true b is k = absurd (cc)
    by false true is k = absurd (cc)
    by false false is k = record { free = is }

opening_free : (d : Database) (r : OpenRequest) (interface : ℕ) (askable : Bool) → (if askable then judged r (protocol_in d r.handle r.guid) else Err Invalid) ≡ Ok interface → (protocol : Protocol) × (protocol_in d r.handle r.guid ≡ Some protocol) × IsFree r protocol
opening_free d r interface true e = judged_free r (protocol_in d r.handle r.guid) interface e
opening_free d r interface false e = absurd (cc)

opened_fine : (p : Protocols) (done : Done ℕ) (r : OpenRequest) (o : Result ℕ ProtocolRefusal) → AreAlone p.handles → opening p.handles r ≡ o → opened p r o ≡ Ok done → AreAlone done.after.handles
unfolding opening
opened_fine p done r (Err refusal) all e h = absurd (cc)
opened_fine p done r (Ok interface) all e h =
    let is : record { answer = interface; after = record p { handles = with_open p.handles r.handle r.guid (entry_of r) } } ≡ done = cc in
    let there = opening_free p.handles r interface (is_askable p.handles r) e in
    subst (λ (q : Done ℕ). AreAlone q.after.handles) is (with_open_fine p.handles r.handle r.guid (entry_of r) there.0 all there.1 there.2.free)

pub one_alone_stays : OneAloneStays
unfolding installation installation_of_all uninstallation uninstallation_of_all reinstallation protocol_opening closing discarded
one_alone_stays = record {
  first = All-nil (λ (h : Handle). Fine h.protocols);
  install = λ p done number guid interface all e. installed_fine p done number guid interface (handle_installation p.handles number guid interface) all refl e;
  install_all = λ p done number pairs all e. all_installed_fine p done number pairs (handle_installation_of_all p.handles number pairs) all refl e;
  uninstall_all = λ p new n pairs all e. all_uninstalled_fine p new n pairs (first_refusal p.handles n [] pairs) all e;
  reinstall = λ p done n guid old new all e. reinstalled_fine p done n guid old new (replacement p.handles n guid old new) all refl e;
  uninstall = λ p new n guid interface all e. uninstalled_fine p new n guid interface (removal p.handles n guid interface) all refl e;
  opens = λ p done r all e. opened_fine p done r (opening p.handles r) all refl e;
  close = λ p new n guid agent controller all e. closing_fine p new n guid agent controller (may_close p.handles n agent controller) (has_between agent controller (opens_in p.handles n guid)) all e;
  discard = λ p n guid all. gone_fine p n guid (is_some (protocol_in p.handles n guid)) all;
}
