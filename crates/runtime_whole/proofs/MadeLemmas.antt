-- Calls of the protocol database make handles, and never fewer.
use Rattle.std.proofs.Common.{◌≡◌, ℕ, ◌+◌, ◌≤◌, Bool, true, false, List, [], ◌∷◌, ◌++◌, refl, arith}
use Rattle.std.specs.Prelude.{Option, Some, None, Result, Ok, Err, if◌then◌else◌}
use Rattle.std.specs.List.{fold, list_any}
use Rattle.std.specs.Option.{is_some}
use Rattle.uh_base.specs.declared.guid.Guid.{Guid}
use Rattle.handle_db.specs.declared.refusal.HandleRefusal.{HandleRefusal}
use Rattle.handle_db.specs.declared.refusal.HandleRefusal.TheVariants as handle
use Rattle.handle_db.specs.declared.entry.OpenEntry.{OpenEntry}
use Rattle.handle_db.specs.Database.{Protocol, Handle, Database, shown, has_guid, handle_in, protocol_in, opens_in, with_protocols, reopened, all_but, left_with, fresh, noted, is_kept, with_open, closed}
use Rattle.handle_db.specs.Calls.{Done as HandleDone, is_full, with_handle, installed_new, installed_on, installation as handle_installation, AllDone, one_more, installed_next, installation_of_all as handle_installation_of_all, has_interface, removed_from, removal, discarded_on, discarded as handle_discarded, replaced_on, replacement}
use Rattle.protocol_db.specs.declared.refusal.ProtocolRefusal.{ProtocolRefusal}
use Rattle.protocol_db.specs.declared.refusal.ProtocolRefusal.TheVariants as refusals
use Rattle.protocol_db.specs.declared.request.OpenRequest.{OpenRequest}
use Rattle.protocol_db.specs.Registrations.{Protocols, first_taken}
use Rattle.protocol_db.specs.Opening.{entry_of, opening, is_held}
use Rattle.protocol_db.specs.Calls.{Done, announced, installed, installation, all_installed, installation_of_all, withdrawn, uninstalled, uninstallation, reinstalled, reinstallation, opened, protocol_opening, has_between, may_close, closing, discarded, all_discarded, first_refusal, all_uninstalled, uninstallation_of_all}

-- ---- the handle database

-- an answer with a database in which at least so many handles were made
abbrev Made : ℕ → Result HandleDone HandleRefusal → Type 0
Made n (Ok done) = n ≤ done.database.made
Made n (Err refusal) = Unit {0}

new_made : (d : Database) (guid : Guid) (interface : ℕ) → Made d.made (installed_new d guid interface)
new_made d guid interface = by (is_full d)
  where
    by : (b : Bool) → Made d.made (if b then Err handle.Full else Ok (record { handle = shown (d.made + 1); database = with_handle d guid interface }))
    by true = tt
    by false = omega arith

on_made : (d : Database) (number : ℕ) (guid : Guid) (interface : ℕ) (h : Option Handle) → Made d.made (installed_on d number guid interface h)
on_made d number guid interface None = tt
on_made d number guid interface (Some h) = by (list_any (has_guid guid) h.protocols)
  where
    by : (b : Bool) → Made d.made (if b then Err handle.Invalid else Ok (record { handle = number; database = with_protocols d number (h.protocols ++ fresh guid interface ∷ []) }))
    by true = tt
    by false = omega arith

install_made : (d : Database) (number : Option ℕ) (guid : Guid) (interface : ℕ) → Made d.made (handle_installation d number guid interface)
unfolding handle_installation
install_made d None guid interface = new_made d guid interface
install_made d (Some number) guid interface = on_made d number guid interface (handle_in d number)

abbrev AllMade : ℕ → Result AllDone HandleRefusal → Type 0
AllMade n (Ok done) = n ≤ done.database.made
AllMade n (Err refusal) = Unit {0}

more_made : (n m : ℕ) (r : Result HandleDone HandleRefusal) → n ≤ m → Made m r → AllMade n (one_more r)
more_made n m (Ok done) l h = omega (arith, l, h)
more_made n m (Err refusal) l h = tt

next_made : (n : ℕ) (r : Result AllDone HandleRefusal) (pair : Guid × ℕ) → AllMade n r → AllMade n (installed_next r pair)
next_made n (Ok done) pair h = more_made n done.database.made (handle_installation done.database done.handle pair.0 pair.1) h (install_made done.database done.handle pair.0 pair.1)
next_made n (Err refusal) pair h = tt

fold_made : (n : ℕ) (pairs : List (Guid × ℕ)) (r : Result AllDone HandleRefusal) → AllMade n r → AllMade n (fold installed_next r pairs)
fold_made n [] r h = h
fold_made n (pair ∷ pairs) r h = fold_made n pairs (installed_next r pair) (next_made n r pair h)

all_made : (d : Database) (number : Option ℕ) (pairs : List (Guid × ℕ)) → AllMade d.made (handle_installation_of_all d number pairs)
unfolding handle_installation_of_all
all_made d number pairs = fold_made d.made pairs (Ok (record { handle = number; database = d })) (omega arith)

abbrev DatabaseMade : ℕ → Result Database HandleRefusal → Type 0
DatabaseMade n (Ok d) = n ≤ d.made
DatabaseMade n (Err refusal) = Unit {0}

left_made : (d : Database) (number : ℕ) (protocols : List Protocol) → (left_with d number protocols).made ≡ d.made
left_made d number [] = refl
left_made d number (p ∷ ps) = refl

removed_made : (d : Database) (number : ℕ) (guid : Guid) (interface : ℕ) (h : Option Handle) → DatabaseMade d.made (removed_from d number guid interface h)
removed_made d number guid interface None = tt
removed_made d number guid interface (Some h) = by (has_interface guid interface h)
  where
    by : (b : Bool) → DatabaseMade d.made (if b then Ok (left_with d number (all_but guid h.protocols)) else Err handle.NotFound)
    by true = let e = left_made d number (all_but guid h.protocols) in omega (arith, e)
    by false = tt

removal_made : (d : Database) (number : ℕ) (guid : Guid) (interface : ℕ) → DatabaseMade d.made (removal d number guid interface)
unfolding removal
removal_made d number guid interface = removed_made d number guid interface (handle_in d number)

replaced_made : (d : Database) (number : ℕ) (guid : Guid) (old new : ℕ) (h : Option Handle) → DatabaseMade d.made (replaced_on d number guid old new h)
replaced_made d number guid old new None = tt
replaced_made d number guid old new (Some h) = by (has_interface guid old h)
  where
    by : (b : Bool) → DatabaseMade d.made (if b then Ok (with_protocols d number (all_but guid h.protocols ++ fresh guid new ∷ [])) else Err handle.NotFound)
    by true = omega arith
    by false = tt

replacement_made : (d : Database) (number : ℕ) (guid : Guid) (old new : ℕ) → DatabaseMade d.made (replacement d number guid old new)
unfolding replacement
replacement_made d number guid old new = replaced_made d number guid old new (handle_in d number)

gone_made : (d : Database) (number : ℕ) (guid : Guid) (h : Option Handle) → (discarded_on d number guid h).made ≡ d.made
gone_made d number guid None = refl
gone_made d number guid (Some h) = by (list_any (has_guid guid) h.protocols)
  where
    by : (b : Bool) → (if b then left_with d number (all_but guid h.protocols) else d).made ≡ d.made
    by true = left_made d number (all_but guid h.protocols)
    by false = refl

open_made : (d : Database) (number : ℕ) (guid : Guid) (entry : OpenEntry) → (with_open d number guid entry).made ≡ d.made
unfolding reopened
open_made d number guid entry = by (is_kept entry)
  where
    by : (b : Bool) → (if b then reopened d number guid (noted entry) else d).made ≡ d.made
    by true = refl
    by false = refl

-- ---- protocols on handles

-- at least as many handles were made
abbrev pub Rises : Protocols → Protocols → Type 0
Rises p q = p.handles.made ≤ q.handles.made

abbrev pub RisesTo : {A : Type 0} → Protocols → Result (Done A) ProtocolRefusal → Type 0
RisesTo p (Ok done) = Rises p done.after
RisesTo p (Err refusal) = Unit {0}

abbrev pub RisesIn : Protocols → Result Protocols ProtocolRefusal → Type 0
RisesIn p (Ok q) = Rises p q
RisesIn p (Err refusal) = Unit {0}

installed_rises : (p : Protocols) (guid : Guid) (r : Result HandleDone HandleRefusal) → Made p.handles.made r → RisesTo p (installed p guid r)
installed_rises p guid (Ok done) h = h
installed_rises p guid (Err refusal) h = tt

pub installation_rises : (p : Protocols) (number : Option ℕ) (guid : Guid) (interface : ℕ) → RisesTo p (installation p number guid interface)
unfolding installation
installation_rises p number guid interface = installed_rises p guid (handle_installation p.handles number guid interface) (install_made p.handles number guid interface)

all_installed_rises : (p : Protocols) (pairs : List (Guid × ℕ)) (r : Result AllDone HandleRefusal) → AllMade p.handles.made r → RisesTo p (all_installed p pairs r)
all_installed_rises p pairs (Ok done) h = h
all_installed_rises p pairs (Err refusal) h = tt

pub all_installation_rises : (p : Protocols) (number : Option ℕ) (pairs : List (Guid × ℕ)) → RisesTo p (installation_of_all p number pairs)
unfolding installation_of_all
all_installation_rises p number pairs = all_installed_rises p pairs (handle_installation_of_all p.handles number pairs) (all_made p.handles number pairs)

reinstalled_rises : (p : Protocols) (number : ℕ) (guid : Guid) (r : Result Database HandleRefusal) → DatabaseMade p.handles.made r → RisesTo p (reinstalled p number guid r)
reinstalled_rises p number guid (Ok d) h = by (is_held p.handles number guid)
  where
    by : (b : Bool) → RisesTo p (if b then Err refusals.AccessDenied else Ok (announced p d number guid))
    by true = tt
    by false = h
reinstalled_rises p number guid (Err refusal) h = tt

pub reinstallation_rises : (p : Protocols) (number : ℕ) (guid : Guid) (old new : ℕ) → RisesTo p (reinstallation p number guid old new)
unfolding reinstallation
reinstallation_rises p number guid old new = reinstalled_rises p number guid (replacement p.handles number guid old new) (replacement_made p.handles number guid old new)

uninstalled_rises : (p : Protocols) (number : ℕ) (guid : Guid) (r : Result Database HandleRefusal) → DatabaseMade p.handles.made r → RisesIn p (uninstalled p number guid r)
uninstalled_rises p number guid (Ok d) h = by (is_held p.handles number guid)
  where
    by : (b : Bool) → RisesIn p (if b then Err refusals.AccessDenied else Ok (withdrawn p d number guid))
    by true = tt
    by false = h
uninstalled_rises p number guid (Err refusal) h = tt

pub uninstallation_rises : (p : Protocols) (number : ℕ) (guid : Guid) (interface : ℕ) → RisesIn p (uninstallation p number guid interface)
unfolding uninstallation
uninstallation_rises p number guid interface = uninstalled_rises p number guid (removal p.handles number guid interface) (removal_made p.handles number guid interface)

opened_rises : (p : Protocols) (r : OpenRequest) (judged : Result ℕ ProtocolRefusal) → RisesTo p (opened p r judged)
opened_rises p r (Ok interface) = let e = open_made p.handles r.handle r.guid (entry_of r) in omega (arith, e)
opened_rises p r (Err refusal) = tt

pub opening_rises : (p : Protocols) (r : OpenRequest) → RisesTo p (protocol_opening p r)
unfolding protocol_opening
opening_rises p r = opened_rises p r (opening p.handles r)

pub closing_rises : (p : Protocols) (number : ℕ) (guid : Guid) (agent controller : ℕ) → RisesIn p (closing p number guid agent controller)
unfolding closing reopened
closing_rises p number guid agent controller = by (may_close p.handles number agent controller) (has_between agent controller (opens_in p.handles number guid))
  where
    by : (a b : Bool) → RisesIn p (if a then (if b then Ok (record p { handles = reopened p.handles number guid (closed agent controller) }) else Err refusals.NotFound) else Err refusals.Invalid)
    by true true = omega arith
    by true false = tt
    by false b = tt

discarded_rises : (p : Protocols) (number : ℕ) (guid : Guid) → Rises p (discarded p number guid)
unfolding discarded handle_discarded
discarded_rises p number guid = by (is_some (protocol_in p.handles number guid))
  where
    by : (b : Bool) → Rises p (if b then withdrawn p (handle_discarded p.handles number guid) number guid else p)
    by true = let e = gone_made p.handles number guid (handle_in p.handles number) in omega (arith, e)
    by false = omega arith

all_discarded_rises : (pairs : List (Guid × ℕ)) (p q : Protocols) (number : ℕ) → Rises p q → Rises p (all_discarded q number pairs)
all_discarded_rises [] p q number h = h
all_discarded_rises (pair ∷ pairs) p q number h = let one = discarded_rises q number pair.0 in all_discarded_rises pairs p (discarded q number pair.0) number (omega (arith, h, one))

pub all_uninstallation_rises : (p : Protocols) (number : ℕ) (pairs : List (Guid × ℕ)) → RisesIn p (uninstallation_of_all p number pairs)
unfolding uninstallation_of_all
all_uninstallation_rises p number pairs = by (first_refusal p.handles number [] pairs)
  where
    by : (refusal : Option ProtocolRefusal) → RisesIn p (all_uninstalled p number pairs refusal)
    by None = all_discarded_rises pairs p p number (omega arith)
    by (Some refusal) = tt

pub taken_rises : (p : Protocols) (key : ℕ) → Rises p (first_taken p key)
unfolding first_taken
taken_rises p key = omega arith
