-- What the definitions come to.
use Rattle.std.proofs.Common.{◌≡◌, ℕ, List, [], ◌∷◌, ◌++◌, ◌∙◌, refl, ap, subst, arith, Bool, true, false}
use Rattle.std.specs.Prelude.{map, Some, Result, Ok, Err, if◌then◌else◌, not, ◌==◌, ◌||◌}
use Rattle.std.specs.List.{filter, list_any, All}
use Rattle.std.proofs.lemmas.Bool.Decides.{nat_tests}
use Rattle.std.proofs.lemmas.List.Elements.{All-nil, All-cons}
use Rattle.uh_base.specs.declared.guid.Guid.{Guid}
use Rattle.handle_db.specs.declared.refusal.HandleRefusal.{HandleRefusal}
use Rattle.handle_db.specs.Database.{Database, protocol_in, fresh}
use Rattle.handle_db.specs.Calls.{Done as HandleDone, AllDone as AllHandleDone, installation as handle_installation, installation_of_all as handle_installation_of_all, removal, replacement}
use Rattle.handle_db.specs.Laws.{RemovedIsGone, ReplacedIsFresh, DiscardedIsGone}
use Rattle.protocol_db.proofs.ListLemmas.{none_left}
use Rattle.protocol_db.specs.declared.refusal.ProtocolRefusal.TheVariants.{AccessDenied}
use Rattle.protocol_db.specs.Opening.{is_held}
use Rattle.protocol_db.specs.Registrations.{Registration, Protocols, is_for, is_for_any, pended, notified, silenced, all_notified, all_silenced}
use Rattle.protocol_db.specs.Calls.{Done, Installation, InstallationOfAll, all_announced, all_installed, installation_of_all, announced, installed, installation, withdrawn, uninstalled, uninstallation, reinstalled, reinstallation, discarded}
use Rattle.protocol_db.specs.Laws.{IsWithdrawn, UninstalledIsWithdrawn, DiscardedIsWithdrawn, ReinstalledIsFresh, InstalledIsPending, AllInstalledArePending}

-- a registration that has a handle pending no more, or has it pending
silent_one : (guid : Guid) (n : ℕ) (r : Registration) → is_for guid (silenced guid n r) ≡ true → list_any (λ h. h == n) (silenced guid n r).pending ≡ false
silent_one guid n r = by (is_for guid r) refl
  where
    by : (b : Bool) → is_for guid r ≡ b → is_for guid (if b then record r { pending = filter (λ h. not (h == n)) r.pending } else r) ≡ true → list_any (λ h. h == n) (if b then record r { pending = filter (λ h. not (h == n)) r.pending } else r).pending ≡ false
    by true e h = none_left (λ h. h == n) r.pending
    by false e h = absurd (cc)

silent_all : (guid : Guid) (n : ℕ) (rs : List Registration) → All (λ (r : Registration). is_for guid r ≡ true → list_any (λ h. h == n) r.pending ≡ false) (all_silenced rs guid n)
unfolding all_silenced
silent_all guid n [] = All-nil (λ (r : Registration). is_for guid r ≡ true → list_any (λ h. h == n) r.pending ≡ false)
silent_all guid n (r ∷ rs) = All-cons (λ (r : Registration). is_for guid r ≡ true → list_any (λ h. h == n) r.pending ≡ false) (silenced guid n r) (map (silenced guid n) rs) (silent_one guid n r) (silent_all guid n rs)

itself : (n : ℕ) → (n == n) ≡ true
itself n = grind (arith, nat_tests)

last_is : (n : ℕ) (pending : List ℕ) → list_any (λ h. h == n) (pending ++ n ∷ []) ≡ true
last_is n [] = rw (itself n) refl
last_is n (x ∷ xs) = by (x == n) (last_is n xs)
  where
    by : (b : Bool) → list_any (λ h. h == n) (xs ++ n ∷ []) ≡ true → (b || list_any (λ h. h == n) (xs ++ n ∷ [])) ≡ true
    by true h = refl
    by false h = h

pub pended_is : (n : ℕ) (pending : List ℕ) → list_any (λ h. h == n) (pended n pending) ≡ true
pended_is n pending = by (list_any (λ h. h == n) pending) refl
  where
    by : (b : Bool) → list_any (λ h. h == n) pending ≡ b → list_any (λ h. h == n) (if b then pending else pending ++ n ∷ []) ≡ true
    by true e = e
    by false e = last_is n pending

-- a test of a registration that its pending handles don't bear upon
abbrev Stays : (Registration → Bool) → Type 0
Stays test = (r : Registration) (pending : List ℕ) → test (record r { pending = pending }) ≡ test r

pending_one : (test : Registration → Bool) (n : ℕ) (r : Registration) → Stays test → test (notified test n r) ≡ true → list_any (λ h. h == n) (notified test n r).pending ≡ true
pending_one test n r stays = by (test r) refl
  where
    by : (b : Bool) → test r ≡ b → test (if b then record r { pending = pended n r.pending } else r) ≡ true → list_any (λ h. h == n) (if b then record r { pending = pended n r.pending } else r).pending ≡ true
    by true e h = pended_is n r.pending
    by false e h = absurd (cc)

pending_all : (test : Registration → Bool) (n : ℕ) (rs : List Registration) → Stays test → All (λ (r : Registration). test r ≡ true → list_any (λ h. h == n) r.pending ≡ true) (all_notified rs test n)
unfolding all_notified
pending_all test n [] stays = All-nil (λ (r : Registration). test r ≡ true → list_any (λ h. h == n) r.pending ≡ true)
pending_all test n (r ∷ rs) stays = All-cons (λ (r : Registration). test r ≡ true → list_any (λ h. h == n) r.pending ≡ true) (notified test n r) (map (notified test n) rs) (pending_one test n r stays) (pending_all test n rs stays)

-- what goes
uninstalled_by : RemovedIsGone → (p new : Protocols) (n : ℕ) (guid : Guid) (interface : ℕ) (o : Result Database HandleRefusal) → removal p.handles n guid interface ≡ o → uninstalled p n guid o ≡ Ok new → IsWithdrawn new n guid
uninstalled_by gone p new n guid interface (Err refusal) e h = absurd (cc)
uninstalled_by gone p new n guid interface (Ok d) e h = by (is_held p.handles n guid) h
  where
    by : (b : Bool) → (if b then Err AccessDenied else Ok (withdrawn p d n guid)) ≡ Ok new → IsWithdrawn new n guid
    by true k = absurd (cc)
    by false k = let is : withdrawn p d n guid ≡ new = cc in subst (λ (q : Protocols). IsWithdrawn q n guid) is (record { gone = gone p.handles d n guid interface e; silent = silent_all guid n p.registrations })

pub uninstalled_is_withdrawn : RemovedIsGone → UninstalledIsWithdrawn
unfolding uninstallation
uninstalled_is_withdrawn gone p new n guid interface e = uninstalled_by gone p new n guid interface (removal p.handles n guid interface) refl e

pub discarded_is_withdrawn : DiscardedIsGone → DiscardedIsWithdrawn
unfolding discarded
discarded_is_withdrawn gone p n guid there = rw there (record { gone = gone p.handles n guid; silent = silent_all guid n p.registrations })

-- what comes
reinstalled_by : ReplacedIsFresh → (p : Protocols) (done : Done Installation) (n : ℕ) (guid : Guid) (old new : ℕ) (o : Result Database HandleRefusal) → replacement p.handles n guid old new ≡ o → reinstalled p n guid o ≡ Ok done → protocol_in done.after.handles n guid ≡ Some (fresh guid new)
reinstalled_by is_fresh p done n guid old new (Err refusal) e h = absurd (cc)
reinstalled_by is_fresh p done n guid old new (Ok d) e h = by (is_held p.handles n guid) h
  where
    by : (b : Bool) → (if b then Err AccessDenied else Ok (announced p d n guid)) ≡ Ok done → protocol_in done.after.handles n guid ≡ Some (fresh guid new)
    by true k = absurd (cc)
    by false k = let is : announced p d n guid ≡ done = cc in subst (λ (it : Done Installation). protocol_in it.after.handles n guid ≡ Some (fresh guid new)) is (is_fresh p.handles d n guid old new e)

pub reinstalled_is_fresh : ReplacedIsFresh → ReinstalledIsFresh
unfolding reinstallation
reinstalled_is_fresh is_fresh p done n guid old new e = reinstalled_by is_fresh p done n guid old new (replacement p.handles n guid old new) refl e

installed_by : (p : Protocols) (done : Done Installation) (guid : Guid) (o : Result HandleDone HandleRefusal) → installed p guid o ≡ Ok done → All (λ (r : Registration). is_for guid r ≡ true → list_any (λ h. h == done.answer.handle) r.pending ≡ true) done.after.registrations
installed_by p done guid (Err refusal) h = absurd (cc)
installed_by p done guid (Ok it) h =
    let is : announced p it.database it.handle guid ≡ done = cc in
    subst (λ (q : Done Installation). All (λ (r : Registration). is_for guid r ≡ true → list_any (λ h. h == q.answer.handle) r.pending ≡ true) q.after.registrations) is (pending_all (is_for guid) it.handle p.registrations (λ r pending. refl))

pub installed_is_pending : InstalledIsPending
unfolding installation
installed_is_pending p done number guid interface e = installed_by p done guid (handle_installation p.handles number guid interface) e

all_pending_by : (p : Protocols) (done : Done InstallationOfAll) (pairs : List (Guid × ℕ)) (handle : ℕ) (o : Result AllHandleDone HandleRefusal) → all_installed p pairs o ≡ Ok done → done.answer.handle ≡ Some handle
    → All (λ (r : Registration). is_for_any pairs r ≡ true → list_any (λ h. h == handle) r.pending ≡ true) done.after.registrations
all_pending_by p done pairs handle (Err refusal) e h = absurd (cc)
all_pending_by p done pairs handle (Ok it) e h =
    let is : all_announced p pairs it ≡ done = cc in
    let given : it.handle ≡ Some handle = ap (λ (q : Done InstallationOfAll). q.answer.handle) is ∙ h in
    subst (λ (q : Done InstallationOfAll). All (λ (r : Registration). is_for_any pairs r ≡ true → list_any (λ k. k == handle) r.pending ≡ true) q.after.registrations) is
    (rw given (pending_all (is_for_any pairs) handle p.registrations (λ r pending. refl)))

pub all_installed_are_pending : AllInstalledArePending
unfolding installation_of_all
all_installed_are_pending p done number pairs handle e h = all_pending_by p done pairs handle (handle_installation_of_all p.handles number pairs) e h
