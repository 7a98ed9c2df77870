-- What the definitions come to.
use Rattle.std.specs.Prelude.{ℕ, ◌≡◌, ◌==◌, ◌&&◌, true, false, List, [], ◌++◌, Option, Some, None, Result, Ok, Err}
use Rattle.std.specs.List.{All, AllPairs, fold, list_any}
use Rattle.std.specs.Option.{is_some}
use Rattle.uh_base.specs.declared.guid.Guid.{Guid}
use Rattle.handle_db.specs.Database.{Protocol, Handle, Database, protocol_in, fresh}
use Rattle.handle_db.specs.declared.entry.OpenEntry.{OpenEntry}
use Rattle.protocol_db.specs.declared.request.OpenRequest.{OpenRequest}
use Rattle.protocol_db.specs.declared.refusal.ProtocolRefusal.{ProtocolRefusal}
use Rattle.protocol_db.specs.Opening.{is_alone}
use Rattle.protocol_db.specs.Whole.{IsWhole}
use Rattle.protocol_db.specs.Registrations.{Registration, Protocols, is_for, is_for_any}
use Rattle.protocol_db.specs.Calls.{Done, Installation, InstallationOfAll, installation, installation_of_all, uninstallation, uninstallation_of_all, reinstallation, protocol_opening, closing, discarded}

-- A handle hasn't a protocol, and so no opens of it, and is pending for no registration of it.
pub record IsWithdrawn (p : Protocols) (number : ℕ) (guid : Guid) : Type 0 where
  pub gone : protocol_in p.handles number guid ≡ None
  pub silent : All (λ (r : Registration). is_for guid r ≡ true → list_any (λ h. h == number) r.pending ≡ false) p.registrations

-- What was uninstalled is gone with its opens, and pending nowhere.
abbrev pub UninstalledIsWithdrawn : Type 0
UninstalledIsWithdrawn = (p new : Protocols) (number : ℕ) (guid : Guid) (interface : ℕ) → uninstallation p number guid interface ≡ Ok new → IsWithdrawn new number guid

-- So is what was discarded.
abbrev pub DiscardedIsWithdrawn : Type 0
DiscardedIsWithdrawn = (p : Protocols) (number : ℕ) (guid : Guid) → is_some (protocol_in p.handles number guid) ≡ true → IsWithdrawn (discarded p number guid) number guid

-- a pair that is taken away after others
abbrev pub uninstalled_next : ℕ → Result Protocols ProtocolRefusal → Guid × ℕ → Result Protocols ProtocolRefusal
uninstalled_next number (Ok p) pair = uninstallation p number pair.0 pair.1
uninstalled_next number (Err refusal) pair = Err refusal

-- Pairs that are taken away together go as they go one after another, up to the first that is refused.
abbrev pub AllUninstalledInOrder : Type 0
AllUninstalledInOrder = (p : Protocols) (number : ℕ) (pairs : List (Guid × ℕ)) → IsWhole p → uninstallation_of_all p number pairs ≡ fold (uninstalled_next number) (Ok p) pairs

-- What was reinstalled is there, opened by nobody.
abbrev pub ReinstalledIsFresh : Type 0
ReinstalledIsFresh = (p : Protocols) (done : Done Installation) (number : ℕ) (guid : Guid) (old new : ℕ) → reinstallation p number guid old new ≡ Ok done → protocol_in done.after.handles number guid ≡ Some (fresh guid new)

-- The handle of what was installed is pending for each registration of its GUID.
abbrev pub InstalledIsPending : Type 0
InstalledIsPending = (p : Protocols) (done : Done Installation) (number : Option ℕ) (guid : Guid) (interface : ℕ) → installation p number guid interface ≡ Ok done
    → All (λ (r : Registration). is_for guid r ≡ true → list_any (λ h. h == done.answer.handle) r.pending ≡ true) done.after.registrations

-- So it is with the handle of pairs that were installed, for each registration of their GUIDs.
abbrev pub AllInstalledArePending : Type 0
AllInstalledArePending = (p : Protocols) (done : Done InstallationOfAll) (number : Option ℕ) (pairs : List (Guid × ℕ)) (handle : ℕ) → installation_of_all p number pairs ≡ Ok done → done.answer.handle ≡ Some handle
    → All (λ (r : Registration). is_for_any pairs r ≡ true → list_any (λ h. h == handle) r.pending ≡ true) done.after.registrations

abbrev pub one_more : Done InstallationOfAll → Result (Done Installation) ProtocolRefusal → Result (Done InstallationOfAll) ProtocolRefusal
one_more before (Ok done) = Ok (record { answer = record { handle = Some done.answer.handle; events = before.answer.events ++ done.answer.events }; after = done.after })
one_more before (Err refusal) = Err refusal

-- a pair that is installed after others, on the same handle
abbrev pub installed_next : Result (Done InstallationOfAll) ProtocolRefusal → Guid × ℕ → Result (Done InstallationOfAll) ProtocolRefusal
installed_next (Ok done) pair = one_more done (installation done.after done.answer.handle pair.0 pair.1)
installed_next (Err refusal) pair = Err refusal

-- Pairs that are installed together come as they come one after another, up to the first that is refused.
abbrev pub AllInstalledInOrder : Type 0
AllInstalledInOrder = (p : Protocols) (number : Option ℕ) (pairs : List (Guid × ℕ)) → installation_of_all p number pairs ≡ fold installed_next (Ok (record { answer = record { handle = number; events = [] }; after = p })) pairs

-- At most one entry is by a driver or exclusive.
abbrev pub IsOneAlone : List OpenEntry → Type 0
IsOneAlone opens = AllPairs (λ (a b : OpenEntry). (is_alone a.attributes && is_alone b.attributes) ≡ false) opens

-- That is so of each protocol of each handle.
abbrev pub AreAlone : Database → Type 0
AreAlone d = All (λ (h : Handle). All (λ (q : Protocol). IsOneAlone q.opens) h.protocols) d.live

-- It is so at first, and each call that changes the handles leaves it so.
pub record OneAloneStays : Type 0 where
  pub first : AreAlone (record { live = []; made = 0 })
  pub install : (p : Protocols) (done : Done Installation) (number : Option ℕ) (guid : Guid) (interface : ℕ) → AreAlone p.handles → installation p number guid interface ≡ Ok done → AreAlone done.after.handles
  pub install_all : (p : Protocols) (done : Done InstallationOfAll) (number : Option ℕ) (pairs : List (Guid × ℕ)) → AreAlone p.handles → installation_of_all p number pairs ≡ Ok done → AreAlone done.after.handles
  pub uninstall_all : (p new : Protocols) (number : ℕ) (pairs : List (Guid × ℕ)) → AreAlone p.handles → uninstallation_of_all p number pairs ≡ Ok new → AreAlone new.handles
  pub reinstall : (p : Protocols) (done : Done Installation) (number : ℕ) (guid : Guid) (old new : ℕ) → AreAlone p.handles → reinstallation p number guid old new ≡ Ok done → AreAlone done.after.handles
  pub uninstall : (p new : Protocols) (number : ℕ) (guid : Guid) (interface : ℕ) → AreAlone p.handles → uninstallation p number guid interface ≡ Ok new → AreAlone new.handles
  pub opens : (p : Protocols) (done : Done ℕ) (r : OpenRequest) → AreAlone p.handles → protocol_opening p r ≡ Ok done → AreAlone done.after.handles
  pub close : (p new : Protocols) (number : ℕ) (guid : Guid) (agent controller : ℕ) → AreAlone p.handles → closing p number guid agent controller ≡ Ok new → AreAlone new.handles
  pub discard : (p : Protocols) (number : ℕ) (guid : Guid) → AreAlone p.handles → AreAlone (discarded p number guid).handles
