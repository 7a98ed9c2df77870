-- What the definitions come to.
use Rattle.std.specs.Prelude.{ℕ, ◌≡◌, ◌<◌, ◌*◌, ◌+◌, true, List, [], ◌∷◌, length, Option, Some, None, Ok}
use Rattle.std.specs.List.{All}
use Rattle.uh_base.specs.declared.guid.Guid.{Guid}
use Rattle.handle_db.specs.Database.{Protocol, Handle, Database, same_guid, handle_in, protocol_in, all_but, fresh}
use Rattle.handle_db.specs.Calls.{Done, installation, removal, replacement, discarded}
use Rattle.handle_db.specs.Whole.{IsDatabase}

-- The fields decide: GUIDs that are the same are equal.
abbrev pub SameIsEqual : Type 0
SameIsEqual = (a b : Guid) → same_guid a b ≡ true → a ≡ b

-- A new handle is none that was ever made, so no number is used again.
abbrev pub NewIsNew : Type 0
NewIsNew = (d : Database) (guid : Guid) (interface : ℕ) (done : Done) → IsDatabase d → installation d None guid interface ≡ Ok done
    → All (λ (h : Handle). h.number < done.handle) d.live × (16 * d.made < done.handle) × (done.database.made ≡ d.made + 1)

-- What was taken away is not there any more, with its opens.
abbrev pub RemovedIsGone : Type 0
RemovedIsGone = (d new : Database) (number : ℕ) (guid : Guid) (interface : ℕ) → removal d number guid interface ≡ Ok new → protocol_in new number guid ≡ None

-- What was put in another's place is there, opened by nobody.
abbrev pub ReplacedIsFresh : Type 0
ReplacedIsFresh = (d after : Database) (number : ℕ) (guid : Guid) (old new : ℕ) → replacement d number guid old new ≡ Ok after → protocol_in after number guid ≡ Some (fresh guid new)

-- What was discarded is not there any more, with its opens.
abbrev pub DiscardedIsGone : Type 0
DiscardedIsGone = (d : Database) (number : ℕ) (guid : Guid) → protocol_in (discarded d number guid) number guid ≡ None

-- a handle that has protocols, and none without
abbrev pub living : Handle → List Protocol → Option Handle
living handle [] = None
living handle (protocol ∷ protocols) = Some (record handle { protocols = protocol ∷ protocols })

abbrev pub left_of : Guid → Option Handle → Option Handle
left_of guid None = None
left_of guid (Some handle) = living handle (all_but guid handle.protocols)

-- A discard leaves a live handle, which has protocols, those of other GUIDs, and it is gone with the last.
abbrev pub DiscardLeavesOthers : Type 0
DiscardLeavesOthers = (d : Database) (number : ℕ) (guid : Guid) → ((h : Handle) → handle_in d number ≡ Some h → 0 < length h.protocols) → handle_in (discarded d number guid) number ≡ left_of guid (handle_in d number)
