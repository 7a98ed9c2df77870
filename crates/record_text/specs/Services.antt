-- The names of the firmware's services (UEFI 2.10, sections 4.4, 4.5 and 12.4).
use Rattle.std.specs.Prelude.{◌≡◌, ◌+◌, ◌==◌, ℕ, nat_lt, Bool, true, List, [], ◌∷◌, length, codes, Option, Some, None, if◌then◌else◌}
use Rattle.std.specs.List.{slice_get}
use Rattle.std.specs.Str.{bytes_eq}

-- by their slots: slot 17 has no service
unfoldable pub service_names : List (List ℕ)
service_names =
    codes "RaiseTPL" ∷ codes "RestoreTPL" ∷ codes "AllocatePages" ∷ codes "FreePages" ∷ codes "GetMemoryMap" ∷
    codes "AllocatePool" ∷ codes "FreePool" ∷ codes "CreateEvent" ∷ codes "SetTimer" ∷ codes "WaitForEvent" ∷
    codes "SignalEvent" ∷ codes "CloseEvent" ∷ codes "CheckEvent" ∷ codes "InstallProtocolInterface" ∷
    codes "ReinstallProtocolInterface" ∷ codes "UninstallProtocolInterface" ∷ codes "HandleProtocol" ∷ [] ∷
    codes "RegisterProtocolNotify" ∷ codes "LocateHandle" ∷ codes "LocateDevicePath" ∷
    codes "InstallConfigurationTable" ∷ codes "LoadImage" ∷ codes "StartImage" ∷ codes "Exit" ∷ codes "UnloadImage" ∷
    codes "ExitBootServices" ∷ codes "GetNextMonotonicCount" ∷ codes "Stall" ∷ codes "SetWatchdogTimer" ∷
    codes "ConnectController" ∷ codes "DisconnectController" ∷ codes "OpenProtocol" ∷ codes "CloseProtocol" ∷
    codes "OpenProtocolInformation" ∷ codes "ProtocolsPerHandle" ∷ codes "LocateHandleBuffer" ∷
    codes "LocateProtocol" ∷ codes "InstallMultipleProtocolInterfaces" ∷
    codes "UninstallMultipleProtocolInterfaces" ∷ codes "CalculateCrc32" ∷ codes "CopyMem" ∷ codes "SetMem" ∷
    codes "CreateEventEx" ∷ codes "GetTime" ∷ codes "SetTime" ∷ codes "GetWakeupTime" ∷ codes "SetWakeupTime" ∷
    codes "SetVirtualAddressMap" ∷ codes "ConvertPointer" ∷ codes "GetVariable" ∷ codes "GetNextVariableName" ∷
    codes "SetVariable" ∷ codes "GetNextHighMonotonicCount" ∷ codes "ResetSystem" ∷ codes "UpdateCapsule" ∷
    codes "QueryCapsuleCapabilities" ∷ codes "QueryVariableInfo" ∷ codes "Reset" ∷ codes "OutputString" ∷
    codes "TestString" ∷ codes "QueryMode" ∷ codes "SetMode" ∷ codes "SetAttribute" ∷ codes "ClearScreen" ∷
    codes "SetCursorPosition" ∷ codes "EnableCursor" ∷ []

abbrev pub or_empty : Option (List ℕ) → List ℕ
or_empty None = []
or_empty (Some name) = name

-- the name of the service of a slot, empty where there is none
unfoldable pub service_name : ℕ → List ℕ
service_name slot = or_empty (slice_get service_names slot)

-- A service has the slot.
abbrev pub is_service : ℕ → Bool
is_service slot = nat_lt 0 (length (service_name slot))

-- the place of a name in a list, counted from a number on
abbrev pub slot_from : ℕ → List (List ℕ) → List ℕ → Option ℕ
slot_from n [] name = None
slot_from n (first ∷ names) name = if bytes_eq first name then Some n else slot_from (n + 1) names name

-- the slot of the service of a name
unfoldable pub service_slot : List ℕ → Option ℕ
service_slot name = if length name == 0 then None else slot_from 0 service_names name

-- The name of a service is that of no other.
abbrev pub ServicesReadBack : Type 0
ServicesReadBack = (slot : ℕ) → is_service slot ≡ true → service_slot (service_name slot) ≡ Some slot
