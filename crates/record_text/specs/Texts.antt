-- The text of each line, without the line end.
use Rattle.std.specs.Prelude.{◌≡◌, ◌<◌, ◌≤◌, ◌+◌, ◌||◌, length, ◌^◌, ◌++◌, ℕ, Bool, true, false, List, ◌∷◌, codes, Option, Some, None}
use Rattle.std.specs.Fmt.{decimal}
use Rattle.uh_base.specs.Hex.{hex_digits}
use Rattle.uh_base.specs.Names.{is_name}
use Rattle.uh_base.specs.ConsoleText.{IsConsoleText}
use Rattle.record_names.specs.Faults.{fault_text, FaultFits}
use Rattle.record_names.specs.Parts.{part_name}
use Rattle.record_names.specs.Rules.{rule_name}
use Rattle.record_text.specs.Causes.{cause_name}
use Rattle.record_text.specs.Services.{service_name, service_slot, is_service}
use Rattle.record_text.specs.HexBytes.{bytes_text, AreSome}
use Rattle.record_text.specs.declared.line.Line.{Line}
use Rattle.record_text.specs.declared.line.Line.TheVariants.{Console, Svc, Load, Start, Unload, ExitBoot, CheckYes, CheckNo, CheckCert, MapAccepted, MapRefused, Call, CallTrap, CallBound, CallEarly, Bytes, Peek, PeekFault, MemmapKey, MemmapRow, Vars, Reset, Halt, End}

-- a word, a space and what follows
abbrev pub spaced : List ℕ → List ℕ → List ℕ
spaced word rest = word ++ 32 ∷ rest

unfoldable pub text_of : Line → List ℕ
text_of (Console text) = spaced (codes "console") text
text_of (Svc slot h0) = spaced (codes "svc") (spaced (service_name slot) (hex_digits 16 h0))
text_of (Load name h0 h1 pages) = spaced (codes "load") (spaced name (spaced (hex_digits 16 h0) (spaced (hex_digits 16 h1) (decimal pages))))
text_of (Start name h0 steps) = spaced (codes "start") (spaced name (spaced (hex_digits 16 h0) (decimal steps)))
text_of (Unload name h0) = spaced (codes "unload") (spaced name (hex_digits 16 h0))
text_of (ExitBoot h0) = spaced (codes "exit_boot") (hex_digits 16 h0)
text_of (CheckYes name) = spaced (codes "check") (spaced name (codes "yes"))
text_of (CheckNo name rule n) = spaced (codes "check") (spaced name (spaced (codes "no") (spaced (rule_name rule) (decimal n))))
text_of (CheckCert name part n) = spaced (codes "check") (spaced name (spaced (codes "cert") (spaced (part_name part) (decimal n))))
text_of (MapAccepted steps) = spaced (codes "map") (spaced (codes "accepted") (decimal steps))
text_of (MapRefused fault) = spaced (codes "map") (spaced (codes "refused") (fault_text fault))
text_of (Call name h0 steps) = spaced (codes "call") (spaced name (spaced (hex_digits 16 h0) (decimal steps)))
text_of (CallTrap name cause steps) = spaced (codes "call") (spaced name (spaced (codes "trap") (spaced (cause_name cause) (decimal steps))))
text_of (CallBound name steps) = spaced (codes "call") (spaced name (spaced (codes "bound") (decimal steps)))
text_of (CallEarly name) = spaced (codes "call") (spaced name (codes "early"))
text_of (Bytes offset hex) = spaced (codes "bytes") (spaced (decimal offset) (bytes_text hex))
text_of (Peek h0 hex) = spaced (codes "peek") (spaced (hex_digits 16 h0) (bytes_text hex))
text_of (PeekFault h0) = spaced (codes "peek") (spaced (hex_digits 16 h0) (codes "fault"))
text_of (MemmapKey key) = spaced (codes "memmap") (decimal key)
text_of (MemmapRow memory_type h0 pages h1) = spaced (decimal memory_type) (spaced (hex_digits 16 h0) (spaced (decimal pages) (hex_digits 16 h1)))
text_of (Vars hex) = spaced (codes "vars") (bytes_text hex)
text_of (Reset kind h0) = spaced (codes "reset") (spaced (decimal kind) (hex_digits 16 h0))
text_of (Halt cause h0 h1) = spaced (codes "halt") (spaced (cause_name cause) (spaced (hex_digits 16 h0) (hex_digits 16 h1)))
text_of End = codes "end"

-- the name of an image or of a service
abbrev pub has_slot : Option ℕ → Bool
has_slot None = false
has_slot (Some slot) = true

abbrev pub is_called : List ℕ → Bool
is_called name = is_name name || has_slot (service_slot name)

-- The words of a line keep their forms.
abbrev pub HasForms : Line → Type 0
HasForms (Console text) = IsConsoleText text
HasForms (Svc slot h0) = is_service slot ≡ true
HasForms (Load name h0 h1 pages) = is_name name ≡ true
HasForms (Start name h0 steps) = is_name name ≡ true
HasForms (Unload name h0) = is_name name ≡ true
HasForms (ExitBoot h0) = Unit {0}
HasForms (CheckYes name) = is_name name ≡ true
HasForms (CheckNo name rule n) = is_name name ≡ true
HasForms (CheckCert name part n) = is_name name ≡ true
HasForms (MapAccepted steps) = Unit {0}
HasForms (MapRefused fault) = Unit {0}
HasForms (Call name h0 steps) = is_called name ≡ true
HasForms (CallTrap name cause steps) = is_called name ≡ true
HasForms (CallBound name steps) = is_called name ≡ true
HasForms (CallEarly name) = is_called name ≡ true
HasForms (Bytes offset hex) = AreSome hex × (length hex ≤ 4096) × (offset + length hex ≤ 65536)
HasForms (Peek h0 hex) = AreSome hex × (length hex ≤ 4096)
HasForms (PeekFault h0) = Unit {0}
HasForms (MemmapKey key) = Unit {0}
HasForms (MemmapRow memory_type h0 pages h1) = Unit {0}
HasForms (Vars hex) = AreSome hex
HasForms (Reset kind h0) = Unit {0}
HasForms (Halt cause h0 h1) = Unit {0}
HasForms End = Unit {0}

-- The numbers of a line fit their types.
abbrev pub Fits : Line → Type 0
Fits (Console text) = Unit {0}
Fits (Svc slot h0) = (slot < 2 ^ 8) × (h0 < 2 ^ 64)
Fits (Load name h0 h1 pages) = (h0 < 2 ^ 64) × (h1 < 2 ^ 64) × (pages < 2 ^ 32)
Fits (Start name h0 steps) = (h0 < 2 ^ 64) × (steps < 2 ^ 64)
Fits (Unload name h0) = h0 < 2 ^ 64
Fits (ExitBoot h0) = h0 < 2 ^ 64
Fits (CheckYes name) = Unit {0}
Fits (CheckNo name rule n) = n < 2 ^ 32
Fits (CheckCert name part n) = n < 2 ^ 32
Fits (MapAccepted steps) = steps < 2 ^ 64
Fits (MapRefused fault) = FaultFits fault
Fits (Call name h0 steps) = (h0 < 2 ^ 64) × (steps < 2 ^ 64)
Fits (CallTrap name cause steps) = steps < 2 ^ 64
Fits (CallBound name steps) = steps < 2 ^ 64
Fits (CallEarly name) = Unit {0}
Fits (Bytes offset hex) = offset < 2 ^ 32
Fits (Peek h0 hex) = h0 < 2 ^ 64
Fits (PeekFault h0) = h0 < 2 ^ 64
Fits (MemmapKey key) = key < 2 ^ 64
Fits (MemmapRow memory_type h0 pages h1) = (memory_type < 2 ^ 32) × (h0 < 2 ^ 64) × (pages < 2 ^ 64) × (h1 < 2 ^ 64)
Fits (Vars hex) = Unit {0}
Fits (Reset kind h0) = (kind < 2 ^ 32) × (h0 < 2 ^ 64)
Fits (Halt cause h0 h1) = (h0 < 2 ^ 64) × (h1 < 2 ^ 64)
Fits End = Unit {0}

-- a line that there is: a value of the program whose words keep their forms
abbrev pub IsLine : Line → Type 0
IsLine line = HasForms line × Fits line
