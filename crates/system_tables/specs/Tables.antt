-- The tables, field by field: UEFI 2.10, 4.2 to 4.5 and 12.4. What no field names is 0. Where the tables lie in
-- their pages, and which slot serves which function, is this host's choice.
use Rattle.std.specs.Prelude.{ℕ, ◌+◌, List, [], ◌∷◌, ◌++◌, replicate, codes}
use Rattle.page_alloc.specs.declared.layout.Layout.{Layout}
use Rattle.system_tables.specs.declared.fields.Field.{Field}
use Rattle.uh_base.specs.Bytes.{plus}
use Rattle.system_tables.specs.Fields.{pointer, word, half, byte, slot_pointers, with_fields, with_crc}

-- EFI_TABLE_HEADER, but for its CRC, which is at offset 16: Signature, Revision (2.10) and HeaderSize. UEFI 2.10, 4.2
abbrev pub header : ℕ → ℕ → ℕ → List Field
header at signature size = pointer (at + 0) signature ∷ word (at + 8) 0x00020064 ∷ word (at + 12) size ∷ []

-- EFI_SYSTEM_TABLE, at the beginning of the system page: FirmwareVendor, FirmwareRevision, ConsoleInHandle, ConIn,
-- ConsoleOutHandle, ConOut, StandardErrorHandle, StdErr, RuntimeServices, BootServices, NumberOfTableEntries and
-- ConfigurationTable. Output and errors go to the console, whose handle is 16; there is no input and no configuration.
-- UEFI 2.10, 4.3
unfoldable pub system_table : Layout → List Field
system_table layout =
    header 0 0x5453595320494249 120 ++
    (pointer 24 (plus layout.system 0x200)
    ∷ word 32 1
    ∷ pointer 40 0
    ∷ pointer 48 0
    ∷ pointer 56 16
    ∷ pointer 64 (plus layout.boot 0x200)
    ∷ pointer 72 16
    ∷ pointer 80 (plus layout.boot 0x200)
    ∷ pointer 88 (plus layout.system 0x100)
    ∷ pointer 96 (plus layout.boot 0)
    ∷ pointer 104 0
    ∷ pointer 112 0
    ∷ [])

-- a text in 16-bit units. The vendor's name is at 0x200 of the system page.
unfoldable pub units_from : ℕ → List ℕ → List Field
units_from at [] = []
units_from at (code ∷ text) = half at code ∷ units_from (at + 2) text

abbrev pub vendor_text : List Field
vendor_text = units_from 0x200 (codes "UEFIHOST")

-- EFI_RUNTIME_SERVICES, at 0x100 of the system page, with the slot page at an address: from GetTime, slot 44, to
-- QueryVariableInfo. UEFI 2.10, 4.5
unfoldable pub runtime_table : ℕ → List Field
runtime_table slots =
    header 0x100 0x56524553544e5552 136 ++ slot_pointers (0x100 + 24) slots 44 14

-- EFI_BOOT_SERVICES, at the beginning of the boot page: from RaiseTPL, slot 0, to HandleProtocol; the reserved
-- pointer; from RegisterProtocolNotify, slot 18, to CreateEventEx. UEFI 2.10, 4.4
unfoldable pub boot_table : ℕ → List Field
boot_table slots =
    header 0 0x56524553544f4f42 376
    ++ (slot_pointers (0 + 24) slots 0 17
    ++ (pointer 160 0 ∷ slot_pointers 168 slots 18 26))

-- EFI_SIMPLE_TEXT_OUTPUT_PROTOCOL, at 0x200 of the boot page: from Reset, slot 58, to EnableCursor, then Mode. UEFI 2.10, 12.4
unfoldable pub console : Layout → List Field
console layout = slot_pointers 0x200 layout.slots 58 9 ++ (pointer (0x200 + 72) (plus layout.boot 0x300) ∷ [])

-- SIMPLE_TEXT_OUTPUT_MODE, at 0x300 of the boot page: MaxMode, Mode, Attribute, CursorColumn, CursorRow and CursorVisible.
-- UEFI 2.10, 12.4
unfoldable pub mode : List Field
mode =
    word (0x300 + 0) 1
    ∷ word (0x300 + 4) 0
    ∷ word (0x300 + 8) 7
    ∷ word (0x300 + 12) 0
    ∷ word (0x300 + 16) 0
    ∷ byte (0x300 + 20) 0
    ∷ []

unfoldable pub zeros : List ℕ
zeros = replicate 4096 0

-- the bytes of the two pages at opening
unfoldable pub system_page : Layout → List ℕ
system_page layout =
    with_crc (with_crc (with_fields zeros (system_table layout ++ (runtime_table layout.slots ++ vendor_text))) 0 120) 0x100 136

unfoldable pub boot_page : Layout → List ℕ
boot_page layout = with_crc (with_fields zeros (boot_table layout.slots ++ (console layout ++ mode))) 0 376

-- What no longer is there after the end of boot services: UEFI 2.10, 7.4.6.
unfoldable pub boot_fields : List Field
boot_fields =
    pointer 40 0
    ∷ pointer 48 0
    ∷ pointer 56 0
    ∷ pointer 64 0
    ∷ pointer 72 0
    ∷ pointer 80 0
    ∷ pointer 96 0
    ∷ []

-- the system page with these fields 0 and the new CRC
unfoldable pub boot_cleared : List ℕ → List ℕ
boot_cleared page = with_crc (with_fields page boot_fields) 0 120

-- the system page with its pointers to places as seen later, and the new CRCs: UEFI 2.10, 8.4
unfoldable pub moved_fields : ℕ → ℕ → List Field
moved_fields system slots =
    pointer 24 (plus system 0x200)
    ∷ pointer 88 (plus system 0x100)
    ∷ slot_pointers (0x100 + 24) slots 44 14

unfoldable pub moved : ℕ → ℕ → List ℕ → List ℕ
moved system slots page =
    with_crc (with_crc (with_fields page (moved_fields system slots)) 0 120) 0x100 136
