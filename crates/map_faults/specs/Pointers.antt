-- ConvertPointer (UEFI 2.10, section 8.4).
use Rattle.std.specs.Prelude.{ℕ, ◌+◌, ◌-◌, ◌%◌, ◌==◌, List, Option, Some, None, Result, Ok, Err, if◌then◌else◌}
use Rattle.memory_map.specs.declared.descriptor.Descriptor.{Descriptor}
use Rattle.map_faults.specs.declared.pointer.ConvertRefusal.{ConvertRefusal}
use Rattle.map_faults.specs.declared.pointer.ConvertRefusal.TheVariants.{Null, NotFound}
use Rattle.map_faults.specs.Faults.{entry_at}

abbrev pub converted_by : ℕ → Option Descriptor → Result ℕ ConvertRefusal
converted_by at None = Err NotFound
converted_by at (Some e) = Ok (e.virt + (at - e.start))

-- EFI_OPTIONAL_PTR is bit 0 of the flags: only with it a pointer may be 0, which stays 0.
unfoldable pub converted : List Descriptor → ℕ → ℕ → Result ℕ ConvertRefusal
converted entries flags at =
    if at == 0 then (if flags % 2 == 1 then Ok 0 else Err Null)
    else converted_by at (entry_at entries at)
