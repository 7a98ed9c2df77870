-- The block of a loaded image: EFI_LOADED_IMAGE_PROTOCOL (UEFI 2.10, 9.1), in 96 bytes of the pool.
use Rattle.std.specs.Prelude.{ℕ, ◌+◌, ◌-◌, ◌*◌, List, ◌++◌}
use Rattle.std.specs.Int.{w32, w64, to_le_bytes}
use Rattle.uh_base.specs.declared.guid.Guid.{Guid}

-- EFI_LOADED_IMAGE_PROTOCOL_GUID, 5b1b31a1-9562-11d2-8e3f-00a0c969723b (UEFI 2.10, 9.1.1)
abbrev pub loaded_image_protocol : Guid
loaded_image_protocol = record { d1 = 0x5b1b31a1; d2 = 0x9562; d3 = 0x11d2; d4 = 0x8e3f00a0c969723b }

abbrev pub block_size : ℕ
block_size = 96

-- the memory type of the block: EfiBootServicesData
abbrev pub block_type : ℕ
block_type = 4

-- The memory type of an image's code is 1, 3 or 5: that of loader, boot services and runtime services code, for an
-- application, a boot driver and a runtime driver, whose subsystems are 10, 11 and 12 (UEFI 2.10, 7.2 and 2.1.1). The type
-- of its data is the next one.
abbrev pub code_type : ℕ → ℕ
code_type subsystem = 1 + 2 * (subsystem - 10)

abbrev pub data_type : ℕ → ℕ
data_type subsystem = code_type subsystem + 1

abbrev pub word : ℕ → List ℕ
word n = to_le_bytes w32 n

abbrev pub pointer : ℕ → List ℕ
pointer n = to_le_bytes w64 n

-- Revision and its padding, ParentHandle, SystemTable, DeviceHandle, FilePath, Reserved, LoadOptionsSize and its padding,
-- LoadOptions, ImageBase, ImageSize, ImageCodeType, ImageDataType and Unload
unfoldable pub block_bytes : ℕ → ℕ → ℕ → ℕ → ℕ → List ℕ
block_bytes parent system base size subsystem =
    word 0x1000 ++ word 0
    ++ pointer parent
    ++ pointer system
    ++ pointer 0
    ++ pointer 0
    ++ pointer 0
    ++ word 0 ++ word 0
    ++ pointer 0
    ++ pointer base
    ++ pointer size
    ++ word (code_type subsystem) ++ word (data_type subsystem)
    ++ pointer 0
