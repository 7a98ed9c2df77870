-- The bytes of a placed image, before it is moved.
use Rattle.std.specs.Prelude.{ℕ, ◌+◌, ◌-◌, ◌*◌, ◌/◌, List, Bool, ◌&&◌, nat_le, nat_lt, slice_index, find, Option, Some, None, if◌then◌else◌}
use Rattle.pe_image.specs.declared.image.Section.{Section}
use Rattle.pe_image.specs.ImageOf.{Fields}

-- so many bytes, in whole pages
abbrev pub in_pages : ℕ → ℕ
in_pages size = (size + 4095) / 4096 * 4096

-- the copied bytes of a section hold an offset
abbrev pub copies_to : ℕ → Section → Bool
copies_to at section = nat_le section.at at && nat_lt at (section.at + section.copied)

-- the file's byte for an offset in a section
abbrev pub byte_in : List ℕ → ℕ → Option Section → ℕ
byte_in file at None = 0
byte_in file at (Some section) = slice_index file (section.raw + (at - section.at))

-- The headers are the file's, copied bytes are those of the one section that holds them, and all else is 0.
unfoldable pub placed_byte : Fields → List ℕ → ℕ → ℕ
placed_byte image file at =
    if nat_lt at image.headers then slice_index file at else byte_in file at (find (copies_to at) image.sections)
