-- What the parts of the reader read.
use Rattle.std.specs.Prelude.{ℕ, ◌+◌, ◌%◌, min, List, [], false, ◌==◌, nat_le, if◌then◌else◌}
use Rattle.pe_image.specs.declared.headers.Coff.{Coff}
use Rattle.pe_image.specs.declared.headers.Optional.{Optional}
use Rattle.pe_image.specs.declared.headers.Directory.{Directory}
use Rattle.pe_image.specs.declared.headers.Headers.{Headers}
use Rattle.pe_image.specs.ImageOf.{Fields, coff_at, optional_at, table_at, directory_count}
use Rattle.pe_image.specs.Numbers.{u16_at, u32_at, u64_at}

abbrev pub coff_of : List ℕ → ℕ → Coff
coff_of bytes at = record { sections = u16_at bytes (at + 2); optional_size = u16_at bytes (at + 16); stripped = u16_at bytes (at + 18) % 2 == 1 }

abbrev pub optional_of : List ℕ → ℕ → Optional
optional_of bytes at = record {
  entry = u32_at bytes (at + 16);
  image_base = u64_at bytes (at + 24);
  alignment = u32_at bytes (at + 32);
  size = u32_at bytes (at + 56);
  headers = u32_at bytes (at + 60);
  subsystem = u16_at bytes (at + 68);
  directories = min (u32_at bytes (at + 108)) 16;
}

abbrev pub directory_of : List ℕ → ℕ → ℕ → Directory
directory_of bytes at count = record { at = if nat_le 6 count then u32_at bytes (at + 152) else 0; len = if nat_le 6 count then u32_at bytes (at + 156) else 0 }

-- the headers of a file
abbrev pub headers_in : List ℕ → Headers
headers_in bytes =
    let coff = coff_of bytes (coff_at bytes) in record {
      optional_size = coff.optional_size;
      sections = coff.sections;
      stripped = coff.stripped;
      optional = optional_of bytes (optional_at bytes);
      relocations = directory_of bytes (optional_at bytes) (directory_count bytes);
      table = table_at bytes;
    }

-- the numbers of the headers, of an image without sections
abbrev pub headers_of : Optional → Directory → Fields
headers_of optional directory = record {
  subsystem = optional.subsystem;
  image_base = optional.image_base;
  alignment = optional.alignment;
  size = optional.size;
  headers = optional.headers;
  entry = optional.entry;
  sections = [];
  reloc_at = directory.at;
  reloc_len = directory.len;
  stripped = false;
}

abbrev pub numbers_of : Optional → Fields
numbers_of optional = headers_of optional (record { at = 0; len = 0 })
