-- The words of the command line.
use Rattle.std.specs.Prelude.{ℕ, ◌&&◌, ◌==◌, nat_le, List, [], Option, Some, None, if◌then◌else◌, codes, length, slice_index_or}
use Rattle.std.specs.Str.{bytes_eq}
use Rattle.uh_base.specs.Numbers.{decimal_number}

-- what is asked for
pub data Command : Type 0 where
  Help : Command
  Version : Command
  Flat : (name : List ℕ) (bound : ℕ) → Command
  Build : (name : List ℕ) → Command
  Image : (name : List ℕ) → Command
  Listing : (name : List ℕ) → Command
  Run : (script : List ℕ) → Command

-- a word that stands alone
abbrev pub alone : List ℕ → Option Command
alone word = if bytes_eq word (codes "--help") then Some Help else (if bytes_eq word (codes "--version") then Some Version else None)

-- a file and a number of steps, from 1 to 50,000,000 in decimal
abbrev pub flat_with : List ℕ → Option ℕ → Option Command
flat_with name None = None
flat_with name (Some n) = if nat_le 1 n && nat_le n 50000000 then Some (Flat name n) else None

abbrev pub word : List (List ℕ) → ℕ → List ℕ
word words i = slice_index_or words i []

-- a command that has one word more
abbrev pub named : List ℕ → List ℕ → Option Command
named command name =
    if bytes_eq command (codes "run") then Some (Run name)
    else (if bytes_eq command (codes "build") then Some (Build name)
    else (if bytes_eq command (codes "image") then Some (Image name)
    else (if bytes_eq command (codes "list") then Some (Listing name) else None)))

-- `--help`, `--version`, `run SCRIPT`, `build FILE`, `image FILE`, `list FILE` or `flat FILE BOUND`; no other words have a form
unfoldable pub command_of : List (List ℕ) → Option Command
command_of words =
    if length words == 1 then alone (word words 0)
    else (if length words == 2 then named (word words 0) (word words 1)
    else (if length words == 3 && bytes_eq (word words 0) (codes "flat") then flat_with (word words 1) (decimal_number (word words 2)) else None))
