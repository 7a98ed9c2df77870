-- Which files a command reads, in order, and what it comes to once they are had.
use Rattle.std.specs.Prelude.{ℕ, ◌≡◌, ◌≤◌, ◌⊎◌, List, length, nat_le, Bool, Option, Some, None, if◌then◌else◌}
use Rattle.std.specs.Option.{option_and_then}
use Rattle.uh_base.specs.Told.{FileMap}

-- a file that is read: its name, and the most bytes that it may have
pub record Wanted : Type 0 where
  pub name : List ℕ
  pub most : ℕ

-- How a text is put: it stands fixed in the program; it is made and put at once; its lines are put as they come.
pub data Way : Type 0 where
  Fixed : Way
  AtOnce : Way
  ByLines : Way

-- What a command comes to: a text to print, and whether its run is halted; or a script or an assembly text that is
-- refused, in words.
pub data Answer : Type 0 where
  Prints : (way : Way) (text : List ℕ) (halted : Bool) → Answer
  ScriptRefused : (text : List ℕ) → Answer
  NotAssembled : (text : List ℕ) → Answer

-- A command reads a file and goes on with its bytes, or it is over.
pub data Plan : Type 0 where
  Reads : (wanted : Wanted) (next : List ℕ → Plan) → Plan
  Over : (answer : Answer) → Plan

-- ---- files that are told

-- the bytes of a file that has at most so many
abbrev pub within : ℕ → List ℕ → Option (List ℕ)
within most bytes = if nat_le (length bytes) most then Some bytes else None

abbrev pub file_of : FileMap → Wanted → Option (List ℕ)
file_of files wanted = option_and_then (within wanted.most) (files wanted.name)

-- The first file that isn't there within its limit, if any: this one, or the first of those behind it.
abbrev pub missing_from : Wanted → (List ℕ → Option Wanted) → Option (List ℕ) → Option Wanted
missing_from wanted behind None = Some wanted
missing_from wanted behind (Some bytes) = behind bytes

unfoldable pub first_missing : FileMap → Plan → Option Wanted
first_missing files (Reads wanted next) = missing_from wanted (λ bytes. first_missing files (next bytes)) (file_of files wanted)
first_missing files (Over answer) = None

-- ---- any files

-- A file within its limit has these bytes: those that are told, where files are told.
abbrev pub IsFile : Option FileMap → Wanted → List ℕ → Type 0
IsFile None wanted bytes = length bytes ≤ wanted.most
IsFile (Some files) wanted bytes = file_of files wanted ≡ Some bytes

-- Files are had one after another, and this is what is left of a plan behind them.
unfoldable pub Leads : Option FileMap → Plan → Plan → Type 0
Leads told (Reads wanted next) rest = (rest ≡ Reads wanted next) ⊎ ((bytes : List ℕ) × IsFile told wanted bytes × Leads told (next bytes) rest)
Leads told (Over answer) rest = rest ≡ Over answer

-- A plan reads this file, with all files before it had.
abbrev pub IsRead : Option FileMap → Plan → Wanted → Type 0
IsRead told plan wanted = (next : List ℕ → Plan) × Leads told plan (Reads wanted next)

-- Where files are told, this is the first that isn't there within its limit.
abbrev pub IsMissing : Option FileMap → Plan → Wanted → Type 0
IsMissing None plan wanted = Unit {0}
IsMissing (Some files) plan wanted = first_missing files plan ≡ Some wanted
