-- What files and a sink tell.
use Rattle.std.specs.Prelude.{ℕ, ◌≡◌, ◌<◌, ◌++◌, List, length, Option, Some, None}

-- the files by name
abbrev pub FileMap : Type 0
FileMap = List ℕ → Option (List ℕ)

-- The map is told and has no file of the name.
abbrev pub Lacks : Option FileMap → List ℕ → Type 0
Lacks None name = ⊥
Lacks (Some files) name = files name ≡ None

-- Where the map is told, these are the file's bytes.
abbrev pub HasFile : Option FileMap → List ℕ → List ℕ → Type 0
HasFile None name bytes = Unit {0}
HasFile (Some files) name bytes = files name ≡ Some bytes

-- Where the map is told, the file is there and longer.
abbrev pub IsLonger : Option FileMap → List ℕ → ℕ → Type 0
IsLonger None name most = Unit {0}
IsLonger (Some files) name most = (bytes : List ℕ) × (files name ≡ Some bytes) × (most < length bytes)

-- what is told after these bytes were put
abbrev pub grown : Option (List ℕ) → List ℕ → Option (List ℕ)
grown None bytes = None
grown (Some written) bytes = Some (written ++ bytes)

-- Some first bytes of these, maybe none or all, were put.
abbrev pub GrownByPart : Option (List ℕ) → List ℕ → Option (List ℕ) → Type 0
GrownByPart old bytes new = (part rest : List ℕ) × (bytes ≡ part ++ rest) × (new ≡ grown old part)
