-- What the definitions come to.
use Rattle.std.specs.Prelude.{ℕ, ◌≡◌, ◌^◌, List, Ok}
use Rattle.variable_store.specs.Entries.{Entry}
use Rattle.variable_store.specs.Valid.{AreBelow, AreVariables}
use Rattle.variable_store.specs.Store.{kept, store_of}
use Rattle.variable_store.specs.Reading.{store_in}

-- What is loaded of what was saved is the list of the variables that outlive a run.
abbrev pub SavedIsLoaded : Type 0
SavedIsLoaded = (entries : List Entry) → AreVariables entries → store_in (store_of entries) ≡ Ok (kept entries)

-- A file that is loaded is what its variables are saved as, each of its bytes.
abbrev pub LoadedIsSaved : Type 0
LoadedIsSaved = (bytes : List ℕ) (entries : List Entry) → AreBelow (2 ^ 8) bytes → store_in bytes ≡ Ok entries → bytes ≡ store_of entries
