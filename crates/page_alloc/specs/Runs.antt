-- The list of pages from runs of equal pages.
use Rattle.std.specs.Prelude.{◌<◌, ◌++◌, List, [], ◌∷◌, replicate}
use Rattle.page_alloc.specs.declared.page.Page.{Page}
use Rattle.page_alloc.specs.declared.runs.Run.{Run}

-- the pages of the runs, one run behind another
unfoldable pub all_pages : List Run → List Page
all_pages [] = []
all_pages (run ∷ runs) = replicate run.count run.page ++ all_pages runs

-- No run is empty.
abbrev pub NoneEmpty : List Run → Type 0
NoneEmpty [] = Unit {0}
NoneEmpty (run ∷ runs) = (0 < run.count) × NoneEmpty runs
