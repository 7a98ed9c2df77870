-- What files and an output tell, and how often they failed.
use Rattle.std.specs.Prelude.{ℕ, List, Option}
use Rattle.uh_base.specs.Told.{FileMap}

pub record Outside : Type 0 where
  -- the files by name, where that is told
  pub files : Option FileMap
  -- how many reads failed, and how many files were too long
  pub file_faults : ℕ
  pub longs : ℕ
  -- the bytes put to the output, where that is told, and how many puts failed
  pub out : Option (List ℕ)
  pub out_faults : ℕ

abbrev pub outside : Option FileMap → ℕ → ℕ → Option (List ℕ) → ℕ → Outside
outside files file_faults longs out out_faults = record { files = files; file_faults = file_faults; longs = longs; out = out; out_faults = out_faults }
