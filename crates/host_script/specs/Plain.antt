-- A script, as contracts see it: its lists are lists, wherever they lie in memory.
use Rattle.std.specs.Prelude.{ℕ, Bool, List, Option}
use Rattle.host_script.specs.declared.script.ImageSpec.{ImageSpec}
use Rattle.host_script.specs.declared.script.Step.{Step}

pub record Plain : Type 0 where
  pub ram_base : ℕ
  pub ram_pages : ℕ
  pub time : List ℕ
  pub ticks : List ℕ
  pub os_virtual : Option ℕ
  pub trace : Bool
  pub store : Option (List ℕ)
  pub image : List ImageSpec
  pub step : List Step
