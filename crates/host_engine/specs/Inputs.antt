-- What the steps of a script are run over: the bytes of its images, in the script's order, and those of its store, if there is one.
use Rattle.std.specs.Prelude.{ℕ, List, Option}

pub record Inputs : Type 0 where
  pub images : List (List ℕ)
  pub store : Option (List ℕ)
