-- What the hart stands at.
use Rattle.std.specs.Prelude.{ℕ, List}
use Rattle.firmware_core.specs.declared.frame.Phase.{Phase}

-- the registers x0 to x31, the program counter, where the service under way stands, and the task priority level
pub record Hart : Type 0 where
  pub x : List ℕ
  pub pc : ℕ
  pub phase : Phase
  pub tpl : ℕ
