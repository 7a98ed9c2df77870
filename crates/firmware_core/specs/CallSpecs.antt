-- A call of runtime code by the operating system.
use Rattle.std.specs.Prelude.{ℕ, List}
use Rattle.firmware_core.specs.declared.call_spec.CallBuffer.{CallBuffer}

pub record CallPlain : Type 0 where
  -- where it begins
  pub pc : ℕ
  -- its arguments, 8 at most
  pub args : List ℕ
  -- what is written to the operating system's arguments before it
  pub buffers : List CallBuffer
  -- the most steps that it runs
  pub bound : ℕ
