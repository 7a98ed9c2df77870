-- Steps with lists, as contracts see them: their lists are lists, wherever they lie in memory.
use Rattle.std.specs.Prelude.{ℕ, List}
use Rattle.host_script.specs.declared.script.Arg.{Arg}
use Rattle.host_script.specs.declared.script.Buffer.{Buffer}
use Rattle.host_script.specs.declared.script.MapEntry.{MapEntry}
use Rattle.host_script.specs.declared.script.Shown.{Shown}
use Rattle.host_script.specs.declared.script.Target.{Target}

pub record MapPlain : Type 0 where
  pub entries : List MapEntry
  pub size : ℕ
  pub version : ℕ

pub record CallPlain : Type 0 where
  pub target : Target
  pub args : List Arg
  pub buffers : List Buffer
  pub show : List Shown
  pub bound : ℕ
