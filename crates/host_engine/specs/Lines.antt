-- The line of an execution.
use Rattle.std.specs.Prelude.{ℕ, ◌++◌, List, [], ◌∷◌, slice_index, codes}
use Rattle.std.specs.Fmt.{decimal}
use Rattle.rv_step.specs.declared.bus.Access.TheVariants.{Load, Store, Fetch}
use Rattle.rv_step.specs.declared.ends.Trap.TheVariants.{Illegal, Ebreak, Ecall, Fault}
use Rattle.uh_base.specs.Hex.{hex_digits}
use Rattle.host_engine.specs.Executions.{Cause, Bound, Trapped, End, flat_end}

abbrev pub cause_text : Cause → List ℕ
cause_text Bound = codes "bound"
cause_text (Trapped Illegal) = codes "illegal"
cause_text (Trapped Ebreak) = codes "ebreak"
cause_text (Trapped Ecall) = codes "ecall"
cause_text (Trapped (Fault at Load)) = codes "load"
cause_text (Trapped (Fault at Store)) = codes "store"
cause_text (Trapped (Fault at Fetch)) = codes "fetch"

-- cause, program counter, number of steps, and a0, which is register 10
unfoldable pub line_of : End → List ℕ
line_of end = codes "flat " ++ cause_text end.cause ++ codes " " ++ hex_digits 16 end.state.pc ++ codes " " ++ decimal end.steps ++ codes " " ++ hex_digits 16 (slice_index end.state.x 10)

-- what `flat` puts for a file and a bound: the line of its execution, and LF
unfoldable pub flat_text : List ℕ → ℕ → List ℕ
flat_text file bound = line_of (flat_end file bound) ++ 10 ∷ []
