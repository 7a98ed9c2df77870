-- What an instruction does to registers and memory, by what it asks for.
use Rattle.std.specs.Prelude.{ℕ, ◌≡◌, ◌==◌, ◌%◌, Bool, List, Option, Some, None, Result, Ok, Err, if◌then◌else◌, slice_set, ◌<◌, IsTrue}
use Rattle.rv_decode.specs.declared.insn.Insn.{Insn}
use Rattle.rv_step.specs.declared.bus.Access.{Access}
use Rattle.rv_step.specs.declared.bus.Access.TheVariants as access
use Rattle.rv_step.specs.declared.ends.Trap.{Trap}
use Rattle.rv_step.specs.declared.ends.Trap.TheVariants.{Fault, Illegal}
use Rattle.rv_step.specs.declared.ask.Ask.{Ask}
use Rattle.rv_step.specs.declared.ask.Ask.TheVariants.{Set, Load, Store, Jump, Stop}
use Rattle.uh_base.specs.Bytes.{is_width, first_refused, loaded, plus, with_number}
use Rattle.rv_step.specs.Values.{widened}
use Rattle.rv_step.specs.Asks.{asks}
use Rattle.rv_decode.specs.Means.{decoded}

-- what an instruction works on: registers x0 to x31, the program counter, and the byte at each address
pub record State : Type 0 where
  pub x : List ℕ
  pub pc : ℕ
  pub bytes : ℕ → ℕ

-- What an instruction comes to: a new state, a new state with a number of so many bytes stored, or a trap.
pub data Outcome : Type 0 where
  Went : (to : State) → Outcome
  Stored : (at width value : ℕ) (to : State) → Outcome
  Stopped : (trap : Trap) → Outcome

-- which accesses an address allows
abbrev pub Rights : Type 0
Rights = Access → ℕ → Bool

-- register 0 isn't written
abbrev pub written : List ℕ → ℕ → ℕ → List ℕ
written x rd value = if rd == 0 then x else slice_set x rd value

-- a number of so many bytes as it is loaded, with or without its sign
abbrev pub as_read : Bool → ℕ → ℕ → ℕ
as_read sign width n = if sign then widened width n else n

abbrev pub loads : ℕ → State → (rd width : ℕ) → Bool → Result ℕ ℕ → Outcome
loads next s rd width sign (Ok n) = Went (record { x = written s.x rd (as_read sign width n); pc = next; bytes = s.bytes })
loads next s rd width sign (Err refused) = Stopped (Fault refused access.Load)

abbrev pub stores : ℕ → State → (at width value : ℕ) → Option ℕ → Outcome
stores next s at width value None = Stored at width value (record { x = s.x; pc = next; bytes = with_number s.bytes at width value })
stores next s at width value (Some refused) = Stopped (Fault refused access.Store)

-- what is asked, done; `next` is behind the instruction
abbrev pub done : Ask → ℕ → Rights → State → Outcome
done (Set rd value) next allows s = Went (record { x = written s.x rd value; pc = next; bytes = s.bytes })
done (Load rd at width sign) next allows s = loads next s rd width sign (loaded s.bytes (allows access.Load) at width)
done (Store at width value) next allows s = stores next s at width value (first_refused (allows access.Store) at width)
done (Jump to rd) next allows s = Went (record { x = written s.x rd next; pc = to; bytes = s.bytes })
done (Stop trap) next allows s = Stopped trap

-- an instruction of so many bytes
unfoldable pub execute : Insn → ℕ → Rights → State → Outcome
execute insn len allows s = done (asks insn len s.x s.pc) (plus s.pc len) allows s

-- what names a register names one of the 32, and what has a width has one of the four
abbrev pub IsFit : Ask → Type 0
IsFit (Set rd value) = rd < 32
IsFit (Load rd at width sign) = (rd < 32) × IsTrue (is_width width)
IsFit (Store at width value) = IsTrue (is_width width)
IsFit (Jump to rd) = rd < 32
IsFit (Stop trap) = Unit

-- both halves of an instruction of 32 bits at an address
abbrev pub AreHalves : (ℕ → ℕ) → (ℕ → Bool) → ℕ → ℕ × ℕ → Type 0
AreHalves bytes allowed at halves = (loaded bytes allowed at 2 ≡ Ok halves.0) × (loaded bytes allowed (plus at 2) 2 ≡ Ok halves.1)

-- the instruction of two halves, or the trap
abbrev pub or_illegal : Option (Insn × ℕ) → Result (Insn × ℕ) Trap
or_illegal None = Err Illegal
or_illegal (Some found) = Ok found

abbrev pub with_second : ℕ → Result ℕ ℕ → Result (Insn × ℕ) Trap
with_second half0 (Ok half1) = or_illegal (decoded half0 half1)
with_second half0 (Err refused) = Err (Fault refused access.Fetch)

-- The second half is fetched only where the low two bits of the first are 11.
abbrev pub with_first : (ℕ → ℕ) → (ℕ → Bool) → ℕ → Result ℕ ℕ → Result (Insn × ℕ) Trap
with_first bytes allowed pc (Ok half0) =
    if half0 % 4 == 3 then with_second half0 (loaded bytes allowed (plus pc 2) 2) else or_illegal (decoded half0 0)
with_first bytes allowed pc (Err refused) = Err (Fault refused access.Fetch)

unfoldable pub fetched : (ℕ → ℕ) → Rights → ℕ → Result (Insn × ℕ) Trap
fetched bytes allows pc = with_first bytes (allows access.Fetch) pc (loaded bytes (allows access.Fetch) pc 2)

abbrev pub execute_fetched : Rights → State → Result (Insn × ℕ) Trap → Outcome
execute_fetched allows s (Ok found) = execute found.0 found.1 allows s
execute_fetched allows s (Err trap) = Stopped trap

-- one step
unfoldable pub step_of : Rights → State → Outcome
step_of allows s = execute_fetched allows s (fetched s.bytes allows s.pc)
