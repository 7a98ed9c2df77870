-- Two runs that stand at one place of the image.
use Rattle.std.specs.Prelude.{ℕ, ◌≡◌, ◌<◌, ◌^◌, ◌==◌, if◌then◌else◌, List, slice_index, length}
use Rattle.uh_base.specs.Bytes.{plus}
use Rattle.rv_step.specs.Exec.{State}
use Rattle.rv_step.specs.Numbers.{AreNumbers}
use Rattle.prov_types.specs.declared.kinds.Kind.{Kind}
use Rattle.prov_types.specs.Kinds.{Regions, Holds}
use Rattle.prov_cert.specs.declared.cert.StackPart.{StackPart}
use Rattle.prov_runs.specs.Bytes.{AreBytes}
use Rattle.prov_runs.specs.Memory.{HasCode, Layout, Moved, PartsHold}

-- 32 registers and a program counter of 64 bits, over a memory of bytes
pub record IsHart (s : State) : Type 0 where
  pub registers : AreNumbers s.x
  pub count : length s.x ≡ 32
  pub pc : s.pc < 2 ^ 64
  pub bytes : AreBytes s.bytes

-- What holds between the states of two runs at each moment. The first run has the code of the image that was judged.
pub record Related (g : Regions) (laid : Layout) (done : List ℕ) (image : List ℕ) (s t : State) : Type 0 where
  pub first : IsHart s
  pub second : IsHart t
  pub moved : Moved g laid done s.bytes t.bytes
  pub code : HasCode g laid.pieces image s.bytes

-- each register is of its kind
abbrev pub RegistersHold : Regions → (kinds : ℕ → Kind) → (x y : List ℕ) → Type 0
RegistersHold g kinds x y = (r : ℕ) → Holds g (kinds r) (slice_index x r) (slice_index y r)

-- the kinds with that of one register; register 0 isn't written
abbrev pub with_kind : (ℕ → Kind) → (rd : ℕ) → Kind → ℕ → Kind
with_kind kinds rd kind r = if rd == 0 then kinds r else (if r == rd then kind else kinds r)

-- Both runs are at one offset of a region, and what is known there of registers and the stack holds.
pub record StandAt (g : Regions) (r at : ℕ) (kinds : ℕ → Kind) (parts : List StackPart) (s t : State) : Type 0 where
  pub old_pc : s.pc ≡ plus (g.old r) at
  pub new_pc : t.pc ≡ plus (g.new r) at
  pub registers : RegistersHold g kinds s.x t.x
  pub stack : PartsHold g parts s.bytes t.bytes
