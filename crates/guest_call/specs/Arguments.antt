-- Arguments of a call (RISC-V calling convention).
use Rattle.std.specs.Prelude.{ℕ, ◌+◌, ◌^◌, ◌%◌, List, slice_index}

-- argument n, from 0 on: register 10 + n
abbrev pub argument : ℕ → List ℕ → ℕ
argument n x = slice_index x (10 + n)

-- an argument of 32 bits
abbrev pub low_word : ℕ → ℕ
low_word n = n % 2 ^ 32
