-- Limits of what the host takes.
use Rattle.std.specs.Prelude.{ℕ}

-- the most bytes of an image's file, and of code that runs without firmware: 4 MiB
abbrev pub code_limit : ℕ
code_limit = 0x400000

-- the most pages of memory that are touched
abbrev pub frame_limit : ℕ
frame_limit = 65536
