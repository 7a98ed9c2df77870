-- The most bytes that the files of a command have.
use Rattle.std.specs.Prelude.{ℕ}

-- a script
abbrev pub script_limit : ℕ
script_limit = 0x100000

-- code for `flat`, and an image
abbrev pub code_limit : ℕ
code_limit = 0x400000

-- a file of variables
abbrev pub store_limit : ℕ
store_limit = 0x20000
