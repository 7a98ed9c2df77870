-- Words of lines.
use Rattle.std.specs.Prelude.{◌≡◌, ◌==◌, ℕ, List, true, not}
use Rattle.std.specs.List.{list_all}

-- No space is in it.
abbrev pub IsWord : List ℕ → Type 0
IsWord word = list_all (λ b. not (b == 32)) word ≡ true
