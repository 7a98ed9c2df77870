-- A sink in memory.
use Rattle.std.specs.Prelude.{◌+◌, ◌==◌, ◌||◌, ◌++◌, ℕ, Bool, List, length, nat_lt, if◌then◌else◌}
use Rattle.std.specs.List.{list_any}
use Rattle.uh_base.specs.MemFiles.{one_more}

-- what was put, the room for it, the numbers of the puts that fail, how many puts there were, and how many failed
pub record HeldBytes : Type 0 where
  pub written : List ℕ
  pub room : ℕ
  pub fail : List ℕ
  pub puts : ℕ
  pub faults : ℕ

-- The next put fails: its number is one that fails, or it goes past the room.
abbrev pub refuses : HeldBytes → List ℕ → Bool
refuses held bytes = list_any (λ n. n == held.puts) held.fail || nat_lt held.room (length held.written + length bytes)

-- after a put
abbrev pub after_put : HeldBytes → List ℕ → HeldBytes
after_put held bytes =
    if refuses held bytes then record held { puts = one_more held.puts; faults = one_more held.faults }
    else record held { puts = one_more held.puts; written = held.written ++ bytes }
