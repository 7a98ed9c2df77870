-- Lists with a part written over.
use Rattle.std.specs.Prelude.{ℕ, suc, Bool, List, [], ◌∷◌, ◌++◌, length, take, drop, replicate, if◌then◌else◌}

-- the list with another written over it from an index on
abbrev pub written_over : {X : Type 0} → List X → ℕ → List X → List X
written_over xs i ys = take i xs ++ (ys ++ drop (length ys) (drop i xs))

-- the list with one value at so many places from an index on
abbrev pub filled : {X : Type 0} → List X → ℕ → ℕ → X → List X
filled xs i count x = take i xs ++ (replicate count x ++ drop count (drop i xs))

-- how many are true
unfoldable pub count_true : List Bool → ℕ
count_true [] = 0
count_true (mark ∷ marks) = if mark then suc (count_true marks) else count_true marks
