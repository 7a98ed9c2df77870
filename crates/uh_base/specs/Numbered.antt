-- Items that are kept by rising numbers.
use Rattle.std.specs.Prelude.{ℕ, ◌<◌, List}
use Rattle.std.specs.List.{AllPairs}

-- Each has a greater number than those before it.
abbrev pub Rise : {X : Type 0} → (X → ℕ) → List X → Type 0
Rise number items = AllPairs (λ a b. number a < number b) items
