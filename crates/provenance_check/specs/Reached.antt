-- Which nodes are reached along NEXT.
use Rattle.std.specs.Prelude.{ℕ, suc, ◌≡◌, ◌+◌, ◌<◌, ◌≤◌, ◌⊎◌, ◌↔◌, Bool, true, false, List, [], ◌∷◌, Option, Some, None, IsTrue, length, slice_get}
use Rattle.std.specs.List.{Contains}
use Rattle.prov_cert.specs.Cert.{Node}
use Rattle.provenance_check.specs.Rules.{is_marked}

abbrev pub next_in : Option Node → List ℕ
next_in None = []
next_in (Some node) = node.next

-- the nodes that NEXT of a node names, by its number
abbrev pub next_of : List Node → ℕ → List ℕ
next_of nodes n = next_in (slice_get nodes n)

-- A node is reached from others: it is one of them, or NEXT of a node that is reached names it.
pub data Reached (nodes : List Node) (starts : List ℕ) : ℕ → Type 0 where
  begins : (n : ℕ) → Contains starts n → Reached nodes starts n
  goes_on : (m n : ℕ) → Reached nodes starts m → Contains (next_of nodes m) n → Reached nodes starts n

-- each node that is marked is reached
abbrev pub AreReached : List Node → List ℕ → List Bool → Type 0
AreReached nodes starts marks = (n : ℕ) → is_marked marks n ≡ true → Reached nodes starts n

-- of these, each that there is is marked
abbrev pub AreMarked : List Bool → List ℕ → Type 0
AreMarked marks numbers = (n : ℕ) → Contains numbers n → n < length marks → is_marked marks n ≡ true

-- what a marked node leads to is marked
abbrev pub IsClosedAt : List Node → List Bool → ℕ → Type 0
IsClosedAt nodes marks m = is_marked marks m ≡ true → AreMarked marks (next_of nodes m)

-- just the nodes that are reached are marked
abbrev pub MarksReached : List Node → List ℕ → List Bool → Type 0
MarksReached nodes starts marks = (length marks ≡ length nodes) × ((n : ℕ) → n < length nodes → IsTrue (is_marked marks n) ↔ Reached nodes starts n)

-- how many nodes have no mark
abbrev pub unmarked : List Bool → ℕ
unmarked [] = 0
unmarked (true ∷ marks) = unmarked marks
unmarked (false ∷ marks) = suc (unmarked marks)

abbrev pub one_if : Bool → ℕ
one_if true = 1
one_if false = 0

-- marks with so many of some numbers marked besides, and whether one of these is new
pub record MarkedTo (count : ℕ) (numbers : List ℕ) (old new : List Bool) (more : Bool) : Type 0 where
  pub long : length new ≡ length old
  pub keeps : (n : ℕ) → is_marked old n ≡ true → is_marked new n ≡ true
  pub only : (n : ℕ) → is_marked new n ≡ true → (is_marked old n ≡ true) ⊎ Contains numbers n
  pub each : (i n : ℕ) → i < count → slice_get numbers i ≡ Some n → n < length new → is_marked new n ≡ true
  pub fewer : unmarked new + one_if more ≤ unmarked old
  pub same : more ≡ false → new ≡ old

-- marks behind a walk over so many nodes, each of which has marked what it leads to, and whether a mark is new
pub record SpreadTo (count : ℕ) (nodes : List Node) (old new : List Bool) (more : Bool) : Type 0 where
  pub long : length new ≡ length old
  pub keeps : (n : ℕ) → is_marked old n ≡ true → is_marked new n ≡ true
  pub sound : (starts : List ℕ) → AreReached nodes starts old → AreReached nodes starts new
  pub fewer : unmarked new + one_if more ≤ unmarked old
  pub closed : more ≡ false → (m : ℕ) → m < count → IsClosedAt nodes new m
  pub same : more ≡ false → new ≡ old

-- marks behind one node, which has marked what it leads to where it is marked, and whether a mark is new
pub record NextMarked (n : ℕ) (nodes : List Node) (old new : List Bool) (more : Bool) : Type 0 where
  pub long : length new ≡ length old
  pub keeps : (k : ℕ) → is_marked old k ≡ true → is_marked new k ≡ true
  pub sound : (starts : List ℕ) → AreReached nodes starts old → AreReached nodes starts new
  pub fewer : unmarked new + one_if more ≤ unmarked old
  pub closed : more ≡ false → IsClosedAt nodes new n
  pub same : more ≡ false → new ≡ old
