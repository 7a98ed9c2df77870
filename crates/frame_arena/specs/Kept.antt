-- How an arena keeps its frames: those that aren't out are linked to one another.
use Rattle.std.specs.Prelude.{ℕ, zero, suc, ◌≡◌, ◌≢◌, ◌+◌, ◌≤◌, Bool, false, List, [], ◌∷◌, length, Some, slice_get}
use Rattle.frame_arena.specs.Frames.{IsFrame, or_empty, count_out, contents, link}

-- the link behind the frame of an id
abbrev pub behind : List (List ℕ) → ℕ → ℕ
behind frames id = link (or_empty (slice_get frames id))

-- From a link on stand so many frames, and none of them is that of an id. A link is one more than an id, or 0.
abbrev pub Lacks : List (List ℕ) → ℕ → ℕ → ℕ → Type 0
Lacks frames zero first id = Unit {0}
Lacks frames (suc n) zero id = Unit {0}
Lacks frames (suc n) (suc other) id = (other ≢ id) × Lacks frames n (behind frames other) id

-- From a link on stand so many frames that aren't out, each once, and the last one links to none.
abbrev pub Chain : List (List ℕ) → List Bool → ℕ → ℕ → Type 0
Chain frames marks zero first = first ≡ 0
Chain frames marks (suc n) zero = ⊥
Chain frames marks (suc n) (suc id) =
    (slice_get marks id ≡ Some false) × Lacks frames n (behind frames id) id × Chain frames marks n (behind frames id)

abbrev pub AllFrames : List (List ℕ) → Type 0
AllFrames [] = Unit {0}
AllFrames (frame ∷ frames) = IsFrame frame × AllFrames frames

pub record Kept (limit count first : ℕ) (frames : List (List ℕ)) (marks : List Bool) : Type 0 where
  pub few : limit ≤ 65536
  pub made_few : length frames ≤ limit
  pub marked : length marks ≡ length frames
  pub whole : AllFrames frames
  pub freed : ℕ
  pub counted : count_out (contents frames marks) ≡ count
  pub rest : count + freed ≡ length frames
  pub chain : Chain frames marks freed first
