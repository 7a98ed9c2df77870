-- What is so of every arena after its calls.
use Rattle.std.specs.Prelude.{ℕ, ◌≡◌, ◌≢◌, List, Some, None}
use Rattle.frame_arena.specs.Frames.{Frames, frame_at, with_frame, without_frame}

-- under an id that is put stands what was put
abbrev pub PutIsThere : Type 0
PutIsThere = (a : Frames) (id : ℕ) (bytes : List ℕ) → frame_at (with_frame a id bytes) id ≡ Some bytes

-- under an id that is given back stands nothing
abbrev pub GivenIsGone : Type 0
GivenIsGone = (a : Frames) (id : ℕ) → frame_at (without_frame a id) id ≡ None

-- under every other id stands what stood there
abbrev pub OthersStay : Type 0
OthersStay = (a : Frames) (id other : ℕ) (bytes : List ℕ) → other ≢ id
    → (frame_at (with_frame a id bytes) other ≡ frame_at a other) × (frame_at (without_frame a id) other ≡ frame_at a other)
