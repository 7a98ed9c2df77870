-- Frames of 4,096 bytes each, some of them out under ids.
use Rattle.std.specs.Prelude.{ℕ, zero, suc, ◌≡◌, ◌+◌, ◌<◌, ◌≤◌, ◌==◌, Bool, true, false, List, [], ◌∷◌, ◌++◌, length, take, drop, replicate, Option, Some, None, Result, Ok, Err, slice_get, slice_index, if◌then◌else◌}
use Rattle.std.specs.Int.{w64, from_le_bytes}
use Rattle.frame_arena.specs.declared.arena.ArenaRefusal.{ArenaRefusal}
use Rattle.frame_arena.specs.declared.arena.ArenaRefusal.TheVariants.{Full, Memory}

-- An arena: how many frames may be out at one time, how many were requested so far, and under each id the bytes of the
-- frame that is out.
pub record Frames : Type 0 where
  pub limit : ℕ
  pub made : ℕ
  pub out : List (Option (List ℕ))

abbrev pub zeros : List ℕ
zeros = replicate 4096 0

abbrev pub or_none : Option (Option (List ℕ)) → Option (List ℕ)
or_none None = None
or_none (Some entry) = entry

abbrev pub or_empty : Option (List ℕ) → List ℕ
or_empty None = []
or_empty (Some bytes) = bytes

abbrev pub is_there : Option (List ℕ) → Bool
is_there None = false
is_there (Some bytes) = true

-- the frame that is out under an id
abbrev pub frame_at : Frames → ℕ → Option (List ℕ)
frame_at a id = or_none (slice_get a.out id)

-- whether a frame is out under an id
abbrev pub is_out : Frames → ℕ → Bool
is_out a id = is_there (frame_at a id)

-- the bytes of the frame that is out under an id
abbrev pub bytes_of : Frames → ℕ → List ℕ
bytes_of a id = or_empty (frame_at a id)

abbrev pub byte_at : Frames → ℕ → ℕ → ℕ
byte_at a id at = slice_index (bytes_of a id) at

-- how many frames are out
unfoldable pub count_out : List (Option (List ℕ)) → ℕ
count_out [] = 0
count_out (None ∷ out) = count_out out
count_out (Some bytes ∷ out) = suc (count_out out)

-- the entries with another one under an id
unfoldable pub put_entry : List (Option (List ℕ)) → ℕ → Option (List ℕ) → List (Option (List ℕ))
put_entry [] zero new = new ∷ []
put_entry [] (suc id) new = None ∷ put_entry [] id new
put_entry (entry ∷ out) zero new = new ∷ out
put_entry (entry ∷ out) (suc id) new = entry ∷ put_entry out id new

-- the arena with these bytes under an id
abbrev pub with_frame : Frames → ℕ → List ℕ → Frames
with_frame a id bytes = record a { out = put_entry a.out id (Some bytes) }

-- the arena with no frame out under an id
abbrev pub without_frame : Frames → ℕ → Frames
without_frame a id = record a { out = put_entry a.out id None }

-- how many frames were requested after one more is out
abbrev pub made_after : Frames → ℕ
made_after a = if count_out a.out == a.made then a.made + 1 else a.made

-- A take that ends so leads from old to new.
abbrev pub TakeGives : Result ℕ ArenaRefusal → Frames → Frames → Type 0
TakeGives (Ok id) old new =
    (count_out old.out < old.limit) × (is_out old id ≡ false) × (new ≡ record (with_frame old id zeros) { made = made_after old })
TakeGives (Err Full) old new = (count_out old.out ≡ old.limit) × (new ≡ old)
TakeGives (Err Memory) old new = (count_out old.out < old.limit) × (count_out old.out ≡ old.made) × (new ≡ old)

-- the list with another written over it from an index on
abbrev pub written_over : {X : Type 0} → List X → ℕ → List X → List X
written_over xs i ys = take i xs ++ (ys ++ drop (length ys) (drop i xs))

-- 4,096 bytes
pub record IsFrame (bytes : List ℕ) : Type 0 where
  pub long : length bytes ≡ 4096
  pub fit : (i : ℕ) → slice_index bytes i < 256

-- what is so of every arena
pub record Whole (a : Frames) : Type 0 where
  pub few : a.limit ≤ 65536
  pub made_few : a.made ≤ a.limit
  pub out_few : count_out a.out ≤ a.made
  pub ids_few : length a.out ≤ a.made
  pub frames : (id : ℕ) (bytes : List ℕ) → frame_at a id ≡ Some bytes → IsFrame bytes

-- the number that the first eight bytes of a frame make, the least significant first
abbrev pub link : List ℕ → ℕ
link bytes = from_le_bytes w64 (take 8 bytes)

-- what is out of frames with a mark for each
unfoldable pub contents : List (List ℕ) → List Bool → List (Option (List ℕ))
contents [] marks = []
contents (frame ∷ frames) [] = None ∷ contents frames []
contents (frame ∷ frames) (mark ∷ marks) = (if mark then Some frame else None) ∷ contents frames marks
