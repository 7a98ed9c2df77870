-- What a service comes to.
use Rattle.std.specs.Prelude.{ℕ, Bool, true, false, List, []}

pub record Answer : Type 0 where
  -- what its caller gets in register a0
  pub value : ℕ
  -- whether it would touch more than 65,536 pages of memory, and so isn't made
  pub frames : Bool
  -- the events that are to be signalled, in order
  pub events : List ℕ

-- a value for the caller, and no event
abbrev pub gives : ℕ → Answer
gives value = record { value = value; frames = false; events = [] }

-- a value for the caller, and events
abbrev pub announces : ℕ → List ℕ → Answer
announces value events = record { value = value; frames = false; events = events }

-- It would touch too many pages.
abbrev pub lacks_frames : Answer
lacks_frames = record { value = 0; frames = true; events = [] }
