-- The lines of a run, as bytes that are put.
use Rattle.std.specs.Prelude.{◌≡◌, ◌≤◌, ℕ, List, [], ◌∷◌, ◌++◌, Option, Result, Err, OnOk, OnErr}
use Rattle.std.specs.List.{flat_map}
use Rattle.record_text.specs.declared.line.Line.{Line}
use Rattle.record_text.specs.Texts.{text_of}
use Rattle.uh_base.specs.Counts.{Rose}
use Rattle.uh_base.specs.Told.{grown, GrownByPart}
use Rattle.firmware_core.specs.declared.happened.JobEnd.{JobEnd}
use Rattle.firmware_core.specs.Jobs.{Job}
use Rattle.firmware_core.specs.Turns.{State}
use Rattle.host_engine.specs.declared.job.Stop.{Stop}
use Rattle.host_engine.specs.declared.job.Stop.TheVariants.{Write}

-- each line, and LF behind it
abbrev pub line_bytes : Line → List ℕ
line_bytes line = text_of line ++ 10 ∷ []

abbrev pub bytes_of : List Line → List ℕ
bytes_of ls = flat_map line_bytes ls

-- A text was put: whole where that went well, and else a part of it. A put failed in this call where that is why, and
-- the count of those that failed never falls.
pub record Puts {X : Type 0} (result : Result X Stop) (text : List ℕ) (old : Option (List ℕ)) (faults : ℕ) (new : Option (List ℕ)) (faults' : ℕ) : Type 0 where
  pub whole : OnOk result (new ≡ grown old text)
  pub part : OnErr result (GrownByPart old text new)
  pub cause : result ≡ Err Write → Rose faults faults'
  pub never_falls : faults ≤ faults'

-- A job has ended so.
pub record Ended (whole : Job) (end : JobEnd) (state : State) : Type 0 where
  pub is_end : end ≡ whole.end
  pub is_state : state ≡ whole.state
