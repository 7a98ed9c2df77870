-- What comes of putting a text in pieces.
use Rattle.std.specs.Prelude.{ℕ, ◌≡◌, ◌≤◌, List, Bool, Option, Result, Err, IfOk, OnOk, OnErr}
use Rattle.uh_base.specs.Counts.{Rose}
use Rattle.uh_base.specs.Told.{grown, GrownByPart}
use Rattle.image_dump.specs.declared.stop.Stop.{Stop}
use Rattle.image_dump.specs.declared.stop.Stop.TheVariants.{Write}
use Rattle.image_dump.specs.Reports.{Report, bytes_of}

-- A text was put: whole where that went well, and else a part of it. A put failed in this call where that is why, and
-- the count of those that failed never falls.
pub record Puts {X : Type 0} (result : Result X Stop) (text : List ℕ) (old : Option (List ℕ)) (faults : ℕ) (new : Option (List ℕ)) (faults' : ℕ) : Type 0 where
  pub whole : OnOk result (new ≡ grown old text)
  pub part : OnErr result (GrownByPart old text new)
  pub cause : result ≡ Err Write → Rose faults faults'
  pub never_falls : faults ≤ faults'

-- A report was put: true where it refuses the file.
pub record Gives (report : Report) (result : Result Bool Stop) (old : Option (List ℕ)) (faults : ℕ) (new : Option (List ℕ)) (faults' : ℕ) : Type 0 where
  pub refused : IfOk result (λ b. b ≡ report.is_refused)
  pub puts : Puts result (bytes_of report.lines) old faults new faults'
