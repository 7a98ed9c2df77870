-- The clock at opening.
use Rattle.std.proofs.Common.{◌≡◌, ℕ, List, Bool, true, false, cond, Some, None}
use Rattle.std.specs.Prelude.{◌&&◌, codes}
use Rattle.time_service.specs.Clocks.{ClockState, set_to}
use Rattle.time_service.specs.Times.{is_valid}
use Rattle.time_service.specs.Texts.{clock_of, fits_form, time_in}
use Rattle.host_script.specs.Settings.{is_time}

-- a time sets a clock
pub sets_one : (text : List ℕ) → is_time text ≡ true → clock_of text ≡ None → ⊥
unfolding is_time
sets_one text is none = let bad = rw none at is in cc

the_one : (test : Bool) (set clock : ClockState) → Some clock ≡ cond test (Some set) None → clock ≡ set
the_one true set clock is = cc
the_one false set clock is = absurd (let bad : ⊥ = cc in bad)

-- a clock that a text sets is at the text's time
pub set_clock : (text : List ℕ) (clock : ClockState) → Some clock ≡ clock_of text → clock ≡ set_to 0 (time_in text)
unfolding clock_of
set_clock text clock is = the_one (fits_form (codes "0000-00-00T00:00:00") text && is_valid (time_in text)) (set_to 0 (time_in text)) clock is
