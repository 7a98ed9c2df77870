-- The settings of a run: its clock, its tick moments, the OS window, tracing and the store of variables.
use Rattle.std.specs.Prelude.{ℕ, List, [], ◌∷◌, codes, nat_lt, ◌&&◌, Bool, true, false, Option, Some, None, Result, Ok, Err, unwrap_or, if◌then◌else◌}
use Rattle.toml.specs.Data.{Members}
use Rattle.time_service.specs.Clocks.{ClockState}
use Rattle.time_service.specs.Texts.{clock_of}
use Rattle.uh_base.specs.Numbers.{number_of}
use Rattle.host_script.specs.Faults.{◌>>=◌}
use Rattle.host_script.specs.Fields.{text_field, flag_field, number_field}
use Rattle.host_script.specs.Lists.{texts_field, forms_of, few}
use Rattle.host_script.specs.declared.fault.ScriptKind.{ScriptKind}
use Rattle.host_script.specs.declared.fault.ScriptKind.TheVariants as kinds

pub record Settings : Type 0 where
  pub time : List ℕ
  pub ticks : List ℕ
  pub os_virtual : Option ℕ
  pub trace : Bool
  pub store : Option (List ℕ)

-- A text sets a clock.
abbrev pub sets_clock : Option ClockState → Bool
sets_clock None = false
sets_clock (Some clock) = true

unfoldable pub is_time : List ℕ → Bool
is_time text = sets_clock (clock_of text)

-- the time at opening, if none is given
abbrev pub usual_time : List ℕ
usual_time = codes "2024-01-01T00:00:00"

abbrev pub time_or : Option (List ℕ) → Result (List ℕ) ScriptKind
time_or None = Ok usual_time
time_or (Some text) = if is_time text then Ok text else Err kinds.Value

unfoldable pub time_of : Members → Result (List ℕ) ScriptKind
time_of top = text_field (codes "time") top >>= time_or

-- Each number is above the one before, and the first above a number.
abbrev pub rises : ℕ → List ℕ → Bool
rises before [] = true
rises before (n ∷ ns) = nat_lt before n && rises n ns

abbrev pub rising : List ℕ → Result (List ℕ) ScriptKind
rising ticks = if rises 0 ticks then Ok ticks else Err kinds.Value

-- the tick moments: positive numbers that rise
unfoldable pub ticks_of : Members → Result (List ℕ) ScriptKind
ticks_of top = ((texts_field (codes "ticks") top >>= forms_of number_of []) >>= rising) >>= few 1024

abbrev pub or_false : Option Bool → Result Bool ScriptKind
or_false flag = Ok (unwrap_or flag false)

unfoldable pub trace_of : Members → Result Bool ScriptKind
trace_of top = flag_field (codes "trace") top >>= or_false

unfoldable pub settings_of : Members → Result Settings ScriptKind
settings_of top = do
  time ← time_of top
  ticks ← ticks_of top
  os_virtual ← number_field (codes "os_virtual") top
  trace ← trace_of top
  store ← text_field (codes "store") top
  Ok (record { time = time; ticks = ticks; os_virtual = os_virtual; trace = trace; store = store })
