-- What services on handles and protocols come to, where `see` is the place that each address shows.
use Rattle.std.specs.Prelude.{ℕ, Option, Result, Ok, Err, if◌then◌else◌}
use Rattle.uh_base.specs.Statuses.{invalid_parameter}
use Rattle.guest_memory.specs.Pages.{Pages}
use Rattle.address_view.specs.Stored.{lacks_seen, store_seen}
use Rattle.protocol_db.specs.Registrations.{Protocols}
use Rattle.protocol_db.specs.Calls.{Done}
use Rattle.protocol_db.specs.declared.refusal.ProtocolRefusal.{ProtocolRefusal}
use Rattle.protocol_services.specs.Refusals.{protocol_status}
use Rattle.service_answer.specs.Answers.{Answer, gives, lacks_frames}

-- what a service answers, and the memory behind it
pub record MemoryDone : Type 0 where
  pub answer : Answer
  pub memory : Pages

-- what a service answers, and the memory and the protocols behind it
pub record ProtocolDone : Type 0 where
  pub answer : Answer
  pub memory : Pages
  pub protocols : Protocols

-- A value is given, and nothing changes.
abbrev pub refused : Pages → Protocols → ℕ → ProtocolDone
refused m p status = record { answer = gives status; memory = m; protocols = p }

abbrev pub invalid : Pages → Protocols → ProtocolDone
invalid m p = refused m p invalid_parameter

-- A number of so many bytes is written, and a value is given. Where that would touch more than 65,536 pages, nothing
-- changes.
abbrev pub number_given : (ℕ → Option ℕ) → Pages → ℕ → ℕ → ℕ → ℕ → MemoryDone
number_given see m at width number value =
    if lacks_seen see m at width then record { answer = lacks_frames; memory = m } else record { answer = gives value; memory = store_seen see m at width number }

-- The protocols are so behind it.
abbrev pub beside : Protocols → MemoryDone → ProtocolDone
beside p done = record { answer = done.answer; memory = done.memory; protocols = p }

-- A number is written, and the protocols change with it, or neither.
abbrev pub number_and : (ℕ → Option ℕ) → Pages → Protocols → ℕ → ℕ → ℕ → Answer → Protocols → ProtocolDone
number_and see m p at width number answer after =
    if lacks_seen see m at width then record { answer = lacks_frames; memory = m; protocols = p } else record { answer = answer; memory = store_seen see m at width number; protocols = after }

-- the answer where a call that isn't refused would lack frames
abbrev pub refusal_for : {A : Type 0} → Result (Done A) ProtocolRefusal → Answer
refusal_for (Ok done) = lacks_frames
refusal_for (Err refusal) = gives (protocol_status refusal)
