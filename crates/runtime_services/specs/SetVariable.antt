-- SetVariable (UEFI 2.10, section 8.2), where `see` is the place that each address shows, `x` are the registers of the call,
-- and `gone` says that boot services are over.
use Rattle.std.specs.Prelude.{ℕ, Bool, false, List, Option, Some, None, Result, Ok, Err, if◌then◌else◌}
use Rattle.uh_base.specs.declared.guid.Guid.{Guid}
use Rattle.uh_base.specs.Statuses.{success, invalid_parameter}
use Rattle.guest_memory.specs.Pages.{Pages, bytes_of}
use Rattle.guest_memory.specs.Runs.{bytes_from}
use Rattle.address_view.specs.Windows.{seen_bytes}
use Rattle.variable_store.specs.Entries.{Entry}
use Rattle.variable_store.specs.Sets.{refusal_of, set_of}
use Rattle.variable_store.specs.declared.refusal.VarRefusal.{VarRefusal}
use Rattle.guest_call.specs.Arguments.{argument, low_word}
use Rattle.guest_call.specs.Checks.{can_read, can_read_buffer}
use Rattle.runtime_services.specs.declared.set.GivenData.{GivenData}
use Rattle.guest_call.specs.Inputs.{guid_seen}
use Rattle.runtime_services.specs.Inputs.{string_at}
use Rattle.runtime_services.specs.Refusals.{variable_status}

-- the attributes and the bytes that a call brings
abbrev pub given_of : List ℕ → GivenData
given_of x = record { attributes = low_word (argument 2 x); size = argument 3 x; buffer = argument 4 x }

-- the status that SetVariable gives, and the variables behind it
pub record VariablesDone : Type 0 where
  pub status : ℕ
  pub variables : List Entry

abbrev pub set_done : List Entry → Result (List Entry) VarRefusal → VariablesDone
set_done entries (Ok new) = record { status = success; variables = new }
set_done entries (Err refusal) = record { status = variable_status refusal; variables = entries }

-- The bytes are asked for once no refusal of the set itself comes.
abbrev pub set_unless : Option VarRefusal → (ℕ → Option ℕ) → Pages → List Entry → Bool → List ℕ → Guid → GivenData → VariablesDone
set_unless (Some refusal) see m entries gone name vendor given = record { status = variable_status refusal; variables = entries }
set_unless None see m entries gone name vendor given =
    if can_read_buffer see m given.buffer given.size
    then set_done entries (set_of entries name vendor given.attributes (bytes_from (seen_bytes see (bytes_of m)) given.buffer given.size) gone)
    else record { status = invalid_parameter; variables = entries }

abbrev pub set_given : (ℕ → Option ℕ) → Pages → List Entry → Bool → List ℕ → Guid → GivenData → VariablesDone
set_given see m entries gone name vendor given = set_unless (refusal_of entries name vendor given.attributes given.size gone) see m entries gone name vendor given

abbrev pub set_named : (ℕ → Option ℕ) → Pages → List Entry → Bool → ℕ → GivenData → Option (List ℕ) → VariablesDone
set_named see m entries gone guid given None = record { status = invalid_parameter; variables = entries }
set_named see m entries gone guid given (Some name) =
    if can_read see m guid 16 then set_given see m entries gone name (guid_seen see m guid) given else record { status = invalid_parameter; variables = entries }

-- SetVariable(name, *guid16, attributes, size, buffer)
unfoldable pub set_variable : List ℕ → (ℕ → Option ℕ) → Pages → List Entry → Bool → VariablesDone
set_variable x see m entries gone = set_named see m entries gone (argument 1 x) (given_of x) (string_at false see m (argument 0 x))
