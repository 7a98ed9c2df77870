-- Runtime services.
use Rattle.std.proofs.Common.{ℕ, ◌*◌, ◌^◌, ◌-◌, length, Bool, true, false, List, [], ◌∷◌, refl}
use Rattle.std.specs.Prelude.{◌&&◌, nat_lt, map, Option, Some, None, Result, Ok, Err, if◌then◌else◌}
use Rattle.std.specs.Int.{w32, w64, to_le_bytes}
use Rattle.uh_base.specs.Statuses.{success, invalid_parameter, unsupported, buffer_too_small}
use Rattle.uh_base.specs.Guid as guids
use Rattle.service_answer.specs.Answers.{gives, lacks_frames}
use Rattle.guest_call.specs.Arguments.{argument, low_word}
use Rattle.guest_call.specs.Checks.{can_write, can_write_buffer, can_read, number_seen}
use Rattle.guest_call.specs.Inputs.{guid_seen}
use Rattle.guest_call.specs.Outputs.{can_write_optional}
use Rattle.guest_memory.specs.Pages.{Pages}
use Rattle.address_view.specs.Ranges.{lacks_ranges}
use Rattle.address_view.specs.Stored.{stored}
use Rattle.variable_store.specs.Entries.{Entry, place_of, next_of, room_of}
use Rattle.variable_store.specs.Sets.{entry_at}
use Rattle.variable_store.specs.declared.refusal.VarRefusal.{VarRefusal}
use Rattle.time_service.specs.Clocks.{ClockState, moment_of}
use Rattle.time_service.specs.Times.{bytes_of}
use Rattle.time_service.specs.declared.efi_time.EfiTime.{EfiTime}
use Rattle.virtual_map.specs.States.{Runtime}
use Rattle.map_transition.specs.Laws.{WholeStays}
use Rattle.map_transition.specs.Wholes.{Whole}
use Rattle.runtime_services.specs.declared.service.RuntimeService.{RuntimeService}
use Rattle.runtime_services.specs.declared.service.RuntimeService.TheVariants as services
use Rattle.runtime_services.specs.declared.get.VariableOutputs.{VariableOutputs}
use Rattle.runtime_services.specs.declared.info.InfoOutputs.{InfoOutputs}
use Rattle.runtime_services.specs.declared.next_name.NameOutputs.{NameOutputs}
use Rattle.runtime_services.specs.Outputs.{unless_zero, OutputBytes, range_of, outputs_written, MemoryDone, told, refused}
use Rattle.runtime_services.specs.Counts.{counted, next_count, next_high, get_next_monotonic_count, get_next_high_monotonic_count}
use Rattle.runtime_services.specs.TimeServices.{capability_bytes, time_if, get_time}
use Rattle.runtime_services.specs.GetVariable.{are_variable_outputs, sizes_of, variable_outputs, variable_given, variable_if, variable_named, get_variable}
use Rattle.runtime_services.specs.NextName.{name_bytes, size_of, size_told, name_told, name_outputs, name_given, name_if, next_if, next_named, get_next_variable_name}
use Rattle.runtime_services.specs.VariableInfo.{are_info_outputs, storage, has_unknown_bits, lacks_kept_bits, info_outputs, info_told, info_if, query_variable_info}
use Rattle.runtime_services.specs.Slots.{service_of}
use Rattle.runtime_services.specs.Serving.{served_by, served_if, serve_runtime}
use Rattle.runtime_whole.specs.Services.{RuntimeServicesKeep, RuntimeServicesStayWhole}
use Rattle.runtime_whole.proofs.MarkLemmas.{Leads, one_of, Grows, grows_on, itself, stored_grows}
use Rattle.runtime_whole.proofs.WriteLemmas.{written}

abbrev memory_in : MemoryDone → Pages
memory_in d = d.memory

abbrev Told : Pages → MemoryDone → Type 0
Told m d = Leads memory_in m d

no_change : (m : Pages) (status : ℕ) → Told m (refused m status)
no_change m status = record { grows = itself m }

or_refused : (b : Bool) (m : Pages) (done : MemoryDone) → Told m done → Told m (if b then done else refused m invalid_parameter)
or_refused b m done h = one_of memory_in b m done (refused m invalid_parameter) h (no_change m invalid_parameter)

outputs_grow : (see : ℕ → Option ℕ) (m : Pages) (outputs : List OutputBytes) → Grows m (outputs_written see m outputs)
unfolding outputs_written
outputs_grow see m [] = itself m
outputs_grow see m (output ∷ outputs) =
    let first = stored_grows see m output.at output.bytes in
    let rest = outputs_grow see (stored see m output.at output.bytes) outputs in
    grows_on m (stored see m output.at output.bytes) (outputs_written see (stored see m output.at output.bytes) outputs) first rest

told_grows : (see : ℕ → Option ℕ) (m : Pages) (value : ℕ) (outputs : List OutputBytes) → Told m (told see m value outputs)
told_grows see m value outputs = by (lacks_ranges see m (map range_of outputs))
  where
    by : (b : Bool) → Told m (if b then record { answer = lacks_frames; memory = m } else record { answer = gives value; memory = outputs_written see m outputs })
    by true = record { grows = itself m }
    by false = record { grows = outputs_grow see m outputs }

-- ---- each service

counted_grows : (b : Bool) (see : ℕ → Option ℕ) (m : Pages) (outputs : List OutputBytes) (before after : ℕ) → Grows m (if b then counted (told see m success outputs) before after else record { answer = gives invalid_parameter; memory = m; count = before }).memory
counted_grows true see m outputs before after = (told_grows see m success outputs).grows
counted_grows false see m outputs before after = itself m

counts : (x : List ℕ) (see : ℕ → Option ℕ) (m : Pages) (count : ℕ) → Grows m (get_next_monotonic_count x see m count).memory
unfolding get_next_monotonic_count
counts x see m count =
    let outputs : List OutputBytes = record { at = argument 0 x; bytes = to_le_bytes w64 (next_count count) } ∷ [] in
    counted_grows (can_write see m (argument 0 x) 8) see m outputs count (next_count count)

highs : (x : List ℕ) (see : ℕ → Option ℕ) (m : Pages) (count : ℕ) → Grows m (get_next_high_monotonic_count x see m count).memory
unfolding get_next_high_monotonic_count
highs x see m count =
    let outputs : List OutputBytes = record { at = argument 0 x; bytes = to_le_bytes w32 (next_high count) } ∷ [] in
    counted_grows (can_write see m (argument 0 x) 4) see m outputs count (next_high count * 2 ^ 32)

time_grows : (see : ℕ → Option ℕ) (m : Pages) (at capabilities : ℕ) (time : Option EfiTime) → Told m (time_if see m at capabilities time)
time_grows see m at capabilities None = no_change m _
time_grows see m at capabilities (Some time) = told_grows see m success (record { at = at; bytes = bytes_of time } ∷ unless_zero capabilities capability_bytes ∷ [])

times : (x : List ℕ) (see : ℕ → Option ℕ) (m : Pages) (clock : ClockState) (now : ℕ) → Told m (get_time x see m clock now)
unfolding get_time
times x see m clock now =
    or_refused (can_write see m (argument 0 x) 16 && can_write_optional see m (argument 1 x) 12) m (time_if see m (argument 0 x) (argument 1 x) (moment_of clock now)) (time_grows see m (argument 0 x) (argument 1 x) (moment_of clock now))

given_grows : (see : ℕ → Option ℕ) (m : Pages) (o : VariableOutputs) (room : ℕ) (entry : Entry) → Told m (variable_given see m o room entry)
given_grows see m o room entry = by (nat_lt room (length entry.data)) (can_write_buffer see m o.buffer room)
  where
    by : (a b : Bool) → Told m (if a then told see m buffer_too_small (sizes_of o entry []) else (if b then told see m success (sizes_of o entry (record { at = o.buffer; bytes = entry.data } ∷ [])) else refused m invalid_parameter))
    by true b = told_grows see m buffer_too_small (sizes_of o entry [])
    by false true = told_grows see m success (sizes_of o entry (record { at = o.buffer; bytes = entry.data } ∷ []))
    by false false = no_change m invalid_parameter

found_grows : (see : ℕ → Option ℕ) (m : Pages) (o : VariableOutputs) (room : ℕ) (entry : Option Entry) → Told m (variable_if see m o room entry)
found_grows see m o room None = no_change m _
found_grows see m o room (Some entry) = given_grows see m o room entry

named_grows : (see : ℕ → Option ℕ) (m : Pages) (entries : List Entry) (gone : Bool) (guid : ℕ) (o : VariableOutputs) (name : Option (List ℕ)) → Told m (variable_named see m entries gone guid o name)
named_grows see m entries gone guid o None = no_change m _
named_grows see m entries gone guid o (Some name) =
    let found = entry_at entries (place_of entries name (guid_seen see m guid) gone) in
    or_refused (can_read see m guid 16 && are_variable_outputs see m o) m (variable_if see m o (number_seen see m o.size 8) found) (found_grows see m o (number_seen see m o.size 8) found)

variables_given : (x : List ℕ) (see : ℕ → Option ℕ) (m : Pages) (entries : List Entry) (gone : Bool) → Told m (get_variable x see m entries gone)
unfolding get_variable
variables_given x see m entries gone = named_grows see m entries gone _ (variable_outputs x) _

name_grows : (see : ℕ → Option ℕ) (m : Pages) (o : NameOutputs) (room : ℕ) (entry : Entry) → Told m (name_given see m o room entry)
name_grows see m o room entry = by (nat_lt room (length (name_bytes entry.name))) (can_write_buffer see m o.name room)
  where
    by : (a b : Bool) → Told m (if a then size_told see m o (name_bytes entry.name) else (if b then name_told see m o (name_bytes entry.name) entry.vendor else refused m invalid_parameter))
    by true b = told_grows see m buffer_too_small (size_of o (name_bytes entry.name) ∷ [])
    by false true = told_grows see m success (size_of o (name_bytes entry.name) ∷ record { at = o.name; bytes = name_bytes entry.name } ∷ record { at = o.guid; bytes = guids.bytes_of entry.vendor } ∷ [])
    by false false = no_change m invalid_parameter

name_found : (see : ℕ → Option ℕ) (m : Pages) (o : NameOutputs) (room : ℕ) (entry : Option Entry) → Told m (name_if see m o room entry)
name_found see m o room None = no_change m _
name_found see m o room (Some entry) = name_grows see m o room entry

next_grows : (see : ℕ → Option ℕ) (m : Pages) (entries : List Entry) (o : NameOutputs) (room : ℕ) (r : Result (Option ℕ) VarRefusal) → Told m (next_if see m entries o room r)
next_grows see m entries o room (Ok place) = name_found see m o room _
next_grows see m entries o room (Err refusal) = no_change m _

next_named_grows : (see : ℕ → Option ℕ) (m : Pages) (entries : List Entry) (gone : Bool) (o : NameOutputs) (name : Option (List ℕ)) → Told m (next_named see m entries gone o name)
next_named_grows see m entries gone o None = no_change m _
next_named_grows see m entries gone o (Some name) =
    let next = next_of entries name (guid_seen see m o.guid) gone in
    or_refused (can_write see m o.size 8 && can_write see m o.guid 16) m (next_if see m entries o (number_seen see m o.size 8) next) (next_grows see m entries o (number_seen see m o.size 8) next)

names_given : (x : List ℕ) (see : ℕ → Option ℕ) (m : Pages) (entries : List Entry) (gone : Bool) → Told m (get_next_variable_name x see m entries gone)
unfolding get_next_variable_name
names_given x see m entries gone = next_named_grows see m entries gone (name_outputs x) _

info_grows : (see : ℕ → Option ℕ) (m : Pages) (o : InfoOutputs) (attributes room : ℕ) → Told m (info_if see m o attributes room)
info_grows see m o attributes room = by (has_unknown_bits attributes) (lacks_kept_bits attributes)
  where
    by : (a b : Bool) → Told m (if a then refused m unsupported else (if b then refused m invalid_parameter else info_told see m o room))
    by true b = no_change m unsupported
    by false true = no_change m invalid_parameter
    by false false = told_grows see m success (record { at = o.most; bytes = to_le_bytes w64 storage } ∷ record { at = o.left; bytes = to_le_bytes w64 room } ∷ record { at = o.one; bytes = to_le_bytes w64 (room - 34) } ∷ [])

infos : (x : List ℕ) (see : ℕ → Option ℕ) (m : Pages) (entries : List Entry) → Told m (query_variable_info x see m entries)
unfolding query_variable_info
infos x see m entries =
    or_refused (are_info_outputs see m (info_outputs x)) m (info_if see m (info_outputs x) (low_word (argument 0 x)) (room_of entries)) (info_grows see m (info_outputs x) (low_word (argument 0 x)) (room_of entries))

-- ---- all

served : (service : RuntimeService) (x : List ℕ) (see : ℕ → Option ℕ) (m : Pages) (variables : List Entry) (clock : ClockState) (count now : ℕ) (gone : Bool) → Grows m (served_by service x see m variables clock count now gone).memory
served services.GetNextMonotonicCount x see m variables clock count now gone = counts x see m count
served services.GetTime x see m variables clock count now gone = (times x see m clock now).grows
served services.SetTime x see m variables clock count now gone = itself m
served services.GetWakeupTime x see m variables clock count now gone = itself m
served services.SetWakeupTime x see m variables clock count now gone = itself m
served services.GetVariable x see m variables clock count now gone = (variables_given x see m variables gone).grows
served services.GetNextVariableName x see m variables clock count now gone = (names_given x see m variables gone).grows
served services.SetVariable x see m variables clock count now gone = itself m
served services.GetNextHighMonotonicCount x see m variables clock count now gone = highs x see m count
served services.UpdateCapsule x see m variables clock count now gone = itself m
served services.QueryCapsuleCapabilities x see m variables clock count now gone = itself m
served services.QueryVariableInfo x see m variables clock count now gone = (infos x see m variables).grows

slot_served : (service : Option RuntimeService) (x : List ℕ) (see : ℕ → Option ℕ) (m : Pages) (variables : List Entry) (clock : ClockState) (count now : ℕ) (gone : Bool) → Grows m (served_if service x see m variables clock count now gone).memory
slot_served None x see m variables clock count now gone = itself m
slot_served (Some service) x see m variables clock count now gone = served service x see m variables clock count now gone

all_served : (slot : ℕ) (x : List ℕ) (see : ℕ → Option ℕ) (m : Pages) (variables : List Entry) (clock : ClockState) (count now : ℕ) (gone : Bool) → Grows m (serve_runtime slot x see m variables clock count now gone).memory
unfolding serve_runtime
all_served slot x see m variables clock count now gone = slot_served (service_of slot) x see m variables clock count now gone

pub runtime_keeps : RuntimeServicesKeep
runtime_keeps r images made slot x shown variables clock count now b = written r images made _ b (all_served slot x shown r.memory variables clock count now r.gone)

pub grown_whole : WholeStays → (r : Runtime) (m : Pages) → Grows r.memory m → Whole r → Whole (record r { memory = m })
grown_whole law r m g w = law r (record r { memory = m }) w (record { layout = refl; base = g.base; count = g.count; map = refl; view = refl; descriptors = refl; kept = refl; notifies = refl; gone = refl; mapped = refl; os_virtual = refl; room = refl }) g.stay

pub runtime_whole : WholeStays → RuntimeServicesStayWhole
runtime_whole law r slot x shown variables clock count now w = grown_whole law r _ (all_served slot x shown r.memory variables clock count now r.gone) w
