-- Services on events, and the console.
use Rattle.std.proofs.Common.{◌≡◌, ℕ, ◌+◌, Bool, true, false, List, [], ◌∷◌, refl, sym, ap, subst}
use Rattle.std.specs.Prelude.{◌==◌, ◌&&◌, not, Option, Some, None, Result, Ok, Err, if◌then◌else◌}
use Rattle.uh_base.specs.Statuses.{success, invalid_parameter, unsupported}
use Rattle.uh_base.specs.LittleEndian.{low_bytes}
use Rattle.uh_base.specs.declared.guid.Guid.{Guid}
use Rattle.service_answer.specs.Answers.{gives, lacks_frames}
use Rattle.guest_memory.specs.Pages.{Pages}
use Rattle.address_view.specs.Ranges.{lacks_ranges}
use Rattle.address_view.specs.Stored.{lacks_seen, store_seen}
use Rattle.guest_call.specs.Arguments.{argument}
use Rattle.guest_call.specs.Checks.{can_read, can_write}
use Rattle.guest_call.specs.Inputs.{can_read_optional, guid_seen}
use Rattle.guest_call.specs.declared.answer.Answer.TheVariants.{Gives}
use Rattle.guest_call.specs.declared.answer.Answer.TheVariants as consoles
use Rattle.event_queue.specs.declared.refusal.EventRefusal.{EventRefusal}
use Rattle.event_queue.specs.Queue.{EventList, is_event}
use Rattle.event_queue.specs.Calls.{known}
use Rattle.protocol_db.specs.declared.refusal.ProtocolRefusal.{ProtocolRefusal}
use Rattle.protocol_db.specs.declared.refusal.ProtocolRefusal.TheVariants as protocols
use Rattle.protocol_db.specs.Registrations.{Protocols, shown_registration}
use Rattle.protocol_db.specs.Calls.{Done, is_full, with_registration, registration, forgotten}
use Rattle.event_services.specs.declared.awaited.Awaited.TheVariants.{Answers, LacksFrames}
use Rattle.event_services.specs.declared.decision.Decision.{Decision}
use Rattle.event_services.specs.Changes.{after_forgetting, close_event}
use Rattle.event_services.specs.Creation.{CreateDone, creation_asked, event_made, event_given, create_event, group_seen, create_event_ex}
use Rattle.event_services.specs.Notices.{RegisterDone, registration_given, register_protocol_notify}
use Rattle.event_services.specs.Waits.{Judged, IndexDone, index_written, WaitDone, judged_to, index_of, judged, events_seen, is_count, can_wait, wait_anew, wait_for_event, SignalDone, polled_to, signal_of, polled, wait_for_signal}
use Rattle.console_services.specs.Modes.{ModeDone, are_outputs, size_written, size_told, by_mode, query_mode}
use Rattle.runtime_whole.specs.Boots.{BootWhole}
use Rattle.runtime_whole.specs.Services.{EventServicesKeep, ConsoleKeeps}
use Rattle.runtime_whole.proofs.MarkLemmas.{Grows, grows_on, itself, stored_grows, Leads, one_of}
use Rattle.runtime_whole.proofs.WriteLemmas.{written}

-- ---- creation

abbrev created_memory : CreateDone → Pages
created_memory d = d.memory

abbrev Creates : Pages → CreateDone → Type 0
Creates m d = Leads created_memory m d

module _ (x : List ℕ) (see : ℕ → Option ℕ) (m : Pages) (s : EventList) where
  given : (group : Option Guid) (at : ℕ) (r : Result ℕ EventRefusal) → Creates m (event_given x see m s group at r)
  given group at (Ok number) = by (lacks_seen see m at 8)
    where
      by : (b : Bool) → Creates m (if b then record { served = lacks_frames; memory = m; events = s } else record { served = gives success; memory = store_seen see m at 8 number; events = event_made x s group })
      by true = record { grows = itself m }
      by false = record { grows = stored_grows see m at (low_bytes 8 number) }
  given group at (Err refusal) = record { grows = itself m }

  abbrev none_created : CreateDone
  none_created = record { served = gives invalid_parameter; memory = m; events = s }

  created : Creates m (create_event x see m s)
  unfolding create_event
  created = one_of created_memory (can_write see m (argument 4 x) 8) m (event_given x see m s None (argument 4 x) (creation_asked x s None)) none_created (given None (argument 4 x) (creation_asked x s None)) (record { grows = itself m })

  created_ex : Creates m (create_event_ex x see m s)
  unfolding create_event_ex
  created_ex =
      let group = group_seen see m (argument 4 x) in
      one_of created_memory (can_read_optional see m (argument 4 x) 16 && can_write see m (argument 5 x) 8) m (event_given x see m s group (argument 5 x) (creation_asked x s group)) none_created (given group (argument 5 x) (creation_asked x s group)) (record { grows = itself m })

-- ---- registrations for protocols

-- memory grows, and handles are as they were
record Registers (m : Pages) (p : Protocols) (d : RegisterDone) : Type 0 where
  grows : Grows m d.memory
  same : d.protocols.handles ≡ p.handles

registered_same : (p : Protocols) (guid : Guid) (event : ℕ) (done : Done ℕ) → registration p guid event ≡ Ok done → done.after.handles ≡ p.handles
unfolding registration
registered_same p guid event done e = by (is_full p) e
  where
    handles_in : Result (Done ℕ) ProtocolRefusal → Protocols
    handles_in (Ok d) = d.after
    handles_in (Err refusal) = p

    by : (b : Bool) → (if b then Err protocols.Full else Ok (record { answer = shown_registration (p.made + 1); after = with_registration p guid event })) ≡ Ok done → done.after.handles ≡ p.handles
    by true h = let bad : ⊥ = cc in absurd bad
    by false h = let is : with_registration p guid event ≡ done.after = ap handles_in h in ap (λ (q : Protocols). q.handles) (sym is)

registration_kept : (see : ℕ → Option ℕ) (m : Pages) (p : Protocols) (guid : Guid) (event at : ℕ) (r : Result (Done ℕ) ProtocolRefusal) → registration p guid event ≡ r → Registers m p (registration_given see m p at r)
registration_kept see m p guid event at (Ok done) e = by (lacks_seen see m at 8)
  where
    by : (b : Bool) → Registers m p (if b then record { served = lacks_frames; memory = m; protocols = p } else record { served = gives success; memory = store_seen see m at 8 done.answer; protocols = done.after })
    by true = record { grows = itself m; same = refl }
    by false = record { grows = stored_grows see m at (low_bytes 8 done.answer); same = registered_same p guid event done e }
registration_kept see m p guid event at (Err refusal) e = record { grows = itself m; same = refl }

registered : (x : List ℕ) (see : ℕ → Option ℕ) (m : Pages) (s : EventList) (p : Protocols) → Registers m p (register_protocol_notify x see m s p)
unfolding register_protocol_notify
registered x see m s p = by (can_read see m (argument 0 x) 16 && (can_write see m (argument 2 x) 8 && is_event s.events (argument 1 x)))
  where
    by : (b : Bool) → Registers m p (if b then registration_given see m p (argument 2 x) (registration p (guid_seen see m (argument 0 x)) (argument 1 x)) else record { served = gives invalid_parameter; memory = m; protocols = p })
    by true = registration_kept see m p (guid_seen see m (argument 0 x)) (argument 1 x) (argument 2 x) (registration p (guid_seen see m (argument 0 x)) (argument 1 x)) refl
    by false = record { grows = itself m; same = refl }

forgotten_same : {X : Type 0} (r : Result X EventRefusal) (p : Protocols) (event : ℕ) → (after_forgetting r p event).handles ≡ p.handles
unfolding forgotten
forgotten_same (Ok done) p event = refl
forgotten_same (Err refusal) p event = refl

closed_same : (x : List ℕ) (s : EventList) (p : Protocols) → (close_event x s p).protocols.handles ≡ p.handles
unfolding close_event
closed_same x s p = forgotten_same (known s (argument 0 x)) p (argument 0 x)

-- ---- waits

abbrev index_memory : IndexDone → Pages
index_memory d = d.memory

index_grows : (see : ℕ → Option ℕ) (m : Pages) (at : ℕ) (decision : Decision) → Grows m (index_written see m at decision).memory
index_grows see m at decision =
    (one_of index_memory (lacks_seen see m at 8) m (record { answer = LacksFrames; memory = m }) (record { answer = Answers decision.status; memory = store_seen see m at 8 decision.place }) (record { grows = itself m })
    (record { grows = stored_grows see m at (low_bytes 8 decision.place) })).grows

judged_grows : (see : ℕ → Option ℕ) (m : Pages) (at : ℕ) (s : EventList) (d : Option Decision) → Grows m (judged_to see m at s d).memory
judged_grows see m at s None = itself m
judged_grows see m at s (Some decision) = index_grows see m at decision

abbrev waited_memory : WaitDone → Pages
waited_memory d = d.memory

anew : (x : List ℕ) (see : ℕ → Option ℕ) (m : Pages) (s : EventList) → Leads waited_memory m (wait_anew x see m s)
unfolding wait_anew
anew x see m s =
    let j : Judged = judged 0 (events_seen see m (argument 1 x) (argument 0 x)) s in
    one_of waited_memory (can_wait x see m) m (index_of see m (argument 2 x) j) (record { answer = Answers invalid_parameter; memory = m; events = s }) (record { grows = judged_grows see m (argument 2 x) j.events j.decision }) (record { grows = itself m })

waited : (x : List ℕ) (tpl : ℕ) (see : ℕ → Option ℕ) (m : Pages) (s : EventList) → Leads waited_memory m (wait_for_event x tpl see m s)
unfolding wait_for_event
waited x tpl see m s = one_of waited_memory (can_write see m (argument 2 x) 8 && (is_count (argument 0 x) && not (tpl == 4))) m (record { answer = Answers unsupported; memory = m; events = s }) (wait_anew x see m s) (record { grows = itself m }) (anew x see m s)

polled_grows : (see : ℕ → Option ℕ) (m : Pages) (at present : ℕ) (s : EventList) (d : Option Decision) → Grows m (polled_to see m at present s d).memory
polled_grows see m at present s None = itself m
polled_grows see m at present s (Some decision) = index_grows see m at decision

abbrev signal_memory : SignalDone → Pages
signal_memory d = d.memory

waited_on : (x : List ℕ) (see : ℕ → Option ℕ) (m : Pages) (s : EventList) (present : ℕ) → Leads signal_memory m (wait_for_signal x see m s present)
unfolding wait_for_signal
waited_on x see m s present =
    let j : Judged = polled 0 (events_seen see m (argument 1 x) (argument 0 x)) s in
    one_of signal_memory (can_wait x see m) m (signal_of see m (argument 2 x) present j) (record { answer = Answers invalid_parameter; memory = m; events = s; moment = present }) (record { grows = polled_grows see m (argument 2 x) present j.events j.decision }) (record { grows = itself m })

pub events_keep : EventServicesKeep
events_keep r images x shown s p b = record {
  created = written r images p.handles.made _ b (created x shown r.memory s).grows;
  created_ex = written r images p.handles.made _ b (created_ex x shown r.memory s).grows;
  registered = (
      let d = register_protocol_notify x shown r.memory s p in
      let g = registered x shown r.memory s p in
      subst (λ (made : ℕ). BootWhole (record r { memory = d.memory }) images made) (ap (λ h. h.made) (sym g.same)) (written r images p.handles.made _ b g.grows));
  closed = subst (λ (made : ℕ). BootWhole r images made) (ap (λ h. h.made) (sym (closed_same x s p))) b;
  waited = λ tpl. written r images p.handles.made _ b (waited x tpl shown r.memory s).grows;
  waited_anew = written r images p.handles.made _ b (anew x shown r.memory s).grows;
  waited_on = λ now. written r images p.handles.made _ b (waited_on x shown r.memory s now).grows;
}

-- ---- the console

sizes_grow : (see : ℕ → Option ℕ) (m : Pages) (columns rows : ℕ) → Grows m (size_written see m columns rows)
sizes_grow see m columns rows = grows_on m (store_seen see m columns 8 80) (size_written see m columns rows) (stored_grows see m columns (low_bytes 8 80)) (stored_grows see (store_seen see m columns 8 80) rows (low_bytes 8 25))

abbrev mode_memory : ModeDone → Pages
mode_memory d = d.memory

told : (see : ℕ → Option ℕ) (m : Pages) (columns rows : ℕ) → Grows m (size_told see m columns rows).memory
told see m columns rows =
    (one_of mode_memory (lacks_ranges see m (record { at = columns; len = 8 } ∷ record { at = rows; len = 8 } ∷ [])) m (record { answer = consoles.LacksFrames; memory = m }) (record { answer = Gives success; memory = size_written see m columns rows })
    (record { grows = itself m }) (record { grows = sizes_grow see m columns rows })).grows

moded : (x : List ℕ) (see : ℕ → Option ℕ) (m : Pages) → Leads mode_memory m (query_mode x see m)
unfolding query_mode
moded x see m =
    one_of mode_memory (are_outputs see m (argument 2 x) (argument 3 x)) m (by_mode see m (argument 1 x) (argument 2 x) (argument 3 x)) (record { answer = Gives invalid_parameter; memory = m })
    (one_of mode_memory (argument 1 x == 0) m (size_told see m (argument 2 x) (argument 3 x)) (record { answer = Gives unsupported; memory = m }) (record { grows = told see m (argument 2 x) (argument 3 x) }) (record { grows = itself m }))
    (record { grows = itself m })

pub console_keeps : ConsoleKeeps
console_keeps r images made x shown b = written r images made _ b (moded x shown r.memory).grows
