-- Pages that were touched stay so while a function runs.
use Rattle.std.proofs.Common.{◌≡◌, ℕ, zero, suc, ◌≤◌, Bool, true, false, List, [], ◌∷◌, refl, arith, Some, None}
use Rattle.std.specs.Prelude.{slice_get, slice_set, nat_le, ◌==◌, ◌&&◌, Option, Result, Ok, Err, if◌then◌else◌}
use Rattle.uh_base.specs.Bytes.{next}
use Rattle.uh_base.specs.LittleEndian.{low_bytes}
use Rattle.rv_step.specs.Exec.{Outcome, Went, Stored, Stopped}
use Rattle.memory_map.specs.declared.descriptor.Descriptor.{Descriptor}
use Rattle.guest_memory.specs.Pages.{Pages, or_false, is_touched, page_of}
use Rattle.guest_call.specs.Arguments.{argument}
use Rattle.guest_call.specs.Checks.{can_write, number_seen}
use Rattle.address_view.specs.Windows.{see}
use Rattle.address_view.specs.Stored.{put_seen, stored, lacks_seen}
use Rattle.map_faults.specs.declared.pointer.ConvertRefusal.{ConvertRefusal}
use Rattle.map_faults.specs.declared.pointer.ConvertRefusal.TheVariants.{Null, NotFound}
use Rattle.map_faults.specs.Pointers.{converted}
use Rattle.event_queue.specs.declared.event.Notify.{Notify}
use Rattle.virtual_map.specs.States.{Runtime}
use Rattle.virtual_map.specs.Instructions.{Carried, comes_to, carried, outcome_of}
use Rattle.runtime_turn.specs.declared.function.CallTurn.{CallTurn}
use Rattle.runtime_turn.specs.declared.function.CallTurn.TheVariants.{Goes, Returns, Halts, Memory}
use Rattle.runtime_turn.specs.Turns.{slot_seen}
use Rattle.runtime_turn.specs.Functions.{Ran, Turned, convert_by, convert_pointer, serve, by_slot, function_turn, goes_on, run_from, run_function, registers_for, most_steps}

kept : (marks : List Bool) (i k : ℕ) → or_false (slice_get marks k) ≡ true → or_false (slice_get (slice_set marks i true) k) ≡ true
kept [] i k h = h
kept (mark ∷ marks) zero zero h = refl
kept (mark ∷ marks) zero (suc k) h = h
kept (mark ∷ marks) (suc i) zero h = h
kept (mark ∷ marks) (suc i) (suc k) h = kept marks i k h

pub still_touched : (m : Pages) (at page : ℕ) → is_touched m page ≡ true → or_false (slice_get (slice_set m.touched (page_of m at) true) page) ≡ true
still_touched m at page h = kept m.touched (page_of m at) page h

put_keeps : (m : Pages) (byte page : ℕ) (place : Option ℕ) → is_touched m page ≡ true → is_touched (put_seen m byte place) page ≡ true
put_keeps m byte page None h = h
put_keeps m byte page (Some place) h = still_touched m place page h

stored_keeps : (shown : ℕ → Option ℕ) (m : Pages) (at : ℕ) (bytes : List ℕ) (page : ℕ) → is_touched m page ≡ true → is_touched (stored shown m at bytes) page ≡ true
unfolding stored
stored_keeps shown m at [] page h = h
stored_keeps shown m at (byte ∷ bytes) page h = stored_keeps shown (put_seen m byte (shown at)) (next at) bytes page (put_keeps m byte page (shown at) h)

store_by : (x : List ℕ) (pc : ℕ) (r : Runtime) (b : Bool) (c d : Carried) (page : ℕ) → is_touched c.runtime.memory page ≡ true → is_touched d.runtime.memory page ≡ true → is_touched (if b then c else d).runtime.memory page ≡ true
store_by x pc r true c d page h k = h
store_by x pc r false c d page h k = k

comes_keeps : (x : List ℕ) (pc : ℕ) (r : Runtime) (o : Outcome) (page : ℕ) → is_touched r.memory page ≡ true → is_touched (comes_to x pc r o).runtime.memory page ≡ true
comes_keeps x pc r (Went to) page h = h
comes_keeps x pc r (Stored at width value to) page h = store_by x pc r (lacks_seen (see r.view) r.memory at width) _ _ page h (stored_keeps (see r.view) r.memory at (low_bytes width value) page h)
comes_keeps x pc r (Stopped trap) page h = h

pub carried_keeps : (x : List ℕ) (pc : ℕ) (r : Runtime) (page : ℕ) → is_touched r.memory page ≡ true → is_touched (carried x pc r).runtime.memory page ≡ true
unfolding carried
carried_keeps x pc r page h = comes_keeps x pc r (outcome_of x pc r) page h

chosen : (b : Bool) (s t : Turned) (page : ℕ) → is_touched s.runtime.memory page ≡ true → is_touched t.runtime.memory page ≡ true → is_touched (if b then s else t).runtime.memory page ≡ true
chosen true s t page h k = h
chosen false s t page h k = k

convert_keeps : (e : Result ℕ ConvertRefusal) (x : List ℕ) (pc : ℕ) (r : Runtime) (page : ℕ) → is_touched r.memory page ≡ true → is_touched (convert_by e x pc r).runtime.memory page ≡ true
convert_keeps (Err Null) x pc r page h = h
convert_keeps (Err NotFound) x pc r page h = h
convert_keeps (Ok value) x pc r page h = chosen (lacks_seen (see r.view) r.memory (argument 1 x) 8) _ _ page h (stored_keeps (see r.view) r.memory (argument 1 x) (low_bytes 8 value) page h)

pointer_keeps : (entries : List Descriptor) (x : List ℕ) (pc : ℕ) (r : Runtime) (page : ℕ) → is_touched r.memory page ≡ true → is_touched (convert_pointer entries x pc r).runtime.memory page ≡ true
unfolding convert_pointer
pointer_keeps entries x pc r page h =
    chosen (can_write (see r.view) r.memory (argument 1 x) 8) _ _ page (convert_keeps (converted entries (argument 0 x) (number_seen (see r.view) r.memory (argument 1 x) 8)) x pc r page h) h

serve_keeps : (entries : List Descriptor) (slot : ℕ) (x : List ℕ) (pc : ℕ) (r : Runtime) (page : ℕ) → is_touched r.memory page ≡ true → is_touched (serve entries slot x pc r).runtime.memory page ≡ true
serve_keeps entries slot x pc r page h =
    chosen (slot == 67) _ _ page h
    (chosen (slot == 49) _ _ page (pointer_keeps entries x pc r page h)
    (chosen (nat_le 44 slot && nat_le slot 57) _ _ page h h))

slot_keeps : (slot : Option ℕ) (entries : List Descriptor) (x : List ℕ) (pc : ℕ) (r : Runtime) (page : ℕ) → is_touched r.memory page ≡ true → is_touched (by_slot slot entries x pc r).runtime.memory page ≡ true
slot_keeps (Some slot) entries x pc r page h = serve_keeps entries slot x pc r page h
slot_keeps None entries x pc r page h = carried_keeps x pc r page h

turn_keeps : (entries : List Descriptor) (x : List ℕ) (pc : ℕ) (r : Runtime) (page : ℕ) → is_touched r.memory page ≡ true → is_touched (function_turn entries x pc r).runtime.memory page ≡ true
unfolding function_turn
turn_keeps entries x pc r page h = slot_keeps (slot_seen r pc) entries x pc r page h

end_keeps : (e : CallTurn) (left : ℕ) (r : Runtime) (rest : Ran) (page : ℕ) → is_touched r.memory page ≡ true → is_touched rest.runtime.memory page ≡ true → is_touched (goes_on e left r rest).runtime.memory page ≡ true
end_keeps Goes left r rest page h k = k
end_keeps Returns left r rest page h k = h
end_keeps (Halts halt) left r rest page h k = h
end_keeps Memory left r rest page h k = k

run_keeps : (left : ℕ) (entries : List Descriptor) (x : List ℕ) (pc : ℕ) (r : Runtime) (page : ℕ) → is_touched r.memory page ≡ true → is_touched (run_from left entries x pc r).runtime.memory page ≡ true
unfolding run_from
run_keeps zero entries x pc r page h = h
run_keeps (suc left) entries x pc r page h =
    let t = function_turn entries x pc r in
    let k = turn_keeps entries x pc r page h in
    end_keeps t.end left t.runtime (run_from left entries t.x t.pc t.runtime) page k (run_keeps left entries t.x t.pc t.runtime page k)

pub function_keeps : (entries : List Descriptor) (sp : ℕ) (notify : Notify) (r : Runtime) (page : ℕ) → is_touched r.memory page ≡ true → is_touched (run_function entries sp notify r).runtime.memory page ≡ true
unfolding run_function
function_keeps entries sp notify r page h = run_keeps most_steps entries (registers_for r.layout sp notify) notify.function r page h

-- ---- how many steps a function has

few_by : (e : CallTurn) (left : ℕ) (r : Runtime) (rest : Ran) → rest.steps ≤ most_steps → (goes_on e left r rest).steps ≤ most_steps
few_by Goes left r rest h = h
few_by Returns left r rest h = omega arith
few_by (Halts halt) left r rest h = omega arith
few_by Memory left r rest h = h

run_few : (left : ℕ) (entries : List Descriptor) (x : List ℕ) (pc : ℕ) (r : Runtime) → (run_from left entries x pc r).steps ≤ most_steps
unfolding run_from
run_few zero entries x pc r = omega arith
run_few (suc left) entries x pc r =
    let t = function_turn entries x pc r in
    few_by t.end left t.runtime (run_from left entries t.x t.pc t.runtime) (run_few left entries t.x t.pc t.runtime)

pub function_few : (entries : List Descriptor) (sp : ℕ) (notify : Notify) (r : Runtime) → (run_function entries sp notify r).steps ≤ most_steps
unfolding run_function
function_few entries sp notify r = run_few most_steps entries (registers_for r.layout sp notify) notify.function r
