-- What notified functions leave as it was.
use Rattle.std.proofs.Common.{◌≡◌, ℕ, zero, suc, Bool, true, false, List, [], ◌∷◌, length, refl, ap, ◌∙◌, Some, None}
use Rattle.std.specs.Prelude.{nat_le, ◌==◌, ◌&&◌, Option, Result, Ok, Err, if◌then◌else◌}
use Rattle.std.proofs.Math.ListN.{length-set}
use Rattle.uh_base.specs.Bytes.{next}
use Rattle.uh_base.specs.LittleEndian.{low_bytes}
use Rattle.rv_step.specs.Exec.{Outcome, Went, Stored, Stopped}
use Rattle.memory_map.specs.declared.descriptor.Descriptor.{Descriptor}
use Rattle.guest_memory.specs.Pages.{Pages}
use Rattle.guest_call.specs.Arguments.{argument}
use Rattle.guest_call.specs.Checks.{can_write, number_seen}
use Rattle.address_view.specs.Windows.{see}
use Rattle.address_view.specs.Stored.{put_seen, stored, lacks_seen}
use Rattle.map_faults.specs.declared.pointer.ConvertRefusal.{ConvertRefusal}
use Rattle.map_faults.specs.declared.pointer.ConvertRefusal.TheVariants.{Null, NotFound}
use Rattle.map_faults.specs.Pointers.{converted}
use Rattle.event_queue.specs.declared.event.Notify.{Notify}
use Rattle.virtual_map.specs.States.{Runtime}
use Rattle.virtual_map.specs.Instructions.{Carried, comes_to, carried, outcome_of}
use Rattle.runtime_turn.specs.declared.function.CallTurn.{CallTurn}
use Rattle.runtime_turn.specs.declared.function.CallTurn.TheVariants.{Goes, Returns, Halts, Memory}
use Rattle.runtime_turn.specs.declared.halt.Halt.{Halt}
use Rattle.runtime_turn.specs.Turns.{slot_seen}
use Rattle.runtime_turn.specs.Functions.{Ran, Turned, convert_by, convert_pointer, serve, by_slot, function_turn, goes_on, run_from, run_function, registers_for, most_steps}
use Rattle.map_transition.specs.Laws.{FunctionsKeepTouched, StayTouched}
use Rattle.map_transition.specs.Transitions.{Changed, begun, followed_by, run_all}
use Rattle.mapped_runs.specs.Made.{FunctionsAreCode}

-- ---- what a store leaves

record SameMemory (m n : Pages) : Type 0 where
  base : n.base ≡ m.base
  pages : n.pages ≡ m.pages
  rights : n.rights ≡ m.rights
  bytes : length n.bytes ≡ length m.bytes

put_same : (m : Pages) (byte : ℕ) (place : Option ℕ) → SameMemory m (put_seen m byte place)
put_same m byte None = record { base = refl; pages = refl; rights = refl; bytes = refl }
put_same m byte (Some place) = record { base = refl; pages = refl; rights = refl; bytes = length-set m.bytes _ byte }

stored_same : (shown : ℕ → Option ℕ) (m : Pages) (at : ℕ) (bytes : List ℕ) → SameMemory m (stored shown m at bytes)
unfolding stored
stored_same shown m at [] = record { base = refl; pages = refl; rights = refl; bytes = refl }
stored_same shown m at (byte ∷ bytes) =
    let one = put_same m byte (shown at) in
    let rest = stored_same shown (put_seen m byte (shown at)) (next at) bytes in
    record { base = rest.base ∙ one.base; pages = rest.pages ∙ one.pages; rights = rest.rights ∙ one.rights; bytes = rest.bytes ∙ one.bytes }

-- ---- what stores keep, functions keep

module _ (P : Runtime → Type 0) (store : (r : Runtime) (at : ℕ) (bytes : List ℕ) → P r → P (record r { memory = stored (see r.view) r.memory at bytes })) where
  carries : (b : Bool) (c d : Carried) → P c.runtime → P d.runtime → P (if b then c else d).runtime
  carries true c d h k = h
  carries false c d h k = k

  comes : (x : List ℕ) (pc : ℕ) (r : Runtime) (o : Outcome) → P r → P (comes_to x pc r o).runtime
  comes x pc r (Went to) h = h
  comes x pc r (Stored at width value to) h = carries (lacks_seen (see r.view) r.memory at width) _ _ h (store r at (low_bytes width value) h)
  comes x pc r (Stopped trap) h = h

  one_carried : (x : List ℕ) (pc : ℕ) (r : Runtime) → P r → P (carried x pc r).runtime
  unfolding carried
  one_carried x pc r h = comes x pc r (outcome_of x pc r) h

  chosen : (b : Bool) (s t : Turned) → P s.runtime → P t.runtime → P (if b then s else t).runtime
  chosen true s t h k = h
  chosen false s t h k = k

  converts : (e : Result ℕ ConvertRefusal) (x : List ℕ) (pc : ℕ) (r : Runtime) → P r → P (convert_by e x pc r).runtime
  converts (Err Null) x pc r h = h
  converts (Err NotFound) x pc r h = h
  converts (Ok value) x pc r h = chosen (lacks_seen (see r.view) r.memory (argument 1 x) 8) _ _ h (store r (argument 1 x) (low_bytes 8 value) h)

  pointer : (entries : List Descriptor) (x : List ℕ) (pc : ℕ) (r : Runtime) → P r → P (convert_pointer entries x pc r).runtime
  unfolding convert_pointer
  pointer entries x pc r h =
      chosen (can_write (see r.view) r.memory (argument 1 x) 8) _ _ (converts (converted entries (argument 0 x) (number_seen (see r.view) r.memory (argument 1 x) 8)) x pc r h) h

  served : (entries : List Descriptor) (slot : ℕ) (x : List ℕ) (pc : ℕ) (r : Runtime) → P r → P (serve entries slot x pc r).runtime
  served entries slot x pc r h =
      chosen (slot == 67) _ _ h (chosen (slot == 49) _ _ (pointer entries x pc r h) (chosen (nat_le 44 slot && nat_le slot 57) _ _ h h))

  at_slot : (slot : Option ℕ) (entries : List Descriptor) (x : List ℕ) (pc : ℕ) (r : Runtime) → P r → P (by_slot slot entries x pc r).runtime
  at_slot (Some slot) entries x pc r h = served entries slot x pc r h
  at_slot None entries x pc r h = one_carried x pc r h

  one_turn : (entries : List Descriptor) (x : List ℕ) (pc : ℕ) (r : Runtime) → P r → P (function_turn entries x pc r).runtime
  unfolding function_turn
  one_turn entries x pc r h = at_slot (slot_seen r pc) entries x pc r h

  ends : (e : CallTurn) (left : ℕ) (r : Runtime) (rest : Ran) → P r → P rest.runtime → P (goes_on e left r rest).runtime
  ends Goes left r rest h k = k
  ends Returns left r rest h k = h
  ends (Halts halt) left r rest h k = h
  ends Memory left r rest h k = k

  runs : (left : ℕ) (entries : List Descriptor) (x : List ℕ) (pc : ℕ) (r : Runtime) → P r → P (run_from left entries x pc r).runtime
  unfolding run_from
  runs zero entries x pc r h = h
  runs (suc left) entries x pc r h =
      let t = function_turn entries x pc r in
      let k = one_turn entries x pc r h in
      ends t.end left t.runtime (run_from left entries t.x t.pc t.runtime) k (runs left entries t.x t.pc t.runtime k)

  one_function : (entries : List Descriptor) (sp : ℕ) (notify : Notify) (r : Runtime) → P r → P (run_function entries sp notify r).runtime
  unfolding run_function
  one_function entries sp notify r h = runs most_steps entries (registers_for r.layout sp notify) notify.function r h

-- ---- all functions

follows : (P : Runtime → Type 0) (halt : Option Halt) (steps : ℕ) (r : Runtime) (rest : Changed) → P r → P rest.runtime → P (followed_by halt steps r rest).runtime
follows P (Some halt) steps r rest h k = h
follows P None steps r rest h k = k

all_functions : (P : Runtime → Type 0) → ((entries : List Descriptor) (sp : ℕ) (notify : Notify) (r : Runtime) → P r → P (run_function entries sp notify r).runtime) → (entries : List Descriptor) (sp : ℕ) (notifies : List Notify) (r : Runtime)
    → P r → P (run_all entries sp notifies r).runtime
unfolding run_all
all_functions P one entries sp [] r h = h
all_functions P one entries sp (notify ∷ notifies) r h =
    let ran = run_function entries sp notify r in
    let k = one entries sp notify r h in
    follows P ran.halt ran.steps ran.runtime (run_all entries sp notifies ran.runtime) k (all_functions P one entries sp notifies ran.runtime k)

-- a state with other bytes of memory alone
record Leaves (old new : Runtime) : Type 0 where
  only : new ≡ record old { memory = new.memory }
  memory : SameMemory old.memory new.memory

leaves_store : (old r : Runtime) (at : ℕ) (bytes : List ℕ) → Leaves old r → Leaves old (record r { memory = stored (see r.view) r.memory at bytes })
leaves_store old r at bytes h =
    let same = stored_same (see r.view) r.memory at bytes in
    let m = h.memory in
    record {
      only = ap (λ (s : Runtime). record s { memory = stored (see r.view) r.memory at bytes }) h.only;
      memory = record { base = same.base ∙ m.base; pages = same.pages ∙ m.pages; rights = same.rights ∙ m.rights; bytes = same.bytes ∙ m.bytes };
    }

pub functions_are_code : FunctionsKeepTouched → FunctionsAreCode
functions_are_code keep s call sp =
    let ran = (run_all call.entries sp s.notifies (begun s)).runtime in
    let leaves = all_functions (Leaves (begun s)) (λ entries top notify r h. one_function (Leaves (begun s)) (leaves_store (begun s)) entries top notify r h) call.entries sp s.notifies (begun s)
    (record { only = refl; memory = record { base = refl; pages = refl; rights = refl; bytes = refl } }) in
    let only = leaves.only in
    let m = leaves.memory in
    record {
      parts = record {
        layout = ap (λ (x : Runtime). x.layout) only;
        base = m.base;
        count = m.pages;
        map = ap (λ (x : Runtime). x.pages) only;
        view = ap (λ (x : Runtime). x.view) only;
        descriptors = ap (λ (x : Runtime). x.descriptors) only;
        kept = ap (λ (x : Runtime). x.kept) only;
        notifies = ap (λ (x : Runtime). x.notifies) only;
        gone = ap (λ (x : Runtime). x.gone) only;
        mapped = ap (λ (x : Runtime). x.mapped) only;
        os_virtual = ap (λ (x : Runtime). x.os_virtual) only;
        room = ap (λ (x : Runtime). x.room) only;
      };
      rights = m.rights;
      bytes = m.bytes;
      touched = all_functions (λ (x : Runtime). StayTouched (begun s).memory x.memory) (λ entries top notify r h page t. keep entries top notify r page (h page t)) call.entries sp s.notifies (begun s) (λ page t. t);
    }
