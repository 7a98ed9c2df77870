-- Functions that run one after another.
use Rattle.std.proofs.Common.{◌≡◌, ℕ, ◌+◌, ◌-◌, ◌/◌, ◌≤◌, ◌<◌, Bool, true, false, List, [], ◌∷◌, length, get_or, drop, refl, sym, ap, subst, inl, inr, ◌∙◌, arith, Some, None}
use Rattle.std.specs.Prelude.{Result, Ok, Err, if◌then◌else◌}
use Rattle.std.proofs.lemmas.List.{drop_more, drop_all}
use Rattle.guest_memory.specs.Pages.{Pages, holds, is_touched, page_of, touched_at}
use Rattle.memory_map.specs.declared.descriptor.Descriptor.{Descriptor}
use Rattle.event_queue.specs.declared.event.Notify.{Notify}
use Rattle.map_faults.specs.Grounds.{Call}
use Rattle.map_faults.specs.Faults.{first_fault}
use Rattle.virtual_map.specs.States.{Runtime, SameParts}
use Rattle.runtime_turn.specs.declared.halt.Halt.{Halt}
use Rattle.runtime_turn.specs.declared.function.CallEnd.{CallEnd}
use Rattle.runtime_turn.specs.declared.function.CallEnd.TheVariants.{Halted, LacksMemory}
use Rattle.runtime_turn.specs.Functions.{ground_of, RunGives, Ran, run_function, run_lacks, registers_for, most_steps}
use Rattle.map_transition.specs.Transitions.{AllGive, UnlessLacking, plus_steps, after_steps, followed_by, run_all, some_lacks}
use Rattle.map_transition.proofs.TouchedLemmas.{function_keeps, function_few}

-- ---- what stays

pub same_refl : (r : Runtime) → SameParts r r
same_refl r = record { layout = refl; base = refl; count = refl; map = refl; view = refl; descriptors = refl; kept = refl; notifies = refl; gone = refl; mapped = refl; os_virtual = refl; room = refl }

pub same_then : (a b c : Runtime) → SameParts a b → SameParts b c → SameParts a c
same_then a b c h k = record {
  layout = k.layout ∙ h.layout;
  base = k.base ∙ h.base;
  count = k.count ∙ h.count;
  map = k.map ∙ h.map;
  view = k.view ∙ h.view;
  descriptors = k.descriptors ∙ h.descriptors;
  kept = k.kept ∙ h.kept;
  notifies = k.notifies ∙ h.notifies;
  gone = k.gone ∙ h.gone;
  mapped = k.mapped ∙ h.mapped;
  os_virtual = k.os_virtual ∙ h.os_virtual;
  room = k.room ∙ h.room;
}

-- at most the memory has changed
pub only_memory : (a b : Runtime) → SameParts a b → b ≡ record a { memory = b.memory }
only_memory a b h = λ i. record {
  layout = h.layout i;
  memory = b.memory;
  pages = h.map i;
  view = h.view i;
  descriptors = h.descriptors i;
  kept = h.kept i;
  notifies = h.notifies i;
  gone = h.gone i;
  mapped = h.mapped i;
  os_virtual = h.os_virtual i;
  room = h.room i;
}

pub accepted_then : (a b : Runtime) (call : Call) → SameParts a b → first_fault (ground_of a) call ≡ None → first_fault (ground_of b) call ≡ None
accepted_then a b call h e = ap (λ (r : Runtime). first_fault (ground_of r) call) (only_memory a b h) ∙ e

-- each page that is touched in one memory is touched in the other
abbrev pub Keeps : Pages → Pages → Type 0
Keeps a b = (at : ℕ) → touched_at a at ≡ true → touched_at b at ≡ true

touched_by : (a b : Pages) (at : ℕ) (t : Bool) → b.base ≡ a.base → b.pages ≡ a.pages → holds a at ≡ t → ((page : ℕ) → is_touched a page ≡ true → is_touched b page ≡ true)
    → (if t then is_touched a (page_of a at) else false) ≡ true → touched_at b at ≡ true
unfolding touched_at
touched_by a b at true base count e keep h =
    let there : holds b at ≡ true = rw (base, count) e in
    let page : page_of b at ≡ page_of a at = ap (λ (n : ℕ). (at - n) / 4096) base in
    rw there (rw page (keep (page_of a at) h))
touched_by a b at false base count e keep h = let bad : ⊥ = cc in absurd bad

pub keeps_pages : (a b : Pages) → b.base ≡ a.base → b.pages ≡ a.pages → ((page : ℕ) → is_touched a page ≡ true → is_touched b page ≡ true) → Keeps a b
unfolding touched_at
keeps_pages a b base count keep = λ at h. touched_by a b at (holds a at) base count refl keep h

-- ---- steps

plus_twice : (a b : ℕ) (e : Result ℕ Halt) → plus_steps a (plus_steps b e) ≡ plus_steps (a + b) e
plus_twice a b (Ok steps) = let sum : a + (b + steps) ≡ a + b + steps = omega arith in ap (λ (n : ℕ). Ok n) sum
plus_twice a b (Err halt) = refl

no_steps : (e : Result ℕ Halt) → plus_steps 0 e ≡ e
no_steps (Ok steps) = let sum : 0 + steps ≡ steps = omega arith in ap (λ (n : ℕ). Ok n) sum
no_steps (Err halt) = refl

-- what is left of all functions ends as all of them, and lacks memory only where they do
pub record Left (entries : List Descriptor) (sp steps : ℕ) (notifies : List Notify) (r : Runtime) (all : List Notify) (r0 : Runtime) : Type 0 where
  pub same : after_steps steps (run_all entries sp notifies r) ≡ run_all entries sp all r0
  pub lacks : some_lacks entries sp notifies r → some_lacks entries sp all r0

pub begins : (entries : List Descriptor) (sp : ℕ) (all : List Notify) (r : Runtime) → Left entries sp 0 all r all r
begins entries sp all r = record {
  same = ap (λ (e : Result ℕ Halt). record { end = e; runtime = (run_all entries sp all r).runtime }) (no_steps (run_all entries sp all r).end);
  lacks = λ h. h;
}

module _ (entries : List Descriptor) (sp steps : ℕ) (notify : Notify) (notifies : List Notify) (r : Runtime) (all : List Notify) (r0 : Runtime) (h : Left entries sp steps (notify ∷ notifies) r all r0) where
  returned_first : (count : ℕ) (r2 : Runtime) → record { halt = None; steps = count; runtime = r2 } ≡ run_function entries sp notify r → Left entries sp (steps + count) notifies r2 all r0
  unfolding run_all some_lacks
  returned_first count r2 e = record {
    same =
        ap (λ (e : Result ℕ Halt). record { end = e; runtime = (run_all entries sp notifies r2).runtime }) (sym (plus_twice steps count (run_all entries sp notifies r2).end))
        ∙ ap (λ (ran : Ran). after_steps steps (followed_by ran.halt ran.steps ran.runtime (run_all entries sp notifies ran.runtime))) e
        ∙ h.same;
    lacks = λ z. h.lacks (inr (subst (λ (ran : Ran). (ran.halt ≡ None) × some_lacks entries sp notifies ran.runtime) e (refl, z)));
  }

  halted_first : (halt : Halt) (r2 : Runtime) → record { halt = Some halt; steps = 0; runtime = r2 } ≡ run_function entries sp notify r → record { end = Err halt; runtime = r2 } ≡ run_all entries sp all r0
  unfolding run_all
  halted_first halt r2 e = ap (λ (ran : Ran). after_steps steps (followed_by ran.halt ran.steps ran.runtime (run_all entries sp notifies ran.runtime))) e ∙ h.same

  lacking_first : run_lacks most_steps entries (registers_for r.layout sp notify) notify.function r → some_lacks entries sp all r0
  unfolding some_lacks
  lacking_first e = h.lacks (inl e)

module _ (entries : List Descriptor) (sp steps : ℕ) (i : ℕ) (notify : Notify) (r : Runtime) (r0 : Runtime) (below : i < length r0.notifies) (is : notify ≡ get_or r0.notifies i notify)
    (h : Left entries sp steps (drop i r0.notifies) r r0.notifies r0) where
  opened : Left entries sp steps (notify ∷ drop (i + 1) r0.notifies) r r0.notifies r0
  opened =
      let first : drop i r0.notifies ≡ notify ∷ drop (i + 1) r0.notifies = drop_more r0.notifies i notify below ∙ ap (λ (n : Notify). n ∷ drop (i + 1) r0.notifies) (sym is) in
      subst (λ (ns : List Notify). Left entries sp steps ns r r0.notifies r0) first h

  pub returned : (count : ℕ) (r2 : Runtime) → record { halt = None; steps = count; runtime = r2 } ≡ run_function entries sp notify r → Left entries sp (steps + count) (drop (i + 1) r0.notifies) r2 r0.notifies r0
  returned count r2 e = returned_first entries sp steps notify (drop (i + 1) r0.notifies) r r0.notifies r0 opened count r2 e

  pub stopped : (end : CallEnd) (r2 : Runtime) → RunGives (Err end) entries sp notify r r2 → AllGive (Err end) entries sp r0 r2
  stopped (Halted halt) r2 e = halted_first entries sp steps notify (drop (i + 1) r0.notifies) r r0.notifies r0 opened halt r2 e
  stopped LacksMemory r2 e = lacking_first entries sp steps notify (drop (i + 1) r0.notifies) r r0.notifies r0 opened e

pub done : (entries : List Descriptor) (sp steps i : ℕ) (r : Runtime) (all : List Notify) (r0 : Runtime) → length all ≤ i → Left entries sp steps (drop i all) r all r0 → record { end = Ok steps; runtime = r } ≡ run_all entries sp all r0
unfolding run_all
done entries sp steps i r all r0 l h =
    let none : drop i all ≡ [] = drop_all i all l in
    let k : Left entries sp steps [] r all r0 = subst (λ (ns : List Notify). Left entries sp steps ns r all r0) none h in
    let sum : steps ≡ steps + 0 = omega arith in
    ap (λ (n : ℕ). record { end = Ok n; runtime = r }) sum ∙ k.same

pub ran_keeps : (entries : List Descriptor) (sp count : ℕ) (notify : Notify) (r r2 : Runtime) → SameParts r r2 → record { halt = None; steps = count; runtime = r2 } ≡ run_function entries sp notify r → Keeps r.memory r2.memory
ran_keeps entries sp count notify r r2 parts e = keeps_pages r.memory r2.memory parts.base parts.count (λ page h. subst (λ (ran : Ran). is_touched ran.runtime.memory page ≡ true) (sym e) (function_keeps entries sp notify r page h))

pub ran_few : (entries : List Descriptor) (sp count : ℕ) (notify : Notify) (r r2 : Runtime) → record { halt = None; steps = count; runtime = r2 } ≡ run_function entries sp notify r → count ≤ most_steps
ran_few entries sp count notify r r2 e = subst (λ (ran : Ran). ran.steps ≤ most_steps) (sym e) (function_few entries sp notify r)

-- So it is where a function is halted.
pub stopped_keeps : (entries : List Descriptor) (sp : ℕ) (notify : Notify) (before : Pages) (r r2 : Runtime) (end : CallEnd) → SameParts r r2 → Keeps before r.memory → RunGives (Err end) entries sp notify r r2 → UnlessLacking (Err end) (Keeps before r2.memory)
stopped_keeps entries sp notify before r r2 (Halted halt) parts keep e = λ at h.
    keeps_pages r.memory r2.memory parts.base parts.count (λ page k. subst (λ (ran : Ran). is_touched ran.runtime.memory page ≡ true) (sym e) (function_keeps entries sp notify r page k)) at (keep at h)
stopped_keeps entries sp notify before r r2 LacksMemory parts keep e = tt
