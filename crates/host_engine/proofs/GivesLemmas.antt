-- What is answered behind files that were had is answered of the whole plan.
use Rattle.std.proofs.Common.{◌≡◌, ◌≤◌, ℕ, Bool, true, false, List, Option, Some, None, Result, Err, refl, sym, ap, subst, ◌∙◌, inl, inr, arith}
use Rattle.std.specs.Prelude.{◌⊎◌, string_bytes}
use Rattle.uh_base.specs.Counts.{Rose}
use Rattle.uh_base.specs.Told.{FileMap, Lacks, IsLonger, grown, GrownByPart}
use Rattle.host_engine.specs.declared.assembly.Unassembled.{Unassembled}
use Rattle.host_engine.specs.declared.assembly.Unassembled.TheVariants as whys
use Rattle.host_script.specs.declared.fault.ScriptKind.TheVariants as kinds
use Rattle.host_engine.specs.declared.refusal.Refusal.{Refusal}
use Rattle.host_engine.specs.declared.refusal.Refusal.TheVariants as why
use Rattle.host_engine.specs.Commands.{run_answer, place_text}
use Rattle.host_engine.specs.Gives.{CommandGives, PutWhole, PutPart, TakesMemory}
use Rattle.host_engine.specs.Jobs.{bytes_of}
use Rattle.host_engine.specs.Outside.{outside}
use Rattle.host_engine.specs.Plans.{Wanted, Way, ByLines, Plan, Reads, Over, Prints, ScriptRefused, NotAssembled, Leads, IsMissing}
use Rattle.host_engine.specs.ScriptRuns.{Run, Ran, RunGives}
use Rattle.host_engine.specs.declared.script_run.Outcome.{Outcome}
use Rattle.host_engine.specs.declared.script_run.Outcome.TheVariants as outcomes
use Rattle.host_engine.specs.Stages.{Onward, Refuses, IsWhy, IsScriptRefusal, refusal_of}
use Rattle.host_engine.proofs.PlanLemmas.{here, trans, read_past, missing_past, lacked, too_long}

pub rose_from : (first before behind : ℕ) → first ≤ before → Rose before behind → Rose first behind
rose_from first before behind up (inl rose) = inl (omega arith)
rose_from first before behind up (inr most) = inr most

pub takes_past : (told : Option FileMap) (plan rest : Plan) → Leads told plan rest → TakesMemory rest → TakesMemory plan
unfolding Leads
takes_past told (Reads wanted next) rest leads h = tt
takes_past told (Over answer) rest leads h = subst TakesMemory leads h

module _ (plan rest : Plan) (told told' : Option FileMap) (f g f' l m l' : ℕ) (out out' : Option (List ℕ)) (p p' : ℕ) (up : f ≤ g) (longs_up : l ≤ m) (leads : Leads told plan rest) where
  part_past : (way : Way) → PutPart way rest (outside told g m out p) (outside told' f' l' out' p') → PutPart way plan (outside told f l out p) (outside told' f' l' out' p')
  part_past way h = record { text = h.text; halted = h.halted; comes = trans told plan rest (Over (Prints way h.text h.halted)) leads h.comes; put = h.put }

  cause_past : (wanted : Wanted) → Rose g f' ⊎ (IsMissing told rest wanted × Lacks told wanted.name) → Rose f f' ⊎ (IsMissing told plan wanted × Lacks told wanted.name)
  cause_past wanted (inl rose) = inl (rose_from f g f' up rose)
  cause_past wanted (inr h) = inr (missing_past told plan rest wanted leads h.0, h.1)

  unput_past : (out' ≡ out) ⊎ PutPart ByLines rest (outside told g m out p) (outside told' f' l' out' p') → (out' ≡ out) ⊎ PutPart ByLines plan (outside told f l out p) (outside told' f' l' out' p')
  unput_past (inl same) = inl same
  unput_past (inr part) = inr (part_past ByLines part)

  pub gives_past : (refusal : Refusal) → CommandGives rest (Err refusal) (outside told g m out p) (outside told' f' l' out' p') → CommandGives plan (Err refusal) (outside told f l out p) (outside told' f' l' out' p')
  gives_past (why.Read name) h = record {
    wanted = h.wanted;
    named = h.named;
    is_read = read_past told plan rest h.wanted leads h.is_read;
    cause = cause_past h.wanted h.cause;
    nothing_put = h.nothing_put;
  }
  gives_past (why.Size name) h = record {
    wanted = h.wanted;
    named = h.named;
    is_read = read_past told plan rest h.wanted leads h.is_read;
    rose = rose_from l m l' longs_up h.rose;
    missing = missing_past told plan rest h.wanted leads h.missing;
    longer = h.longer;
    nothing_put = h.nothing_put;
  }
  gives_past (why.Script text) h = (trans told plan rest _ leads h.0, h.1)
  gives_past (why.Assembly text) h = (trans told plan rest _ leads h.0, h.1)
  gives_past why.Write h = (h.0, (h.1.0, part_past h.1.0 h.1.1))
  gives_past why.Memory h = (takes_past told plan rest leads h.0, unput_past h.1)

pub refused_past : (plan rest : Plan) (refusal : Refusal) (told mid : Option FileMap) (f g f' l m l' : ℕ) → Onward told mid f g l m → Leads told plan rest → Refuses rest refusal mid g m f' l' → Refuses plan refusal told f l f' l'
refused_past plan rest refusal told mid f g f' l m l' on leads h = λ told' out p.
    gives_past plan rest told told' f g f' l m l' out out p p on.faults_up on.longs_up leads refusal (subst (λ (t : Option FileMap). CommandGives rest (Err refusal) (outside t g m out p) (outside told' f' l' out p)) on.told_same (h told' out p))

pub onward_past : (told mid behind : Option FileMap) (f g h l m n : ℕ) → Onward told mid f g l m → Onward mid behind g h m n → Onward told behind f h l n
onward_past told mid behind f g h l m n a b = record {
  told_same = b.told_same ∙ a.told_same;
  faults_up = omega (arith, a.faults_up, b.faults_up);
  longs_up = omega (arith, a.longs_up, b.longs_up);
}

-- ---- a file that isn't had

module _ (wanted : Wanted) (next : List ℕ → Plan) (told told' : Option FileMap) (name : List ℕ) (f f' l l' : ℕ) (out : Option (List ℕ)) (p : ℕ) (named : name ≡ wanted.name) where
  unread_cause : Rose f f' ⊎ Lacks told wanted.name → Rose f f' ⊎ (IsMissing told (Reads wanted next) wanted × Lacks told wanted.name)
  unread_cause (inl rose) = inl rose
  unread_cause (inr lacks) = inr (lacked told wanted next lacks, lacks)

  pub unread : Rose f f' ⊎ Lacks told wanted.name → CommandGives (Reads wanted next) (Err (why.Read name)) (outside told f l out p) (outside told' f' l' out p)
  unread cause = record { wanted = wanted; named = named; is_read = (next, here told (Reads wanted next)); cause = unread_cause cause; nothing_put = refl }

  pub long : Rose l l' → IsLonger told wanted.name wanted.most → CommandGives (Reads wanted next) (Err (why.Size name)) (outside told f l out p) (outside told' f' l' out p)
  long rose longer = record {
    wanted = wanted;
    named = named;
    is_read = (next, here told (Reads wanted next));
    rose = rose;
    missing = too_long told wanted next longer;
    longer = longer;
    nothing_put = refl;
  }

-- ---- one put

module _ (plan : Plan) (way : Way) (text : List ℕ) (halted : Bool) (told told' : Option FileMap) (f f' l l' p p' : ℕ) (old new : Option (List ℕ)) (leads : Leads told plan (Over (Prints way text halted))) where
  pub put_whole : new ≡ grown old text → PutWhole plan halted (outside told f l old p) (outside told' f' l' new p')
  put_whole put = record { way = way; text = text; comes = leads; put = put }

  pub put_part : GrownByPart old text new → PutPart way plan (outside told f l old p) (outside told' f' l' new p')
  put_part part = record { text = text; halted = halted; comes = leads; put = part }

-- ---- texts that aren't assembled

pub not_assembled : (plan : Plan) (rest : Result (List (List ℕ)) (List ℕ) → Plan) → TakesMemory plan → ((text : List ℕ) → rest (Err text) ≡ Over (NotAssembled text)) → (wanted : Result (List (List ℕ)) (List ℕ)) (fault : Unassembled)
    → IsWhy fault wanted → (told told' : Option FileMap) (f f' l l' : ℕ) (out : Option (List ℕ)) (p : ℕ) → Leads told plan (rest wanted) → CommandGives plan (Err (refusal_of fault)) (outside told f l out p) (outside told' f' l' out p)
not_assembled plan rest takes over wanted (whys.Refused text) is told told' f f' l l' out p leads =
    let same : rest wanted ≡ Over (NotAssembled (string_bytes text)) = ap rest is ∙ over (string_bytes text) in
    (subst (Leads told plan) same leads, refl)
not_assembled plan rest takes over wanted whys.Memory is told told' f f' l l' out p leads = (takes, inl refl)

-- ---- scripts that are refused

pub script_words : (plan : Plan) (wanted : List ℕ) (refusal : Refusal) → TakesMemory plan → IsScriptRefusal wanted refusal → (told told' : Option FileMap) (f f' l l' p p' : ℕ) (old new : Option (List ℕ)) → Leads told plan (Over (ScriptRefused wanted)) → new ≡ old
    → CommandGives plan (Err refusal) (outside told f l old p) (outside told' f' l' new p')
script_words plan wanted (why.Script text) takes is told told' f f' l l' p p' old new leads same = (subst (λ (t : List ℕ). Leads told plan (Over (ScriptRefused t))) (sym is) leads, same)
script_words plan wanted why.Memory takes is told told' f f' l l' p p' old new leads same = (takes, inl same)
script_words plan wanted (why.Read name) takes is told told' f f' l l' p p' old new leads same = absurd is
script_words plan wanted (why.Size name) takes is told told' f f' l l' p p' old new leads same = absurd is
script_words plan wanted (why.Assembly text) takes is told told' f f' l l' p p' old new leads same = absurd is
script_words plan wanted why.Write takes is told told' f f' l l' p p' old new leads same = absurd is

-- ---- runs

module _ (plan : Plan) (whole : Run) (told told' : Option FileMap) (f f' l l' p p' : ℕ) (old new : Option (List ℕ)) (leads : Leads told plan (Over (run_answer (Some whole)))) where
  pub ran_whole : (halted : Bool) → Ran whole halted old new → PutWhole plan halted (outside told f l old p) (outside told' f' l' new p')
  ran_whole halted ran = record {
    way = ByLines;
    text = bytes_of whole.lines;
    comes = subst (λ (b : Bool). Leads told plan (Over (Prints ByLines (bytes_of whole.lines) b))) (sym ran.is_halted) leads;
    put = ran.put;
  }

  pub ran_part : GrownByPart old (bytes_of whole.lines) new → PutPart ByLines plan (outside told f l old p) (outside told' f' l' new p')
  ran_part part = record { text = bytes_of whole.lines; halted = whole.halted; comes = leads; put = part }

-- ---- the run of a script, which has none where its store is refused

-- the outcome of a run whose lines were put whole
abbrev pub outcome_of : Bool → Outcome
outcome_of false = outcomes.Done
outcome_of true = outcomes.Halted

not_whole : (halted : Bool) → (outcome_of halted ≡ outcomes.Store) ⊎ (outcome_of halted ≡ outcomes.Memory) → ⊥
not_whole false (inl is) = cc
not_whole false (inr is) = cc
not_whole true (inl is) = cc
not_whole true (inr is) = cc

not_write : (outcomes.Write ≡ outcomes.Store) ⊎ (outcomes.Write ≡ outcomes.Memory) → ⊥
not_write (inl is) = cc
not_write (inr is) = cc

module _ (plan : Plan) (told told' : Option FileMap) (f f' l l' p p' : ℕ) (old new : Option (List ℕ)) where
  pub run_whole : (run : Option Run) (halted : Bool) → Leads told plan (Over (run_answer run)) → RunGives run (outcome_of halted) old p new p' → PutWhole plan halted (outside told f l old p) (outside told' f' l' new p')
  run_whole (Some whole) false leads ran = ran_whole plan whole told told' f f' l l' p p' old new leads false ran
  run_whole (Some whole) true leads ran = ran_whole plan whole told told' f f' l l' p p' old new leads true ran
  run_whole None halted leads ran = absurd (not_whole halted ran.0)

  pub run_write : (run : Option Run) → Leads told plan (Over (run_answer run)) → RunGives run outcomes.Write old p new p' → CommandGives plan (Err why.Write) (outside told f l old p) (outside told' f' l' new p')
  run_write (Some whole) leads ran = (ran.0, (ByLines, ran_part plan whole told told' f f' l l' p p' old new leads ran.1))
  run_write None leads ran = absurd (not_write ran.0)

  pub run_memory : (run : Option Run) → TakesMemory plan → Leads told plan (Over (run_answer run)) → RunGives run outcomes.Memory old p new p' → CommandGives plan (Err why.Memory) (outside told f l old p) (outside told' f' l' new p')
  run_memory (Some whole) takes leads ran = (takes, inr (ran_part plan whole told told' f f' l l' p p' old new leads ran))
  run_memory None takes leads ran = (takes, inl ran.1)

  pub run_refused : (run : Option Run) (refusal : Refusal) → TakesMemory plan → IsScriptRefusal (place_text (0, kinds.Store)) refusal → Leads told plan (Over (run_answer run)) → RunGives run outcomes.Store old p new p'
      → CommandGives plan (Err refusal) (outside told f l old p) (outside told' f' l' new p')
  run_refused (Some whole) refusal takes is leads ran = absurd ran
  run_refused None refusal takes is leads ran = script_words plan (place_text (0, kinds.Store)) refusal takes is told told' f f' l l' p p' old new leads ran.1
