-- The plans of `build` and `flat`: one file, and one put.
use Rattle.std.proofs.Common.{◌≡◌, ℕ, Bool, false, List, Option, Ok, Err, refl, sym, subst, inl}
use Rattle.std.specs.Prelude.{string_bytes}
use Rattle.uh_base.specs.Told.{FileMap, grown, GrownByPart}
use Rattle.host_engine.specs.declared.assembly.Unassembled.{Unassembled}
use Rattle.host_engine.specs.declared.assembly.Unassembled.TheVariants as whys
use Rattle.host_engine.specs.Assemblies.{Made, in_words, assembled_file}
use Rattle.host_engine.specs.Commands.{code_file, build_answer, flat_answer, halts, plan_of}
use Rattle.host_engine.specs.Executions.{flat_end}
use Rattle.host_engine.specs.Gives.{CommandGives, PutWhole, PutPart}
use Rattle.host_engine.specs.Lines.{flat_text}
use Rattle.host_engine.specs.Outside.{outside}
use Rattle.host_engine.specs.Plans.{Way, AtOnce, Over, Prints, IsFile, Leads}
use Rattle.host_engine.specs.Stages.{IsWhy, refusal_of}
use Rattle.host_engine.specs.Words.{Build, Flat}
use Rattle.host_engine.proofs.PlanLemmas.{here, onward}
use Rattle.host_engine.proofs.GivesLemmas.{put_whole, put_part}

-- ---- build

module _ (told : Option FileMap) (name file : List ℕ) where
  reads : (made : Made) → IsFile told (code_file name) file → in_words name (assembled_file file) ≡ made → Leads told (plan_of (Build name)) (Over (build_answer made))
  reads made is same =
      onward told (code_file name) (λ bytes. Over (build_answer (in_words name (assembled_file bytes)))) file (Over (build_answer made)) is
      (subst (λ (m : Made). Leads told (Over (build_answer m)) (Over (build_answer made))) (sym same) (here told (Over (build_answer made))))

  pub build_refused : (fault : Unassembled) → IsFile told (code_file name) file → IsWhy fault (in_words name (assembled_file file)) → (told' : Option FileMap) (f f' l l' : ℕ) (out : Option (List ℕ)) (p : ℕ)
      → CommandGives (plan_of (Build name)) (Err (refusal_of fault)) (outside told f l out p) (outside told' f' l' out p)
  build_refused (whys.Refused text) is fault told' f f' l l' out p = (reads (Err (string_bytes text)) is fault, refl)
  build_refused whys.Memory is fault told' f f' l l' out p = (tt, inl refl)

  module _ (image : List ℕ) (is : IsFile told (code_file name) file) (made : in_words name (assembled_file file) ≡ Ok image) (told' : Option FileMap) (f f' l l' p p' : ℕ) (old new : Option (List ℕ)) where
    pub built_whole : new ≡ grown old image → PutWhole (plan_of (Build name)) false (outside told f l old p) (outside told' f' l' new p')
    built_whole put = put_whole (plan_of (Build name)) AtOnce image false told told' f f' l l' p p' old new (reads (Ok image) is made) put

    pub built_part : GrownByPart old image new → (way : Way) × PutPart way (plan_of (Build name)) (outside told f l old p) (outside told' f' l' new p')
    built_part part = (AtOnce, put_part (plan_of (Build name)) AtOnce image false told told' f f' l l' p p' old new (reads (Ok image) is made) part)

-- ---- flat

module _ (told : Option FileMap) (name file : List ℕ) (bound : ℕ) (is : IsFile told (code_file name) file) (halted : Bool) (text : List ℕ) (ends : halted ≡ halts (flat_end file bound).cause) (says : text ≡ flat_text file bound) (told' : Option FileMap) (f f' l l' p p' : ℕ)
    (old new : Option (List ℕ)) where
  runs : Leads told (plan_of (Flat name bound)) (Over (Prints AtOnce text halted))
  runs =
      onward told (code_file name) (λ bytes. Over (flat_answer bytes bound)) file (Over (Prints AtOnce text halted)) is
      (subst (λ (t : List ℕ). Leads told (Over (flat_answer file bound)) (Over (Prints AtOnce t halted))) (sym says)
      (subst (λ (b : Bool). Leads told (Over (flat_answer file bound)) (Over (Prints AtOnce (flat_text file bound) b))) (sym ends) (here told (Over (flat_answer file bound)))))

  pub flat_whole : new ≡ grown old text → PutWhole (plan_of (Flat name bound)) halted (outside told f l old p) (outside told' f' l' new p')
  flat_whole put = put_whole (plan_of (Flat name bound)) AtOnce text halted told told' f f' l l' p p' old new runs put

  pub flat_part : GrownByPart old text new → (way : Way) × PutPart way (plan_of (Flat name bound)) (outside told f l old p) (outside told' f' l' new p')
  flat_part part = (AtOnce, put_part (plan_of (Flat name bound)) AtOnce text halted told told' f f' l l' p p' old new runs part)
