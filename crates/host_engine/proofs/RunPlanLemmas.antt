-- The plan of `run`, stage by stage.
use Rattle.std.proofs.Common.{◌≡◌, ℕ, List, Option, Result, Ok, Err, refl, sym, subst}
use Rattle.uh_base.specs.Told.{FileMap}
use Rattle.host_script.specs.Faults.{Place}
use Rattle.host_script.specs.Plain.{Plain}
use Rattle.host_engine.specs.Unbuilt.{runnable}
use Rattle.host_engine.specs.declared.assembly.Unassembled.{Unassembled}
use Rattle.host_engine.specs.declared.refusal.Refusal.{Refusal}
use Rattle.host_engine.specs.Assemblies.{Made, all_made}
use Rattle.host_engine.specs.Commands.{script_file, script_plan, store_read, texts_judged, images_judged, run_answer, place_text, plan_of}
use Rattle.host_engine.specs.Gives.{CommandGives}
use Rattle.host_engine.specs.Outside.{outside}
use Rattle.host_engine.specs.Plans.{Plan, Over, ScriptRefused, IsFile, Leads}
use Rattle.host_engine.specs.ScriptRuns.{run_of}
use Rattle.host_engine.specs.Stages.{Refuses, IsWhy, IsScriptRefusal, refusal_of, Onward}
use Rattle.host_engine.specs.Words.{Run}
use Rattle.host_engine.proofs.PlanLemmas.{here, onward, trans}
use Rattle.host_engine.proofs.GivesLemmas.{not_assembled, script_words, refused_past}
use Rattle.host_engine.proofs.InputLemmas.{takes}

pub script_had : (told : Option FileMap) (name bytes : List ℕ) (script : Plain) → IsFile told (script_file name) bytes → runnable bytes ≡ Ok script → Leads told (plan_of (Run name)) (script_plan (Ok script))
script_had told name bytes script is says =
    onward told (script_file name) (λ document. script_plan (runnable document)) bytes (script_plan (Ok script)) is
    (subst (λ (r : Result Plain Place). Leads told (script_plan r) (script_plan (Ok script))) (sym says) (here told (script_plan (Ok script))))

pub script_refused : (told : Option FileMap) (name bytes : List ℕ) (place : Place) (refusal : Refusal) → IsFile told (script_file name) bytes → runnable bytes ≡ Err place → IsScriptRefusal (place_text place) refusal → (told' : Option FileMap) (f f' l l' : ℕ)
    (out : Option (List ℕ)) (p : ℕ) → CommandGives (plan_of (Run name)) (Err refusal) (outside told f l out p) (outside told' f' l' out p)
script_refused told name bytes place refusal is says words told' f f' l l' out p =
    let over : Leads told (script_plan (runnable bytes)) (Over (ScriptRefused (place_text place))) =
    subst (λ (r : Result Plain Place). Leads told (script_plan r) (Over (ScriptRefused (place_text place)))) (sym says) (here told (Over (ScriptRefused (place_text place)))) in
    script_words (plan_of (Run name)) (place_text place) refusal tt words told told' f f' l l' p p out out (onward told (script_file name) (λ document. script_plan (runnable document)) bytes (Over (ScriptRefused (place_text place))) is over) refl

-- the script that was had, and then its images
pub run_leads : (plan mid rest : Plan) (told now : Option FileMap) (f g l m : ℕ) → Onward told now f g l m → Leads told plan mid → Leads now mid rest → Leads told plan rest
run_leads plan mid rest told now f g l m on first more = trans told plan mid rest first (subst (λ (t : Option FileMap). Leads t mid rest) on.told_same more)

-- the images that were had, and then the store
module _ (plan : Plan) (script : Plain) (all : List Made) (told now : Option FileMap) (f g l m : ℕ) (on : Onward told now f g l m) (leads : Leads told plan (images_judged script all)) where
  pub store_had : (store : Option (List ℕ)) → ((next : Option (List ℕ) → Plan) → Leads now (store_read script.store next) (next store)) → Leads told plan (texts_judged script store (all_made all))
  store_had store had = run_leads plan (images_judged script all) (texts_judged script store (all_made all)) told now f g l m on leads (had (λ given. texts_judged script given (all_made all)))

  pub store_unread : (refusal : Refusal) (f' l' : ℕ) → ((next : Option (List ℕ) → Plan) → Refuses (store_read script.store next) refusal now g m f' l') → Refuses plan refusal told f l f' l'
  store_unread refusal f' l' refused = refused_past plan (images_judged script all) refusal told now f g f' l m l' on leads (refused (λ given. texts_judged script given (all_made all)))

-- a text of an image wasn't assembled
pub text_refused : (script : Plain) (store : Option (List ℕ)) (fault : Unassembled) (wanted : Result (List (List ℕ)) (List ℕ)) (told : Option FileMap) (f f' l l' : ℕ) → Leads told (script_plan (Ok script)) (texts_judged script store wanted) → IsWhy fault wanted
    → Refuses (script_plan (Ok script)) (refusal_of fault) told f l f' l'
text_refused script store fault wanted told f f' l l' leads is = λ told' out p. not_assembled (script_plan (Ok script)) (texts_judged script store) (takes script) (λ text. refl) wanted fault is told told' f f' l l' out p leads

pub all_assembled : (script : Plain) (store : Option (List ℕ)) (images : List (List ℕ)) (wanted : Result (List (List ℕ)) (List ℕ)) (told : Option FileMap) → Leads told (script_plan (Ok script)) (texts_judged script store wanted) → wanted ≡ Ok images
    → Leads told (script_plan (Ok script)) (Over (run_answer (run_of script (record { images = images; store = store }))))
all_assembled script store images wanted told leads is = subst (λ (w : Result (List (List ℕ)) (List ℕ)). Leads told (script_plan (Ok script)) (texts_judged script store w)) is leads
