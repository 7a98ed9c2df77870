-- Images under way: their files, and their texts.
use Rattle.std.proofs.Common.{◌≡◌, ℕ, zero, suc, List, [], ◌∷◌, ◌++◌, Option, Some, None, Result, Ok, Err, length, get_or, drop, map, ◌<◌, ◌≤◌, ◌+◌, refl, sym, ap, subst, ◌∙◌, append_assoc, append-nil, arith}
use Rattle.std.specs.Prelude.{string_bytes}
use Rattle.std.proofs.lemmas.List.{drop_more, drop_all, map-append}
use Rattle.uh_base.specs.Told.{FileMap}
use Rattle.guest_build.specs.Assembled.{assembled}
use Rattle.host_script.specs.Forms.{IsOrigin, AreImages}
use Rattle.host_script.specs.Plain.{Plain}
use Rattle.host_script.specs.declared.script.ImageSpec.{ImageSpec}
use Rattle.host_script.specs.declared.script.Origin.{Origin}
use Rattle.host_script.specs.declared.script.Origin.TheVariants.{File, Text}
use Rattle.host_engine.specs.declared.assembly.Unassembled.{Unassembled}
use Rattle.host_engine.specs.declared.assembly.Unassembled.TheVariants as whys
use Rattle.host_engine.specs.declared.code.Code.{Code}
use Rattle.host_engine.specs.declared.refusal.Refusal.{Refusal}
use Rattle.host_engine.specs.Assemblies.{Made, in_words, before, before_all, all_made}
use Rattle.host_engine.specs.Commands.{code_file, store_file, origin_read, images_read, store_read, run_answer, texts_judged, images_judged, script_plan}
use Rattle.host_engine.specs.Gives.{TakesMemory}
use Rattle.host_engine.specs.Plans.{Plan, Over, IsFile, Leads}
use Rattle.host_engine.specs.ScriptRuns.{Run, run_of}
use Rattle.host_engine.specs.Stages.{Onward, Refuses, IsWhy, made}
use Rattle.host_engine.proofs.PlanLemmas.{here, onward, trans}
use Rattle.host_engine.proofs.GivesLemmas.{refused_past}

-- ---- forms

pub origin_at : (before images : List ImageSpec) (i : ℕ) (image : ImageSpec) → AreImages before images → i < length images → image ≡ get_or images i image → IsOrigin image.origin
origin_at before [] i image keep below is = absurd (omega arith)
origin_at before (first ∷ images) zero image keep below is = subst (λ (x : ImageSpec). IsOrigin x.origin) (sym is) keep.2
origin_at before (first ∷ images) (suc i) image keep below is = origin_at (before ++ first ∷ []) images i image keep.3 (omega arith) is

-- ---- files

takes_run : (run : Option Run) → TakesMemory (Over (run_answer run))
takes_run (Some run) = tt
takes_run None = tt

takes_texts : (script : Plain) (store : Option (List ℕ)) (all : Result (List (List ℕ)) (List ℕ)) → TakesMemory (texts_judged script store all)
takes_texts script store (Ok images) = takes_run (run_of script (record { images = images; store = store }))
takes_texts script store (Err text) = tt

takes_store : (name : Option (List ℕ)) (next : Option (List ℕ) → Plan) → ((store : Option (List ℕ)) → TakesMemory (next store)) → TakesMemory (store_read name next)
takes_store None next rest = rest None
takes_store (Some name) next rest = tt

takes_judged : (script : Plain) (all : List Made) → TakesMemory (images_judged script all)
takes_judged script all = takes_store script.store (λ store. texts_judged script store (all_made all)) (λ store. takes_texts script store (all_made all))

takes_one : (name : List ℕ) (origin : Origin) (next : Made → Plan) → ((made : Made) → TakesMemory (next made)) → TakesMemory (origin_read name origin next)
takes_one name (File file) next rest = tt
takes_one name (Text text) next rest = rest _

takes_read : (script : Plain) (images : List ImageSpec) (done : List Made) → TakesMemory (images_read images done (images_judged script))
unfolding images_read
takes_read script [] done = takes_judged script done
takes_read script (image ∷ images) done = takes_one image.name image.origin (λ made. images_read images (done ++ made ∷ []) (images_judged script)) (λ made. takes_read script images (done ++ made ∷ []))

pub takes : (script : Plain) → TakesMemory (script_plan (Ok script))
takes script = takes_read script script.image []

module _ (told now : Option FileMap) (script : Plain) (plan : Plan) (images : List ImageSpec) (i : ℕ) (image : ImageSpec) (codes : List Code) (below : i < length images) (is : image ≡ get_or images i image)
    (so_far : Leads told plan (images_read (drop i images) (map made codes) (images_judged script))) where
  -- what is still to be read behind the image
  abbrev pub behind : Made → Plan
  behind one = images_read (drop (i + 1) images) (map made codes ++ one ∷ []) (images_judged script)

  pub to_image : Leads told plan (origin_read image.name image.origin behind)
  unfolding images_read
  to_image =
      let cut : drop i images ≡ image ∷ drop (i + 1) images = subst (λ (x : ImageSpec). drop i images ≡ x ∷ drop (i + 1) images) (sym is) (drop_more images i image below) in
      subst (λ (rest : List ImageSpec). Leads told plan (images_read rest (map made codes) (images_judged script))) cut so_far

  pub past_image : (new : List Code) (code : Code) → now ≡ told → new ≡ codes ++ code ∷ [] → Leads now (origin_read image.name image.origin behind) (behind (made code)) → Leads told plan (images_read (drop (i + 1) images) (map made new) (images_judged script))
  past_image new code same pushed had =
      let all : map made codes ++ made code ∷ [] ≡ map made new = sym (ap (map made) pushed ∙ map-append made codes (code ∷ [])) in
      let step : Leads told (origin_read image.name image.origin behind) (behind (made code)) = subst (λ (t : Option FileMap). Leads t (origin_read image.name image.origin behind) (behind (made code))) same had in
      subst (λ (done : List Made). Leads told plan (images_read (drop (i + 1) images) done (images_judged script))) all (trans told plan _ _ to_image step)

  -- the same, of what is read under a name that is the image's
  pub had_there : (new : List Code) (code : Code) (given : List ℕ) → now ≡ told → new ≡ codes ++ code ∷ [] → given ≡ image.name → ((next : Made → Plan) → Leads now (origin_read given image.origin next) (next (made code)))
      → Leads told plan (images_read (drop (i + 1) images) (map made new) (images_judged script))
  had_there new code given same pushed named h = past_image new code same pushed (subst (λ (n : List ℕ). Leads now (origin_read n image.origin behind) (behind (made code))) named (h behind))

  pub refused_there : (refusal : Refusal) (f g f' l m l' : ℕ) (given : List ℕ) → Onward told now f g l m → given ≡ image.name → ((next : Made → Plan) → Refuses (origin_read given image.origin next) refusal now g m f' l') → Refuses plan refusal told f l f' l'
  refused_there refusal f g f' l m l' given on named h =
      refused_past plan (origin_read image.name image.origin behind) refusal told now f g f' l m l' on to_image (subst (λ (n : List ℕ). Refuses (origin_read n image.origin behind) refusal now g m f' l') named (h behind))

pub all_read : (told : Option FileMap) (script : Plain) (plan : Plan) (images : List ImageSpec) (i : ℕ) (codes : List Code) → length images ≤ i → Leads told plan (images_read (drop i images) (map made codes) (images_judged script)) → Leads told plan (images_judged script (map made codes))
unfolding images_read
all_read told script plan images i codes past so_far = subst (λ (rest : List ImageSpec). Leads told plan (images_read rest (map made codes) (images_judged script))) (drop_all i images past) so_far

pub begins : (told : Option FileMap) (script : Plain) (images : List ImageSpec) → images ≡ script.image → Leads told (script_plan (Ok script)) (images_read images [] (images_judged script))
begins told script images same = subst (λ (l : List ImageSpec). Leads told (script_plan (Ok script)) (images_read l [] (images_judged script))) (sym same) (here told (script_plan (Ok script)))

-- a file that is read, and a text, are an image
pub of_file : (told : Option FileMap) (name file bytes : List ℕ) (next : Made → Plan) → IsFile told (code_file file) bytes → Leads told (origin_read name (File file) next) (next (Ok bytes))
of_file told name file bytes next is = onward told (code_file file) (λ b. next (Ok b)) bytes (next (Ok bytes)) is (here told (next (Ok bytes)))

pub of_text : (told : Option FileMap) (name text : List ℕ) (next : Made → Plan) → Leads told (origin_read name (Text text) next) (next (in_words name (assembled text)))
of_text told name text next = here told (next (in_words name (assembled text)))

-- ---- the store

pub no_store : (told : Option FileMap) (next : Option (List ℕ) → Plan) → Leads told (store_read None next) (next None)
no_store told next = here told (next None)

pub of_store : (told : Option FileMap) (name bytes : List ℕ) (next : Option (List ℕ) → Plan) → IsFile told (store_file name) bytes → Leads told (store_read (Some name) next) (next (Some bytes))
of_store told name bytes next is = onward told (store_file name) (λ b. next (Some b)) bytes (next (Some bytes)) is (here told (next (Some bytes)))

-- ---- texts

abbrev pub put_before : List (List ℕ) → Result (List (List ℕ)) (List ℕ) → Result (List (List ℕ)) (List ℕ)
put_before done (Ok images) = Ok (done ++ images)
put_before done (Err text) = Err text

-- the images so far, and those of the rest, are the whole
abbrev pub Making : List Code → List (List ℕ) → List Code → Type 0
Making codes done rest = put_before done (all_made (map made rest)) ≡ all_made (map made codes)

pub nothing_made : (codes : List Code) → Making codes [] codes
nothing_made codes = same (all_made (map made codes)) where
  same : (all : Result (List (List ℕ)) (List ℕ)) → put_before [] all ≡ all
  same (Ok images) = refl
  same (Err text) = refl

one_more : (done : List (List ℕ)) (image : List ℕ) (rest : Result (List (List ℕ)) (List ℕ)) → put_before (done ++ image ∷ []) rest ≡ put_before done (before image rest)
one_more done image (Ok images) = ap Ok (append_assoc done (image ∷ []) images)
one_more done image (Err text) = refl

of_code : (code : Code) (rest : List Code) (one : Made) → made code ≡ one → all_made (map made (code ∷ rest)) ≡ before_all one (all_made (map made rest))
unfolding all_made
of_code code rest one is = ap (λ (m : Made). before_all m (all_made (map made rest))) is

pub made_more : (codes : List Code) (done new : List (List ℕ)) (rest : List Code) (code : Code) (image : List ℕ) → Making codes done (code ∷ rest) → made code ≡ Ok image → new ≡ done ++ image ∷ [] → Making codes new rest
made_more codes done new rest code image so_far is pushed =
    let e : put_before done (before image (all_made (map made rest))) ≡ all_made (map made codes) = sym (ap (put_before done) (of_code code rest (Ok image) is)) ∙ so_far in
    ap (λ (l : List (List ℕ)). put_before l (all_made (map made rest))) pushed ∙ one_more done image (all_made (map made rest)) ∙ e

refused_at : (codes : List Code) (done : List (List ℕ)) (rest : List Code) (code : Code) (text : List ℕ) → Making codes done (code ∷ rest) → made code ≡ Err text → all_made (map made codes) ≡ Err text
refused_at codes done rest code text so_far is = sym (sym (ap (put_before done) (of_code code rest (Err text) is)) ∙ so_far)

-- a text that wasn't assembled
pub not_made : (why : Unassembled) (codes : List Code) (done : List (List ℕ)) (rest : List Code) (code : Code) → Making codes done (code ∷ rest) → IsWhy why (made code) → IsWhy why (all_made (map made codes))
not_made (whys.Refused text) codes done rest code so_far is = refused_at codes done rest code (string_bytes text) so_far is
not_made whys.Memory codes done rest code so_far is = tt

pub all_there : (codes : List Code) (done : List (List ℕ)) → Making codes done [] → all_made (map made codes) ≡ Ok done
unfolding all_made
all_there codes done so_far = sym so_far ∙ ap Ok (append-nil done)
