-- Over files that are told, those that are there decide the answer.
use Rattle.std.proofs.Common.{◌≡◌, ℕ, Bool, true, false, List, Option, Some, None, Result, Ok, Err, refl, sym, subst, ◌∙◌, inl, inr}
use Rattle.std.specs.Prelude.{◌⊎◌}
use Rattle.uh_base.specs.Counts.{Rose}
use Rattle.uh_base.specs.Told.{FileMap, Lacks, IsLonger}
use Rattle.host_engine.specs.declared.refusal.Refusal.{Refusal}
use Rattle.host_engine.specs.declared.refusal.Refusal.TheVariants as why
use Rattle.host_engine.specs.declared.status.Status.{Status}
use Rattle.host_engine.specs.declared.status.Status.TheVariants.{Done, Halted, Script, Read, Size, Write, Memory, Assembly}
use Rattle.host_engine.specs.Gives.{CommandGives, HostGives, IsComplete, FilesGive, MissingGives, ThereGives, status_of}
use Rattle.host_engine.specs.Commands.{plan_of}
use Rattle.host_engine.specs.Outside.{Outside}
use Rattle.host_engine.specs.Plans.{Wanted, Plan, Over, Answer, first_missing, Leads, IsMissing}
use Rattle.host_engine.specs.Words.{Command}
use Rattle.host_engine.proofs.PlanLemmas.{missing_same}

over_none : (files : FileMap) (answer : Answer) → first_missing files (Over answer) ≡ None
unfolding first_missing
over_none files answer = refl

none_missing : (files : FileMap) (plan : Plan) (answer : Answer) → Leads (Some files) plan (Over answer) → first_missing files plan ≡ None
none_missing files plan answer leads = missing_same files plan (Over answer) leads ∙ over_none files answer

-- an answer that needs all files
all_had : (files : FileMap) (plan : Plan) (found : Option Wanted) (answer : Answer) (status : Status) (old new : Outside) → Leads (Some files) plan (Over answer) → first_missing files plan ≡ found → ThereGives status old new → FilesGive files found status old new
all_had files plan None answer status old new leads is h = h
all_had files plan (Some wanted) answer status old new leads is h =
    absurd (let z : None ≡ Some wanted = sym (none_missing files plan answer leads) ∙ is in let bad : ⊥ = cc in bad)

same_wanted : (files : FileMap) (plan : Plan) (wanted other : Wanted) → first_missing files plan ≡ Some wanted → first_missing files plan ≡ Some other → wanted ≡ other
same_wanted files plan wanted other a b = let z : Some wanted ≡ Some other = sym a ∙ b in cc

absent : (files : FileMap) (plan : Plan) (found : Option Wanted) (wanted : Wanted) (old new : Outside) → first_missing files plan ≡ found → first_missing files plan ≡ Some wanted → files wanted.name ≡ None → FilesGive files found Read old new
absent files plan None wanted old new is missing none = absurd (let z : None ≡ Some wanted = sym is ∙ missing in let bad : ⊥ = cc in bad)
absent files plan (Some other) wanted old new is missing none =
    let same : wanted ≡ other = same_wanted files plan wanted other missing is in
    let lacks : files other.name ≡ None = subst (λ (w : Wanted). files w.name ≡ None) same none in
    rw lacks (inl refl)

longer : (files : FileMap) (plan : Plan) (found : Option Wanted) (wanted : Wanted) (bytes : List ℕ) (old new : Outside) → first_missing files plan ≡ found → first_missing files plan ≡ Some wanted → files wanted.name ≡ Some bytes → FilesGive files found Size old new
longer files plan None wanted bytes old new is missing some = absurd (let z : None ≡ Some wanted = sym is ∙ missing in let bad : ⊥ = cc in bad)
longer files plan (Some other) wanted bytes old new is missing some =
    let same : wanted ≡ other = same_wanted files plan wanted other missing is in
    let has : files other.name ≡ Some bytes = subst (λ (w : Wanted). files w.name ≡ Some bytes) same some in
    rw has (inl refl)

no_memory : (files : FileMap) (found : Option Wanted) (old new : Outside) → FilesGive files found Memory old new
no_memory files None old new = λ none. inr (inr (inr (inr refl)))
no_memory files (Some wanted) old new = by (files wanted.name)
  where
    by : (file : Option (List ℕ)) → MissingGives file Memory
    by None = inr refl
    by (Some bytes) = inr refl

module _ (files : FileMap) (plan : Plan) (old new : Outside) (told : old.files ≡ Some files) (read : ¬ Rose old.file_faults new.file_faults) where
  leads : (answer : Answer) → Leads old.files plan (Over answer) → Leads (Some files) plan (Over answer)
  leads answer h = subst (λ (t : Option FileMap). Leads t plan (Over answer)) told h

  unread : (wanted : Wanted) → Rose old.file_faults new.file_faults ⊎ (IsMissing old.files plan wanted × Lacks old.files wanted.name) → FilesGive files (first_missing files plan) Read old new
  unread wanted (inl rose) = absurd (read rose)
  unread wanted (inr h) =
      let both : IsMissing (Some files) plan wanted × Lacks (Some files) wanted.name = subst (λ (t : Option FileMap). IsMissing t plan wanted × Lacks t wanted.name) told h in
      absent files plan (first_missing files plan) wanted old new refl both.0 both.1

  pub completes : (answer : Result Bool Refusal) → CommandGives plan answer old new → FilesGive files (first_missing files plan) (status_of answer) old new
  completes (Ok false) h = all_had files plan (first_missing files plan) _ Done old new (leads _ h.comes) refl (λ none. inl refl)
  completes (Ok true) h = all_had files plan (first_missing files plan) _ Halted old new (leads _ h.comes) refl (λ none. inr (inl refl))
  completes (Err (why.Read name)) h = unread h.wanted h.cause
  completes (Err (why.Size name)) h =
      let missing : IsMissing (Some files) plan h.wanted = subst (λ (t : Option FileMap). IsMissing t plan h.wanted) told h.missing in
      let long : IsLonger (Some files) h.wanted.name h.wanted.most = subst (λ (t : Option FileMap). IsLonger t h.wanted.name h.wanted.most) told h.longer in
      longer files plan (first_missing files plan) h.wanted long.0 old new refl missing long.1
  completes (Err (why.Script text)) h = all_had files plan (first_missing files plan) _ Script old new (leads _ h.0) refl (λ none. inr (inr (inl refl)))
  completes (Err (why.Assembly text)) h = all_had files plan (first_missing files plan) _ Assembly old new (leads _ h.0) refl (λ none. inr (inr (inr (inl refl))))
  completes (Err why.Write) h = all_had files plan (first_missing files plan) _ Write old new (leads _ h.1.1.comes) refl (λ none. absurd (none h.0))
  completes (Err why.Memory) h = no_memory files (first_missing files plan) old new

pub complete : (command : Option Command) (status : Status) (old new : Outside) (err : Option (List ℕ)) (faults : ℕ) (err' : Option (List ℕ)) (faults' : ℕ) → HostGives command status old new err faults err' faults' → IsComplete command status old new
complete None status old new err faults err' faults' gives = gives.0
complete (Some command) status old new err faults err' faults' gives = λ files told read.
    subst (λ (s : Status). FilesGive files (first_missing files (plan_of command)) s old new) (sym gives.2) (completes files (plan_of command) old new told read gives.0 gives.1)
