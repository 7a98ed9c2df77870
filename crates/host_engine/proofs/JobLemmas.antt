-- A job under way: what was put, and what is still to come.
use Rattle.std.proofs.Common.{◌≡◌, ℕ, List, [], ◌∷◌, ◌++◌, Option, refl, sym, ap, subst, ◌∙◌, append_assoc, append-nil}
use Rattle.record_text.specs.declared.line.Line.{Line}
use Rattle.uh_base.specs.Told.{grown, GrownByPart}
use Rattle.firmware_core.specs.declared.happened.JobEnd.{JobEnd}
use Rattle.firmware_core.specs.declared.happened.Happened.TheVariants.{Said}
use Rattle.firmware_core.specs.Turns.{State}
use Rattle.firmware_core.specs.Jobs.{Job, job_of, Says}
use Rattle.host_engine.specs.Jobs.{Ended, line_bytes, bytes_of}
use Rattle.host_engine.proofs.LineLemmas.{grown-nil, bytes_of-append, put_more, part_more}

-- lines before those of a job
abbrev pub behind : List Line → Job → Job
behind before job = record { lines = before ++ job.lines; end = job.end; state = job.state }

pub record SoFar (whole rest : Job) (old now : Option (List ℕ)) : Type 0 where
  pub before : List Line
  pub same : whole ≡ behind before rest
  pub put : now ≡ grown old (bytes_of before)

pub begins : (job : Job) (told : Option (List ℕ)) → SoFar job job told told
begins job told = record { before = []; same = refl; put = grown-nil told }

one_line : (line : Line) → line_bytes line ≡ bytes_of (line ∷ [])
one_line line = sym (append-nil (line_bytes line))

module _ (whole : Job) (s t : State) (old now : Option (List ℕ)) (so_far : SoFar whole (job_of s) old now) where
  module _ (line : Line) (says : Says (Said line) s t) where
    longer : whole ≡ behind (so_far.before ++ line ∷ []) (job_of t)
    longer =
        so_far.same ∙ ap (behind so_far.before) says.rest
        ∙ ap (λ (ls : List Line). record { lines = ls; end = (job_of t).end; state = (job_of t).state }) (sym (append_assoc so_far.before (line ∷ []) (job_of t).lines))

    pub goes_on : (new : Option (List ℕ)) → new ≡ grown now (line_bytes line) → SoFar whole (job_of t) old new
    goes_on new put = record {
      before = so_far.before ++ line ∷ [];
      same = longer;
      put = put_more old now new so_far.before (line ∷ []) so_far.put (put ∙ ap (grown now) (one_line line));
    }

    pub stops_here : (new : Option (List ℕ)) → GrownByPart now (line_bytes line) new → GrownByPart old (bytes_of whole.lines) new
    stops_here new part =
        part_more old now new so_far.before (line ∷ []) (job_of t).lines whole.lines so_far.put (ap (λ (j : Job). j.lines) longer ∙ append_assoc so_far.before (line ∷ []) (job_of t).lines)
        (subst (λ (bytes : List ℕ). GrownByPart now bytes new) (one_line line) part)

  module _ (end : JobEnd) (last : job_of s ≡ record { lines = []; end = end; state = t }) where
    pub ends_here : Ended whole end t
    ends_here =
        let w = so_far.same ∙ ap (behind so_far.before) last in
        record { is_end = sym (ap (λ (j : Job). j.end) w); is_state = sym (ap (λ (j : Job). j.state) w) }

    pub put_here : now ≡ grown old (bytes_of whole.lines)
    put_here =
        let w = so_far.same ∙ ap (behind so_far.before) last in
        let ls : whole.lines ≡ so_far.before = ap (λ (j : Job). j.lines) w ∙ append-nil so_far.before in
        so_far.put ∙ ap (λ (x : List Line). grown old (bytes_of x)) (sym ls)

  -- what was put is a part
  pub part_by_then : GrownByPart old (bytes_of whole.lines) now
  part_by_then = (bytes_of so_far.before, bytes_of (job_of s).lines, ap (λ (j : Job). bytes_of j.lines) so_far.same ∙ bytes_of-append so_far.before (job_of s).lines, so_far.put)
