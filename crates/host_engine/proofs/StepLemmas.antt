-- Steps under way: what was put, and what is still to come.
use Rattle.memory_map.specs.declared.descriptor.Descriptor.{Descriptor}
use Rattle.std.proofs.Common.{◌≡◌, ◌≢◌, ℕ, suc, arith, map, List, [], ◌∷◌, ◌++◌, Option, Result, Ok, Err, Bool, true, false, length, get_or, drop, ◌<◌, ◌≤◌, ◌+◌, refl, sym, ap, subst, ◌∙◌, append_assoc, append-nil}
use Rattle.std.proofs.lemmas.List.{drop_more, drop_all, length-replicate}
use Rattle.record_text.specs.declared.line.Line.{Line}
use Rattle.record_text.specs.declared.line.Line.TheVariants as lines
use Rattle.host_script.specs.declared.script.Step.{Step}
use Rattle.host_script.specs.declared.script.Shown.{Shown}
use Rattle.uh_base.specs.Told.{grown, GrownByPart}
use Rattle.firmware_core.specs.declared.happened.JobEnd.{JobEnd}
use Rattle.firmware_core.specs.Turns.{State}
use Rattle.host_engine.specs.declared.course.Course.{Course}
use Rattle.host_engine.specs.declared.course.Course.TheVariants.{GoesOn, Resets, Halts}
use Rattle.host_engine.specs.Inputs.{Inputs}
use Rattle.host_script.specs.Plain.{Plain}
use Rattle.host_engine.specs.declared.job.Stop.{Stop}
use Rattle.page_alloc.specs.Pages.{PageList}
use Rattle.variable_store.specs.Entries.{Entry}
use Rattle.memory_map.specs.Map.{map_of}
use Rattle.firmware_core.specs.Jobs.{Job, job_of}
use Rattle.host_engine.specs.Jobs.{Ended, Puts, line_bytes, bytes_of}
use Rattle.host_engine.specs.ScriptRuns.{row_of, map_lines, Running, Run, Ran, Stepped, Made, then_by, then_run, step_made, run_from, run_with, at_opening, shown_lines, with_shown}
use Rattle.host_engine.proofs.PutLemmas.{part_behind, whole_behind, grown-grown, went, stopped, both, first}
use Rattle.host_engine.proofs.LineLemmas.{grown-nil, bytes_of-append, bytes_of-last, put_more, part_more}

-- ---- a job with its last line

job_text : (last : JobEnd → Line) (job : Job) → bytes_of job.lines ++ line_bytes (last job.end) ≡ bytes_of (job.lines ++ last job.end ∷ [])
job_text last job = sym (bytes_of-last job.lines (last job.end))

module _ (last : JobEnd → Line) (job : Job) (end : JobEnd) (state : State) (ended : Ended job end state) where
  ended_text : bytes_of job.lines ++ line_bytes (last end) ≡ bytes_of (job.lines ++ last job.end ∷ [])
  ended_text = ap (λ (e : JobEnd). bytes_of job.lines ++ line_bytes (last e)) ended.is_end ∙ job_text last job

  pub job_put : {X : Type 0} (r : Result X Stop) (old now new : Option (List ℕ)) (f g h : ℕ) → now ≡ grown old (bytes_of job.lines) → f ≤ g → Puts r (line_bytes (last end)) now g new h → Puts r (bytes_of (job.lines ++ last job.end ∷ [])) old f new h
  job_put r old now new f g h put le puts = both r (bytes_of job.lines) (line_bytes (last end)) _ old now new f g h ended_text put le puts

pub job_stops : (X Y : Type 0) (last : JobEnd → Line) (job : Job) (stop : Stop) (old new : Option (List ℕ)) (f h : ℕ) → Puts {X = X} (Err stop) (bytes_of job.lines) old f new h → Puts {X = Y} (Err stop) (bytes_of (job.lines ++ last job.end ∷ [])) old f new h
job_stops X Y last job stop old new f h puts = first X Y stop (bytes_of job.lines) (line_bytes (last job.end)) _ old new f h (job_text last job) puts

-- the same, where the run is told as another
module _ (last : JobEnd → Line) (x r : Running) (is : x ≡ r) where
  pub finish_put : {X : Type 0} (answer : Result X Stop) (end : JobEnd) (state : State) → Ended (job_of x.machine) end state → (old now new : Option (List ℕ)) (f g h : ℕ) → now ≡ grown old (bytes_of (job_of x.machine).lines) → f ≤ g
      → Puts answer (line_bytes (last end)) now g new h → Puts answer (bytes_of ((job_of r.machine).lines ++ last (job_of r.machine).end ∷ [])) old f new h
  finish_put answer end state ended old now new f g h put le puts =
      subst (λ (y : Running). Puts answer (bytes_of ((job_of y.machine).lines ++ last (job_of y.machine).end ∷ [])) old f new h) is (job_put last (job_of x.machine) end state ended answer old now new f g h put le puts)

  pub finish_stops : (X Y : Type 0) (stop : Stop) (old new : Option (List ℕ)) (f h : ℕ) → Puts {X = X} (Err stop) (bytes_of (job_of x.machine).lines) old f new h → Puts {X = Y} (Err stop) (bytes_of ((job_of r.machine).lines ++ last (job_of r.machine).end ∷ [])) old f new h
  finish_stops X Y stop old new f h puts =
      subst (λ (y : Running). Puts {X = Y} (Err stop) (bytes_of ((job_of y.machine).lines ++ last (job_of y.machine).end ∷ [])) old f new h) is (job_stops X Y last (job_of x.machine) stop old new f h puts)

-- ---- the memory map

map_text : (pages : PageList) (key : ℕ) (rows : List Descriptor) → key ≡ pages.key → rows ≡ map_of pages → line_bytes (lines.MemmapKey key) ++ bytes_of (map row_of rows) ≡ bytes_of (map_lines pages)
unfolding map_lines
map_text pages key rows k r = ap (λ n. line_bytes (lines.MemmapKey n) ++ bytes_of (map row_of rows)) k ∙ ap (λ (ds : List Descriptor). line_bytes (lines.MemmapKey pages.key) ++ bytes_of (map row_of ds)) r

pub map_put : {X : Type 0} (r : Result X Stop) (pages : PageList) (key : ℕ) (rows : List Descriptor) → key ≡ pages.key → rows ≡ map_of pages → (old now new : Option (List ℕ)) (f g h : ℕ) → now ≡ grown old (line_bytes (lines.MemmapKey key)) → f ≤ g
    → Puts r (bytes_of (map row_of rows)) now g new h → Puts r (bytes_of (map_lines pages)) old f new h
map_put r pages key rows k d old now new f g h put le puts = both r (line_bytes (lines.MemmapKey key)) (bytes_of (map row_of rows)) _ old now new f g h (map_text pages key rows k d) put le puts

pub map_stops : (X Y : Type 0) (stop : Stop) (pages : PageList) (key : ℕ) → key ≡ pages.key → (old new : Option (List ℕ)) (f h : ℕ) → Puts {X = X} (Err stop) (line_bytes (lines.MemmapKey key)) old f new h → Puts {X = Y} (Err stop) (bytes_of (map_lines pages)) old f new h
map_stops X Y stop pages key k old new f h puts = first X Y stop (line_bytes (lines.MemmapKey key)) (bytes_of (map row_of (map_of pages))) _ old new f h (map_text pages key (map_of pages) k refl) puts

-- ---- the rows of a memory map

-- so far some rows were put
pub record RowsSoFar (whole rest : List Line) (old now : Option (List ℕ)) : Type 0 where
  pub before : List Line
  pub same : whole ≡ before ++ rest
  pub put : now ≡ grown old (bytes_of before)

pub rows_begin : (rows : List Line) (told : Option (List ℕ)) → RowsSoFar rows rows told told
rows_begin rows told = record { before = []; same = refl; put = grown-nil told }

row_bytes : (line : Line) → line_bytes line ≡ bytes_of (line ∷ [])
row_bytes line = sym (append-nil (line_bytes line))

module _ (whole : List Line) (row : Line) (rest : List Line) (old now new : Option (List ℕ)) (so_far : RowsSoFar whole (row ∷ rest) old now) where
  pub row_put : new ≡ grown now (line_bytes row) → RowsSoFar whole rest old new
  row_put put = record {
    before = so_far.before ++ row ∷ [];
    same = so_far.same ∙ sym (append_assoc so_far.before (row ∷ []) rest);
    put = put_more old now new so_far.before (row ∷ []) so_far.put (put ∙ ap (grown now) (row_bytes row));
  }

  pub row_stops : GrownByPart now (line_bytes row) new → GrownByPart old (bytes_of whole) new
  row_stops part =
      part_more old now new so_far.before (row ∷ []) rest whole so_far.put so_far.same (subst (λ (bytes : List ℕ). GrownByPart now bytes new) (row_bytes row) part)

pub rows_end : (whole : List Line) (old now : Option (List ℕ)) → RowsSoFar whole [] old now → now ≡ grown old (bytes_of whole)
rows_end whole old now so_far = so_far.put ∙ ap (λ (x : List Line). grown old (bytes_of x)) (sym (so_far.same ∙ append-nil so_far.before))

-- ---- a run of steps

abbrev pub behind : List Line → Run → Run
behind before run = record { lines = before ++ run.lines; halted = run.halted }

pub record SoFar (whole rest : Run) (old now : Option (List ℕ)) : Type 0 where
  pub before : List Line
  pub same : whole ≡ behind before rest
  pub put : now ≡ grown old (bytes_of before)

pub begins : (run : Run) (told : Option (List ℕ)) → SoFar run run told told
begins run told = record { before = []; same = refl; put = grown-nil told }

pub handles_opened : (script : Plain) (variables : List Entry) (r : Running) → r ≡ at_opening script variables → length r.handles ≡ length script.image
handles_opened script variables r e = ap (λ (x : Running). length x.handles) e ∙ length-replicate {A = ℕ} (length script.image) 0

-- before the first step
pub opens : (script : Plain) (inputs : Inputs) (variables : List Entry) (r : Running) (steps : List Step) (told : Option (List ℕ)) → r ≡ at_opening script variables → steps ≡ script.step
    → SoFar (run_with script inputs variables) (run_from script inputs r steps) told told
unfolding run_with
opens script inputs variables r steps told at_start same =
    subst (λ (x : Running). SoFar (run_with script inputs variables) (run_from script inputs x steps) told told) (sym at_start)
    (subst (λ (ss : List Step). SoFar (run_with script inputs variables) (run_from script inputs (at_opening script variables) ss) told told) (sym same) (begins (run_with script inputs variables) told))

goes : (step : Stepped) (rest : Run) → GoesOn ≡ step.course → then_run step rest ≡ behind step.lines rest
goes step rest h = let back = sym h in rw back refl

-- whether a run that is over is halted
abbrev pub is_halted : Course → Bool
is_halted GoesOn = false
is_halted Resets = false
is_halted Halts = true

over : (course : Course) → course ≢ GoesOn → (lines : List Line) (rest : Run) → then_by course lines rest ≡ record { lines = lines; halted = is_halted course }
over GoesOn ends lines rest = absurd (ends refl)
over Resets ends lines rest = refl
over Halts ends lines rest = refl

first_lines : (course : Course) (lines : List Line) (rest : Run) → (more : List Line) × ((then_by course lines rest).lines ≡ lines ++ more)
first_lines GoesOn lines rest = (rest.lines, refl)
first_lines Resets lines rest = ([], sym (append-nil lines))
first_lines Halts lines rest = ([], sym (append-nil lines))

module _ (script : Plain) (inputs : Inputs) (whole : Run) (steps : List Step) (i : ℕ) (step : Step) (r : Running) (old now new : Option (List ℕ)) (below : i < length steps) (is : step ≡ get_or steps i step) (so_far : SoFar whole (run_from script inputs r (drop i steps)) old now) where
  one : whole ≡ behind so_far.before (then_run (step_made script inputs step r) (run_from script inputs (step_made script inputs step r).running (drop (i + 1) steps)))
  unfolding run_from
  one =
      let cut : drop i steps ≡ step ∷ drop (i + 1) steps = subst (λ (x : Step). drop i steps ≡ x ∷ drop (i + 1) steps) (sym is) (drop_more steps i step below) in
      so_far.same ∙ ap (λ (ss : List Step). behind so_far.before (run_from script inputs r ss)) cut

  pub goes_on : (to : Running) → Made (step_made script inputs step r) GoesOn to → new ≡ grown now (bytes_of (step_made script inputs step r).lines) → SoFar whole (run_from script inputs to (drop (i + 1) steps)) old new
  goes_on to made put =
      let rest = run_from script inputs (step_made script inputs step r).running (drop (i + 1) steps) in
      subst (λ (x : Running). SoFar whole (run_from script inputs x (drop (i + 1) steps)) old new) (sym made.is_running) (record {
        before = so_far.before ++ (step_made script inputs step r).lines;
        same = one ∙ ap (behind so_far.before) (goes (step_made script inputs step r) rest made.is_course) ∙ ap (λ (ls : List Line). record { lines = ls; halted = rest.halted }) (sym (append_assoc so_far.before (step_made script inputs step r).lines rest.lines));
        put = put_more old now new so_far.before (step_made script inputs step r).lines so_far.put put;
      })

  pub ends_here : (course : Course) → course ≢ GoesOn → (to : Running) → Made (step_made script inputs step r) course to → new ≡ grown now (bytes_of (step_made script inputs step r).lines) → Ran whole (is_halted course) old new
  ends_here course loud to made put =
      let rest = run_from script inputs (step_made script inputs step r).running (drop (i + 1) steps) in
      let is : then_run (step_made script inputs step r) rest ≡ record { lines = (step_made script inputs step r).lines; halted = is_halted course } =
      ap (λ (c : Course). then_by c (step_made script inputs step r).lines rest) (sym made.is_course) ∙ over course loud (step_made script inputs step r).lines rest in
      let w = one ∙ ap (behind so_far.before) is in
      record { is_halted = sym (ap (λ (x : Run). x.halted) w); put = put_more old now new so_far.before (step_made script inputs step r).lines so_far.put put ∙ ap (λ (x : Run). grown old (bytes_of x.lines)) (sym w) }

  pub stops_here : GrownByPart now (bytes_of (step_made script inputs step r).lines) new → GrownByPart old (bytes_of whole.lines) new
  stops_here p =
      let f = first_lines (step_made script inputs step r).course (step_made script inputs step r).lines (run_from script inputs (step_made script inputs step r).running (drop (i + 1) steps)) in
      part_more old now new so_far.before (step_made script inputs step r).lines f.0 whole.lines so_far.put (ap (λ (x : Run). x.lines) one ∙ ap (λ (ls : List Line). so_far.before ++ ls) f.1) p

module _ (script : Plain) (inputs : Inputs) (whole : Run) (steps : List Step) (i : ℕ) (r : Running) (old now new : Option (List ℕ)) (past : length steps ≤ i) (so_far : SoFar whole (run_from script inputs r (drop i steps)) old now) where
  last : whole ≡ record { lines = so_far.before ++ lines.End ∷ []; halted = false }
  unfolding run_from
  last = so_far.same ∙ ap (λ (ss : List Step). behind so_far.before (run_from script inputs r ss)) (drop_all i steps past)

  whole_bytes : bytes_of whole.lines ≡ bytes_of so_far.before ++ line_bytes lines.End
  whole_bytes = ap (λ (x : Run). bytes_of x.lines) last ∙ bytes_of-last so_far.before lines.End

  pub ends : new ≡ grown now (line_bytes lines.End) → Ran whole false old new
  ends p = record {
    is_halted = sym (ap (λ (x : Run). x.halted) last);
    put = p ∙ ap (λ (o : Option (List ℕ)). grown o (line_bytes lines.End)) so_far.put ∙ grown-grown old (bytes_of so_far.before) (line_bytes lines.End) ∙ ap (grown old) (sym whole_bytes);
  }

  pub stops_at_end : GrownByPart now (line_bytes lines.End) new → GrownByPart old (bytes_of whole.lines) new
  stops_at_end p = part_behind old now new (bytes_of so_far.before) (line_bytes lines.End) (bytes_of whole.lines) so_far.put (sym whole_bytes) p

-- ---- rows by descriptor

pub row_first : (whole : List Line) (d : Descriptor) (ds rest : List Descriptor) (old now : Option (List ℕ)) → ds ≡ d ∷ rest → RowsSoFar whole (map row_of ds) old now → RowsSoFar whole (row_of d ∷ map row_of rest) old now
row_first whole d ds rest old now e so_far = subst (λ (x : List Descriptor). RowsSoFar whole (map row_of x) old now) e so_far

pub rows_none : (whole : List Line) (ds : List Descriptor) (old now : Option (List ℕ)) → ds ≡ [] → RowsSoFar whole (map row_of ds) old now → RowsSoFar whole [] old now
rows_none whole ds old now e so_far = subst (λ (x : List Descriptor). RowsSoFar whole (map row_of x) old now) e so_far

pub fewer_rows : (d : Descriptor) (ds rest : List Descriptor) → ds ≡ d ∷ rest → length rest < length ds
fewer_rows d ds rest e = let same : length ds ≡ suc (length rest) = ap length e in omega arith

-- ---- bytes that are shown behind a call

module _ (s : Stepped) (show : List Shown) where
  -- where the lines before them were stopped
  pub shown_stops : (X Y : Type 0) (stop : Stop) (old new : Option (List ℕ)) (f h : ℕ) → Puts {X = X} (Err stop) (bytes_of s.lines) old f new h → Puts {X = Y} (Err stop) (bytes_of (with_shown show s).lines) old f new h
  shown_stops X Y stop old new f h puts = first X Y stop (bytes_of s.lines) (bytes_of (shown_lines show s.course s.running)) _ old new f h (sym (bytes_of-append s.lines (shown_lines show s.course s.running))) puts

  module _ (course : Course) (to : Running) (made : Made s course to) (old now new : Option (List ℕ)) (f g h : ℕ) (put : now ≡ grown old (bytes_of s.lines)) (le : f ≤ g) where
    shown_text : bytes_of s.lines ++ bytes_of (shown_lines show course to) ≡ bytes_of (with_shown show s).lines
    shown_text =
        ap (λ (c : Course). bytes_of s.lines ++ bytes_of (shown_lines show c to)) made.is_course
        ∙ ap (λ (r : Running). bytes_of s.lines ++ bytes_of (shown_lines show s.course r)) made.is_running ∙ sym (bytes_of-append s.lines (shown_lines show s.course s.running))

    pub shown_put : (X Y : Type 0) (x : X) (y : Y) → Puts (Ok x) (bytes_of (shown_lines show course to)) now g new h → Puts (Ok y) (bytes_of (with_shown show s).lines) old f new h
    shown_put X Y x y puts = went y _ old f new h (whole_behind old now new (bytes_of s.lines) (bytes_of (shown_lines show course to)) _ put shown_text puts.whole) (omega (arith, le, puts.never_falls))

    pub shown_part : (X Y : Type 0) (stop : Stop) → Puts {X = X} (Err stop) (bytes_of (shown_lines show course to)) now g new h → Puts {X = Y} (Err stop) (bytes_of (with_shown show s).lines) old f new h
    shown_part X Y stop puts = stopped X Y stop (bytes_of (shown_lines show course to)) _ old now new f g h le puts (part_behind old now new (bytes_of s.lines) (bytes_of (shown_lines show course to)) _ put shown_text puts.part)

-- ---- a row for each item of a list

module _ {V : Type 0} (line : V → Line) (items : List V) (i : ℕ) (whole : List Line) (old now : Option (List ℕ)) (so_far : RowsSoFar whole (map line (drop i items)) old now) where
  -- the next one
  pub item_first : (default : V) → i < length items → RowsSoFar whole (line (get_or items i default) ∷ map line (drop (i + 1) items)) old now
  item_first default below = subst (λ (l : List V). RowsSoFar whole (map line l) old now) (drop_more items i default below) so_far
