-- How calls end.
use Rattle.std.proofs.Common.{◌≡◌, ℕ, zero, suc, ◌<◌, ◌+◌, ◌^◌, arith, Bool, true, false, refl, sym, ◌∙◌, ap, subst, Option, Some, None, List, []}
use Rattle.std.specs.Prelude.{◌==◌, ◌&&◌, slice_index}
use Rattle.std.proofs.lemmas.Bool.Decides.{nat_tests}
use Rattle.uh_base.specs.Bytes.{plus}
use Rattle.rv_decode.specs.RowLaws.{LengthIs}
use Rattle.rv_step.specs.Exec.{Rights, State, step_of}
use Rattle.prov_types.specs.declared.kinds.Kind.{Kind}
use Rattle.prov_types.specs.declared.kinds.Kind.TheVariants.{Any, Num, Ptr, Opt}
use Rattle.prov_types.specs.Spans.{one}
use Rattle.prov_types.specs.Kinds.{Holds, length_of}
use Rattle.prov_types.specs.Fits.{fits}
use Rattle.prov_layout.specs.Stores.{is_number}
use Rattle.prov_runs.specs.Steps.{Runs, reached}
use Rattle.prov_runs.specs.StepLaws.{AtSomeDoor, AtSomeNode, GoAlike, after_steps, and_on, gone, standing}
use Rattle.provenance_check.specs.Ground.{Ground}
use Rattle.provenance_check.specs.Judged.{NoneFailsJudges}
use Rattle.provenance_check.specs.Reached.{MarksReached}
use Rattle.prov_laws.specs.Checked.{AreRunsOf, NoneFails, calls, regions_of, runs_of}
use Rattle.prov_laws.specs.CheckLaws.{CallsGoAlike}
use Rattle.prov_laws.specs.Calls.{Bounded, CallEnd, CallsEndAlike, EndAlike, Returned, Trapped, call_of, step_more}
use Rattle.prov_laws.specs.Entries.{HasWindow}
use Rattle.prov_laws.proofs.CallLemmas.{listed_so, node_inside}
use Rattle.prov_laws.proofs.ReadLemmas.{both}

-- what after_steps says of one step, and of none
one_step : (rights : Rights) (s left : State) → after_steps rights 1 s ≡ Some left → reached (step_of rights s) ≡ Some left
unfolding after_steps
one_step rights s left h = by (reached (step_of rights s)) h
  where
    by : (o : Option State) → and_on (λ to. Some to) o ≡ Some left → o ≡ Some left
    by None e = absurd cc
    by (Some to) e = e

no_step : (rights : Rights) (s left : State) → after_steps rights 0 s ≡ Some left → s ≡ left
unfolding after_steps
no_step rights s left h = cc

call_step : (allows : Rights) (home more : ℕ) (s left : State) → (s.pc == home) ≡ false → reached (step_of allows s) ≡ Some left → call_of allows home (suc more) s ≡ step_more (call_of allows home more left)
unfolding call_of
call_step allows home more s left e f = rw (e, f) refl

call_home : (allows : Rights) (home more : ℕ) (s : State) → (s.pc == home) ≡ true → call_of allows home (suc more) s ≡ Returned (slice_index s.x 10) 0 s
unfolding call_of
call_home allows home more s e = rw e refl

call_none : (allows : Rights) (home : ℕ) (s : State) → call_of allows home 0 s ≡ Bounded s
unfolding call_of
call_none allows home s = refl

both_more : (u : Runs) (x y : CallEnd) → EndAlike u x y → EndAlike u (step_more x) (step_more y)
both_more u (Returned v m s) (Returned w n t) h = (h.0, ap suc h.1, h.2)
both_more u (Bounded s) (Bounded t) h = h
both_more u (Returned v m s) (Trapped n) h = absurd h
both_more u (Returned v m s) (Bounded t) h = absurd h
both_more u (Trapped m) y h = absurd h
both_more u (Bounded s) (Returned w n t) h = absurd h
both_more u (Bounded s) (Trapped n) h = absurd h

module _ (length_is : LengthIs) (none_fails : NoneFailsJudges) (alike : CallsGoAlike) (g : Ground) (old new : ℕ → ℕ) (allows others : Rights) (entries : List ℕ)
    (of : AreRunsOf g old new allows others) (window : HasWindow g) (marks : MarksReached g.nodes entries g.called) (none : NoneFails g allows) where
  abbrev runs : Runs
  runs = runs_of g old new [] allows others

  -- both are at the OS return page, with one value
  record AtHome (s t : State) : Type 0 where
    old_home : (s.pc == old 3) ≡ true
    new_home : (t.pc == new 3) ≡ true
    value : slice_index s.x 10 ≡ slice_index t.x 10

  number_same : (k : Kind) (v w : ℕ) → is_number k ≡ true → Holds (regions_of g old new) k v w → v ≡ w
  number_same (Num s) v w e h = h.same
  number_same Any v w e h = absurd cc
  number_same (Ptr r s) v w e h = absurd cc
  number_same (Opt r s) v w e h = absurd cc

  at_home : (s t : State) → AtSomeDoor runs (calls g) s t → AtHome s t
  at_home s t h =
      let a = both (h.region == 3) (h.offset == 0 && (fits (h.kinds 2) (Ptr 1 (one 65536)) && is_number (h.kinds 10))) h.door in
      let b = both (h.offset == 0) (fits (h.kinds 2) (Ptr 1 (one 65536)) && is_number (h.kinds 10)) a.1 in
      let c = both (fits (h.kinds 2) (Ptr 1 (one 65536))) (is_number (h.kinds 10)) b.1 in
      let first = a.0 in
      let second = b.0 in
      let region : h.region ≡ 3 = grind (arith, nat_tests) in
      let offset : h.offset ≡ 0 = grind (arith, nat_tests) in
      let old_pc : s.pc ≡ plus (old 3) 0 = h.stands.old_pc ∙ ap (λ r. plus (old r) h.offset) region ∙ ap (plus (old 3)) offset in
      let new_pc : t.pc ≡ plus (new 3) 0 = h.stands.new_pc ∙ ap (λ r. plus (new r) h.offset) region ∙ ap (plus (new 3)) offset in
      let m = of.apart.old_ends 3 in
      let n = of.apart.new_ends 3 in
      let x : s.pc ≡ old 3 = omega (arith, old_pc, m) in
      let y : t.pc ≡ new 3 = omega (arith, new_pc, n) in
      record { old_home = grind (arith, nat_tests, x); new_home = grind (arith, nat_tests, y); value = number_same (h.kinds 10) (slice_index s.x 10) (slice_index t.x 10) c.1 (h.stands.registers 10) }

  -- an offset of the image isn't the OS return page
  off_page : (start : ℕ → ℕ) (at pc : ℕ) → ((r q o x : ℕ) → o < length_of g.lens r → x < length_of g.lens q → start r + o ≡ start q + x → r ≡ q) → start 0 + length_of g.lens 0 < 2 ^ 64 → at < length_of g.lens 0 → pc ≡ plus (start 0) at → (pc == start 3) ≡ false
  off_page start at pc apart end inside is = by (pc == start 3) refl
    where
      by : (t : Bool) → (pc == start 3) ≡ t → t ≡ false
      by false e = refl
      by true e =
          let home : pc ≡ start 3 = grind (arith, nat_tests) in
          let l = window.return_page in
          let meet : start 0 + at ≡ start 3 + 0 = omega (arith, home, is, end, inside) in
          let same : 0 ≡ 3 = apart 0 3 at 0 inside (omega (arith, l)) meet in
          absurd (omega (arith, same))

  record Away (s t : State) : Type 0 where
    old_away : (s.pc == old 3) ≡ false
    new_away : (t.pc == new 3) ≡ false

  away : (s t : State) → AtSomeNode runs (calls g) s t → Away s t
  away s t here =
      let l = listed_so g here.number here.node here.listed in
      let inside : here.node.at < length_of g.lens 0 = subst (λ k. k.at < length_of g.lens 0) l.is (node_inside length_is none_fails g old new allows others of here.number l.node l.listed (none here.number l.node l.listed)) in
      record {
        old_away = off_page old here.node.at s.pc of.disjoint.old (of.apart.old_ends 0) inside here.stands.old_pc;
        new_away = off_page new here.node.at t.pc of.disjoint.new (of.apart.new_ends 0) inside here.stands.new_pc;
      }

  home_ends : (bound : ℕ) (s t : State) → AtSomeDoor runs (calls g) s t → EndAlike runs (call_of allows (old 3) bound s) (call_of others (new 3) bound t)
  home_ends zero s t h = rw (call_none allows (old 3) s, call_none others (new 3) t) h.related
  home_ends (suc more) s t h = let k = at_home s t h in rw (call_home allows (old 3) more s k.old_home, call_home others (new 3) more t k.new_home) (k.value, refl, h.related)

  ends : (bound : ℕ) (s t : State) → AtSomeNode runs (calls g) s t → EndAlike runs (call_of allows (old 3) bound s) (call_of others (new 3) bound t)
  ends zero s t here = rw (call_none allows (old 3) s, call_none others (new 3) t) here.related
  ends (suc more) s t here = by (λ left right at. ends more left right at) (alike g old new allows others entries 1 s t of marks none here)
    where
      behind : (left right : State) → reached (step_of allows s) ≡ Some left → reached (step_of others t) ≡ Some right → EndAlike runs (call_of allows (old 3) more left) (call_of others (new 3) more right)
          → EndAlike runs (call_of allows (old 3) (suc more) s) (call_of others (new 3) (suc more) t)
      behind left right e f h =
          let k = away s t here in
          rw (call_step allows (old 3) more s left k.old_away e, call_step others (new 3) more t right k.new_away f) (both_more runs (call_of allows (old 3) more left) (call_of others (new 3) more right) h)

      by : ((left right : State) → AtSomeNode runs (calls g) left right → EndAlike runs (call_of allows (old 3) more left) (call_of others (new 3) more right)) → GoAlike runs (calls g) 1 s t
          → EndAlike runs (call_of allows (old 3) (suc more) s) (call_of others (new 3) (suc more) t)
      by on (standing left right e f at) = behind left right (one_step allows s left e) (one_step others t right f) (on left right at)
      by on (gone zero left right few e f at) =
          let x = no_step allows s left e in
          let y = no_step others t right f in
          home_ends (suc more) s t (subst (λ z. AtSomeDoor runs (calls g) z t) (sym x) (subst (AtSomeDoor runs (calls g) left) (sym y) at))
      by on (gone (suc zero) left right few e f at) = behind left right (one_step allows s left e) (one_step others t right f) (home_ends more left right at)
      by on (gone (suc (suc m)) left right few e f at) = absurd (omega (arith, few))

pub calls_end_alike : LengthIs → NoneFailsJudges → CallsGoAlike → CallsEndAlike
calls_end_alike length_is none_fails alike g old new allows others entries bound s t of window marks none here = ends length_is none_fails alike g old new allows others entries of window marks none bound s t here
