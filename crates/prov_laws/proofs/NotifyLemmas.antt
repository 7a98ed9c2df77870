-- All notified functions return.
use Rattle.std.proofs.Common.{◌≡◌, ℕ, zero, suc, ◌<◌, ◌≤◌, ◌+◌, ◌*◌, arith, refl, sym, ◌∙◌, ap, subst, List, []}
use Rattle.rv_step.specs.Exec.{Rights, State}
use Rattle.prov_cert.specs.Cert.{Node}
use Rattle.prov_layout.specs.declared.piece.Class.{Class}
use Rattle.prov_layout.specs.declared.piece.Class.TheVariants.{Code, Plain, Number, Fixed, Convert}
use Rattle.prov_layout.specs.declared.piece.Piece.{Piece}
use Rattle.prov_layout.specs.Pieces.{is_cell_among}
use Rattle.prov_runs.specs.Bytes.{AreBytes}
use Rattle.provenance_check.specs.Ground.{Ground}
use Rattle.provenance_check.specs.Reached.{MarksReached}
use Rattle.prov_laws.specs.Checked.{NoneFails, regions_of}
use Rattle.prov_laws.specs.Convert.{Between, Changes, ClassBetween}
use Rattle.prov_laws.specs.Functions.{FunctionsReturn, LastConverts, Returns, ReturnsFrom, cells_left, function_of, marked_from, turns_left}
use Rattle.prov_laws.specs.Notify.{AllFunctionsReturn, AllReturn, AllReturned, FunctionsEnd, HaveSameCells, Notifies, functions_of, turns_more}
use Rattle.prov_laws.proofs.CountLemmas.{all_left, fewer_behind, fewer_cells, same_left}
use Rattle.prov_laws.proofs.FunctionLemmas.{class_same}

module _ (returns : FunctionsReturn) (last_one : LastConverts) (g : Ground) (old new : ℕ → ℕ) (allows : Rights) (answer : ℕ → ℕ) (b : ℕ → ℕ) (notify : List ℕ) (begin : ℕ → (ℕ → ℕ) → State) (start : ℕ → ℕ) (node : ℕ → Node) (count most : ℕ)
    (changes : Changes g old new allows answer b) (marks : MarksReached g.nodes notify g.notified) (none : NoneFails g allows) (notifies : Notifies g old new b begin start node count) (enough : marked_from g.notified 0 + g.cells ≤ most) where
  abbrev end_of : ℕ → ℕ → (ℕ → ℕ) → FunctionsEnd
  end_of i n c = functions_of allows (old 5) answer begin most i n c

  step : (i n : ℕ) (c : ℕ → ℕ) (turns : ℕ) (state : State) → function_of allows (old 5) answer most (begin i c) ≡ Returns turns state → end_of i (suc n) c ≡ turns_more (suc turns) (end_of (i + 1) n state.bytes)
  unfolding functions_of
  step i n c turns state e = rw e refl

  none_more : (i : ℕ) (c : ℕ → ℕ) → end_of i 0 c ≡ AllReturn 0 c
  unfolding functions_of
  none_more i c = refl

  one_returns : (i : ℕ) (c : ℕ → ℕ) → i < count → AreBytes c → Between (regions_of g old new) g.pieces (node i).done b c
      → ReturnsFrom g old new b (start i) (turns_left g (start i) (node i).done) (function_of allows (old 5) answer most (begin i c))
  one_returns i c h bytes between =
      let l = fewer_behind g.notified (start i) in
      let m = fewer_cells g.cells (node i).done in
      returns g old new allows answer b notify (start i) (node i) (begin i c) most changes marks none (notifies.begins i c h bytes between) (omega (arith, l, m, enough))

  other_done : (xs ys : List ℕ) (c : ℕ → ℕ) → HaveSameCells xs ys → Between (regions_of g old new) g.pieces xs b c → Between (regions_of g old new) g.pieces ys b c
  other_done xs ys c same h = λ i p e. subst (λ t. ClassBetween (regions_of g old new) p p.class t b c) (class_same xs ys p.class same) (h i p e)

  one_more : (n m : ℕ) → suc n * suc m ≡ suc m + n * suc m
  one_more n m = omega arith

  -- from a function on, where so many are left besides
  from : (n i : ℕ) (c : ℕ → ℕ) → i + suc n ≡ count → AreBytes c → Between (regions_of g old new) g.pieces (node i).done b c
      → AllReturned g old new b (suc n) (cells_left g.cells (node i).done) (end_of i (suc n) c)
  from zero i c e bytes between =
      let r = one_returns i c (omega (arith, e)) bytes between in
      let few = r.few in
      let l = fewer_behind g.notified (start i) in
      let m = one_more 0 (marked_from g.notified 0) in
      let z : suc r.turns + 0 ≡ suc r.turns = omega arith in
      record {
        turns = suc r.turns;
        bytes = r.state.bytes;
        is = step i 0 c r.turns r.state r.is ∙ ap (turns_more (suc r.turns)) (none_more (i + 1) r.state.bytes) ∙ ap (λ k. AllReturn k r.state.bytes) z;
        done = r.node.done;
        whole = r.whole.bytes;
        between = r.between;
        all = λ cell small. last_one g old new allows b (start i) (turns_left g (start i) (node i).done) (function_of allows (old 5) answer most (begin i c)) r cell changes.run.formed (notifies.last i (omega (arith, e))) none small;
        few = omega (arith, few, l, m);
      }
  from (suc n) i c e bytes between =
      let r = one_returns i c (omega (arith, e)) bytes between in
      let same : HaveSameCells (node (i + 1)).done r.node.done = notifies.next i r.exit r.node (omega (arith, e)) r.reaches r.listed r.last in
      let rest = from n (i + 1) r.state.bytes (omega (arith, e)) r.whole.bytes (other_done r.node.done (node (i + 1)).done r.state.bytes (λ cell. sym (same cell)) r.between) in
      let cells = same_left g.cells (node (i + 1)).done r.node.done same in
      let few = r.few in
      let more = rest.few in
      let l = fewer_behind g.notified (start i) in
      let m = one_more (suc n) (marked_from g.notified 0) in
      record {
        turns = suc r.turns + rest.turns;
        bytes = rest.bytes;
        is = step i (suc n) c r.turns r.state r.is ∙ ap (turns_more (suc r.turns)) rest.is;
        done = rest.done;
        whole = rest.whole;
        between = rest.between;
        all = rest.all;
        few = omega (arith, few, more, l, m, cells);
      }

  class_before : (p : Piece) (class : Class) → ClassBetween (regions_of g old new) p class (is_cell_among [] class) b b
  class_before p (Convert kind cell) = λ i k. refl
  class_before p Code = λ i k. refl
  class_before p Plain = λ i k. refl
  class_before p (Number kind) = λ i k. refl
  class_before p (Fixed kind) = λ i k. refl

  before : Between (regions_of g old new) g.pieces [] b b
  before i p e = class_before p p.class

  pub all_return : AllReturned g old new b count g.cells (end_of 0 count b)
  all_return = by count refl
    where
      by : (n : ℕ) → n ≡ count → AllReturned g old new b n g.cells (end_of 0 n b)
      by zero e =
          let no_cells = notifies.none (sym e) in
          record { turns = 0; bytes = b; is = none_more 0 b; done = []; whole = changes.bytes; between = before; all = λ cell small. absurd (omega (arith, small, no_cells)); few = omega arith }
      by (suc n) e =
          let first = notifies.first (omega (arith, e)) in
          let left = same_left g.cells (node 0).done [] first ∙ all_left g.cells in
          subst (λ k. AllReturned g old new b (suc n) k (end_of 0 (suc n) b)) left (from n 0 b (omega (arith, e)) changes.bytes (other_done [] (node 0).done b (λ cell. sym (first cell)) before))

pub all_functions_return : FunctionsReturn → LastConverts → AllFunctionsReturn
all_functions_return returns last_one g old new allows answer b notify begin start node count most changes marks none notifies enough =
    all_return returns last_one g old new allows answer b notify begin start node count most changes marks none notifies enough
