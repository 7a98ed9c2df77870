-- A notified function returns.
use Rattle.std.proofs.Common.{◌≡◌, ℕ, zero, suc, ◌<◌, ◌≤◌, ◌+◌, arith, Bool, true, false, refl, sym, ◌∙◌, ap, subst, Some, List, ◌∷◌}
use Rattle.std.specs.Prelude.{◌==◌, slice_get}
use Rattle.std.specs.List.{Contains}
use Rattle.std.proofs.lemmas.Bool.Decides.{nat_tests}
use Rattle.uh_base.specs.Bytes.{plus}
use Rattle.rv_decode.specs.RowLaws.{LengthIs}
use Rattle.rv_step.specs.Exec.{Rights, State, step_of}
use Rattle.rv_step.specs.Memory.{OtherBytesStay}
use Rattle.prov_cert.specs.Cert.{Node}
use Rattle.prov_runs.specs.Steps.{reached}
use Rattle.prov_runs.specs.NodeLaws.{EdgesServe, JumpsAtNode, OthersStand}
use Rattle.prov_runs.specs.OneNode.{OneNode}
use Rattle.provenance_check.specs.Ground.{Ground}
use Rattle.provenance_check.specs.Judged.{NoneFailsJudges}
use Rattle.provenance_check.specs.Reached.{MarksReached, begins, next_in, next_of}
use Rattle.prov_laws.specs.Checked.{NoneFails}
use Rattle.prov_laws.specs.Convert.{Changes, ConversionKeeps}
use Rattle.prov_laws.specs.Functions.{AtFunction, FunctionEnd, FunctionsReturn, Returns, ReturnsFrom, cells_left, convert, function_of, marked_from, may_convert, one_more, turns_left}
use Rattle.prov_laws.proofs.CountLemmas.{cells_fall, marks_fall, reached_from, same_left, some_left}
use Rattle.prov_laws.proofs.FunctionLemmas.{Turn, cell_counted, converts, done_behind, goes, in_image, later, may, on_again, returns, turn}

module _ (one_node : OneNode) (jumps_at : JumpsAtNode) (others : OthersStand) (serve : EdgesServe) (length_is : LengthIs) (none_fails : NoneFailsJudges) (stay : OtherBytesStay) (keeps : ConversionKeeps)
    (g : Ground) (old new : ℕ → ℕ) (allows : Rights) (answer : ℕ → ℕ) (b : ℕ → ℕ) (notify : List ℕ) (changes : Changes g old new allows answer b) (marks : MarksReached g.nodes notify g.notified) (none : NoneFails g allows) where
  one_step : (most : ℕ) (s left : State) → (s.pc == old 5 + 1072) ≡ false → (s.pc == old 5 + 784) ≡ false → reached (step_of allows s) ≡ Some left
      → function_of allows (old 5) answer (suc most) s ≡ one_more (function_of allows (old 5) answer most left)
  unfolding function_of
  one_step most s left e f h = rw (e, f, h) refl

  one_conversion : (most : ℕ) (s : State) → (s.pc == old 5 + 1072) ≡ false → (s.pc == old 5 + 784) ≡ true → may_convert allows s ≡ true
      → function_of allows (old 5) answer (suc most) s ≡ one_more (function_of allows (old 5) answer most (convert answer s))
  unfolding function_of
  one_conversion most s e f h = rw (e, f, h) refl

  returned : (most : ℕ) (s : State) → (s.pc == old 5 + 1072) ≡ true → function_of allows (old 5) answer most s ≡ Returns 0 s
  unfolding function_of
  returned zero s e = rw e refl
  returned (suc most) s e = rw e refl

  -- an address of the slot page
  slot_is : (s : State) (o : ℕ) → o < 4096 → s.pc ≡ plus (old 5) o → s.pc ≡ old 5 + o
  slot_is s o h e = let end = changes.apart.old_ends 5 in let l = changes.slots in omega (arith, end, l, h, e)

  -- no node stands there
  away : (number : ℕ) (node : Node) (s : State) (o : ℕ) → o < 4096 → AtFunction g old new b number node s → (s.pc == old 5 + o) ≡ false
  away number node s o h here = by (s.pc == old 5 + o) refl
    where
      by : (t : Bool) → (s.pc == old 5 + o) ≡ t → t ≡ false
      by false e = refl
      by true e =
          let is : s.pc ≡ old 5 + o = grind (arith, nat_tests) in
          let at = here.stands.old_pc in
          let end = changes.apart.old_ends 0 in
          let inside = in_image one_node jumps_at others serve length_is none_fails stay keeps g old new allows answer b notify changes marks none number node s here in
          let l = changes.slots in
          let meet : old 0 + node.at ≡ old 5 + o = omega (arith, is, at, end, inside) in
          let same : 0 ≡ 5 = changes.run.disjoint.old 0 5 node.at o inside (omega (arith, l, h)) meet in
          absurd (omega (arith, same))

  abbrev Ends : ℕ → Type 0
  Ends n = (number most : ℕ) (node : Node) (s : State) → AtFunction g old new b number node s → turns_left g number node.done ≤ n → turns_left g number node.done ≤ most
      → ReturnsFrom g old new b number (turns_left g number node.done) (function_of allows (old 5) answer most s)

  named_next : (number m : ℕ) (node : Node) → slice_get g.nodes number ≡ Some node → Contains node.next m → Contains (next_of g.nodes number) m
  named_next number m node e h = subst (λ o. Contains (next_in o) m) (sym e) h

  -- turns more than those of a node that is led to
  led : (number m turns bound : ℕ) (node : Node) (end end' : FunctionEnd) → slice_get g.nodes number ≡ Some node → Contains node.next m → (r : ReturnsFrom g old new b m bound end)
      → ((n : ℕ) (state : State) → end ≡ Returns n state → end' ≡ Returns (turns + n) state) → turns + bound ≤ turns_left g number node.done → ReturnsFrom g old new b number (turns_left g number node.done) end'
  led number m turns bound node end end' listed named r on room =
      let few = r.few in
      record {
        turns = turns + r.turns;
        state = r.state;
        is = on r.turns r.state r.is;
        exit = r.exit;
        node = r.node;
        listed = r.listed;
        reaches = reached_from g.nodes number m r.exit (named_next number m node listed named) r.reaches;
        last = r.last;
        whole = r.whole;
        between = r.between;
        few = omega (arith, few, room);
      }

  more_by : (n : ℕ) (state : State) (end end' : FunctionEnd) → end' ≡ one_more end → end ≡ Returns n state → end' ≡ Returns (suc n) state
  more_by n state end end' e f = e ∙ ap one_more f

  one_plus : (k : ℕ) → suc k ≡ 1 + k
  one_plus k = omega arith

  two_plus : (k : ℕ) → suc (suc k) ≡ 2 + k
  two_plus k = omega arith

  one_turn : (n : ℕ) → Ends n → Ends (suc n)
  one_turn n ends number zero node s here few most = absurd (let l = some_left g.notified number here.marked in omega (arith, l, most))
  one_turn n ends number (suc most) node s here few enough = by (turn one_node jumps_at others serve length_is none_fails stay keeps g old new allows answer b notify changes marks none number node s here)
    where
      no_return : (s.pc == old 5 + 1072) ≡ false
      no_return = away number node s 1072 (omega arith) here

      no_conversion : (s.pc == old 5 + 784) ≡ false
      no_conversion = away number node s 784 (omega arith) here

      by : Turn one_node jumps_at others serve length_is none_fails stay keeps g old new allows answer b notify changes marks none number node s here → ReturnsFrom g old new b number (turns_left g number node.done) (function_of allows (old 5) answer (suc most) s)
      by (goes m next left first behind named cells there) =
          let fall = marks_fall g.notified number m here.marked behind in
          let same = same_left g.cells next.done node.done cells in
          led number m 1 (turns_left g m next.done) node (function_of allows (old 5) answer most left) (function_of allows (old 5) answer (suc most) s) here.listed named
          (ends m most next left there (omega (arith, few, fall, same)) (omega (arith, enough, fall, same)))
          (λ k state e. more_by k state (function_of allows (old 5) answer most left) (function_of allows (old 5) answer (suc most) s) (one_step most s left no_return no_conversion first) e ∙ ap (λ j. Returns j state) (one_plus k))
          (omega (arith, fall, same))
      by (returns left w pc last) =
          let is : left.pc ≡ old 5 + 1072 = slot_is left 1072 (omega arith) pc in
          let at : (left.pc == old 5 + 1072) ≡ true = grind (arith, nat_tests, is) in
          let some = some_left g.notified number here.marked in
          record {
            turns = 1;
            state = left;
            is = one_step most s left no_return no_conversion w.first ∙ ap one_more (returned most left at);
            exit = number;
            node = node;
            listed = here.listed;
            reaches = begins number (0, omega arith, refl);
            last = last;
            whole = w.whole;
            between = w.between;
            few = omega (arith, some);
          }
      by (converts rd left w stands conv back) = on most few enough
        where
          is : left.pc ≡ old 5 + 784
          is = slot_is left 784 (omega arith) stands.old_pc

          at : (left.pc == old 5 + 784) ≡ true
          at = let e = is in grind (arith, nat_tests, e)

          not_back : (left.pc == old 5 + 1072) ≡ false
          not_back = let e = is in grind (arith, nat_tests, e)

          some : 0 < marked_from g.notified number
          some = some_left g.notified number here.marked

          fall : suc (marked_from g.notified back.leads.number) ≤ marked_from g.notified number
          fall = marks_fall g.notified number back.leads.number here.marked (later one_node jumps_at others serve length_is none_fails stay keeps g old new allows answer b notify changes marks none number node s here rd left w stands conv back)

          cells : suc (cells_left g.cells (conv.cell ∷ node.done)) ≤ cells_left g.cells node.done
          cells = cells_fall g.cells conv.cell node.done (cell_counted one_node jumps_at others serve length_is none_fails stay keeps g old new allows answer b notify changes marks none number node s here rd left w stands conv back) conv.fresh

          same : cells_left g.cells back.leads.node.done ≡ cells_left g.cells (conv.cell ∷ node.done)
          same = same_left g.cells back.leads.node.done (conv.cell ∷ node.done) (done_behind one_node jumps_at others serve length_is none_fails stay keeps g old new allows answer b notify changes marks none number node s here rd left w stands conv back)

          on : (most : ℕ) → turns_left g number node.done ≤ suc n → turns_left g number node.done ≤ suc most → ReturnsFrom g old new b number (turns_left g number node.done) (function_of allows (old 5) answer (suc most) s)
          on zero few enough = let x = some in let y = cells in absurd (omega (arith, x, y, enough))
          on (suc k) few enough =
              let x = fall in
              let y = cells in
              let z = same in
              led number back.leads.number 2 (turns_left g back.leads.number back.leads.node.done) node (function_of allows (old 5) answer k (convert answer left)) (function_of allows (old 5) answer (suc (suc k)) s) here.listed back.leads.named
              (ends back.leads.number k back.leads.node (convert answer left)
              (on_again one_node jumps_at others serve length_is none_fails stay keeps g old new allows answer b notify changes marks none number node s here rd left w stands conv back)
              (omega (arith, few, x, y, z)) (omega (arith, enough, x, y, z)))
              (λ j state e. more_by (suc j) state (function_of allows (old 5) answer (suc k) left) (function_of allows (old 5) answer (suc (suc k)) s) (one_step (suc k) s left no_return no_conversion w.first)
              (more_by j state (function_of allows (old 5) answer k (convert answer left)) (function_of allows (old 5) answer (suc k) left)
              (one_conversion k left not_back at (may one_node jumps_at others serve length_is none_fails stay keeps g old new allows answer b notify changes marks none number node s here rd left w stands conv back)) e) ∙ ap (λ i. Returns i state) (two_plus j))
              (omega (arith, x, y, z))

  ends : (n : ℕ) → Ends n
  ends zero number most node s here few enough = let l = some_left g.notified number here.marked in absurd (omega (arith, l, few))
  ends (suc n) number most node s here few enough = one_turn n (ends n) number most node s here few enough

pub functions_return : OneNode → JumpsAtNode → OthersStand → EdgesServe → LengthIs → NoneFailsJudges → OtherBytesStay → ConversionKeeps → FunctionsReturn
functions_return one_node jumps_at others serve length_is none_fails stay keeps g old new allows answer b notify number node s most changes marks none here enough =
    ends one_node jumps_at others serve length_is none_fails stay keeps g old new allows answer b notify changes marks none (turns_left g number node.done) number most node s here (omega arith) enough
