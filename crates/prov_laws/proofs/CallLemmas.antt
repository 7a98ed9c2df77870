-- Nodes that are judged, and calls.
use Rattle.std.proofs.Common.{◌≡◌, ℕ, ◌<◌, ◌≤◌, ◌+◌, ◌%◌, arith, Bool, true, false, refl, sym, ◌∙◌, ap, subst, Option, Some, None, List, []}
use Rattle.std.specs.Prelude.{◌==◌, ◌&&◌, if◌then◌else◌, slice_get}
use Rattle.std.proofs.lemmas.Bool.Decides.{nat_tests}
use Rattle.rv_decode.specs.declared.insn.Insn.{Insn}
use Rattle.rv_decode.specs.RowLaws.{LengthIs}
use Rattle.rv_step.specs.Exec.{Rights}
use Rattle.prov_types.specs.declared.kinds.Kind.{Kind}
use Rattle.prov_types.specs.declared.kinds.Kind.TheVariants.{Ptr}
use Rattle.prov_types.specs.declared.kinds.Place.{Place}
use Rattle.prov_types.specs.Spans.{one}
use Rattle.prov_types.specs.Fits.{fits}
use Rattle.prov_types.specs.Asked.{Stops, asked_kinds, kind_asked}
use Rattle.prov_cert.specs.Cert.{Node}
use Rattle.prov_layout.specs.Pieces.{is_code, is_of, piece_at}
use Rattle.prov_layout.specs.Stores.{is_number}
use Rattle.prov_types.specs.Kinds.{length_of}
use Rattle.prov_runs.specs.Memory.{converted}
use Rattle.prov_runs.specs.Steps.{AreRuns}
use Rattle.prov_runs.specs.OneNode.{AreEven, Graph, Known}
use Rattle.prov_runs.specs.StepLaws.{AreJudged, IsJudged, StepForStep}
use Rattle.provenance_check.specs.Ground.{Ground}
use Rattle.provenance_check.specs.Judged.{Judged, NoneFailsJudges}
use Rattle.provenance_check.specs.Reading.{place_of}
use Rattle.provenance_check.specs.Reached.{MarksReached}
use Rattle.provenance_check.specs.Registers.{kind_at, kinds_of}
use Rattle.provenance_check.specs.Rules.{before, first_rule, is_marked}
use Rattle.prov_laws.specs.Checked.{AreRunsOf, BeginEven, calls, ends_call, function_nodes, functions, has_converted, known, known_in, leaves_function, marked_nodes, regions_of, runs_of}
use Rattle.prov_laws.specs.CheckLaws.{CallNodesJudged, CallsGoAlike, FunctionNodesJudged}
use Rattle.prov_laws.proofs.KindLemmas.{kinds_long, kinds_proper}
use Rattle.prov_laws.proofs.EdgeLemmas.{HasNext, marked_is, marks_closed, same_so}
use Rattle.prov_laws.proofs.CellLemmas.{each_of, has, of_class}
use Rattle.prov_laws.proofs.ReadLemmas.{both, insn_is, read_so, target_is}
use Rattle.prov_laws.proofs.PassLemmas.{OutBy, goes_so, passes_so}

pub asks_on : (lens : List ℕ) (insn : Insn) (place : Place) (kinds : ℕ → Kind) → (kind_asked insn.op lens insn.imm place insn.rd (kinds insn.rs1) (kinds insn.rs2) ≡ Stops → ⊥) → asked_kinds lens insn place kinds ≡ Stops → ⊥
unfolding asked_kinds
asks_on lens insn place kinds h e = h e

module _ (length_is : LengthIs) (none_fails : NoneFailsJudges) (g : Ground) (old new : ℕ → ℕ) (allows others : Rights) (of : AreRunsOf g old new allows others) where
  pub judged_by : (graph : Graph) (done : List ℕ) (number : ℕ) (node : Node) → slice_get g.nodes number ≡ Some node → first_rule g allows number node ≡ None → HasNext graph g.nodes node.next node.done
      → OutBy (is_marked g.notified number) graph.doors → done ≡ converted (is_marked g.notified number) node.done → IsJudged (runs_of g old new done allows others) (is_marked g.notified number) graph (known node)
  judged_by graph done number node listed passes has out not_compared =
      let j : Judged g allows number node = none_fails g allows number node of.formed passes in
      let place = place_of g node.at j.len in
      record {
        place = place;
        insn = j.insn;
        cells = node.done;
        next = node.next;
        at = refl;
        is_insn = insn_is length_is g old new done allows others node.at j.len j.insn j.reads j.site;
        target_is = target_is g node.at j.len;
        proper = kinds_proper node.regs (of.formed number node listed).registers;
        not_compared = not_compared;
        passes = passes_so g old new done allows others graph node.next (before g number node) place j.insn of.starts (kinds_long node.regs) has out
            (asked_kinds g.lens j.insn place (kind_at (kinds_of node.regs)))
            (asks_on g.lens j.insn place (kind_at (kinds_of node.regs)) (goes_so j.insn.op g.lens j.insn.imm place j.insn.rd (kind_at (kinds_of node.regs) j.insn.rs1) (kind_at (kinds_of node.regs) j.insn.rs2) (read_so length_is g node.at j.len j.insn j.reads).goes_on))
            j.passes;
      }

  pub call_next : (starts : List ℕ) (number : ℕ) (node : Node) → MarksReached g.nodes starts g.called → slice_get g.nodes number ≡ Some node → is_marked g.called number ≡ true → HasNext (calls g) g.nodes node.next node.done
  call_next starts number node reached listed marked n next named e same = marked_is g.nodes g.called n next (marks_closed g.nodes starts g.called number n node next reached listed marked e named) e

-- the nodes of functions that a node leads to, whatever the ways out
pub function_next : (g : Ground) (starts : List ℕ) (number : ℕ) (node : Node) (doors : (r o : ℕ) → (ℕ → Kind) → Bool) → MarksReached g.nodes starts g.notified → slice_get g.nodes number ≡ Some node → is_marked g.notified number ≡ true
    → HasNext (record { nodes = function_nodes g node.done; doors = doors }) g.nodes node.next node.done
function_next g starts number node doors reached listed marked n next named e same =
    let has : has_converted node.done (slice_get g.nodes n) ≡ true = subst (λ o. has_converted node.done o ≡ true) (sym e) (same_so node.done next.done (λ cell. sym (same cell))) in
    ap (λ c. if c then marked_nodes g.nodes g.notified n else None) has ∙ marked_is g.nodes g.notified n next (marks_closed g.nodes starts g.notified number n node next reached listed marked e named) e

-- a node stands in the image
pub node_inside : LengthIs → NoneFailsJudges → (g : Ground) (old new : ℕ → ℕ) (allows others : Rights) → AreRunsOf g old new allows others → (number : ℕ) (node : Node) → slice_get g.nodes number ≡ Some node
    → first_rule g allows number node ≡ None → node.at < length_of g.lens 0
node_inside length_is none_fails g old new allows others of number node listed passes =
    let j = none_fails g allows number node of.formed passes in
    let read = read_so length_is g node.at j.len j.insn j.reads in
    let z : node.at + 0 ≡ node.at = omega arith in
    let code : is_of is_code (piece_at g.pieces 0 node.at) ≡ true = subst (λ n. is_of is_code (piece_at g.pieces 0 n) ≡ true) z (each_of is_code (piece_at g.pieces 0) node.at j.len 0 read.code read.some) in
    let k = of_class is_code g.pieces 0 node.at code in
    let f = k.found in
    let x = has k.piece 0 node.at f.byte in
    let inside : k.piece.at + k.piece.len ≤ length_of g.lens 0 = subst (λ r. k.piece.at + k.piece.len ≤ length_of g.lens r) x.region (of.is_laid.inside f.index k.piece f.listed) in
    let high = x.high in
    omega (arith, inside, high)

-- how a call ends
call_out : OutBy false ends_call
call_out = record {
  ends = λ kinds stack value. let v : is_number (kinds 10) ≡ true = value refl in rw (stack, v) refl;
  converts = λ n kinds. absurd cc;
}

function_out : OutBy true leaves_function
function_out = record {
  ends = λ kinds stack value. rw stack refl;
  converts = λ n kinds. refl;
}

pub call_nodes : LengthIs → NoneFailsJudges → CallNodesJudged
call_nodes length_is none_fails g old new allows others entries number node of reached listed called apart passes =
    let h : IsJudged (runs_of g old new [] allows others) (is_marked g.notified number) (calls g) (known node) =
    judged_by length_is none_fails g old new allows others of (calls g) [] number node listed passes (call_next length_is none_fails g old new allows others of entries number node reached listed called)
    (subst (λ n. OutBy n ends_call) (sym apart) call_out) (subst (λ n. [] ≡ converted n node.done) (sym apart) refl) in
    subst (λ n. IsJudged (runs_of g old new [] allows others) n (calls g) (known node)) apart h

pub functions_judged : LengthIs → NoneFailsJudges → FunctionNodesJudged
functions_judged length_is none_fails g old new allows others notify number node of reached listed marked passes =
    let h : IsJudged (runs_of g old new node.done allows others) (is_marked g.notified number) (functions g node.done) (known node) =
    judged_by length_is none_fails g old new allows others of (functions g node.done) node.done number node listed passes (function_next g notify number node leaves_function reached listed marked)
    (subst (λ n. OutBy n leaves_function) (sym marked) function_out) (subst (λ n. node.done ≡ converted n node.done) (sym marked) refl) in
    subst (λ n. IsJudged (runs_of g old new node.done allows others) n (functions g node.done) (known node)) marked h

-- a call reaches no node of a notified function
not_notified : NoneFailsJudges → (g : Ground) (old new : ℕ → ℕ) (allows others : Rights) (number : ℕ) (node : Node) → AreRunsOf g old new allows others → first_rule g allows number node ≡ None
    → is_marked g.called number ≡ true → is_marked g.notified number ≡ false
not_notified none_fails g old new allows others number node of passes called = by (is_marked g.notified number) refl
  where
    by : (b : Bool) → is_marked g.notified number ≡ b → is_marked g.notified number ≡ false
    by false e = e
    by true e = let alone = ((none_fails g allows number node of.formed passes).order e).alone in absurd cc

pub record Listed (g : Ground) (number : ℕ) (k : Known) : Type 0 where
  pub node : Node
  pub listed : slice_get g.nodes number ≡ Some node
  pub called : is_marked g.called number ≡ true
  pub is : known node ≡ k

pub listed_so : (g : Ground) (number : ℕ) (k : Known) → marked_nodes g.nodes g.called number ≡ Some k → Listed g number k
listed_so g number k = by (is_marked g.called number) (slice_get g.nodes number) refl refl
  where
    by : (c : Bool) (o : Option Node) → is_marked g.called number ≡ c → slice_get g.nodes number ≡ o → (if c then known_in o else None) ≡ Some k → Listed g number k
    by true (Some node) e f h = record { node = node; listed = f; called = e; is = cc }
    by true None e f h = absurd cc
    by false o e f h = absurd cc

pub runs_so : (g : Ground) (old new : ℕ → ℕ) (allows others : Rights) (done : List ℕ) → AreRunsOf g old new allows others → AreRuns (runs_of g old new done allows others)
runs_so g old new allows others done of = record { apart = of.apart; disjoint = of.disjoint; is_laid = of.is_laid; rights = of.rights; code = of.code }

call_even : (start : ℕ → ℕ) → BeginEven start → (r o : ℕ) (kinds : ℕ → Kind) → ends_call r o kinds ≡ true → (start r + o) % 2 ≡ 0
call_even start even r o kinds e =
    let a = both (r == 3) (o == 0 && (fits (kinds 2) (Ptr 1 (one 65536)) && is_number (kinds 10))) e in
    let c = both (o == 0) (fits (kinds 2) (Ptr 1 (one 65536)) && is_number (kinds 10)) a.1 in
    let first = a.0 in
    let second = c.0 in
    let region : r ≡ 3 = grind (arith, nat_tests) in
    let at : o ≡ 0 = grind (arith, nat_tests) in
    let page = even.return_page in
    subst (λ n. (start n + o) % 2 ≡ 0) (sym region) (omega (arith, page, at))

pub calls_even : (g : Ground) (old new : ℕ → ℕ) (allows others : Rights) → AreRunsOf g old new allows others → AreEven (regions_of g old new) (calls g)
calls_even g old new allows others of = record {
  old_image = of.old_even.image;
  new_image = of.new_even.image;
  old_door = call_even old of.old_even;
  new_door = call_even new of.new_even;
}

pub go_alike : NoneFailsJudges → CallNodesJudged → StepForStep → CallsGoAlike
go_alike none_fails judged steps g old new allows others entries n s t of reached none here =
    steps (runs_of g old new [] allows others) (calls g) n s t (runs_so g old new allows others [] of) (calls_even g old new allows others of) all here
  where
    all : AreJudged (runs_of g old new [] allows others) (calls g)
    all number k e =
        let l = listed_so g number k e in
        let passes = none number l.node l.listed in
        subst (IsJudged (runs_of g old new [] allows others) false (calls g)) l.is
        (judged g old new allows others entries number l.node of reached l.listed l.called (not_notified none_fails g old new allows others number l.node of passes l.called) passes)
