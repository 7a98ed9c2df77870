-- One turn of a notified function.
use Rattle.std.proofs.Common.{◌≡◌, ℕ, zero, suc, ◌<◌, ◌≤◌, ◌+◌, ◌%◌, ◌/◌, ◌^◌, arith, Bool, true, false, refl, sym, ◌∙◌, ap, subst, Option, Some, None, List, ◌∷◌, length, inl, inr}
use Rattle.std.specs.Prelude.{◌≢◌, ◌⊎◌, ◌==◌, ◌&&◌, ◌||◌, not, is_none, if◌then◌else◌, slice_get, slice_index, slice_set}
use Rattle.std.specs.List.{Contains, list_any}
use Rattle.std.proofs.lemmas.Bool.Decides.{nat_tests}
use Rattle.std.proofs.lemmas.List.{get_or-set_same, get_or-set_other, length-set}
use Rattle.uh_base.specs.Bytes.{first_refused, next, number_at, plus, with_byte, with_number}
use Rattle.rv_decode.specs.declared.insn.Insn.{Insn}
use Rattle.rv_decode.specs.RowLaws.{LengthIs}
use Rattle.rv_step.specs.declared.bus.Access.TheVariants as access
use Rattle.rv_step.specs.Exec.{Rights, State, step_of}
use Rattle.rv_step.specs.Memory.{OtherBytesStay}
use Rattle.rv_step.specs.Numbers.{AreNumbers}
use Rattle.prov_types.specs.declared.kinds.Span.{Span}
use Rattle.prov_types.specs.declared.kinds.Kind.{Kind}
use Rattle.prov_types.specs.declared.kinds.Kind.TheVariants.{Any, Num, Ptr, Opt}
use Rattle.prov_types.specs.declared.kinds.Place.{Place}
use Rattle.prov_types.specs.Spans.{InSpan, one}
use Rattle.prov_types.specs.Kinds.{Holds, Regions, length_of}
use Rattle.prov_types.specs.Asked.{Forks, Goes, Jumps, KindAsk, Loads, Sets, Stops, Stores, asked_kinds}
use Rattle.prov_cert.specs.Cert.{Node}
use Rattle.prov_layout.specs.declared.piece.Class.{Class}
use Rattle.prov_layout.specs.declared.piece.Class.TheVariants.{Code, Plain, Number, Fixed, Convert}
use Rattle.prov_layout.specs.declared.piece.Piece.{Piece}
use Rattle.prov_layout.specs.Pieces.{is_cell_among, piece_at}
use Rattle.prov_runs.specs.Bytes.{AreBytes}
use Rattle.prov_runs.specs.Memory.{PartsHold}
use Rattle.prov_runs.specs.States.{IsHart, RegistersHold, StandAt, with_kind}
use Rattle.prov_runs.specs.Steps.{AtNode, Runs, reached}
use Rattle.prov_runs.specs.NodeLaws.{BothStep, EdgesServe, JumpsAtNode, OthersStand, StoresToStack, linked}
use Rattle.prov_runs.specs.OneNode.{AreEven, AtDoor, AtNext, Graph, Known, OneNode, Passes}
use Rattle.provenance_check.specs.Ground.{Ground}
use Rattle.provenance_check.specs.Judged.{ConversionLeads, ConvertPasses, Judged, JumpPasses as JumpsIn, NoneFailsJudges, OnStack as OnStackIn, Passes as PassesIn, StoresOutside as OutsideIn}
use Rattle.provenance_check.specs.Reading.{place_of}
use Rattle.provenance_check.specs.Reached.{MarksReached}
use Rattle.provenance_check.specs.Registers.{kind_at, kinds_of, written}
use Rattle.provenance_check.specs.Rules.{before, disposition, edges, is_exit, is_marked, is_value, same_cells}
use Rattle.provenance_check.specs.Successors.{Astray, Before, Converts, Out, and_cell, behind_jump, cell_in, cell_number, cell_of, number_of, even_offset, inner_or, is_place, link_kind, successors, target_by}
use Rattle.prov_laws.specs.Checked.{NoneFails, function_nodes, has_converted, known, known_in, regions_of, runs_of}
use Rattle.prov_laws.specs.Convert.{Between, Changes, ClassBetween, ConversionKeeps, HoldsLaid, IsBelow, IsCell, with_converted}
use Rattle.prov_laws.specs.Functions.{AtFunction, convert, may_convert}
use Rattle.prov_laws.proofs.KindLemmas.{AreKinds, as_they_are, fit_so, kinds_long, kinds_proper, with_one, written_long}
use Rattle.prov_laws.proofs.EdgeLemmas.{HasNext, SameCells, allows_so, marks_closed, of_same, parts_so}
use Rattle.prov_laws.proofs.ReadLemmas.{Read, both, insn_is, read_so, target_is}
use Rattle.prov_laws.proofs.PassLemmas.{goes_so, inner, passes_by}
use Rattle.prov_laws.proofs.CallLemmas.{asks_on, function_next, node_inside, runs_so}
use Rattle.prov_laws.proofs.CellLemmas.{found, has as has_where, number_stays}
use Rattle.prov_laws.proofs.ConvertLemmas.{between_holds, cell_holds, off_store, same_there}
use Rattle.prov_laws.proofs.RuleLemmas.{edge_so, no_next}

-- no way leads out
abbrev nowhere : (r o : ℕ) → (ℕ → Kind) → Bool
nowhere r o kinds = false

abbrev inside_graph : Ground → List ℕ → Graph
inside_graph g done = record { nodes = function_nodes g done; doors = nowhere }

record Listed (g : Ground) (done : List ℕ) (number : ℕ) (k : Known) : Type 0 where
  node : Node
  listed : slice_get g.nodes number ≡ Some node
  marked : is_marked g.notified number ≡ true
  same : same_cells done node.done ≡ true
  is : known node ≡ k

listed_so : (g : Ground) (done : List ℕ) (number : ℕ) (k : Known) → function_nodes g done number ≡ Some k → Listed g done number k
listed_so g done number k = by (is_marked g.notified number) (slice_get g.nodes number) refl refl
  where
    on : (node : Node) (t : Bool) → is_marked g.notified number ≡ true → slice_get g.nodes number ≡ Some node → same_cells done node.done ≡ t → (if t then Some (known node) else None) ≡ Some k → Listed g done number k
    on node true e f h q = record { node = node; listed = f; marked = e; same = h; is = cc }
    on node false e f h q = absurd cc

    by : (c : Bool) (o : Option Node) → is_marked g.notified number ≡ c → slice_get g.nodes number ≡ o → (if has_converted done o then (if c then known_in o else None) else None) ≡ Some k → Listed g done number k
    by true (Some node) e f h = on node (same_cells done node.done) e f refl h
    by false (Some node) e f h = never (same_cells done node.done) h
      where
        never : (t : Bool) → (if t then None else None) ≡ Some k → Listed g done number k
        never true q = absurd cc
        never false q = absurd cc
    by c None e f h = absurd cc

-- whether a piece's cell is among converted ones
pub class_same : (xs ys : List ℕ) (class : Class) → SameCells xs ys → is_cell_among xs class ≡ is_cell_among ys class
class_same xs ys (Convert kind cell) h = h cell
class_same xs ys Code h = refl
class_same xs ys Plain h = refl
class_same xs ys (Number kind) h = refl
class_same xs ys (Fixed kind) h = refl

-- a convertible cell at an offset
record TheCell (pieces : List Piece) (r o : ℕ) (kind : Kind) (cell : ℕ) : Type 0 where
  piece : Piece
  index : ℕ
  listed : slice_get pieces index ≡ Some piece
  region : piece.region ≡ r
  at : piece.at ≡ o
  class : piece.class ≡ Convert kind cell

cell_found : (pieces : List Piece) (r o : ℕ) (kind : Kind) (cell : ℕ) → cell_in o (piece_at pieces r o) ≡ Some (kind, cell) → TheCell pieces r o kind cell
cell_found pieces r o kind cell = by (piece_at pieces r o) refl
  where
    class_is : (p : Piece) (class : Class) → p.class ≡ class → cell_of class ≡ Some (kind, cell) → p.class ≡ Convert kind cell
    class_is p (Convert k n) e h =
        let q : ◌≡◌ {A = Kind × ℕ} (k, n) (kind, cell) = cc in
        let first : k ≡ kind = ap (λ z. z.0) q in
        let second : n ≡ cell = ap (λ z. z.1) q in
        e ∙ ap (λ z. Convert z n) first ∙ ap (Convert kind) second
    class_is p Code e h = absurd cc
    class_is p Plain e h = absurd cc
    class_is p (Number k) e h = absurd cc
    class_is p (Fixed k) e h = absurd cc

    on : (p : Piece) (t : Bool) → piece_at pieces r o ≡ Some p → (p.at == o) ≡ t → (if t then cell_of p.class else None) ≡ Some (kind, cell) → TheCell pieces r o kind cell
    on p true e f h =
        let k = found pieces p r o e in
        let x = has_where p r o k.byte in
        record { piece = p; index = k.index; listed = k.listed; region = x.region; at = grind (arith, nat_tests); class = class_is p p.class refl h }
    on p false e f h = absurd cc

    by : (q : Option Piece) → piece_at pieces r o ≡ q → cell_in o q ≡ Some (kind, cell) → TheCell pieces r o kind cell
    by None e h = absurd cc
    by (Some p) e h = on p (p.at == o) e refl h

-- the one value of a span of one
one_value : (s : Span) (v : ℕ) → InSpan s v → s.lo ≡ s.hi → v ≡ s.lo
one_value s v p e = let a = p.from_lo in let b = p.to_hi in omega (arith, a, b, e)

allowed_all : (allowed : ℕ → Bool) (at n : ℕ) → at + n < 2 ^ 64 → ((i : ℕ) → i < n → allowed (at + i) ≡ true) → first_refused allowed at n ≡ None
unfolding first_refused
allowed_all allowed at zero h k = refl
allowed_all allowed at (suc n) h k =
    let zero_at : at ≡ at + 0 = omega arith in
    let first : allowed at ≡ true = ap allowed zero_at ∙ k 0 (omega arith) in
    let behind : next at ≡ at + 1 = omega arith in
    let more = allowed_all allowed (at + 1) n (omega arith) (λ i l. let e : at + 1 + i ≡ at + suc i = omega arith in ap allowed e ∙ k (suc i) (omega arith)) in
    rw (first, behind, more) refl

bytes_after : (b : ℕ → ℕ) (at n value : ℕ) → AreBytes b → AreBytes (with_number b at n value)
unfolding with_number
bytes_after b at zero value h = h
bytes_after b at (suc n) value h = bytes_after (with_byte b at (value % 256)) (next at) n (value / 256) (λ a. by a (a == at))
  where
    by : (a : ℕ) (c : Bool) → (if c then value % 256 else b a) < 256
    by a true = omega arith
    by a false = h a

set_numbers : (x : List ℕ) (rd v : ℕ) → rd < length x → v < 2 ^ 64 → AreNumbers x → AreNumbers (slice_set x rd v)
set_numbers x rd v h k xs r = by (r == rd) refl
  where
    by : (t : Bool) → (r == rd) ≡ t → slice_index (slice_set x rd v) r < 2 ^ 64
    by true e = let same : r ≡ rd = grind (arith, nat_tests) in rw (same, get_or-set_same x rd v 0 h) k
    by false e = let other : r ≢ rd = λ h. absurd (grind (arith, nat_tests)) in rw (get_or-set_other x rd r v 0 other) (xs r)

module _ (one_node : OneNode) (jumps_at : JumpsAtNode) (others : OthersStand) (serve : EdgesServe) (length_is : LengthIs) (none_fails : NoneFailsJudges) (stay : OtherBytesStay) (keeps : ConversionKeeps)
    (g : Ground) (old new : ℕ → ℕ) (allows : Rights) (answer : ℕ → ℕ) (b : ℕ → ℕ) (notify : List ℕ) (changes : Changes g old new allows answer b) (marks : MarksReached g.nodes notify g.notified) (none : NoneFails g allows)
    (number : ℕ) (node : Node) (s : State) (here : AtFunction g old new b number node s) where
  abbrev pub still : Regions
  still = regions_of g old old

  abbrev pub moving : Regions
  moving = regions_of g old new

  abbrev pub runs : Runs
  runs = runs_of g old old node.done allows allows

  abbrev pub judged : Judged g allows number node
  judged = none_fails g allows number node changes.run.formed (none number node here.listed)

  abbrev pub place : Place
  place = place_of g node.at judged.len

  abbrev pub insn : Insn
  insn = judged.insn

  abbrev pub kinds : ℕ → Kind
  kinds = kind_at (kinds_of node.regs)

  abbrev pub known_before : Before
  known_before = before g number node

  read : Read g node.at judged.len judged.insn
  read = read_so length_is g node.at judged.len judged.insn judged.reads

  laid : HoldsLaid g old node.done s.bytes
  laid = between_holds g old new allows answer b s.bytes node.done changes here.between

  at_node : AtNode runs place insn kinds node.stack s s
  at_node = record {
    are_runs = runs_so g old old allows allows node.done changes.run;
    is_insn = insn_is length_is g old old node.done allows allows node.at judged.len judged.insn judged.reads judged.site;
    target_is = target_is g node.at judged.len;
    proper = kinds_proper node.regs (changes.run.formed number node here.listed).registers;
    related = record { first = here.whole; second = here.whole; moved = laid.moved; code = laid.code };
    stands = here.stands;
  }

  abbrev pub asked : KindAsk
  asked = asked_kinds g.lens insn place kinds

  -- the state behind a step that changes no byte outside the stack
  pub record Went (left : State) : Type 0 where
    pub first : reached (step_of allows s) ≡ Some left
    pub whole : IsHart left
    pub between : Between moving g.pieces node.done b left.bytes

  class_stays : (p : Piece) (class : Class) (t : Bool) (c d : ℕ → ℕ) → p.at + p.len ≤ length_of g.lens p.region → ((i : ℕ) → i < p.len → d (old p.region + (p.at + i)) ≡ c (old p.region + (p.at + i)))
      → ClassBetween moving p class t b c → ClassBetween moving p class t b d
  class_stays p (Convert kind cell) true c d inside stay h =
      subst (λ v. Holds moving kind (number_at b (old p.region + p.at) p.len) v) (sym (number_stays c d (old p.region) (length_of g.lens p.region) p.at p.len (changes.apart.old_ends p.region) inside stay)) h
  class_stays p (Convert kind cell) false c d inside stay h = λ i k. stay i k ∙ h i k
  class_stays p Code t c d inside stay h = λ i k. stay i k ∙ h i k
  class_stays p Plain t c d inside stay h = λ i k. stay i k ∙ h i k
  class_stays p (Number kind) t c d inside stay h = λ i k. stay i k ∙ h i k
  class_stays p (Fixed kind) t c d inside stay h = λ i k. stay i k ∙ h i k

  went : (k : KindAsk) → asked ≡ k → StoresToStack runs k → (left : State) → reached (step_of allows s) ≡ Some left → IsHart left → Went left
  went k e on left first whole = record {
    first = first;
    whole = whole;
    between = λ i p listed.
        let inside = changes.run.is_laid.inside i p listed in
        let off : p.region ≢ 1 = λ z. changes.run.is_laid.off_stack i p listed z in
        class_stays p p.class (is_cell_among node.done p.class) s.bytes left.bytes inside
        (λ j k. others runs place insn kinds node.stack s s left at_node (subst (StoresToStack runs) (sym e) on) first p.region (p.at + j) (omega (arith, inside, k)) off)
        (here.between i p listed);
  }

  -- both of one run are one
  same_state : (left right : State) → reached (step_of allows s) ≡ Some left → reached (step_of allows s) ≡ Some right → right ≡ left
  same_state left right e f = let h : Some left ≡ Some right = sym e ∙ f in cc

  -- where a turn leads
  pub data Turn : Type 0 where
    goes : (m : ℕ) (next : Node) (left : State) → reached (step_of allows s) ≡ Some left → number < m → Contains node.next m → SameCells next.done node.done → AtFunction g old new b m next left → Turn
    returns : (left : State) → Went left → left.pc ≡ plus (old 5) 1072 → is_exit node ≡ true → Turn
    converts : (rd : ℕ) (left : State) → Went left → StandAt still 5 784 (linked runs place kinds rd) node.stack left left
        → ConvertPasses g allows known_before (written (kinds_of node.regs) rd (link_kind g place)) → ConversionLeads g known_before node.next (written (kinds_of node.regs) rd (link_kind g place)) → Turn

  even_inside : AreEven still (inside_graph g node.done)
  even_inside = record { old_image = changes.run.old_even.image; new_image = changes.run.old_even.image; old_door = λ r o k e. absurd cc; new_door = λ r o k e. absurd cc }

  has : HasNext (inside_graph g node.done) g.nodes node.next node.done
  has = function_next g notify number node nowhere marks here.listed here.marked

  go_inside : (k : KindAsk) → asked ≡ k → StoresToStack runs k → Passes runs true node.done (inside_graph g node.done) node.next place insn kinds node.stack k → Turn
  go_inside k e on pass = by (one_node runs true node.done (inside_graph g node.done) node.next place insn kinds node.stack s s refl even_inside at_node (subst (Passes runs true node.done (inside_graph g node.done) node.next place insn kinds node.stack) (sym e) pass))
    where
      by : AtNext runs (inside_graph g node.done) node.next s s ⊎ AtDoor runs (inside_graph g node.done) node.stack s s → Turn
      by (inr out) = let never : false ≡ true = out.door in absurd cc
      by (inl next) =
          let h = next.goes in
          let l = listed_so g node.done next.number next.node next.listed in
          let w = went k e on h.left h.first h.related.first in
          let same : h.right ≡ h.left = same_state h.left h.right h.first h.second in
          let cells : SameCells l.node.done node.done = λ cell. sym (of_same node.done l.node.done l.same cell) in
          let stands : StandAt still 0 next.node.at next.node.kinds next.node.parts h.left h.left = subst (StandAt still 0 next.node.at next.node.kinds next.node.parts h.left) same h.stands in
          goes next.number l.node h.left h.first ((judged.order here.marked).later next.number next.named) next.named cells
          (record {
            listed = l.listed;
            marked = l.marked;
            whole = w.whole;
            between = λ i p listed. subst (λ t. ClassBetween moving p p.class t b h.left.bytes) (class_same node.done l.node.done p.class (λ cell. sym (cells cell))) (w.between i p listed);
            stands = subst (λ z. StandAt still 0 z.at z.kinds z.parts h.left h.left) (sym l.is) stands;
          })

  -- A jump out of the image

  jump_out : (rd : ℕ) (to : Kind) (o : ℕ) → asked ≡ Jumps to rd → is_place 5 o to ≡ true → (old 5 + o) % 2 ≡ 0 → BothStep runs 5 o (linked runs place kinds rd) node.stack s s
  jump_out rd Any o e h even = absurd cc
  jump_out rd (Num q) o e h even = absurd cc
  jump_out rd (Opt r q) o e h even = absurd cc
  jump_out rd (Ptr r q) o e h even =
      let a = both (r == 5) (q.lo == o && q.hi == o) h in
      let c = both (q.lo == o) (q.hi == o) a.1 in
      let x = a.0 in
      let y = c.0 in
      let z = c.1 in
      let region : r ≡ 5 = grind (arith, nat_tests) in
      let at : q.lo ≡ o = grind (arith, nat_tests) in
      let single : q.lo ≡ q.hi = grind (arith, nat_tests) in
      let there : (old r + q.lo) % 2 ≡ 0 = subst (λ n. (old n + q.lo) % 2 ≡ 0) (sym region) (subst (λ n. (old 5 + n) % 2 ≡ 0) (sym at) even) in
      let step = jumps_at runs place insn kinds node.stack s s r q rd at_node e single there there in
      subst (λ n. BothStep runs 5 n (linked runs place kinds rd) node.stack s s) at (subst (λ n. BothStep runs n q.lo (linked runs place kinds rd) node.stack s s) region step)

  abbrev pub link : ℕ → List Kind
  link rd = written (kinds_of node.regs) rd (link_kind g place)

  out_edge : (rd : ℕ) (to : Kind) → asked ≡ Jumps to rd → target_by true to ≡ Out → is_exit node ≡ true
  out_edge rd to e f =
      let h : edges g.nodes node.next (successors g allows known_before place insn asked) ≡ true = edge_so g allows number node judged.insn judged.len judged.reads (none number node here.listed) in
      let i : edges g.nodes node.next (behind_jump g known_before (link rd) (target_by (is_marked g.notified number) to)) ≡ true = subst (λ k. edges g.nodes node.next (successors g allows known_before place insn k) ≡ true) e h in
      let j : edges g.nodes node.next (behind_jump g known_before (link rd) (target_by true to)) ≡ true = subst (λ t. edges g.nodes node.next (behind_jump g known_before (link rd) (target_by t to)) ≡ true) here.marked i in
      let k : edges g.nodes node.next (behind_jump g known_before (link rd) Out) ≡ true = subst (λ t. edges g.nodes node.next (behind_jump g known_before (link rd) t) ≡ true) f j in
      no_next g.nodes node k

  jump_by : (rd : ℕ) (to : Kind) → asked ≡ Jumps to rd → JumpsIn g allows known_before node.next (link rd) (target_by true to) → Turn
  unfolding target_by
  jump_by rd to e = by (even_offset to) (is_place 5 1072 to) (is_place 5 784 to) refl refl refl
    where
      slot_even : (o : ℕ) → o % 2 ≡ 0 → (old 5 + o) % 2 ≡ 0
      slot_even o h = let k = changes.run.old_even.slot_page in omega (arith, k, h)

      by : (o : Option ℕ) (x y : Bool) → even_offset to ≡ o → is_place 5 1072 to ≡ x → is_place 5 784 to ≡ y
          → JumpsIn g allows known_before node.next (link rd) (inner_or o (if x then Out else (if y then Converts else Astray))) → Turn
      by (Some o) x y f k l h =
          let pass = inner g old old node.done allows allows (inside_graph g node.done) node.next known_before place insn changes.run.starts (kinds_long node.regs) has rd to o f h in
          go_inside (Jumps to rd) e tt (subst (λ n. Passes runs n node.done (inside_graph g node.done) node.next place insn kinds node.stack (Jumps to rd)) here.marked pass)
      by None true y f k l h =
          let step = jump_out rd to 1072 e k (slot_even 1072 (omega arith)) in
          returns step.left (went (Jumps to rd) e tt step.left step.first step.related.first) step.stands.old_pc (out_edge rd to e (target_out f k))
        where
          target_out : even_offset to ≡ None → is_place 5 1072 to ≡ true → target_by true to ≡ Out
          target_out f k = rw (f, k) refl
      by None false true f k l h =
          let step = jump_out rd to 784 e l (slot_even 784 (omega arith)) in
          let same : step.right ≡ step.left = same_state step.left step.right step.first step.second in
          converts rd step.left (went (Jumps to rd) e tt step.left step.first step.related.first) (subst (StandAt still 5 784 (linked runs place kinds rd) node.stack step.left) same step.stands) h.0 h.1
      by None false false f k l h = absurd h

  -- what each instruction does

  passes_inside : (k : KindAsk) → asked ≡ k → ((rd : ℕ) (to : Kind) → k ≡ Jumps to rd → ⊥) → PassesIn g allows known_before node.next place insn k → Passes runs true node.done (inside_graph g node.done) node.next place insn kinds node.stack k
  passes_inside k e no_jump h =
      let go : k ≡ Stops → ⊥ = λ z. asks_on g.lens insn place kinds (goes_so insn.op g.lens insn.imm place insn.rd (kinds insn.rs1) (kinds insn.rs2) read.goes_on) (e ∙ z) in
      subst (λ n. Passes runs n node.done (inside_graph g node.done) node.next place insn kinds node.stack k) here.marked
      (passes_by g old old node.done allows allows (inside_graph g node.done) node.next known_before place insn changes.run.starts (kinds_long node.regs) has k go (λ rd to z j. absurd (no_jump rd to z)) h)

  store_stack : (r : ℕ) (q : Span) (width : ℕ) (kind : Kind) → OnStackIn g (allows access.Store) r q width ⊎ OutsideIn g allows known_before r q width kind → StoresToStack runs (Stores (Ptr r q) width kind)
  store_stack r q width kind (inl on) = record { region = on.region; one = on.one; allows = allows_so g old old node.done allows allows access.Store 1 q.lo width changes.run.starts on.allowed }
  store_stack r q width kind (inr off) = let never : true ≡ false = sym here.marked ∙ off.call in absurd cc

  pub turn : Turn
  turn = by asked refl judged.passes
    where
      by : (k : KindAsk) → asked ≡ k → PassesIn g allows known_before node.next place insn k → Turn
      by (Sets rd kind) e h = go_inside (Sets rd kind) e tt (passes_inside (Sets rd kind) e (λ rd to z. absurd cc) h)
      by (Loads rd at width sign) e h = go_inside (Loads rd at width sign) e tt (passes_inside (Loads rd at width sign) e (λ rd to z. absurd cc) h)
      by (Stores (Ptr r q) width kind) e h = go_inside (Stores (Ptr r q) width kind) e (store_stack r q width kind h.stores) (passes_inside (Stores (Ptr r q) width kind) e (λ rd to z. absurd cc) h)
      by (Stores Any width kind) e h = absurd h
      by (Stores (Num q) width kind) e h = absurd h
      by (Stores (Opt r q) width kind) e h = absurd h
      by (Forks op x y next target) e h = go_inside (Forks op x y next target) e tt (passes_inside (Forks op x y next target) e (λ rd to z. absurd cc) h)
      by (Goes to rd) e h = go_inside (Goes to rd) e tt (passes_inside (Goes to rd) e (λ rd to z. absurd cc) h)
      by (Jumps to rd) e h = jump_by rd to e (subst (λ t. JumpsIn g allows known_before node.next (link rd) (target_by t to)) here.marked h)
      by Stops e h = absurd (asks_on g.lens insn place kinds (goes_so insn.op g.lens insn.imm place insn.rd (kinds insn.rs1) (kinds insn.rs2) read.goes_on) e)

  pub in_image : node.at < length_of g.lens 0
  in_image = node_inside length_is none_fails g old old allows allows changes.run number node here.listed (none number node here.listed)

  -- Behind ConvertPointer

  module _ (rd : ℕ) (left : State) (w : Went left) (stands : StandAt still 5 784 (linked runs place kinds rd) node.stack left left) (conv : ConvertPasses g allows known_before (written (kinds_of node.regs) rd (link_kind g place)))
      (back : ConversionLeads g known_before node.next (written (kinds_of node.regs) rd (link_kind g place))) where
    abbrev now : ℕ → Kind
    now = linked runs place kinds rd

    same_kinds : AreKinds (link rd) now
    same_kinds = with_one (kinds_of node.regs) kinds rd (link_kind g place) (kinds_long node.regs) (as_they_are (kinds_of node.regs))

    -- what a register of a kind of the list holds
    register : (r : ℕ) (kind : Kind) → r < 32 → kind_at (link rd) r ≡ kind → Holds still kind (slice_index left.x r) (slice_index left.x r)
    register r kind h e = subst (λ k. Holds still k (slice_index left.x r) (slice_index left.x r)) (sym (same_kinds r h) ∙ e) (stands.registers r)

    abbrev cell : TheCell g.pieces conv.region conv.span.lo conv.cell_kind conv.cell
    cell = cell_found g.pieces conv.region conv.span.lo conv.cell_kind conv.cell conv.is

    abbrev piece : Piece
    piece = cell.piece

    is_cell : IsCell g piece conv.cell_kind conv.cell
    is_cell = changes.cells.each cell.index piece conv.cell_kind conv.cell cell.listed cell.class

    address : slice_index left.x 11 ≡ old piece.region + piece.at
    address =
        let h = register 11 (Ptr conv.region conv.span) (omega arith) conv.address in
        let o = one_value conv.span h.offset h.within conv.one in
        h.old ∙ ap (λ n. old conv.region + n) o ∙ ap (λ n. old n + conv.span.lo) (sym cell.region) ∙ ap (λ n. old piece.region + n) (sym cell.at)

    inside : piece.at + 8 ≤ length_of g.lens piece.region
    inside = let a = changes.run.is_laid.inside cell.index piece cell.listed in let l = is_cell.long in omega (arith, a, l)

    fresh : is_cell_among node.done piece.class ≡ false
    fresh = subst (λ c. is_cell_among node.done c ≡ false) (sym cell.class) conv.fresh

    -- ConvertPointer may convert

    writable : first_refused (allows access.Store) (old piece.region + piece.at) 8 ≡ None
    writable =
        let end = changes.apart.old_ends piece.region in
        let here = inside in
        allowed_all (allows access.Store) (old piece.region + piece.at) 8 (omega (arith, end, here))
        (λ i k.
        let region = cell.region in
        let start : old piece.region ≡ slice_index g.starts conv.region = changes.run.starts piece.region (omega (arith, here)) ∙ ap (slice_index g.starts) region in
        subst (λ n. allows access.Store (n + piece.at + i) ≡ true) (sym start) (subst (λ n. allows access.Store (slice_index g.starts conv.region + n + i) ≡ true) (sym cell.at) (conv.writable.allowed i k)))

    value_is : number_at left.bytes (old piece.region + piece.at) 8 ≡ number_at b (old piece.region + piece.at) 8
    value_is =
        let l = is_cell.long in
        let end = changes.apart.old_ends piece.region in
        let stay = same_there g old new allows answer b left.bytes changes cell.index piece node.done cell.listed fresh w.between in
        number_stays b left.bytes (old piece.region) (length_of g.lens piece.region) piece.at 8 end inside (λ i k. stay i (omega (arith, k, l)))

    own_value : Holds still conv.cell_kind (number_at b (old piece.region + piece.at) 8) (number_at b (old piece.region + piece.at) 8)
    own_value = cell_holds g old new allows answer b left.bytes changes cell.index piece conv.cell_kind conv.cell cell.listed cell.class

    not_nought : (n base off : ℕ) → n ≡ base + off → 0 < base → not (n == 0) ≡ true
    not_nought n base off e h = grind (arith, nat_tests, e, h)

    or_right : (a c : Bool) → c ≡ true → (a || c) ≡ true
    or_right true c e = refl
    or_right false c e = e

    debug : (kind : Kind) → IsBelow g.lens kind → is_value (disposition kind) (kind_at (link rd) 10) ≡ true → (v : ℕ) → Holds still kind v v → (slice_index left.x 10 % 2 == 1 || not (v == 0)) ≡ true
    debug (Ptr r q) below e v h = or_right (slice_index left.x 10 % 2 == 1) (not (v == 0)) (not_nought v (old r) h.offset h.old (changes.apart.old_begins r))
    debug (Opt r q) below e v h = let one_there : slice_index left.x 10 ≡ 1 = value_held (kind_at (link rd) 10) 1 refl e in rw one_there refl
      where
        value_held : (k : Kind) (d : ℕ) → kind_at (link rd) 10 ≡ k → is_value d k ≡ true → slice_index left.x 10 ≡ d
        value_held (Num q) d e f =
            let h = register 10 (Num q) (omega arith) e in
            let a = both (q.lo == d) (q.hi == d) f in
            let x = a.0 in
            let y = a.1 in
            let low : q.lo ≡ d = grind (arith, nat_tests) in
            let high : q.hi ≡ d = grind (arith, nat_tests) in
            one_value q (slice_index left.x 10) h.within (low ∙ sym high) ∙ low
        value_held Any d e f = absurd cc
        value_held (Ptr r q) d e f = absurd cc
        value_held (Opt r q) d e f = absurd cc
    debug Any below e v h = absurd below
    debug (Num q) below e v h = absurd below

    pub may : may_convert allows left ≡ true
    may =
        let a : (slice_index left.x 10 % 2 == 1 || not (number_at left.bytes (old piece.region + piece.at) 8 == 0)) ≡ true =
        subst (λ v. (slice_index left.x 10 % 2 == 1 || not (v == 0)) ≡ true) (sym value_is) (debug conv.cell_kind is_cell.below conv.debug (number_at b (old piece.region + piece.at) 8) own_value) in
        subst (λ n. (is_none (first_refused (allows access.Store) n 8) && (slice_index left.x 10 % 2 == 1 || not (number_at left.bytes n 8 == 0))) ≡ true) (sym address) (rw writable a)

    -- the state behind it

    abbrev pub behind_it : State
    behind_it = convert answer left

    new_between : Between moving g.pieces (conv.cell ∷ node.done) b behind_it.bytes
    new_between = subst (λ n. Between moving g.pieces (conv.cell ∷ node.done) b (with_converted answer n left.bytes)) (sym address)
        (keeps g old new allows answer b left.bytes node.done cell.index piece conv.cell_kind conv.cell changes cell.listed cell.class fresh w.between)

    new_whole : IsHart behind_it
    new_whole =
        let count = w.whole.count in
        record {
          registers = set_numbers left.x 10 0 (omega (arith, count)) (omega arith) w.whole.registers;
          count = length-set left.x 10 0 ∙ w.whole.count;
          pc = w.whole.registers 1;
          bytes = bytes_after left.bytes (slice_index left.x 11) 8 (answer (number_at left.bytes (slice_index left.x 11) 8)) w.whole.bytes;
        }

    new_registers : RegistersHold still (with_kind now 10 (Num (one 0))) behind_it.x behind_it.x
    new_registers r = by (r == 10) refl
      where
        by : (t : Bool) → (r == 10) ≡ t → Holds still (if t then Num (one 0) else now r) (slice_index (slice_set left.x 10 0) r) (slice_index (slice_set left.x 10 0) r)
        by true e =
            let count = w.whole.count in
            let same : r ≡ 10 = grind (arith, nat_tests) in
            let v : slice_index (slice_set left.x 10 0) r ≡ 0 = ap (slice_index (slice_set left.x 10 0)) same ∙ get_or-set_same left.x 10 0 0 (omega (arith, count)) in
            record { same = refl; within = record { up = 0; down = 0; from_lo = omega (arith, v); to_hi = omega (arith, v) } }
        by false e =
            let other : r ≢ 10 = λ z. absurd (grind (arith, nat_tests)) in
            let v : slice_index (slice_set left.x 10 0) r ≡ slice_index left.x r = get_or-set_other left.x 10 r 0 0 other in
            subst (λ n. Holds still (now r) n n) (sym v) (stands.registers r)

    -- the stack's bytes stay
    stack_byte : (x : ℕ) → x < length_of g.lens 1 → behind_it.bytes (old 1 + x) ≡ left.bytes (old 1 + x)
    stack_byte x h = ap (λ n. with_converted answer n left.bytes (old 1 + x)) address ∙
        off_store g old new allows answer b left.bytes changes stay piece.region piece.at (answer (number_at left.bytes (old piece.region + piece.at) 8)) 1 x inside h
        (λ e i k f. changes.run.is_laid.off_stack cell.index piece cell.listed (sym e))

    new_parts : PartsHold still node.stack behind_it.bytes behind_it.bytes
    new_parts i p e =
        let h = stands.stack i p e in
        let inside_stack = h.inside in
        let same : number_at behind_it.bytes (old 1 + p.at) p.width ≡ number_at left.bytes (old 1 + p.at) p.width =
        number_stays left.bytes behind_it.bytes (old 1) (length_of g.lens 1) p.at p.width (changes.apart.old_ends 1) inside_stack (λ j k. stack_byte (p.at + j) (omega (arith, inside_stack, k))) in
        record { inside = inside_stack; holds = subst (λ n. Holds still p.kind n n) (sym same) h.holds }

    new_pc : behind_it.pc ≡ plus (old 0) back.to
    new_pc = by (kind_at (link rd) 1) refl back.back
      where
        by : (k : Kind) → kind_at (link rd) 1 ≡ k → even_offset k ≡ Some back.to → slice_index left.x 1 ≡ plus (old 0) back.to
        by (Ptr r q) e f = on (r == 0) (q.lo == q.hi) (q.lo % 2 == 0) refl refl f
          where
            on : (x y z : Bool) → (r == 0) ≡ x → (q.lo == q.hi) ≡ y → (if x && (y && z) then Some q.lo else None) ≡ Some back.to → slice_index left.x 1 ≡ plus (old 0) back.to
            on true true true f k l =
                let region : r ≡ 0 = grind (arith, nat_tests) in
                let single : q.lo ≡ q.hi = grind (arith, nat_tests) in
                let at : q.lo ≡ back.to = cc in
                let h = register 1 (Ptr r q) (omega arith) e in
                let o = one_value q h.offset h.within single in
                let is : slice_index left.x 1 ≡ old 0 + back.to = h.old ∙ ap (λ n. old n + h.offset) region ∙ ap (λ n. old 0 + n) (o ∙ at) in
                let small = w.whole.registers 1 in
                omega (arith, is, small)
            on true true false f k l = absurd cc
            on true false z f k l = absurd cc
            on false y z f k l = absurd cc
        by Any e f = absurd cc
        by (Num q) e f = absurd cc
        by (Opt r q) e f = absurd cc

    pub done_behind : SameCells back.leads.node.done (conv.cell ∷ node.done)
    done_behind c =
        let number_is : cell_number g.pieces (kind_at (link rd) 11) ≡ Some conv.cell = rw conv.address (ap number_of conv.is) in
        back.leads.cells c ∙ ap (λ o. list_any (λ m. m == c) (and_cell o node.done)) number_is

    pub on_again : AtFunction g old new b back.leads.number back.leads.node behind_it
    on_again =
        let to = back.leads in
        record {
          listed = to.listed;
          marked = marks_closed g.nodes notify g.notified number to.number node to.node marks here.listed here.marked to.listed to.named;
          whole = new_whole;
          between = λ i p e. subst (λ t. ClassBetween moving p p.class t b behind_it.bytes) (class_same (conv.cell ∷ node.done) to.node.done p.class (λ c. sym (done_behind c))) (new_between i p e);
          stands = serve still 0 to.node.at (with_kind now 10 (Num (one 0))) (kind_at (kinds_of to.node.regs)) node.stack to.node.stack behind_it behind_it
              (record { old_pc = new_pc ∙ ap (plus (old 0)) (sym to.at); new_pc = new_pc ∙ ap (plus (old 0)) (sym to.at); registers = new_registers; stack = new_parts })
              (fit_so (written (link rd) 10 (Num (one 0))) (with_kind now 10 (Num (one 0))) to.node.regs (with_one (link rd) now 10 (Num (one 0)) (written_long (kinds_of node.regs) rd (link_kind g place) (kinds_long node.regs)) same_kinds) to.kinds)
              to.proper (parts_so node.stack to.node.stack to.parts to.proper_parts);
        }

    pub cell_counted : conv.cell < g.cells
    cell_counted = is_cell.counted

    pub later : number < back.leads.number
    later = (judged.order here.marked).later back.leads.number back.leads.named
