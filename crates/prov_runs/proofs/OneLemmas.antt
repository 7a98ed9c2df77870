-- One node, by what its instruction asks for.
use Rattle.std.proofs.Common.{◌≡◌, ℕ, ◌+◌, ◌%◌, arith, true, refl, sym, subst, List, inl, inr}
use Rattle.std.specs.Prelude.{◌⊎◌, if◌then◌else◌}
use Rattle.rv_step.specs.Exec.{Outcome, State, step_of}
use Rattle.prov_types.specs.declared.kinds.Span.{Span}
use Rattle.prov_types.specs.declared.kinds.Kind.{Kind}
use Rattle.prov_types.specs.declared.kinds.Kind.TheVariants.{Any, Num, Ptr, Opt}
use Rattle.prov_types.specs.Asked.{Forks, Goes, Jumps, KindAsk, Loads, Sets, Stops, Stores, asked_kinds}
use Rattle.prov_cert.specs.declared.cert.StackPart.{StackPart}
use Rattle.prov_layout.specs.Loads.{read_kind}
use Rattle.prov_runs.specs.States.{StandAt, with_kind}
use Rattle.prov_runs.specs.Steps.{BothGo, Runs, behind}
use Rattle.prov_runs.specs.NodeLaws.{BothStep, EdgesServe, ForksAtNode, GoesAtNode, JumpsAtNode, LoadsAtNode, SetsAtNode, StoresAtNode, linked}
use Rattle.prov_runs.specs.OneNode.{AtDoor, AtNext, Graph, Inside, Leads, OneNode, Passes}

-- where both go on, as a node that is served there says it
go_on : EdgesServe → (u : Runs) (graph : Graph) (next : List ℕ) (to : ℕ) (kinds : ℕ → Kind) (parts : List StackPart) (s t : State) (x y : Outcome) (leads : Leads graph next to kinds parts)
    → BothGo u 0 to kinds parts s t x y → BothGo u 0 leads.node.at leads.node.kinds leads.node.parts s t x y
go_on serve u graph next to kinds parts s t x y leads h = record {
  left = h.left;
  right = h.right;
  first = h.first;
  second = h.second;
  old_inside = h.old_inside;
  new_inside = h.new_inside;
  related = h.related;
  stands = subst (λ n. StandAt u.regions 0 n leads.node.kinds leads.node.parts h.left h.right) (sym leads.at) (serve u.regions 0 to kinds leads.node.kinds parts leads.node.parts h.left h.right h.stands leads.kinds_fit leads.proper leads.parts_fit);
  others = h.others;
}

at_next : EdgesServe → (u : Runs) (graph : Graph) (next : List ℕ) (to : ℕ) (kinds : ℕ → Kind) (parts : List StackPart) (s t : State) → Leads graph next to kinds parts → BothStep u 0 to kinds parts s t → AtNext u graph next s t
at_next serve u graph next to kinds parts s t leads h = record {
  number = leads.number;
  node = leads.node;
  named = leads.named;
  listed = leads.listed;
  goes = go_on serve u graph next to kinds parts s t (step_of u.old_rights s) (step_of u.new_rights t) leads h;
}

pub one_node : SetsAtNode → LoadsAtNode → StoresAtNode → ForksAtNode → GoesAtNode → JumpsAtNode → EdgesServe → OneNode
one_node sets loads stores forks goes jumps serve u notified cells graph next place insn kinds parts s t same even node passes = by (asked_kinds u.regions.lens insn place kinds) refl passes
  where
    jump : (r : ℕ) (q : Span) (rd : ℕ) → asked_kinds u.regions.lens insn place kinds ≡ Jumps (Ptr r q) rd → q.lo ≡ q.hi → Inside graph next r q (linked u place kinds rd) parts ⊎ (graph.doors r q.lo (linked u place kinds rd) ≡ true)
        → AtNext u graph next s t ⊎ AtDoor u graph parts s t
    jump r q rd e single (inl inside) =
        let a = even.old_image in
        let b = even.new_image in
        let c = inside.is_even in
        let image = inside.image in
        let old : (u.regions.old r + q.lo) % 2 ≡ 0 = subst (λ n. (u.regions.old n + q.lo) % 2 ≡ 0) (sym image) (omega (arith, a, c)) in
        let new : (u.regions.new r + q.lo) % 2 ≡ 0 = subst (λ n. (u.regions.new n + q.lo) % 2 ≡ 0) (sym image) (omega (arith, b, c)) in
        let step : BothStep u r q.lo (linked u place kinds rd) parts s t = jumps u place insn kinds parts s t r q rd node e single old new in
        inl (at_next serve u graph next q.lo (linked u place kinds rd) parts s t inside.leads (subst (λ n. BothStep u n q.lo (linked u place kinds rd) parts s t) image step))
    jump r q rd e single (inr door) =
        let k = linked u place kinds rd in
        inr (record { region = r; offset = q.lo; kinds = k; door = door; goes = jumps u place insn kinds parts s t r q rd node e single (even.old_door r q.lo k door) (even.new_door r q.lo k door) })

    by : (k : KindAsk) → asked_kinds u.regions.lens insn place kinds ≡ k → Passes u notified cells graph next place insn kinds parts k → AtNext u graph next s t ⊎ AtDoor u graph parts s t
    by (Sets rd kind) e p = inl (at_next serve u graph next (behind place) (with_kind kinds rd kind) parts s t p (sets u place insn kinds parts s t rd kind node e))
    by (Loads rd (Ptr r q) width sign) e p =
        inl (at_next serve u graph next (behind place) (with_kind kinds rd (read_kind sign width p.kind)) parts s t p.leads (loads u notified cells place insn kinds parts s t rd r q width sign p.kind same node e p.gives))
    by (Stores (Ptr r q) width kind) e p = inl (at_next serve u graph next (behind place) kinds p.after s t p.leads (stores u place insn kinds parts p.after s t r q width kind node e p.leaves))
    by (Forks op a b passed target) e p =
        let f = forks u place insn kinds parts s t op a b passed target node e p.compares in
        inl (at_next serve u graph next (if f.went then target else passed) (with_kind (with_kind kinds insn.rs1 f.x) insn.rs2 f.y) parts s t (p.leads f.went f.x f.y f.narrowed) f.goes)
    by (Goes to rd) e p = inl (at_next serve u graph next to (linked u place kinds rd) parts s t p (goes u place insn kinds parts s t to rd node e))
    by (Jumps (Ptr r q) rd) e p = jump r q rd e p.single p.where_to
    by (Loads rd Any width sign) e p = absurd p
    by (Loads rd (Num q) width sign) e p = absurd p
    by (Loads rd (Opt r q) width sign) e p = absurd p
    by (Stores Any width kind) e p = absurd p
    by (Stores (Num q) width kind) e p = absurd p
    by (Stores (Opt r q) width kind) e p = absurd p
    by (Jumps Any rd) e p = absurd p
    by (Jumps (Num q) rd) e p = absurd p
    by (Jumps (Opt r q) rd) e p = absurd p
    by Stops e p = absurd p
