-- Where a run goes on, in the words of two runs.
use Rattle.std.proofs.Common.{◌≡◌, ℕ, zero, suc, ◌<◌, ◌+◌, arith, Bool, true, false, refl, sym, ◌∙◌, subst, Some, List, [], ◌∷◌, length, inl, inr}
use Rattle.std.specs.Prelude.{◌==◌, ◌||◌, slice_get, slice_index}
use Rattle.std.specs.List.{Contains, list_any}
use Rattle.std.proofs.lemmas.Bool.Decides.{nat_tests}
use Rattle.rv_step.specs.declared.bus.Access.{Access}
use Rattle.rv_step.specs.Exec.{Rights}
use Rattle.prov_types.specs.declared.kinds.Kind.{Kind}
use Rattle.prov_types.specs.Kinds.{IsProperKind, length_of}
use Rattle.prov_cert.specs.declared.cert.StackPart.{StackPart}
use Rattle.prov_cert.specs.Cert.{Node}
use Rattle.prov_runs.specs.OneNode.{Graph, Leads}
use Rattle.prov_runs.specs.Steps.{Allows, PartsFit}
use Rattle.provenance_check.specs.Ground.{Ground}
use Rattle.provenance_check.specs.Successors.{Successor}
use Rattle.provenance_check.specs.Judged.{AllowedAt, PartIn, Leads as LeadsIn, PartsFit as PartsFitIn, ServesPart as ServesPartIn}
use Rattle.provenance_check.specs.Reached.{MarksReached, Reached, goes_on, next_in, next_of}
use Rattle.provenance_check.specs.Rules.{are_among, is_marked, same_cells}
use Rattle.prov_laws.specs.Checked.{known, marked_nodes, runs_of}
use Rattle.prov_laws.proofs.KindLemmas.{AreKinds, fit_so}
use Rattle.prov_laws.proofs.ReadLemmas.{both}

record Found (have : List StackPart) (p : StackPart) : Type 0 where
  index : ℕ
  part : StackPart
  listed : slice_get have index ≡ Some part
  serves : ServesPartIn part p

found : (have : List StackPart) (p : StackPart) → PartIn have p → Found have p
found [] p e = absurd e
found (q ∷ qs) p (inl h) = record { index = 0; part = q; listed = refl; serves = h }
found (q ∷ qs) p (inr h) = let f = found qs p h in record { index = suc f.index; part = f.part; listed = f.listed; serves = f.serves }

each_found : (have want : List StackPart) → PartsFitIn have want → (i : ℕ) (p : StackPart) → slice_get want i ≡ Some p → Found have p
each_found have [] h i p e = absurd cc
each_found have (q ∷ qs) h zero p e = let same : q ≡ p = cc in subst (Found have) same (found have q h.0)
each_found have (q ∷ qs) h (suc i) p e = each_found have qs h.1 i p e

pub parts_so : (have want : List StackPart) → PartsFitIn have want → ((i : ℕ) (p : StackPart) → slice_get want i ≡ Some p → IsProperKind p.kind) → PartsFit have want
parts_so have want h proper i p e =
    let f = each_found have want h i p e in
    (f.index, f.part, f.listed, record { at = f.serves.at; width = f.serves.width; kind = f.serves.kind; proper = proper i p e })

-- two lists of cells have the same ones
abbrev pub SameCells : (xs ys : List ℕ) → Type 0
SameCells xs ys = (cell : ℕ) → list_any (λ c. c == cell) xs ≡ list_any (λ c. c == cell) ys

-- the nodes that NEXT names, and that have the same cells converted, are among a graph's
abbrev pub HasNext : Graph → List Node → (next done : List ℕ) → Type 0
HasNext graph nodes next done = (n : ℕ) (node : Node) → Contains next n → slice_get nodes n ≡ Some node → SameCells node.done done → graph.nodes n ≡ Some (known node)

pub leads_so : (graph : Graph) (nodes : List Node) (next : List ℕ) (s : Successor) (kinds : ℕ → Kind) → HasNext graph nodes next s.done → AreKinds s.kinds kinds → LeadsIn nodes next s → Leads graph next s.to kinds s.parts
leads_so graph nodes next s kinds has same h = record {
  number = h.number;
  node = known h.node;
  named = h.named;
  listed = has h.number h.node h.named h.listed h.cells;
  at = h.at;
  kinds_fit = fit_so s.kinds kinds h.node.regs same h.kinds;
  proper = h.proper;
  parts_fit = parts_so s.parts h.node.stack h.parts h.proper_parts;
}

-- Nodes that are reached

pub bound : (nodes : List Node) (n : ℕ) (node : Node) → slice_get nodes n ≡ Some node → n < length nodes
bound [] n node e = absurd cc
bound (m ∷ ms) zero node e = omega arith
bound (m ∷ ms) (suc n) node e = let l = bound ms n node e in omega (arith, l)

-- what a marked node leads to is marked
pub marks_closed : (nodes : List Node) (starts : List ℕ) (marks : List Bool) (n m : ℕ) (node next : Node) → MarksReached nodes starts marks → slice_get nodes n ≡ Some node → is_marked marks n ≡ true
    → slice_get nodes m ≡ Some next → Contains node.next m → is_marked marks m ≡ true
marks_closed nodes starts marks n m node next reached e marked f named =
    let from : Reached nodes starts n = (reached.1 n (bound nodes n node e)).0 marked in
    let there : Contains (next_of nodes n) m = subst (λ o. Contains (next_in o) m) (sym e) named in
    (reached.1 m (bound nodes m next f)).1 (goes_on n m from there)

pub marked_is : (nodes : List Node) (marks : List Bool) (n : ℕ) (node : Node) → is_marked marks n ≡ true → slice_get nodes n ≡ Some node → marked_nodes nodes marks n ≡ Some (known node)
marked_is nodes marks n node marked e = rw (marked, e) refl

-- Cells

each_among : (numbers ns : List ℕ) → ((cell : ℕ) → list_any (λ c. c == cell) ns ≡ true → list_any (λ c. c == cell) numbers ≡ true) → are_among numbers ns ≡ true
unfolding are_among
each_among numbers [] h = refl
each_among numbers (n ∷ ns) h =
    let itself : (n == n) ≡ true = grind (arith, nat_tests) in
    let here : list_any (λ m. m == n) numbers ≡ true = h n (rw itself refl) in
    rw here (each_among numbers ns (λ cell e. h cell (later (n == cell) (list_any (λ c. c == cell) ns) e)))
  where
    later : (a b : Bool) → b ≡ true → (a || b) ≡ true
    later true b e = refl
    later false b e = e

pub same_so : (xs ys : List ℕ) → SameCells xs ys → same_cells xs ys ≡ true
same_so xs ys h =
    let a = each_among xs ys (λ cell e. h cell ∙ e) in
    let b = each_among ys xs (λ cell e. sym (h cell) ∙ e) in
    rw (a, b) refl

among : (numbers ns : List ℕ) → are_among numbers ns ≡ true → (c : ℕ) → list_any (λ m. m == c) ns ≡ true → list_any (λ m. m == c) numbers ≡ true
unfolding are_among
among numbers [] e c h = absurd cc
among numbers (n ∷ ns) e c h =
    let a = both (list_any (λ m. m == n) numbers) (are_among numbers ns) e in
    by a.0 (λ k. among numbers ns a.1 c k) (n == c) refl h
  where
    by : list_any (λ m. m == n) numbers ≡ true → (list_any (λ m. m == c) ns ≡ true → list_any (λ m. m == c) numbers ≡ true) → (x : Bool) → (n == c) ≡ x → (x || list_any (λ m. m == c) ns) ≡ true → list_any (λ m. m == c) numbers ≡ true
    by here more true f k = let z : n ≡ c = grind (arith, nat_tests) in subst (λ m. list_any (λ y. y == m) numbers ≡ true) z here
    by here more false f k = more k

same_test : (a b : Bool) → (a ≡ true → b ≡ true) → (b ≡ true → a ≡ true) → a ≡ b
same_test true true f g = refl
same_test true false f g = sym (f refl)
same_test false true f g = g refl
same_test false false f g = refl

pub of_same : (xs ys : List ℕ) → same_cells xs ys ≡ true → SameCells xs ys
of_same xs ys e c =
    let a = both (are_among xs ys) (are_among ys xs) e in
    same_test (list_any (λ m. m == c) xs) (list_any (λ m. m == c) ys) (among ys xs a.1 c) (among xs ys a.0 c)

-- Accesses
pub allows_so : (g : Ground) (old new : ℕ → ℕ) (done : List ℕ) (allows others : Rights) (right : Access) (r o width : ℕ) → ((q : ℕ) → 0 < length_of g.lens q → old q ≡ slice_index g.starts q)
    → AllowedAt g (allows right) r o width → Allows (runs_of g old new done allows others) right r o width
allows_so g old new done allows others right r o width starts a =
    let inside = a.inside in
    record {
      inside = inside;
      allowed = λ i h. subst (λ n. allows right (n + o + i) ≡ true) (sym (starts r (omega (arith, inside, h)))) (a.allowed i h);
    }
