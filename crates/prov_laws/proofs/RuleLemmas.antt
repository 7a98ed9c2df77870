-- What the rule Edge says of a node.
use Rattle.std.proofs.Common.{◌≡◌, ℕ, Bool, true, false, refl, subst, Some, None, List, [], ◌∷◌}
use Rattle.rv_decode.specs.declared.insn.Insn.{Insn}
use Rattle.rv_step.specs.Exec.{Rights}
use Rattle.prov_types.specs.declared.kinds.Place.{Place}
use Rattle.prov_types.specs.Asked.{KindAsk, asked_kinds}
use Rattle.prov_cert.specs.Cert.{Node}
use Rattle.provenance_check.specs.declared.rule.Rule.{Rule}
use Rattle.provenance_check.specs.declared.rule.Rule.TheVariants as rules
use Rattle.provenance_check.specs.Ground.{Ground}
use Rattle.provenance_check.specs.Registers.{kind_at, kinds_of}
use Rattle.provenance_check.specs.Reading.{insn_at, place_of}
use Rattle.provenance_check.specs.Successors.{successors}
use Rattle.provenance_check.specs.Rules.{before, convert_rule, edges, exit_rule, first_of, first_rule, is_exit, jump_rule, load_rule, site_rule, store_rule, tests, tests_at}

passes_first : (rule : Rule) (p : Bool) (rest : List (Rule × Bool)) → first_of ((rule, p) ∷ rest) ≡ None → (p ≡ true) × (first_of rest ≡ None)
unfolding first_of
passes_first rule true rest e = (refl, e)
passes_first rule false rest e = absurd cc

edge_of : (g : Ground) (allows : Rights) (number : ℕ) (node : Node) (place : Place) (insn : Insn) (ask : KindAsk) → first_of (tests g allows number node place insn ask) ≡ None
    → edges g.nodes node.next (successors g allows (before g number node) place insn ask) ≡ true
edge_of g allows number node place insn ask e =
    let a = passes_first rules.Load (load_rule g allows (before g number node) ask) _ e in
    let b = passes_first rules.Store (store_rule g allows (before g number node) ask) _ a.1 in
    let c = passes_first rules.Jump (jump_rule g (before g number node) place ask) _ b.1 in
    let d = passes_first rules.Exit (exit_rule g (before g number node) place ask) _ c.1 in
    let f = passes_first rules.Convert (convert_rule g allows (before g number node) place ask) _ d.1 in
    (passes_first rules.Edge (edges g.nodes node.next (successors g allows (before g number node) place insn ask)) _ f.1).0

pub edge_so : (g : Ground) (allows : Rights) (number : ℕ) (node : Node) (insn : Insn) (len : ℕ) → insn_at g node.at ≡ Some (insn, len) → first_rule g allows number node ≡ None
    → edges g.nodes node.next (successors g allows (before g number node) (place_of g node.at len) insn (asked_kinds g.lens insn (place_of g node.at len) (kind_at (kinds_of node.regs)))) ≡ true
unfolding first_rule
edge_so g allows number node insn len reads e =
    let h : first_of (tests_at g allows number node (Some (insn, len))) ≡ None = subst (λ o. first_of (tests_at g allows number node o) ≡ None) reads e in
    let place = place_of g node.at len in
    let ask = asked_kinds g.lens insn place (kind_at (kinds_of node.regs)) in
    let a = passes_first rules.Insn true _ h in
    let b = passes_first rules.Site (site_rule g place insn) _ a.1 in
    edge_of g allows number node place insn ask b.1

-- where a run goes on nowhere, NEXT is empty
pub no_next : (nodes : List Node) (node : Node) → edges nodes node.next [] ≡ true → is_exit node ≡ true
unfolding edges
no_next nodes node e = by node.next refl e
  where
    by : (next : List ℕ) → node.next ≡ next → edges nodes next [] ≡ true → is_exit node ≡ true
    by [] f h = rw f refl
    by (n ∷ ns) f h = absurd cc
