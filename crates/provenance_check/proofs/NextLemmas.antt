-- Edges by how many nodes NEXT names.
use Rattle.std.proofs.Common.{◌≡◌, ◌∙◌, ℕ, suc, ◌==◌, Bool, true, false, refl, sym, List, [], ◌∷◌, length, ap, arith}
use Rattle.std.specs.Prelude.{◌&&◌, slice_get, slice_index}
use Rattle.std.proofs.lemmas.Bool.Decides.{nat_tests}
use Rattle.prov_cert.specs.Cert.{Node}
use Rattle.provenance_check.specs.Rules.{edges, serves}
use Rattle.provenance_check.specs.Successors.{Successor}

pub no_edge_is : (nodes : List Node) (next : List ℕ) → edges nodes next [] ≡ (length next == 0)
unfolding edges
no_edge_is nodes [] = refl
no_edge_is nodes (n ∷ ns) = let e : (suc (length ns) == 0) ≡ false = grind (arith, nat_tests) in sym e

last : (b : Bool) → (b && true) ≡ b
last true = refl
last false = refl

never : (b : Bool) → (b && false) ≡ false
never true = refl
never false = refl

pub one_edge_is : (nodes : List Node) (next : List ℕ) (s : Successor) → edges nodes next (s ∷ []) ≡ (length next == 1 && serves s (slice_get nodes (slice_index next 0)))
unfolding edges
one_edge_is nodes [] s = refl
one_edge_is nodes (n ∷ []) s = last (serves s (slice_get nodes n))
one_edge_is nodes (n ∷ m ∷ ns) s =
    let e : (suc (suc (length ns)) == 1) ≡ false = grind (arith, nat_tests) in
    never (serves s (slice_get nodes n)) ∙ sym (ap (λ b. b && serves s (slice_get nodes n)) e)

pub two_edge_is : (nodes : List Node) (next : List ℕ) (s t : Successor) → edges nodes next (s ∷ t ∷ []) ≡ (length next == 2 && (serves s (slice_get nodes (slice_index next 0)) && serves t (slice_get nodes (slice_index next 1))))
unfolding edges
two_edge_is nodes [] s t = refl
two_edge_is nodes (n ∷ []) s t = never (serves s (slice_get nodes n))
two_edge_is nodes (n ∷ m ∷ []) s t = ap (λ b. serves s (slice_get nodes n) && b) (last (serves t (slice_get nodes m)))
two_edge_is nodes (n ∷ m ∷ k ∷ ns) s t =
    let e : (suc (suc (suc (length ns))) == 2) ≡ false = grind (arith, nat_tests) in
    ap (λ b. serves s (slice_get nodes n) && b) (never (serves t (slice_get nodes m))) ∙ never (serves s (slice_get nodes n))
    ∙ sym (ap (λ b. b && (serves s (slice_get nodes n) && serves t (slice_get nodes m))) e)
