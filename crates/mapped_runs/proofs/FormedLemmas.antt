-- The nodes of a certificate that keeps its forms.
use Rattle.std.proofs.Common.{◌≡◌, ℕ, zero, suc, ◌<◌, subst, List, [], ◌∷◌, ◌++◌}
use Rattle.prov_types.specs.declared.kinds.Kind.{Kind}
use Rattle.prov_types.specs.declared.kinds.Kind.TheVariants.{Any, Num, Ptr, Opt}
use Rattle.prov_types.specs.Kinds.{IsProperKind}
use Rattle.prov_cert.specs.declared.cert.RegKind.{RegKind}
use Rattle.prov_cert.specs.declared.cert.StackPart.{StackPart}
use Rattle.prov_cert.specs.Cert.{Node, Plain}
use Rattle.prov_cert.specs.Forms.{Counts}
use Rattle.prov_cert.specs.Kept.{AreNodes, IsCert, IsKind}
use Rattle.prov_cert.specs.Kept.{AreParts as PartsAre, AreRegisters as RegistersAre}
use Rattle.provenance_check.specs.Ground.{AreFormed, AreParts, AreRegisters, IsFormed}

kind_proper : (n : ℕ) (k : Kind) → IsKind n k → IsProperKind k
kind_proper n Any h = tt
kind_proper n (Num s) h = h.proper
kind_proper n (Ptr r s) h = h.1.proper
kind_proper n (Opt r s) h = h.1.proper

registers : (n : ℕ) (before regs : List RegKind) → RegistersAre n before regs → AreRegisters regs
registers n before [] h i k e = absurd cc
registers n before (r ∷ rs) h zero k e = let same : r ≡ k = cc in subst (λ z. (z.reg < 32) × IsProperKind z.kind) same (h.0, kind_proper n r.kind h.2)
registers n before (r ∷ rs) h (suc i) k e = registers n (before ++ r ∷ []) rs h.3 i k e

parts : (n : ℕ) (before these : List StackPart) → PartsAre n before these → AreParts these
parts n before [] h i p e = absurd cc
parts n before (q ∷ qs) h zero p e = let same : q ≡ p = cc in subst (λ z. IsProperKind z.kind) same (kind_proper n q.kind h.0.kind)
parts n before (q ∷ qs) h (suc i) p e = parts n (before ++ q ∷ []) qs h.2 i p e

nodes : (counts : Counts) (these : List Node) → AreNodes counts these → AreFormed these
nodes counts [] h i n e = absurd cc
nodes counts (m ∷ ms) h zero n e =
    let same : m ≡ n = cc in
    subst IsFormed same (record { registers = registers counts.regions [] m.regs h.0.regs; parts = parts counts.regions [] m.stack h.0.stack })
nodes counts (m ∷ ms) h (suc i) n e = nodes counts ms h.1 i n e

pub nodes_formed : (cert : Plain) → IsCert cert → AreFormed cert.nodes
nodes_formed cert h = nodes _ cert.nodes h.nodes
