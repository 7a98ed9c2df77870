-- What is so of a certificate that keeps its forms.
use Rattle.std.proofs.Common.{◌≡◌, ℕ, zero, suc, ◌≤◌, ◌<◌, ◌+◌, arith, true, subst, ◌∙◌, Some, List, [], ◌∷◌, ◌++◌, length, length-append}
use Rattle.std.specs.Prelude.{slice_get}
use Rattle.std.proofs.lemmas.Bool.Decides.{nat_tests}
use Rattle.prov_types.specs.declared.kinds.Kind.{Kind}
use Rattle.prov_types.specs.declared.kinds.Kind.TheVariants.{Any, Num, Ptr, Opt}
use Rattle.prov_types.specs.Kinds.{IsProperKind}
use Rattle.uh_base.specs.Bytes.{number_at}
use Rattle.prov_cert.specs.declared.cert.OwnRegion.{OwnRegion}
use Rattle.prov_cert.specs.declared.cert.CertSpan.{CertSpan}
use Rattle.prov_cert.specs.declared.cert.Class.{Class}
use Rattle.prov_cert.specs.declared.cert.Class.TheVariants as classes
use Rattle.prov_cert.specs.declared.cert.RegKind.{RegKind}
use Rattle.prov_cert.specs.declared.cert.StackPart.{StackPart}
use Rattle.prov_cert.specs.Cert.{Node, Plain}
use Rattle.prov_cert.specs.Forms.{Counts, is_width}
use Rattle.prov_cert.specs.Kept.{AreNodes, AreSpans, IsCert, IsClass, IsKind, IsNumberKind, IsAddressKind}
use Rattle.prov_cert.specs.Kept.{AreParts as PartsAre, AreRegisters as RegistersAre}
use Rattle.provenance_check.specs.Ground.{AreFormed, AreParts, AreRegisters, IsFormed}
use Rattle.provenance_tables.specs.Regions.{address_of, with_own}
use Rattle.provenance_tables.specs.Spans.{IsSound}

kind_proper : (n : ℕ) (k : Kind) → IsKind n k → IsProperKind k
kind_proper n Any h = tt
kind_proper n (Num s) h = h.proper
kind_proper n (Ptr r s) h = h.1.proper
kind_proper n (Opt r s) h = h.1.proper

registers : (n : ℕ) (before regs : List RegKind) → RegistersAre n before regs → AreRegisters regs
registers n before [] h i k e = absurd cc
registers n before (r ∷ rs) h zero k e = let same : r ≡ k = cc in subst (λ z. (z.reg < 32) × IsProperKind z.kind) same (h.0, kind_proper n r.kind h.2)
registers n before (r ∷ rs) h (suc i) k e = registers n (before ++ r ∷ []) rs h.3 i k e

parts : (n : ℕ) (before these : List StackPart) → PartsAre n before these → AreParts these
parts n before [] h i p e = absurd cc
parts n before (q ∷ qs) h zero p e = let same : q ≡ p = cc in subst (λ z. IsProperKind z.kind) same (kind_proper n q.kind h.0.kind)
parts n before (q ∷ qs) h (suc i) p e = parts n (before ++ q ∷ []) qs h.2 i p e

nodes : (counts : Counts) (these : List Node) → AreNodes counts these → AreFormed these
nodes counts [] h i n e = absurd cc
nodes counts (m ∷ ms) h zero n e =
    let same : m ≡ n = cc in
    subst IsFormed same (record { registers = registers counts.regions [] m.regs h.0.regs; parts = parts counts.regions [] m.stack h.0.stack })
nodes counts (m ∷ ms) h (suc i) n e = nodes counts ms h.1 i n e

pub nodes_formed : (cert : Plain) → IsCert cert → AreFormed cert.nodes
nodes_formed cert h = nodes _ cert.nodes h.nodes

width_most : (n : ℕ) → is_width n ≡ true → n ≤ 8
width_most n e = grind (arith, nat_tests)

number_proper : (k : Kind) → IsNumberKind k → IsProperKind k
number_proper Any h = absurd h
number_proper (Num s) h = h.proper
number_proper (Ptr r s) h = absurd h
number_proper (Opt r s) h = absurd h

address_proper : (n : ℕ) (k : Kind) → IsAddressKind n k → IsProperKind k
address_proper n Any h = absurd h
address_proper n (Num s) h = absurd h
address_proper n (Ptr r s) h = h.1.proper
address_proper n (Opt r s) h = h.1.proper

sound : (n : ℕ) (s : CertSpan) (class : Class) → IsClass n s.len class → IsSound s class
sound n s classes.Code h = tt
sound n s classes.Plain h = tt
sound n s (classes.Num kind) h = (width_most s.len h.0, number_proper kind h.1)
sound n s classes.Fixed h = omega (arith, h)
sound n s (classes.Convert kind) h = (omega (arith, h.0), address_proper n kind h.1)

all_sound : (n : ℕ) (these : List CertSpan) → AreSpans n these → (i : ℕ) (s : CertSpan) → slice_get these i ≡ Some s → IsSound s s.class
all_sound n [] h i s e = absurd cc
all_sound n (t ∷ ts) h zero s e = let same : t ≡ s = cc in subst (λ z. IsSound z z.class) same (sound n t t.class h.0.class)
all_sound n (t ∷ ts) h (suc i) s e = all_sound n ts h.1 i s e

pub spans_sound : (cert : Plain) → IsCert cert → (i : ℕ) (s : CertSpan) → slice_get cert.spans i ≡ Some s → IsSound s s.class
spans_sound cert h = all_sound _ cert.spans h.spans

pub own_long : (bytes : ℕ → ℕ) (starts : List ℕ) (own : List OwnRegion) → length (with_own bytes starts own) ≡ length starts + length own
unfolding with_own
own_long bytes starts [] = omega arith
own_long bytes starts (o ∷ os) = own_long bytes (starts ++ number_at bytes (address_of starts o.cell_region o.cell_at) 8 ∷ []) os ∙ omega (arith, length-append starts (number_at bytes (address_of starts o.cell_region o.cell_at) 8 ∷ []))
