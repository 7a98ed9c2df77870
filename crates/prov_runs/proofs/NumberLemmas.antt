-- Numbers of bytes.
use Rattle.std.proofs.Common.{◌≡◌, ℕ, zero, suc, ◌≤◌, ◌<◌, ◌+◌, ◌-◌, ◌^◌, arith, refl, sym, ◌∙◌, ap}
use Rattle.std.proofs.Math.Nat.{pow-succ'}
use Rattle.uh_base.specs.Bytes.{next, number_at}
use Rattle.prov_types.specs.Kinds.{AreApart, Regions, Holds, length_of}
use Rattle.prov_layout.specs.Loads.{width_kind}
use Rattle.prov_runs.specs.Bytes.{AreBytes, SameByte}
use Rattle.prov_runs.proofs.SpanLemmas.{by_one}

next_is : (at : ℕ) → at + 1 < 2 ^ 64 → next at ≡ at + 1
next_is at h = omega arith

-- bytes that are the same make the same number
pub same_number : (b c : ℕ → ℕ) (at to n : ℕ) → at + n < 2 ^ 64 → to + n < 2 ^ 64 → ((i : ℕ) → i < n → b (at + i) ≡ c (to + i)) → number_at b at n ≡ number_at c to n
unfolding number_at
same_number b c at to zero h k same = refl
same_number b c at to (suc n) h k same =
    let zero_at : at + 0 ≡ at = omega arith in
    let zero_to : to + 0 ≡ to = omega arith in
    let first : b at ≡ c to = ap b (sym zero_at) ∙ same 0 (omega arith) ∙ ap c zero_to in
    let more = same_number b c (at + 1) (to + 1) n (omega arith) (omega arith)
    (λ i l. let e : at + 1 + i ≡ at + suc i = omega arith in let f : to + suc i ≡ to + 1 + i = omega arith in ap b e ∙ same (suc i) (omega arith) ∙ ap c f) in
    rw (next_is at (omega arith), next_is to (omega arith), first, more) refl

pub number_below : (b : ℕ → ℕ) (at n : ℕ) → AreBytes b → number_at b at n < 256 ^ n
unfolding number_at
number_below b at zero h = omega arith
number_below b at (suc n) h = let e = pow-succ' 256 n in let k = number_below b (next at) n h in let l = h at in omega (arith, e, k, l)

-- any number of so many bytes
pub width_holds : (g : Regions) (width v w : ℕ) → v ≡ w → v < 256 ^ width → Holds g (width_kind width) v w
width_holds g width v w e h = record { same = e; within = by_one 0 (256 ^ width - 1) v (omega arith) (omega (arith, h)) }

-- of a region whose bytes are the same in both runs
pub same_numbers : (g : Regions) (b c : ℕ → ℕ) (r o width : ℕ) → AreApart g → o + width ≤ length_of g.lens r → ((i : ℕ) → i < width → SameByte g r (o + i) b c)
    → number_at b (g.old r + o) width ≡ number_at c (g.new r + o) width
same_numbers g b c r o width apart inside same =
    let m = apart.old_ends r in
    let n = apart.new_ends r in
    same_number b c (g.old r + o) (g.new r + o) width (omega (arith, m, inside)) (omega (arith, n, inside))
    (λ i k. let e : g.old r + o + i ≡ g.old r + (o + i) = omega arith in let f : g.new r + (o + i) ≡ g.new r + o + i = omega arith in ap b e ∙ same i k ∙ ap c f)

-- a number stays where its bytes do
pub number_stays : (b d : ℕ → ℕ) (start length o width : ℕ) → start + length < 2 ^ 64 → o + width ≤ length → ((i : ℕ) → i < width → d (start + (o + i)) ≡ b (start + (o + i)))
    → number_at d (start + o) width ≡ number_at b (start + o) width
number_stays b d start length o width end inside stay = same_number d b (start + o) (start + o) width (omega (arith, end, inside)) (omega (arith, end, inside))
    (λ i k. let e : start + o + i ≡ start + (o + i) = omega arith in ap d e ∙ stay i k ∙ ap b (sym e))
