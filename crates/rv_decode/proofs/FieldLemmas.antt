-- A pattern holds exactly where each of its fields has its value.
use Rattle.std.proofs.Common.{◌≡◌, ℕ, ◌+◌, ◌*◌, ◌/◌, ◌^◌, ◌-◌, Bool, true, false, ◌&&◌, refl, sym, ◌∙◌, ap, arith, bit_and}
use Rattle.std.specs.Prelude.{◌==◌}
use Rattle.std.proofs.Math.Nat.{mul-div_cancel, add-mul}
use Rattle.std.proofs.lemmas.Nat.{and_comm, and_assoc, pow-add, pow_pos}
use Rattle.std.proofs.lemmas.Bool.{eqb-true, eq-eqb}
use lib.Bits.{and_step, and_high, and_zero_r, and_self}
use lib.Arith.{bin_ind}
use Rattle.rv_decode.specs.Fields.{field}
use Rattle.rv_decode.specs.Rows.{holds, all}
use Rattle.rv_decode.specs.Decides.{FieldDecides, FieldsDecide}
use Rattle.rv_decode.proofs.RowLemmas.{and_split}

-- two tests that imply each other are the same
same_test : (a b : Bool) → (a ≡ true → b ≡ true) → (b ≡ true → a ≡ true) → a ≡ b
same_test true true f g = refl
same_test true false f g = sym (f refl)
same_test false true f g = g refl
same_test false false f g = refl

-- the mask of a field is between two powers
mask_is : (low count : ℕ) → (2 ^ count - 1) * 2 ^ low ≡ 2 ^ (count + low) - 2 ^ low
mask_is low count =
    let p = pow_pos count in
    let e : 2 ^ count ≡ (2 ^ count - 1) + 1 = omega (arith, p) in
    let s : ((2 ^ count - 1) + 1) * 2 ^ low ≡ (2 ^ count - 1) * 2 ^ low + 1 * 2 ^ low = add-mul (2 ^ count - 1) 1 (2 ^ low) in
    let k : 2 ^ (count + low) ≡ ((2 ^ count - 1) + 1) * 2 ^ low = pow-add 2 count low ∙ ap (λ x. x * 2 ^ low) e in
    omega (arith, s, k)

bits_are : (low count word : ℕ) → bit_and word ((2 ^ count - 1) * 2 ^ low) ≡ field word low count * 2 ^ low
bits_are low count word = ap (bit_and word) (mask_is low count) ∙ and_high word count low

pub field_decides : FieldDecides
field_decides low count value word h =
    same_test (bit_and word ((2 ^ count - 1) * 2 ^ low) == value * 2 ^ low) (field word low count == value)
    (λ t. eq-eqb _ _ (sym (mul-div_cancel (field word low count) (pow_pos low)) ∙ ap (λ x. x / 2 ^ low) (sym (bits_are low count word) ∙ eqb-true _ _ t) ∙ mul-div_cancel value (pow_pos low)))
    (λ t. eq-eqb _ _ (bits_are low count word ∙ ap (λ x. x * 2 ^ low) (eqb-true (field word low count) value t)))

-- the bits under two masks that share none
and_sum : (m n w : ℕ) → bit_and m n ≡ 0 → bit_and w (m + n) ≡ bit_and w m + bit_and w n
and_sum =
    bin_ind (λ (m : ℕ). (n w : ℕ) → bit_and m n ≡ 0 → bit_and w (m + n) ≡ bit_and w m + bit_and w n)
    (λ n w h. let e : 0 + n ≡ n = omega arith in ap (bit_and w) e ∙ omega (arith, and_zero_r w))
    (λ m ih n w h.
    let s = and_step m n in
    let half : (m + n) / 2 ≡ m / 2 + n / 2 = omega arith in
    let p : bit_and (w / 2) ((m + n) / 2) ≡ bit_and (w / 2) (m / 2) + bit_and (w / 2) (n / 2) = ap (bit_and (w / 2)) half ∙ ih (n / 2) (w / 2) (omega arith) in
    omega (arith, and_step w (m + n), and_step w m, and_step w n, p))

-- what lies under one mask has no bit under a mask apart from it
apart : (v m n : ℕ) → bit_and v m ≡ v → bit_and m n ≡ 0 → bit_and v n ≡ 0
apart v m n e h = ap (λ x. bit_and x n) (sym e) ∙ and_assoc n v m ∙ ap (bit_and v) h ∙ and_zero_r v

-- a sum of values under two masks that share no bit, seen through one of them
first_part : (m n v u : ℕ) → bit_and m n ≡ 0 → bit_and v m ≡ v → bit_and u n ≡ u → bit_and (v + u) m ≡ v
first_part m n v u h ev eu =
    let back : bit_and n m ≡ 0 = and_comm n m ∙ h in
    let um : bit_and u m ≡ 0 = apart u n m eu back in
    let vu : bit_and v u ≡ 0 = and_comm v u ∙ apart u n v eu (and_comm n v ∙ apart v m n ev h) in
    and_comm (v + u) m ∙ and_sum v u m vu ∙ ap (λ x. x + bit_and m u) (and_comm m v ∙ ev) ∙ ap (λ x. v + x) (and_comm m u ∙ um) ∙ omega arith

-- the bits of a word under a mask lie under it
under : (w m : ℕ) → bit_and (bit_and w m) m ≡ bit_and w m
under w m = and_assoc m w m ∙ ap (bit_and w) (and_self m)

both : (a b : Bool) → a ≡ true → b ≡ true → (a && b) ≡ true
both a b e f = rw (e, f) refl

pub fields_decide : FieldsDecide
fields_decide one more word h ev eu =
    let m = one.mask in
    let n = (all more).mask in
    let sum = and_sum m n word h in
    same_test (bit_and word (m + n) == one.value + (all more).value) (holds one word && holds (all more) word)
    (λ t.
    let e : bit_and word m + bit_and word n ≡ one.value + (all more).value = sym sum ∙ eqb-true _ _ t in
    let first : bit_and word m ≡ one.value =
    sym (first_part m n (bit_and word m) (bit_and word n) h (under word m) (under word n)) ∙ ap (λ x. bit_and x m) e ∙ first_part m n one.value (all more).value h ev eu in
    let rest : bit_and word n ≡ (all more).value = omega arith in
    both _ _ (eq-eqb _ _ first) (eq-eqb _ _ rest))
    (λ t.
    let parts = and_split (holds one word) _ t in
    let first : bit_and word m ≡ one.value = eqb-true _ _ parts.0 in
    let rest : bit_and word n ≡ (all more).value = eqb-true _ _ parts.1 in
    eq-eqb _ _ (sum ∙ omega arith))
