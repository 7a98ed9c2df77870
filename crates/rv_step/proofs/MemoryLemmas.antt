-- What a store leaves, byte by byte.
use Rattle.std.proofs.Common.{◌≡◌, ℕ, zero, suc, ◌+◌, ◌*◌, ◌/◌, ◌%◌, ◌^◌, ◌<◌, ◌≤◌, false, refl, sym, ◌∙◌, ap, arith, mul_assoc}
use Rattle.std.specs.Prelude.{◌≢◌, ◌==◌}
use Rattle.std.proofs.Math.Nat.{add-mul-mod_self_left, div-add-mod, div-div-eq-div-mul, pow-succ', mod-eq_of_lt, mod-lt}
use Rattle.std.proofs.lemmas.Bool.{eq-eqb}
use Rattle.std.proofs.lemmas.Bool.Decides.{nat_tests}
use Rattle.uh_base.specs.Bytes.{behind, next, number_at, with_byte, with_number}
use Rattle.rv_step.specs.Memory.{StoresItsBytes, OtherBytesStay, StoredIsLoaded}

-- a byte written, and one that isn't
here : (bytes : ℕ → ℕ) (at byte : ℕ) → with_byte bytes at byte at ≡ byte
here bytes at byte = rw (eq-eqb at at refl) refl

elsewhere : (bytes : ℕ → ℕ) (at byte other : ℕ) → other ≢ at → with_byte bytes at byte other ≡ bytes other
elsewhere bytes at byte other h =
    let no : (other == at) ≡ false = grind (arith, nat_tests, h) in rw no refl

-- the address one further behind
further : (at i : ℕ) → at < 2 ^ 64 → behind (next at) i ≡ behind at (suc i)
further at i h = omega arith

first : (at : ℕ) → at < 2 ^ 64 → at ≡ behind at 0
first at h = omega arith

pub other_bytes_stay : OtherBytesStay
unfolding with_number
other_bytes_stay bytes at zero value other h apart = refl
other_bytes_stay bytes at (suc n) value other h apart =
    other_bytes_stay (with_byte bytes at (value % 256)) (next at) n (value / 256) other (omega arith)
    (λ i k e. apart (suc i) (omega arith) (e ∙ further at i h))
    ∙ elsewhere bytes at (value % 256) other (λ e. apart 0 (omega arith) (e ∙ first at h))

-- the first byte of a stored number
first_byte : (bytes : ℕ → ℕ) (at n value : ℕ) → at < 2 ^ 64 → n ≤ 7 → with_number (with_byte bytes at (value % 256)) (next at) n (value / 256) at ≡ value % 256
first_byte bytes at n value h w =
    other_bytes_stay (with_byte bytes at (value % 256)) (next at) n (value / 256) at (omega arith) (λ i k e. absurd (omega arith)) ∙ here bytes at (value % 256)

pub stores_its_bytes : StoresItsBytes
unfolding with_number
stores_its_bytes bytes at zero value i h w k = absurd (omega arith)
stores_its_bytes bytes at (suc n) value zero h w k =
    ap (with_number (with_byte bytes at (value % 256)) (next at) n (value / 256)) (sym (first at h)) ∙ first_byte bytes at n value h (omega arith) ∙ omega arith
stores_its_bytes bytes at (suc n) value (suc i) h w k =
    ap (with_number (with_byte bytes at (value % 256)) (next at) n (value / 256)) (sym (further at i h))
    ∙ stores_its_bytes (with_byte bytes at (value % 256)) (next at) n (value / 256) i (omega arith) (omega arith) (omega arith)
    ∙ ap (λ x. x % 256) (div-div-eq-div-mul value 256 (256 ^ i) ∙ ap (λ x. value / x) (sym (pow-succ' 256 i)))

-- a remainder by 256 times k, from the low byte and the rest
split : (v k : ℕ) → 0 < k → v % (256 * k) ≡ v % 256 + 256 * (v / 256 % k)
split v k h =
    let q = div-add-mod (v / 256) k in
    let assoc : 256 * k * (v / 256 / k) ≡ 256 * (k * (v / 256 / k)) = mul_assoc 256 k (v / 256 / k) in
    let below : v / 256 % k < k = mod-lt (v / 256) h in
    let e : v ≡ (v % 256 + 256 * (v / 256 % k)) + 256 * k * (v / 256 / k) = omega (arith, q, assoc) in
    let last : (v % 256 + 256 * (v / 256 % k)) % (256 * k) ≡ v % 256 + 256 * (v / 256 % k) = mod-eq_of_lt (omega (arith, below)) in
    ap (λ x. x % (256 * k)) e ∙ add-mul-mod_self_left (v % 256 + 256 * (v / 256 % k)) (256 * k) (v / 256 / k) ∙ last

power : (n : ℕ) → 0 < 256 ^ n
power zero = omega arith
power (suc n) = let e = pow-succ' 256 n in let h = power n in omega (arith, e, h)

pub stored_is_loaded : StoredIsLoaded
unfolding with_number number_at
stored_is_loaded bytes at zero value h w = omega arith
stored_is_loaded bytes at (suc n) value h w =
    let byte = first_byte bytes at n value h (omega arith) in
    let rest = stored_is_loaded (with_byte bytes at (value % 256)) (next at) n (value / 256) (omega arith) (omega arith) in
    let whole = split value (256 ^ n) (power n) in
    let next_power : 256 ^ suc n ≡ 256 * 256 ^ n = pow-succ' 256 n in
    rw (byte, rest) (sym whole ∙ ap (λ x. value % x) (sym next_power))
