-- Tests of so many addresses.
use Rattle.guest_memory.specs.Runs.{bytes_from, with_bytes}
use Rattle.std.proofs.Common.{◌≡◌, ◌≢◌, ℕ, ◌^◌, ◌<◌, ◌≤◌, Bool, true, false, List, refl, sym, ◌∙◌, ap, arith, [], ◌∷◌, ◌++◌, zero, suc, length}
use Rattle.std.specs.Prelude.{Some, None, slice_index}
use Rattle.std.proofs.lemmas.Bool.Decides.{nat_tests}
use Rattle.uh_base.specs.Bytes.{next, first_refused, with_byte, behind}
use Rattle.address_view.specs.Laws.{AllPass}
use Rattle.std.proofs.lemmas.List.{append-nil, append_assoc}
use Rattle.address_view.proofs.StoreLaws.{unrefused}

pub behind_next : (at i : ℕ) → behind (next at) i ≡ behind at (suc i)
behind_next at i = omega arith

pub behind_none : (at : ℕ) → at < 2 ^ 64 → behind at 0 ≡ at
behind_none at h = omega arith

pub next_low : (at : ℕ) → next at < 2 ^ 64
next_low at = omega arith

pass_by : (test : ℕ → Bool) (at n : ℕ) → at < 2 ^ 64 → test at ≡ true → AllPass test (next at) n → (i : ℕ) → i < suc n → test (behind at i) ≡ true
pass_by test at n low here later zero h = ap test (behind_none at low) ∙ here
pass_by test at n low here later (suc i) h = ap test (sym (behind_next at i)) ∙ later i (omega arith)

pub pass_of_none : (test : ℕ → Bool) (at n : ℕ) → at < 2 ^ 64 → first_refused test at n ≡ None → AllPass test at n
unfolding first_refused
pass_of_none test at zero low e = λ i h. absurd (omega arith)
pass_of_none test at (suc n) low e =
    let u = unrefused (test at) at (first_refused test (next at) n) e in
    let later = pass_of_none test (next at) n (next_low at) u.1 in
    λ i. pass_by test at n low u.0 later i

pub none_of_pass : (test : ℕ → Bool) (at n : ℕ) → at < 2 ^ 64 → AllPass test at n → first_refused test at n ≡ None
unfolding first_refused
none_of_pass test at zero low all = refl
none_of_pass test at (suc n) low all =
    let here : test at ≡ true = ap test (sym (behind_none at low)) ∙ all 0 (omega arith) in
    rw here (none_of_pass test (next at) n (next_low at) (λ i h. ap test (behind_next at i) ∙ all (suc i) (omega arith)))

byte_there : (bytes : ℕ → ℕ) (at byte a : ℕ) → a ≡ at → with_byte bytes at byte a ≡ byte
byte_there bytes at byte a e = grind (arith, nat_tests)

pub byte_other : (bytes : ℕ → ℕ) (at byte a : ℕ) → a ≢ at → with_byte bytes at byte a ≡ bytes a
byte_other bytes at byte a ne = grind (arith, nat_tests)

-- an address that no byte is stored at keeps its byte
pub others_kept : (bytes : ℕ → ℕ) (at other : ℕ) (list : List ℕ) → at < 2 ^ 64 → ((i : ℕ) → i < length list → behind at i ≢ other) → with_bytes bytes at list other ≡ bytes other
unfolding with_bytes
others_kept bytes at other [] low apart = refl
others_kept bytes at other (b ∷ bs) low apart =
    let here : other ≢ at = λ e. apart 0 (omega arith) (behind_none at low ∙ sym e) in
    others_kept (with_byte bytes at b) (next at) other bs (next_low at) (λ i h e. apart (suc i) (omega arith) (sym (behind_next at i) ∙ e))
    ∙ byte_other bytes at b other here

-- an address that a byte is stored at has that byte
pub stored_there : (bytes : ℕ → ℕ) (at i : ℕ) (list : List ℕ) → at < 2 ^ 64 → length list ≤ 2 ^ 64 → i < length list → with_bytes bytes at list (behind at i) ≡ slice_index list i
unfolding with_bytes
stored_there bytes at i [] low few h = absurd (omega arith)
stored_there bytes at zero (b ∷ bs) low few h =
    let z : behind at 0 ≡ at = behind_none at low in
    others_kept (with_byte bytes at b) (next at) (behind at 0) bs (next_low at) (λ i lt e. omega arith)
    ∙ byte_there bytes at b (behind at 0) z
stored_there bytes at (suc i) (b ∷ bs) low few h =
    ap (with_bytes (with_byte bytes at b) (next at) bs) (sym (behind_next at i))
    ∙ stored_there (with_byte bytes at b) (next at) i bs (next_low at) (omega arith) (omega arith)

-- the steps of a loop over addresses, where so many are left
pub refused_next : (test : ℕ → Bool) (at n rest : ℕ) → n ≡ suc rest → test at ≡ true → first_refused test at n ≡ first_refused test (next at) rest
unfolding first_refused
refused_next test at n rest e ok = rw (e, ok) refl

pub refused_here : (test : ℕ → Bool) (at n rest : ℕ) → n ≡ suc rest → test at ≡ false → first_refused test at n ≡ Some at
unfolding first_refused
refused_here test at n rest e no_right = rw (e, no_right) refl

pub refused_over : (test : ℕ → Bool) (at n : ℕ) → n ≡ 0 → first_refused test at n ≡ None
unfolding first_refused
refused_over test at n e = rw e refl

-- a list of bytes with one more
pub bytes_next : (bytes : ℕ → ℕ) (list : List ℕ) (at n rest : ℕ) → n ≡ suc rest → list ++ bytes_from bytes at n ≡ (list ++ bytes at ∷ []) ++ bytes_from bytes (next at) rest
unfolding bytes_from
bytes_next bytes list at n rest e = rw e (sym (append_assoc list (bytes at ∷ []) (bytes_from bytes (next at) rest)))

pub bytes_over : (bytes : ℕ → ℕ) (list : List ℕ) (at n : ℕ) → n ≡ 0 → list ++ bytes_from bytes at n ≡ list
unfolding bytes_from
bytes_over bytes list at n e = rw e (append-nil list)
