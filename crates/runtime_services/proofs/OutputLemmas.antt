-- Outputs, one after another.
use Rattle.std.proofs.Common.{◌≡◌, ◌≤◌, ℕ, zero, suc, Bool, true, false, List, [], length, refl, arith}
use Rattle.std.specs.Prelude.{Option, Some, ◌==◌, is_none, if◌then◌else◌}
use Rattle.uh_base.specs.Bytes.{next, first_refused}
use Rattle.address_view.specs.Seen.{all_pass}
use Rattle.guest_call.specs.Outputs.{optional}

-- an output that may be left out is seen where as many bytes are seen as are written of it
as_many : (b : Bool) (bytes : List ℕ) (len : ℕ) → length bytes ≡ len → length (if b then [] else bytes) ≡ (if b then 0 else len)
as_many true bytes len e = refl
as_many false bytes len e = e

pub optional_seen : (test : ℕ → Bool) (at len : ℕ) (bytes : List ℕ) → length bytes ≡ len → all_pass test at (optional at len) ≡ true → all_pass test at (length (if at == 0 then [] else bytes)) ≡ true
optional_seen test at len bytes e seen = rw (as_many (at == 0) bytes len e) seen

-- a range that passes a test has each shorter one pass
unrefused : (b : Bool) (at : ℕ) (rest : Option ℕ) → is_none (if b then rest else Some at) ≡ true → (b ≡ true) × (is_none rest ≡ true)
unrefused true at rest e = (refl, e)
unrefused false at rest e = grind arith

pub seen_before : (test : ℕ → Bool) (at few many : ℕ) → few ≤ many → all_pass test at many ≡ true → all_pass test at few ≡ true
unfolding first_refused
seen_before test at zero many h e = refl
seen_before test at (suc few) zero h e = absurd (omega arith)
seen_before test at (suc few) (suc many) h e =
    let u = unrefused (test at) at (first_refused test (next at) many) e in
    rw u.0 (seen_before test (next at) few many (omega arith) u.1)
