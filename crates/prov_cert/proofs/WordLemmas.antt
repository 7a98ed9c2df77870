-- Cutting texts.
use Rattle.std.proofs.Common.{◌≡◌, ℕ, ◌-◌, ◌<◌, ◌≤◌, zero, suc, List, Option, Some, None, Bor, length, get_or, eqb, arith, add-one}
use Rattle.std.specs.Prelude.{slice_index}
use Rattle.std.proofs.lemmas.Bool.Decides.{nat_tests}
use Rattle.std.proofs.lemmas.Str.{IsCharBoundary-after_ascii, IsCharBoundary-start}
use Rattle.std.specs.Option.{MatchOption}
use Rattle.std.specs.Str.{IsUtf8, IsCharBoundary}
use Rattle.std.specs.List.{position_or_len, before_first, after_first}
use Rattle.prov_cert.specs.Words.{cut, seen_pair}

pub is_cut : (c : ℕ) (bs : List ℕ) (r : Option (Bor (List ℕ) × Bor (List ℕ)))
    → MatchOption r (position_or_len (λ b. eqb b c) bs ≡ length bs) (λ x. (position_or_len (λ b. eqb b c) bs < length bs) × (x.0.now ≡ before_first (λ b. eqb b c) bs) × (x.1.now ≡ after_first (λ b. eqb b c) bs))
    → seen_pair r ≡ cut c bs
unfolding cut
is_cut c bs (Some x) h = grind (arith, nat_tests, h.0, h.1, h.2)
is_cut c bs None h = grind (arith, nat_tests, h)

pub cut_behind : (bs : List ℕ) (i : ℕ) → IsUtf8 bs → i ≤ length bs → (0 < i → slice_index bs (i - 1) < 128) → IsCharBoundary bs i
cut_behind bs zero u l h = IsCharBoundary-start bs u
cut_behind bs (suc i) u l h =
    let at : suc i - 1 ≡ i = omega arith in
    let small : get_or bs i 0 < 128 = rw at at (h (omega arith)) in
    let cut = IsCharBoundary-after_ascii bs i u (omega arith) small in
    rw add-one at cut
