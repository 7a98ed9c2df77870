use Rattle.std.proofs.Common.{◌≡◌, ℕ, ◌<◌, List, Option, Some, None, Bor, length, eqb, arith}
use Rattle.std.proofs.lemmas.Bool.Decides.{nat_tests}
use Rattle.std.proofs.lemmas.Str.Pattern.{split_once_first}
use Rattle.std.specs.Option.{MatchOption}
use Rattle.std.specs.List.{position_or_len, before_first, after_first}
use Rattle.record_names.specs.Faults.{seen_cut, cut_at}
use Rattle.record_names.proofs.fault_reading.cut_at.Goals as goal

is_cut : (mark : ℕ) (bs : List ℕ) (r : Option (Bor (List ℕ) × Bor (List ℕ)))
    → MatchOption r (position_or_len (λ b. eqb b mark) bs ≡ length bs) (λ x. (position_or_len (λ b. eqb b mark) bs < length bs) × (x.0.now ≡ before_first (λ b. eqb b mark) bs) × (x.1.now ≡ after_first (λ b. eqb b mark) bs))
    → seen_cut r ≡ cut_at mark bs
unfolding cut_at
is_cut mark bs None h = grind (arith, nat_tests, h)
is_cut mark bs (Some x) h = grind (arith, nat_tests, h.0, h.1, h.2)

pub returns : goal.returns
returns c = is_cut c.args.mark c.args.text.now c.split_once.result (split_once_first c.args.mark c.args.text.now c.split_once.result c.split_once.ensures.cases (omega (arith, c.requires)))
