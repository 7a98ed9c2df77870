use Rattle.std.proofs.Common.{◌≡◌, ℕ, ◌<◌, List, Option, Some, None, Bor, length, eqb, arith}
use Rattle.std.proofs.lemmas.Bool.Decides.{nat_tests}
use Rattle.std.proofs.lemmas.Str.Pattern.{split_once_first}
use Rattle.std.specs.Option.{MatchOption}
use Rattle.std.specs.List.{position_or_len, before_first, after_first}
use Rattle.host_script.specs.Words.{cut, seen_cut}
use Rattle.host_script.proofs.words.cut.Goals as goal

is_cut : (bs : List ℕ) (r : Option (Bor (List ℕ) × Bor (List ℕ)))
    → MatchOption r (position_or_len (λ b. eqb b 32) bs ≡ length bs) (λ x. (position_or_len (λ b. eqb b 32) bs < length bs) × (x.0.now ≡ before_first (λ b. eqb b 32) bs) × (x.1.now ≡ after_first (λ b. eqb b 32) bs))
    → seen_cut r ≡ cut bs
unfolding cut
is_cut bs None h = grind (arith, nat_tests, h)
is_cut bs (Some x) h = grind (arith, nat_tests, h.0, h.1, h.2)

pub returns : goal.returns
returns c = is_cut c.args.text.now c.split_once.result (split_once_first 32 c.args.text.now c.split_once.result c.split_once.ensures.cases (omega arith))
