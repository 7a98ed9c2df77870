use Rattle.std.proofs.Common.{◌≡◌, ℕ, List, [], ◌∷◌, ◌==◌, Bool, true, false, Option, Some, None, Bor, refl, arith}
use Rattle.std.specs.Prelude.{◌≢◌, option_copied, if◌then◌else◌}
use Rattle.std.proofs.lemmas.Bool.Decides.{nat_tests}
use Rattle.std.proofs.lemmas.Str.Pattern.{strip_prefix_char}
use Rattle.std.specs.Option.{MatchOption}
use Rattle.host_script.specs.Words.{behind_at}
use Rattle.host_script.proofs.words.behind_at.Goals as goal

not_marked : (text : List ℕ) → ((rest : List ℕ) → text ≢ 64 ∷ rest) → None ≡ behind_at text
not_marked [] h = refl
not_marked (first ∷ rest) h = by (first == 64) refl
  where
    by : (marked : Bool) → (first == 64) ≡ marked → None ≡ (if marked then Some rest else None)
    by true is = let at : first ≡ 64 = grind (arith, nat_tests, is) in absurd (h rest (rw at refl))
    by false is = refl

is_behind : (text : List ℕ) (r : Option (Bor (List ℕ))) → MatchOption r ((rest : List ℕ) → text ≢ 64 ∷ rest) (λ x. text ≡ 64 ∷ x.now) → option_copied r ≡ behind_at text
is_behind text None h = not_marked text h
is_behind text (Some x) h = rw h refl

pub returns : goal.returns
returns c = is_behind c.args.text.now c.strip_prefix.result (strip_prefix_char 64 c.args.text.now c.strip_prefix.result c.strip_prefix.ensures.cases (omega arith))
