use Rattle.std.proofs.Common.{◌≡◌, ℕ, ◌+◌, ◌/◌, ◌%◌, ◌^◌, ◌<◌, ◌≤◌, List, [], ◌∷◌, ◌++◌, ◌∙◌, append_assoc, arith}
use Rattle.std.proofs.lemmas.Fmt.{decimal_step}
use Rattle.std.specs.Fmt.{decimal}
use Rattle.record_text.proofs.image_writing.+push_decimal.Goals as goal

one_more : (old front : List ℕ) (n : ℕ) → 10 ≤ n → n < 2 ^ 64 → front ≡ old ++ decimal (n / 10) → front ++ ((48 + n % 10) ∷ []) ≡ old ++ decimal n
one_more old front n ten small m = rw (decimal_step n ten small, m) (append_assoc old (decimal (n / 10)) ((48 + n % 10) ∷ []))

pub returns-then-n-ge10 : goal.returns-then-n-ge10
returns-then-n-ge10 t c = c.in_ok-push.ensures.items ∙ one_more c.args.text.now.items c.push_decimal.new.text.items c.args.n (omega arith) (omega arith) c.in_ok-push_decimal.ensures
