-- The bytes that a source of known bytes gives up to a limit.
use Rattle.std.proofs.Common.{ℕ, ◌≡◌, ◌<◌, ◌≤◌, ◌∙◌, ◌++◌, [], List, Option, None, Some, IfSome, take, length, min, sym, ap, arith}
use Rattle.std.specs.Option.{option_map}
use Rattle.std.proofs.lemmas.List.{length-take, take_all}

-- fewer than the limit are all of them
fewer : (told : Option (List ℕ)) (limit : ℕ) (bytes : List ℕ) → IfSome (option_map (take limit) told) (λ xs. bytes ≡ xs) → length bytes < limit → IfSome told (λ xs. bytes ≡ xs)
fewer None limit bytes e few = tt
fewer (Some xs) limit bytes e few =
    let long : length bytes ≡ min limit (length xs) = ap length e ∙ length-take limit xs in
    let short : length xs ≤ limit = grind (arith, long) in
    e ∙ take_all limit xs short

pub whole : {R : Type 0} (remaining : R → Option (List ℕ)) (inner source : R) (limit : ℕ) (before bytes : List ℕ) → before ≡ [] → inner ≡ source
    → IfSome (option_map (take limit) (remaining inner)) (λ xs. bytes ≡ before ++ xs) → length bytes < limit → IfSome (remaining source) (λ xs. bytes ≡ xs)
whole remaining inner source limit before bytes none same e few = fewer (remaining source) limit bytes (rw (none, same) at e) few

-- as many as the limit, which is more than `most`: there are more than `most`
pub longer : (told : Option (List ℕ)) (limit most : ℕ) (bytes : List ℕ) → IfSome (option_map (take limit) told) (λ xs. bytes ≡ xs) → limit ≤ length bytes → most < limit → IfSome told (λ xs. most < length xs)
longer None limit most bytes e many more = tt
longer (Some xs) limit most bytes e many more =
    let long : length bytes ≡ min limit (length xs) = ap length e ∙ length-take limit xs in
    grind (arith, long)
