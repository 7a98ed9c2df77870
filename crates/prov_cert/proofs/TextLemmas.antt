-- Texts that are written.
use Rattle.std.proofs.Common.{◌≡◌, ℕ, ◌<◌, ◌≤◌, List, [], map, length, get_or, Bor, refl}
use Rattle.std.specs.List.{slice_get}
use Rattle.std.proofs.lemmas.Option.{slice_get-map, slice_get-get_or, slice_get_past}
use Rattle.rv_decode.specs.Texts.{or_empty}

pub name_there : (names : List (Bor (List ℕ))) (i : ℕ) (d : Bor (List ℕ)) → i < length names → (get_or names i d).now ≡ or_empty (slice_get (map (λ name. name.now) names) i)
name_there names i d h = rw (slice_get-map (λ (name : Bor (List ℕ)). name.now) names i, slice_get-get_or names i d h) refl

pub no_name : (names : List (Bor (List ℕ))) (i : ℕ) → length names ≤ i → [] ≡ or_empty (slice_get (map (λ name. name.now) names) i)
no_name names i h = rw (slice_get-map (λ (name : Bor (List ℕ)). name.now) names i, slice_get_past names i h) refl
