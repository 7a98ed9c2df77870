-- The descriptors of pages of one type in a row.
use Rattle.std.proofs.Common.{◌≡◌, ◌≢◌, ℕ, zero, suc, ◌+◌, ◌*◌, ◌<◌, List, [], ◌∷◌, ◌++◌, replicate, refl, ap, ◌∙◌, arith, Bool, true, false}
use Rattle.std.specs.Prelude.{◌==◌, if◌then◌else◌}
use Rattle.std.proofs.lemmas.Bool.Decides.{nat_tests, Decides-eqb}
use Rattle.memory_map.specs.declared.descriptor.Descriptor.{Descriptor}
use Rattle.memory_map.specs.Map.{map_from, with_page, described}

-- the first of the types, if there is one, is another
abbrev pub OtherType : ℕ → List ℕ → Type 0
OtherType t [] = Unit {0}
OtherType t (u ∷ us) = t ≢ u

abbrev OtherFirst : ℕ → List Descriptor → Type 0
OtherFirst t [] = Unit {0}
OtherFirst t (d ∷ ds) = t ≢ d.memory_type

pub same_type : (t : ℕ) → (t == t) ≡ true
same_type t = (Decides-eqb t t).1 refl

pub other_type : (t u : ℕ) → t ≢ u → (t == u) ≡ false
other_type t u h = grind (arith, nat_tests)

in_front : (at t : ℕ) (list : List Descriptor) → OtherFirst t list → with_page at t list ≡ described at t 1 ∷ list
in_front at t [] h = refl
in_front at t (d ∷ ds) h = rw (other_type t d.memory_type h) refl

-- the first descriptor has the first page's type
by_test : (t at u : ℕ) (d : Descriptor) (ds : List Descriptor) (b : Bool) → t ≢ u → OtherFirst t (if b then described at u (d.pages + 1) ∷ ds else described at u 1 ∷ d ∷ ds)
by_test t at u d ds true h = h
by_test t at u d ds false h = h

first_by : (t at u : ℕ) (list : List Descriptor) → t ≢ u → OtherFirst t (with_page at u list)
first_by t at u [] h = h
first_by t at u (d ∷ ds) h = by_test t at u d ds (u == d.memory_type) h

other_first : (t at : ℕ) (types : List ℕ) → OtherType t types → OtherFirst t (map_from at types)
unfolding map_from
other_first t at [] h = tt
other_first t at (u ∷ us) h = first_by t at u (map_from (at + 4096) us) h

-- pages of one type with another behind them are one descriptor
pub map_first : (at t n : ℕ) (rest : List ℕ) → 0 < n → OtherType t rest → map_from at (replicate n t ++ rest) ≡ described at t n ∷ map_from (at + 4096 * n) rest
unfolding map_from
map_first at t zero rest some other = absurd (omega arith)
map_first at t (suc zero) rest some other = in_front at t (map_from (at + 4096) rest) (other_first t (at + 4096) rest other)
map_first at t (suc (suc n)) rest some other =
    let more = map_first (at + 4096) t (suc n) rest (omega arith) other in
    let behind : at + 4096 + 4096 * suc n ≡ at + 4096 * suc (suc n) = omega arith in
    ap (λ list. with_page at t list) more ∙ rw (same_type t) (ap (λ k. described at t (suc n + 1) ∷ map_from k rest) behind ∙ ap (λ k. described at t k ∷ map_from (at + 4096 * suc (suc n)) rest) (omega arith))

pub map_none : (at : ℕ) → map_from at [] ≡ []
unfolding map_from
map_none at = refl
