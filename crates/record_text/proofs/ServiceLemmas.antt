-- The names of services are read back, and are words.
use Rattle.std.proofs.Common.{◌≡◌, ℕ, zero, suc, ◌+◌, ◌<◌, ◌≤◌, Bool, true, false, ◌&&◌, not, nat_lt, List, [], ◌∷◌, length, map, get_or, Option, Some, None, Bor, refl, ap, subst, arith}
use Rattle.std.specs.Prelude.{◌==◌, if◌then◌else◌}
use Rattle.std.specs.Str.{bytes_eq}
use Rattle.std.proofs.lemmas.Slice.Eq.{bytes_eq-Decides}
use Rattle.std.specs.List.{slice_get, list_all}
use Rattle.std.proofs.lemmas.Option.{slice_get-map, slice_get-get_or, slice_get_past}
use Rattle.std.proofs.lemmas.Bool.{and_parts}
use Rattle.std.proofs.lemmas.Bool.Decides.{nat_tests}
use Rattle.record_text.specs.Services.{service_names, or_empty, service_name, slot_from, service_slot, ServicesReadBack}
use Rattle.record_text.specs.Guesses.{is_space}

-- ---- the name of a slot

pub name_there : (names : List (Bor (List ℕ))) (i : ℕ) (d : Bor (List ℕ)) → i < length names → (get_or names i d).now ≡ or_empty (slice_get (map (λ name. name.now) names) i)
name_there names i d h = rw (slice_get-map (λ (name : Bor (List ℕ)). name.now) names i, slice_get-get_or names i d h) refl

pub no_name : (names : List (Bor (List ℕ))) (i : ℕ) → length names ≤ i → [] ≡ or_empty (slice_get (map (λ name. name.now) names) i)
no_name names i h = rw (slice_get-map (λ (name : Bor (List ℕ)). name.now) names i, slice_get_past names i h) refl

-- ---- what a test of the whole table says of each slot

abbrev is_slot : ℕ → Option ℕ → Bool
is_slot slot None = false
is_slot slot (Some found) = found == slot

abbrev is_back : ℕ → List ℕ → Bool
is_back slot [] = true
is_back slot (c ∷ name) = is_slot slot (service_slot (c ∷ name)) && list_all (λ b. not (is_space b)) (c ∷ name)

abbrev all_back : ℕ → List (List ℕ) → Bool
all_back slot [] = true
all_back slot (name ∷ names) = is_back slot name && all_back (slot + 1) names

table_is_back : all_back 0 service_names ≡ true
unfolding service_names service_slot
table_is_back = refl

each_back : (n : ℕ) (names : List (List ℕ)) → all_back n names ≡ true → (i : ℕ) → is_back (n + i) (or_empty (slice_get names i)) ≡ true
each_back n [] h i = refl
each_back n (name ∷ names) h zero = let at : n + 0 ≡ n = omega arith in rw at (and_parts (is_back n name) (all_back (n + 1) names) h).0
each_back n (name ∷ names) h (suc i) =
    let at : n + suc i ≡ (n + 1) + i = omega arith in
    rw at (each_back (n + 1) names (and_parts (is_back n name) (all_back (n + 1) names) h).1 i)

service_back : (slot : ℕ) → is_back slot (service_name slot) ≡ true
unfolding service_name
service_back slot = let at : 0 + slot ≡ slot = omega arith in subst (λ n. is_back n (or_empty (slice_get service_names slot)) ≡ true) at (each_back 0 service_names table_is_back slot)

found_slot : (slot : ℕ) (found : Option ℕ) → is_slot slot found ≡ true → found ≡ Some slot
found_slot slot None h = cc
found_slot slot (Some n) h = let same : n ≡ slot = grind (arith, nat_tests, h) in ap Some same

named_back : (slot : ℕ) (name : List ℕ) → nat_lt 0 (length name) ≡ true → is_back slot name ≡ true → service_slot name ≡ Some slot
named_back slot [] h t = cc
named_back slot (c ∷ name) h t = found_slot slot (service_slot (c ∷ name)) (and_parts _ _ t).0

pub services_back : ServicesReadBack
services_back slot h = named_back slot (service_name slot) h (service_back slot)

has_no_space : (slot : ℕ) (name : List ℕ) → is_back slot name ≡ true → list_all (λ b. not (is_space b)) name ≡ true
has_no_space slot [] h = refl
has_no_space slot (c ∷ name) h = (and_parts (is_slot slot (service_slot (c ∷ name))) _ h).1

pub service_no_space : (slot : ℕ) → list_all (λ b. not (is_space b)) (service_name slot) ≡ true
service_no_space slot = has_no_space slot (service_name slot) (service_back slot)

-- ---- a name that has a slot

abbrev are_words : List (List ℕ) → Bool
are_words [] = true
are_words (name ∷ names) = list_all (λ b. not (is_space b)) name && are_words names

table_has_words : are_words service_names ≡ true
unfolding service_names
table_has_words = refl

found_here : (n : ℕ) (first : List ℕ) (names : List (List ℕ)) (name : List ℕ) (slot : ℕ) (same : Bool) → bytes_eq first name ≡ same
    → list_all (λ b. not (is_space b)) first ≡ true → (if same then Some n else slot_from (n + 1) names name) ≡ Some slot
    → (slot_from (n + 1) names name ≡ Some slot → list_all (λ b. not (is_space b)) name ≡ true)
    → list_all (λ b. not (is_space b)) name ≡ true
found_here n first names name slot true is w h later = subst (λ s. list_all (λ b. not (is_space b)) s ≡ true) ((bytes_eq-Decides first name).0 is) w
found_here n first names name slot false is w h later = later h

found_word : (n : ℕ) (names : List (List ℕ)) (name : List ℕ) (slot : ℕ) → are_words names ≡ true → slot_from n names name ≡ Some slot → list_all (λ b. not (is_space b)) name ≡ true
found_word n [] name slot w h = cc
found_word n (first ∷ names) name slot w h =
    found_here n first names name slot (bytes_eq first name) refl (and_parts (list_all (λ b. not (is_space b)) first) (are_words names) w).0 h (found_word (n + 1) names name slot (and_parts (list_all (λ b. not (is_space b)) first) (are_words names) w).1)

listed_word : (name : List ℕ) (slot : ℕ) (is_empty : Bool) → (if is_empty then None else slot_from 0 service_names name) ≡ Some slot → list_all (λ b. not (is_space b)) name ≡ true
listed_word name slot true h = cc
listed_word name slot false h = found_word 0 service_names name slot table_has_words h

pub slot_no_space_name : (name : List ℕ) (slot : ℕ) → service_slot name ≡ Some slot → list_all (λ b. not (is_space b)) name ≡ true
unfolding service_slot
slot_no_space_name name slot h = listed_word name slot (length name == 0) h
