-- Fields of a store file and their bytes.
use Rattle.std.proofs.Common.{◌≡◌, ℕ, ◌<◌, ◌≤◌, List, [], ◌∷◌, ◌++◌, length, take, drop, refl, sym, ap, ◌∙◌, append_assoc, append-nil, arith}
use Rattle.std.specs.Int.{w16, from_le_bytes}
use Rattle.std.specs.List.{All}
use Rattle.uh_base.specs.declared.guid.Guid.{Guid}
use Rattle.uh_base.specs.Guid.{IsGuid, bytes_of, guid_of}
use Rattle.variable_store.specs.Reading.{units_in}

-- GUIDs and their bytes give each other back
abbrev pub GuidsBack : Type 0
GuidsBack = (guid : Guid) → IsGuid guid → guid_of (bytes_of guid) ≡ guid

abbrev pub BytesBack : Type 0
BytesBack = (bytes : List ℕ) → length bytes ≡ 16 → All (λ byte. byte < 256) bytes → bytes_of (guid_of bytes) ≡ bytes

-- the units of bytes, two by two
one_unit : (bytes : List ℕ) → 2 ≤ length bytes → units_in bytes ≡ from_le_bytes w16 (take 2 bytes) ∷ units_in (drop 2 bytes)
unfolding units_in
one_unit [] h = absurd (omega arith)
one_unit (low ∷ []) h = absurd (omega arith)
one_unit (low ∷ high ∷ bytes) h = refl

no_unit : (bytes : List ℕ) → length bytes < 2 → units_in bytes ≡ []
unfolding units_in
no_unit [] h = refl
no_unit (low ∷ []) h = refl
no_unit (low ∷ high ∷ bytes) h = absurd (omega arith)

pub unit_more : (units pushed : List ℕ) (rest behind pair all : List ℕ) (unit : ℕ) → units ++ units_in rest ≡ all → 2 ≤ length rest → pair ≡ take 2 rest → behind ≡ drop 2 rest → unit ≡ from_le_bytes w16 pair → pushed ≡ units ++ unit ∷ []
    → pushed ++ units_in behind ≡ all
unit_more units pushed rest behind pair all unit so_far enough first second is put =
    let here = one_unit rest enough in
    let same : unit ≡ from_le_bytes w16 (take 2 rest) = is ∙ ap (from_le_bytes w16) first in
    rw (put, second, same) (append_assoc units _ _ ∙ ap (λ x. units ++ x) (sym here) ∙ so_far)

pub unit_end : (units rest all : List ℕ) → units ++ units_in rest ≡ all → length rest < 2 → units ≡ all
unit_end units rest all so_far short = let none = rw (no_unit rest short) at so_far in sym (append-nil units) ∙ none

-- six pieces, one behind the other
pub six_pieces : (o p q r s t u a b c d e f : List ℕ) → p ≡ o ++ a → q ≡ p ++ b → r ≡ q ++ c → s ≡ r ++ d → t ≡ s ++ e → u ≡ t ++ f → u ≡ o ++ (a ++ (b ++ (c ++ (d ++ (e ++ f)))))
six_pieces o p q r s t u a b c d e f h i j k l m = rw (m, l, k, j, i, h) (simp append_assoc)
