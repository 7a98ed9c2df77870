-- What the patterns of the table test: each of their fields.
use Rattle.std.specs.Prelude.{ℕ, ◌≡◌, ◌<◌, ◌^◌, ◌==◌, ◌&&◌, bit_and, List, ◌∷◌}
use Rattle.rv_decode.specs.Fields.{field}
use Rattle.rv_decode.specs.Rows.{Pattern, holds, at, all}

-- a field's pattern holds exactly where the field has its value
abbrev pub FieldDecides : Type 0
FieldDecides = (low count value word : ℕ) → value < 2 ^ count → holds (at low count value) word ≡ (field word low count == value)

-- the pattern of several fields that share no bit holds exactly where each of them does
abbrev pub FieldsDecide : Type 0
FieldsDecide = (one : Pattern) (more : List Pattern) (word : ℕ)
    → bit_and one.mask (all more).mask ≡ 0 → bit_and one.value one.mask ≡ one.value → bit_and (all more).value (all more).mask ≡ (all more).value
    → holds (all (one ∷ more)) word ≡ (holds one word && holds (all more) word)
