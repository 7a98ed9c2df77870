-- Parts of the stack of which no two meet, and how the program sees it.
use Rattle.std.specs.Prelude.{ℕ, ◌+◌, ◌&&◌, Bool, true, List, [], ◌∷◌, ◌++◌, Option, Some, nat_le}
use Rattle.prov_cert.specs.declared.cert.StackPart.{StackPart}
use Rattle.prov_cert.specs.Words.{◌>>=◌}
use Rattle.prov_cert.specs.Forms.{meets_none, stack_part}

-- the parts that texts say behind those before them, also where they meet
unfoldable pub parts_of : ℕ → List StackPart → List (List ℕ) → Option (List StackPart)
parts_of regions before [] = Some before
parts_of regions before (text ∷ texts) = stack_part regions text >>= λ p. parts_of regions (before ++ p ∷ []) texts

-- no two parts have a byte in common
abbrev pub are_apart : List StackPart → Bool
are_apart [] = true
are_apart (part ∷ parts) = meets_none parts part.at part.width && are_apart parts

-- each part begins where the one before it ends or behind, the first at an offset or behind
abbrev pub rises : ℕ → List StackPart → Bool
rises from [] = true
rises from (part ∷ parts) = nat_le from part.at && rises (part.at + part.width) parts
