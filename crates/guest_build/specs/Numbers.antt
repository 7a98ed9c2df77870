-- Numbers of a text: a number text, with a minus before a negative one.
use Rattle.std.specs.Prelude.{ℕ, ℤ, pos, neg_ℤ, ◌-◌, ◌^◌, ◌%◌, ◌==◌, ◌&&◌, Bool, true, false, not, nat_le, nat_lt, List, Option, Some, None, Result, Ok, Err, if◌then◌else◌}
use Rattle.uh_base.specs.Numbers.{number_of}
use Rattle.guest_build.specs.Texts.{behind_first}
use Rattle.guest_build.specs.declared.fault.AsmKind.{AsmKind}
use Rattle.guest_build.specs.declared.fault.AsmKind.TheVariants.{Operand}
use Rattle.guest_build.specs.declared.number.Number.{Number}

abbrev pub positive : Option ℕ → Result Number AsmKind
positive None = Err Operand
positive (Some n) = Ok (record { negative = false; size = n })

-- a minus stands before no 0
abbrev pub negative : Option ℕ → Result Number AsmKind
negative None = Err Operand
negative (Some n) = if n == 0 then Err Operand else Ok (record { negative = true; size = n })

abbrev pub by_sign : List ℕ → Option (List ℕ) → Result Number AsmKind
by_sign text None = positive (number_of text)
by_sign text (Some digits) = negative (number_of digits)

unfoldable pub number_in : List ℕ → Result Number AsmKind
number_in text = by_sign text (behind_first 45 text)

-- the number itself
abbrev pub value_of : Number → ℤ
value_of n = if n.negative then neg_ℤ (pos n.size) else pos n.size

-- the number modulo 2^64
abbrev pub wrapped : Number → ℕ
wrapped n = if n.negative then (2 ^ 64 - n.size) % 2 ^ 64 else n.size

-- the number isn't negative, and lies in a range
abbrev pub is_between : (low high : ℕ) → Number → Bool
is_between low high n = not n.negative && (nat_le low n.size && nat_le n.size high)

-- the number is a signed one of so many bits, -2^(bits - 1) to 2^(bits - 1) - 1
abbrev pub is_signed : ℕ → Number → Bool
is_signed bits n = if n.negative then nat_le n.size (2 ^ (bits - 1)) else nat_lt n.size (2 ^ (bits - 1))

-- the number fits data of so many bits, -2^(bits - 1) to 2^bits - 1
abbrev pub is_data : ℕ → Number → Bool
is_data bits n = if n.negative then nat_le n.size (2 ^ (bits - 1)) else nat_lt n.size (2 ^ bits)

abbrev pub zero_number : Number
zero_number = record { negative = false; size = 0 }
