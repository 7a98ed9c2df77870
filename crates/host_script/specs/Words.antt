-- The texts of lists of steps: entries of a map, arguments, buffers, and what is shown. Their parts are parted by one space.
use Rattle.std.specs.Prelude.{ℕ, ◌+◌, ◌^◌, ◌==◌, ◌&&◌, Bool, true, false, List, [], ◌∷◌, length, codes, nat_le, nat_lt, Option, Some, None, option_and_then, option_map, if◌then◌else◌}
use Rattle.std.specs.List.{before_first, after_first, position_or_len}
use Rattle.std.specs.Str.{bytes_eq}
use Rattle.std.specs.Borrow.{Bor}
use Rattle.record_text.specs.HexBytes.{bytes_of}
use Rattle.uh_base.specs.Numbers.{number_of}
use Rattle.host_script.specs.declared.script.Arg.{Arg}
use Rattle.host_script.specs.declared.script.Arg.TheVariants.{Number, At}
use Rattle.host_script.specs.declared.script.Buffer.{Buffer}
use Rattle.host_script.specs.declared.script.MapEntry.{MapEntry}
use Rattle.host_script.specs.declared.script.Shown.{Shown}

infixl 10 ◌>>=?◌
abbrev pub ◌>>=?◌ : {A B : Type 0} → Option A → (A → Option B) → Option B
o >>=? f = option_and_then f o

-- the first part, and what stands behind the space after it
abbrev pub is_space : ℕ → Bool
is_space b = b == 32

unfoldable pub cut : List ℕ → Option (List ℕ × List ℕ)
cut text = if nat_lt (position_or_len is_space text) (length text) then Some (before_first is_space text, after_first is_space text) else None

abbrev pub seen_cut : Option (Bor (List ℕ) × Bor (List ℕ)) → Option (List ℕ × List ℕ)
seen_cut parts = option_map (λ p. (p.0.now, p.1.now)) parts

-- a number below 2^32
abbrev pub small : ℕ → Option ℕ
small n = if nat_lt n (2 ^ 32) then Some n else None

unfoldable pub small_number : List ℕ → Option ℕ
small_number text = number_of text >>=? small

-- ---- PHYS PAGES VIRT, and plain behind it

unfoldable pub entry_to : ℕ → ℕ → List ℕ → Bool → Option MapEntry
entry_to phys pages virt plain = number_of virt >>=? λ virt. Some (record { phys = phys; pages = pages; virt = virt; plain = plain })

abbrev pub entry_by : ℕ → ℕ → List ℕ → Option (List ℕ × List ℕ) → Option MapEntry
entry_by phys pages virt None = entry_to phys pages virt false
entry_by phys pages virt (Some parts) = if bytes_eq parts.1 (codes "plain") then entry_to phys pages parts.0 true else None

unfoldable pub entry_behind : ℕ → ℕ → List ℕ → Option MapEntry
entry_behind phys pages text = entry_by phys pages text (cut text)

unfoldable pub entry_of : List ℕ → Option MapEntry
entry_of text =
    cut text >>=? λ first. number_of first.0 >>=? λ phys. cut first.1 >>=? λ second. number_of second.0 >>=? λ pages. entry_behind phys pages second.1

-- ---- N, or @N

-- what stands behind an @ in front
abbrev pub behind_at : List ℕ → Option (List ℕ)
behind_at [] = None
behind_at (first ∷ rest) = if first == 64 then Some rest else None

abbrev pub arg_by : List ℕ → Option (List ℕ) → Option Arg
arg_by text None = number_of text >>=? λ n. Some (Number n)
arg_by text (Some rest) = number_of rest >>=? λ n. Some (At n)

unfoldable pub arg_of : List ℕ → Option Arg
arg_of text = arg_by text (behind_at text)

-- ---- OFFSET HEX

abbrev pub is_buffer : ℕ → List ℕ → Bool
is_buffer offset hex = nat_le 1 (length hex) && nat_le (offset + length hex) 65536

unfoldable pub buffer_of : List ℕ → Option Buffer
buffer_of text =
    cut text >>=? λ parts. small_number parts.0 >>=? λ offset. bytes_of parts.1 >>=? λ hex. if is_buffer offset hex then Some (record { offset = offset; hex = hex }) else None

-- ---- OFFSET LEN

abbrev pub is_shown : ℕ → ℕ → Bool
is_shown offset len = (nat_le 1 len && nat_le len 4096) && nat_le (offset + len) 65536

unfoldable pub shown_of : List ℕ → Option Shown
shown_of text =
    cut text >>=? λ parts. small_number parts.0 >>=? λ offset. small_number parts.1 >>=? λ len. if is_shown offset len then Some (record { offset = offset; len = len }) else None
