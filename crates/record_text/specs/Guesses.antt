-- The one line that a text may be the text of.
use Rattle.std.specs.Prelude.{ℕ, ◌^◌, List, length, codes, nat_lt, Option, Some, None, option_and_then, option_map, if◌then◌else◌}
use Rattle.std.specs.List.{before_first, after_first, position_or_len}
use Rattle.std.specs.Prelude.{Bool, ◌==◌}
use Rattle.std.specs.Str.{bytes_eq}
use Rattle.std.specs.Borrow.{Bor}
use Rattle.uh_base.specs.Numbers.{number_of, hexadecimal_number}
use Rattle.record_names.specs.Faults.{guess_of as fault_of}
use Rattle.record_names.specs.Parts.{part_of}
use Rattle.record_names.specs.Rules.{rule_of}
use Rattle.record_text.specs.Causes.{cause_of}
use Rattle.record_text.specs.Services.{service_slot}
use Rattle.record_text.specs.HexBytes.{bytes_of}
use Rattle.record_text.specs.declared.line.Line.{Line}
use Rattle.record_text.specs.declared.line.Line.TheVariants.{Console, Svc, Load, Start, Unload, ExitBoot, CheckYes, CheckNo, CheckCert, MapAccepted, MapRefused, Call, CallTrap, CallBound, CallEarly, Bytes, Peek, PeekFault, MemmapKey, MemmapRow, Vars, Reset, Halt, End}

infixl 10 ◌>>=◌
abbrev pub ◌>>=◌ : {A B : Type 0} → Option A → (A → Option B) → Option B
o >>= f = option_and_then f o

abbrev pub is_space : ℕ → Bool
is_space b = b == 32

-- the first word, and what stands behind the space after it
unfoldable pub cut : List ℕ → Option (List ℕ × List ℕ)
cut text = if nat_lt (position_or_len is_space text) (length text) then Some (before_first is_space text, after_first is_space text) else None

abbrev pub seen_cut : Option (Bor (List ℕ) × Bor (List ℕ)) → Option (List ℕ × List ℕ)
seen_cut parts = option_map (λ p. (p.0.now, p.1.now)) parts

-- a number below 2^32
unfoldable pub small_number : List ℕ → Option ℕ
small_number text = number_of text >>= λ n. if nat_lt n (2 ^ 32) then Some n else None

unfoldable pub svc_of : List ℕ → Option Line
svc_of text = do
  name ← cut text
  slot ← service_slot name.0
  h0 ← hexadecimal_number name.1
  Some (Svc slot h0)

unfoldable pub load_of : List ℕ → Option Line
load_of text = do
  name ← cut text
  first ← cut name.1
  second ← cut first.1
  h0 ← hexadecimal_number first.0
  h1 ← hexadecimal_number second.0
  pages ← small_number second.1
  Some (Load name.0 h0 h1 pages)

unfoldable pub start_of : List ℕ → Option Line
start_of text = do
  name ← cut text
  first ← cut name.1
  h0 ← hexadecimal_number first.0
  steps ← number_of first.1
  Some (Start name.0 h0 steps)

unfoldable pub unload_of : List ℕ → Option Line
unload_of text = do
  name ← cut text
  h0 ← hexadecimal_number name.1
  Some (Unload name.0 h0)

unfoldable pub exit_boot_of : List ℕ → Option Line
exit_boot_of text = hexadecimal_number text >>= λ h0. Some (ExitBoot h0)

unfoldable pub shown_of : List ℕ → Option Line
shown_of text = do
  word ← cut text
  offset ← small_number word.0
  hex ← bytes_of word.1
  Some (Bytes offset hex)

abbrev pub peeked : ℕ → List ℕ → Option (List ℕ) → Option Line
peeked h0 word None = if bytes_eq word (codes "fault") then Some (PeekFault h0) else None
peeked h0 word (Some hex) = Some (Peek h0 hex)

unfoldable pub peek_of : List ℕ → Option Line
peek_of text = do
  first ← cut text
  h0 ← hexadecimal_number first.0
  peeked h0 first.1 (bytes_of first.1)

unfoldable pub vars_of : List ℕ → Option Line
vars_of text = bytes_of text >>= λ hex. Some (Vars hex)

unfoldable pub memmap_of : List ℕ → Option Line
memmap_of text = number_of text >>= λ key. Some (MemmapKey key)

-- a row of a memory map, behind its memory type
unfoldable pub row_of : ℕ → List ℕ → Option Line
row_of memory_type text = do
  first ← cut text
  second ← cut first.1
  h0 ← hexadecimal_number first.0
  pages ← number_of second.0
  h1 ← hexadecimal_number second.1
  Some (MemmapRow memory_type h0 pages h1)

unfoldable pub reset_of : List ℕ → Option Line
reset_of text = do
  word ← cut text
  kind ← small_number word.0
  h0 ← hexadecimal_number word.1
  Some (Reset kind h0)

unfoldable pub halt_of : List ℕ → Option Line
halt_of text = do
  word ← cut text
  first ← cut word.1
  cause ← cause_of word.0
  h0 ← hexadecimal_number first.0
  h1 ← hexadecimal_number first.1
  Some (Halt cause h0 h1)

-- ---- checks: behind the name yes, or a word, a name and a number

unfoldable pub by_verdict : List ℕ → List ℕ → List ℕ → ℕ → Option Line
by_verdict name verdict word n =
    if bytes_eq verdict (codes "no") then (rule_of word >>= λ rule. Some (CheckNo name rule n))
    else (if bytes_eq verdict (codes "cert") then (part_of word >>= λ part. Some (CheckCert name part n)) else None)

unfoldable pub not_passed : List ℕ → List ℕ → List ℕ → Option Line
not_passed name verdict text = do
  word ← cut text
  n ← small_number word.1
  by_verdict name verdict word.0 n

abbrev pub verdict_by : List ℕ → List ℕ → Option (List ℕ × List ℕ) → Option Line
verdict_by name text None = if bytes_eq text (codes "yes") then Some (CheckYes name) else None
verdict_by name text (Some parts) = not_passed name parts.0 parts.1

unfoldable pub verdict_of : List ℕ → List ℕ → Option Line
verdict_of name text = verdict_by name text (cut text)

unfoldable pub check_of : List ℕ → Option Line
check_of text = cut text >>= λ name. verdict_of name.0 name.1

-- ---- maps

unfoldable pub mapped_by : List ℕ → List ℕ → Option Line
mapped_by word text =
    if bytes_eq word (codes "accepted") then (number_of text >>= λ steps. Some (MapAccepted steps))
    else (if bytes_eq word (codes "refused") then (fault_of text >>= λ fault. Some (MapRefused fault)) else None)

unfoldable pub map_of : List ℕ → Option Line
map_of text = cut text >>= λ word. mapped_by word.0 word.1

-- ---- calls: behind the name a value, or a word that says how the call ended

unfoldable pub returned_of : List ℕ → ℕ → List ℕ → Option Line
returned_of name h0 text = number_of text >>= λ steps. Some (Call name h0 steps)

unfoldable pub trapped_of : List ℕ → List ℕ → Option Line
trapped_of name text = do
  word ← cut text
  cause ← cause_of word.0
  steps ← number_of word.1
  Some (CallTrap name cause steps)

unfoldable pub stopped_of : List ℕ → List ℕ → List ℕ → Option Line
stopped_of name word text =
    if bytes_eq word (codes "trap") then trapped_of name text
    else (if bytes_eq word (codes "bound") then (number_of text >>= λ steps. Some (CallBound name steps)) else None)

abbrev pub ended_by : List ℕ → List ℕ → List ℕ → Option ℕ → Option Line
ended_by name word text None = stopped_of name word text
ended_by name word text (Some h0) = returned_of name h0 text

unfoldable pub ended_of : List ℕ → List ℕ → List ℕ → Option Line
ended_of name word text = ended_by name word text (hexadecimal_number word)

abbrev pub called_by : List ℕ → List ℕ → Option (List ℕ × List ℕ) → Option Line
called_by name text None = if bytes_eq text (codes "early") then Some (CallEarly name) else None
called_by name text (Some parts) = ended_of name parts.0 parts.1

unfoldable pub called_of : List ℕ → List ℕ → Option Line
called_of name text = called_by name text (cut text)

unfoldable pub call_of : List ℕ → Option Line
call_of text = cut text >>= λ name. called_of name.0 name.1

-- ---- all lines

unfoldable pub with_last_word : List ℕ → List ℕ → Option Line
with_last_word word rest =
    if bytes_eq word (codes "check") then check_of rest
    else (if bytes_eq word (codes "map") then map_of rest
    else (if bytes_eq word (codes "call") then call_of rest else None))

unfoldable pub with_later_word : List ℕ → List ℕ → Option Line
with_later_word word rest =
    if bytes_eq word (codes "unload") then unload_of rest
    else (if bytes_eq word (codes "exit_boot") then exit_boot_of rest
    else (if bytes_eq word (codes "bytes") then shown_of rest
    else (if bytes_eq word (codes "peek") then peek_of rest
    else (if bytes_eq word (codes "vars") then vars_of rest else with_last_word word rest))))

unfoldable pub with_word : List ℕ → List ℕ → Option Line
with_word word rest =
    if bytes_eq word (codes "console") then Some (Console rest)
    else (if bytes_eq word (codes "load") then load_of rest
    else (if bytes_eq word (codes "start") then start_of rest
    else (if bytes_eq word (codes "memmap") then memmap_of rest
    else (if bytes_eq word (codes "svc") then svc_of rest
    else (if bytes_eq word (codes "reset") then reset_of rest
    else (if bytes_eq word (codes "halt") then halt_of rest else with_later_word word rest))))))

-- a row where the first word is a number
abbrev pub by_type : List ℕ → List ℕ → Option ℕ → Option Line
by_type word rest None = with_word word rest
by_type word rest (Some memory_type) = row_of memory_type rest

unfoldable pub behind_word : List ℕ → List ℕ → Option Line
behind_word word rest = by_type word rest (small_number word)

abbrev pub without_word : List ℕ → Option Line
without_word text = if bytes_eq text (codes "end") then Some End else None

abbrev pub by_cut : List ℕ → Option (List ℕ × List ℕ) → Option Line
by_cut text None = without_word text
by_cut text (Some parts) = behind_word parts.0 parts.1

unfoldable pub guess_of : List ℕ → Option Line
guess_of text = by_cut text (cut text)
