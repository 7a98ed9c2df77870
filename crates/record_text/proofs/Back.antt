-- A line's text is guessed to be that line's.
use Rattle.std.proofs.Common.{◌≡◌, ℕ, zero, suc, ◌+◌, ◌/◌, ◌%◌, ◌^◌, ◌<◌, ◌≤◌, List, [], ◌∷◌, ◌++◌, length, take, drop, codes, ◌||◌, Bool, not, true, false, Option, Some, None, refl, sym, ◌∙◌, rules, arith, append_assoc}
use Rattle.std.proofs.lemmas.Bool.{and_parts}
use Rattle.std.proofs.lemmas.Bool.Decides.{nat_tests}
use Rattle.std.proofs.lemmas.List.{take_at, drop_at, length-append}
use Rattle.std.proofs.lemmas.Fmt.{digits_decimal}
use Rattle.std.proofs.lemmas.Str.Parse.{IsNumeralModel, IsDigitsTest, numerals_by_value}
use Rattle.std.specs.Fmt.{decimal}
use Rattle.std.specs.Str.Parse.{digits_value}
use Rattle.std.specs.Int.{IsInRange}
use Rattle.std.specs.List.{position_or_len, list_all}
use Rattle.record_names.specs.Faults.{fault_text, FaultFits, guess_of as fault_of}
use Rattle.record_names.specs.Parts.{part_name, part_of}
use Rattle.record_names.specs.Rules.{rule_name, rule_of}
use Rattle.record_names.specs.Words.{IsWord}
use Rattle.record_names.specs.declared.fault.Fault.{Fault}
use Rattle.record_names.specs.declared.part.Part.{Part}
use Rattle.record_names.specs.declared.rule.Rule.{Rule}
use Rattle.uh_base.specs.Hex.{hex_digit, hex_digits}
use Rattle.uh_base.specs.Names.{is_name, is_name_byte}
use Rattle.uh_base.specs.Numbers.{digit_value, digits_number, number_of, hexadecimal_number}
use Rattle.record_text.specs.Causes.{cause_name, cause_of}
use Rattle.record_text.specs.Services.{service_name, service_slot}
use Rattle.record_text.proofs.ServiceLemmas.{services_back, service_no_space, slot_no_space_name}
use Rattle.record_text.specs.HexBytes.{bytes_from, bytes_of}
use Rattle.record_text.specs.Console.{digit}
use Rattle.record_text.proofs.HexLemmas.{bytes_back}
use Rattle.record_text.specs.Texts.{spaced, text_of, has_slot, is_called, IsLine}
use Rattle.record_text.specs.Guesses.{is_space, cut, small_number, load_of, svc_of, start_of, unload_of, exit_boot_of, shown_of, peek_of, vars_of, memmap_of, row_of, reset_of, halt_of, by_verdict, not_passed, verdict_of, check_of, mapped_by, map_of, returned_of, trapped_of, stopped_of, ended_of, called_of, call_of, with_last_word, with_later_word, with_word, behind_word, guess_of}
use Rattle.record_text.specs.declared.cause.Cause.{Cause}
use Rattle.record_text.specs.declared.cause.Cause.TheVariants as causes
use Rattle.record_text.specs.declared.line.Line.{Line}
use Rattle.record_text.specs.declared.line.Line.TheVariants.{Console, Svc, Load, Start, Unload, ExitBoot, CheckYes, CheckNo, CheckCert, MapAccepted, MapRefused, Call, CallTrap, CallBound, CallEarly, Bytes, Peek, PeekFault, MemmapKey, MemmapRow, Vars, Reset, Halt, End}

-- ---- words

abbrev pub NoSpace : List ℕ → Type 0
NoSpace [] = Unit {0}
NoSpace (c ∷ cs) = (is_space c ≡ false) × NoSpace cs

NoSpace-append : (a b : List ℕ) → NoSpace a → NoSpace b → NoSpace (a ++ b)
NoSpace-append [] b p q = q
NoSpace-append (c ∷ cs) b p q = (p.0, NoSpace-append cs b p.1 q)

word_end : (w r : List ℕ) → NoSpace w → position_or_len is_space (w ++ 32 ∷ r) ≡ length w
word_end [] r h = refl
word_end (c ∷ cs) r h = let f = h.0 in rw f (grind (arith, word_end cs r h.1))

no_end : (w : List ℕ) → NoSpace w → position_or_len is_space w ≡ length w
no_end [] h = refl
no_end (c ∷ cs) h = let f = h.0 in rw f (grind (arith, no_end cs h.1))

pub cut_word : (w r : List ℕ) → NoSpace w → cut (w ++ 32 ∷ r) ≡ Some (w, r)
unfolding cut
cut_word w r h =
    let at : position_or_len is_space (w ++ 32 ∷ r) ≡ length w = word_end w r h in
    let front : take (length w) (w ++ 32 ∷ r) ≡ w = take_at w (32 ∷ r) (length w) refl in
    let same : w ++ 32 ∷ r ≡ (w ++ 32 ∷ []) ++ r = sym (append_assoc w (32 ∷ []) r) in
    let back : drop (length w + 1) (w ++ 32 ∷ r) ≡ r = rw same (drop_at (w ++ 32 ∷ []) r (length w + 1) (length-append w (32 ∷ []))) in
    let long : length (w ++ 32 ∷ r) ≡ length w + suc (length r) = length-append w (32 ∷ r) in
    rw (at, front, back, long) (grind (arith, nat_tests))

pub cut_none : (w : List ℕ) → NoSpace w → cut w ≡ None
unfolding cut
cut_none w h = rw (no_end w h) (grind (arith, nat_tests))

-- ---- words that have no space

digit_no_space : (d : ℕ) → d < 16 → is_space (hex_digit d) ≡ false
digit_no_space d h = grind (arith, nat_tests)

pub hex_no_space : (k n : ℕ) → NoSpace (hex_digits k n)
unfolding hex_digits
hex_no_space zero n = tt
hex_no_space (suc k) n = NoSpace-append (hex_digits k (n / 16)) (hex_digit (n % 16) ∷ []) (hex_no_space k (n / 16)) (digit_no_space (n % 16) (omega arith), tt)

abbrev pub AreDigits : List ℕ → Type 0
AreDigits [] = Unit {0}
AreDigits (c ∷ cs) = IsInRange 48 57 c × AreDigits cs

tested : IsDigitsTest AreDigits
tested = record { empty = tt; parts = λ c cs h. h; more = λ c cs r h. (r, h) }

pub own : IsNumeralModel AreDigits (digits_value 10)
own = numerals_by_value AreDigits tested

digits_no_space : (ds : List ℕ) → AreDigits ds → NoSpace ds
digits_no_space [] h = tt
digits_no_space (c ∷ cs) h = let r = h.0 in (grind (arith, nat_tests, r), digits_no_space cs h.1)

pub decimal_no_space : (n : ℕ) → n < 2 ^ 64 → NoSpace (decimal n)
decimal_no_space n h = digits_no_space (decimal n) (digits_decimal own n h)

byte_no_space : (c : ℕ) → is_name_byte c ≡ true → is_space c ≡ false
byte_no_space c h = grind (arith, nat_tests, h)

bytes_no_space : (s : List ℕ) → list_all is_name_byte s ≡ true → NoSpace s
bytes_no_space [] h = tt
bytes_no_space (c ∷ cs) h = let p = and_parts _ _ h in (byte_no_space c p.0, bytes_no_space cs p.1)

name_no_space : (s : List ℕ) → is_name s ≡ true → NoSpace s
name_no_space s h = bytes_no_space s (and_parts _ _ (and_parts _ _ h).1).1

cause_no_space : (cause : Cause) → NoSpace (cause_name cause)
cause_no_space causes.Illegal = search rules
cause_no_space causes.Ebreak = search rules
cause_no_space causes.Ecall = search rules
cause_no_space causes.Fetch = search rules
cause_no_space causes.Load = search rules
cause_no_space causes.Store = search rules
cause_no_space causes.Bound = search rules
cause_no_space causes.Idle = search rules
cause_no_space causes.Tpl = search rules
cause_no_space causes.BootGone = search rules
cause_no_space causes.Depth = search rules
cause_no_space causes.Frames = search rules

not_true : (b : Bool) → not b ≡ true → b ≡ false
not_true true h = cc
not_true false h = refl

words_no_space : (s : List ℕ) → list_all (λ b. not (is_space b)) s ≡ true → NoSpace s
words_no_space [] h = tt
words_no_space (c ∷ cs) h = let p = and_parts (not (is_space c)) _ h in (not_true (is_space c) p.0, words_no_space cs p.1)

slot_no_space : (slot : ℕ) → NoSpace (service_name slot)
slot_no_space slot = words_no_space (service_name slot) (service_no_space slot)

slot_word : (name : List ℕ) (slot : Option ℕ) → service_slot name ≡ slot → has_slot slot ≡ true → NoSpace name
slot_word name None is h = cc
slot_word name (Some slot) is h = words_no_space name (slot_no_space_name name slot is)

called_word : (name : List ℕ) (named : Bool) → is_name name ≡ named → (named || has_slot (service_slot name)) ≡ true → NoSpace name
called_word name true is h = name_no_space name is
called_word name false is h = slot_word name (service_slot name) refl h

called_no_space : (name : List ℕ) → is_called name ≡ true → NoSpace name
called_no_space name h = called_word name (is_name name) refl h

-- ---- words that are read back

cause_back : (cause : Cause) → cause_of (cause_name cause) ≡ Some cause
unfolding cause_of
cause_back causes.Illegal = refl
cause_back causes.Ebreak = refl
cause_back causes.Ecall = refl
cause_back causes.Fetch = refl
cause_back causes.Load = refl
cause_back causes.Store = refl
cause_back causes.Bound = refl
cause_back causes.Idle = refl
cause_back causes.Tpl = refl
cause_back causes.BootGone = refl
cause_back causes.Depth = refl
cause_back causes.Frames = refl

-- the texts of numbers are read back, as laws say
pub record ReadBack : Type 0 where
  pub decimals : (n : ℕ) → n < 2 ^ 64 → number_of (decimal n) ≡ Some n
  pub hexadecimals : (count n : ℕ) → 1 ≤ count → count ≤ 16 → n < 16 ^ count → hexadecimal_number (hex_digits count n) ≡ Some n

pub hex_back : ReadBack → (n : ℕ) → n < 2 ^ 64 → hexadecimal_number (hex_digits 16 n) ≡ Some n
hex_back laws n h = laws.hexadecimals 16 n (omega arith) (omega arith) h

pub small_back : ReadBack → (n : ℕ) → n < 2 ^ 32 → small_number (decimal n) ≡ Some n
unfolding small_number
small_back laws n h = rw (laws.decimals n (omega arith)) (grind (arith, nat_tests))

-- words of lines are no numbers
console_no_number : small_number (codes "console") ≡ None
unfolding small_number number_of digits_number digit_value
console_no_number = refl

load_no_number : small_number (codes "load") ≡ None
unfolding small_number number_of digits_number digit_value
load_no_number = refl

svc_no_number : small_number (codes "svc") ≡ None
unfolding small_number number_of digits_number digit_value
svc_no_number = refl

reset_no_number : small_number (codes "reset") ≡ None
unfolding small_number number_of digits_number digit_value
reset_no_number = refl

start_no_number : small_number (codes "start") ≡ None
unfolding small_number number_of digits_number digit_value
start_no_number = refl

memmap_no_number : small_number (codes "memmap") ≡ None
unfolding small_number number_of digits_number digit_value
memmap_no_number = refl

halt_no_number : small_number (codes "halt") ≡ None
unfolding small_number number_of digits_number digit_value
halt_no_number = refl

unload_no_number : small_number (codes "unload") ≡ None
unfolding small_number number_of digits_number digit_value
unload_no_number = refl

exit_boot_no_number : small_number (codes "exit_boot") ≡ None
unfolding small_number number_of digits_number digit_value
exit_boot_no_number = refl

bytes_no_number : small_number (codes "bytes") ≡ None
unfolding small_number number_of digits_number digit_value
bytes_no_number = refl

peek_no_number : small_number (codes "peek") ≡ None
unfolding small_number number_of digits_number digit_value
peek_no_number = refl

vars_no_number : small_number (codes "vars") ≡ None
unfolding small_number number_of digits_number digit_value
vars_no_number = refl

check_no_number : small_number (codes "check") ≡ None
unfolding small_number number_of digits_number digit_value
check_no_number = refl

map_no_number : small_number (codes "map") ≡ None
unfolding small_number number_of digits_number digit_value
map_no_number = refl

call_no_number : small_number (codes "call") ≡ None
unfolding small_number number_of digits_number digit_value
call_no_number = refl

-- the words of how a call ended aren't values
trap_no_value : hexadecimal_number (codes "trap") ≡ None
unfolding digits_number digit_value
trap_no_value = refl

bound_no_value : hexadecimal_number (codes "bound") ≡ None
unfolding digits_number digit_value
bound_no_value = refl

-- `fault` isn't the text of bytes
fault_no_bytes : bytes_of (codes "fault") ≡ None
unfolding bytes_of bytes_from digit
fault_no_bytes = refl

-- ---- checks, maps and calls

-- the names of rules, parts and faults are read back, and those of rules and parts are words, as laws say
pub record NamesBack : Type 0 where
  pub rules : (rule : Rule) → rule_of (rule_name rule) ≡ Some rule
  pub rule_words : (rule : Rule) → IsWord (rule_name rule)
  pub parts : (part : Part) → part_of (part_name part) ≡ Some part
  pub part_words : (part : Part) → IsWord (part_name part)
  pub faults : (fault : Fault) → FaultFits fault → fault_of (fault_text fault) ≡ Some fault

a_check : (name text : List ℕ) → NoSpace name → guess_of (spaced (codes "check") (spaced name text)) ≡ verdict_of name text
unfolding guess_of behind_word with_word with_later_word with_last_word check_of
a_check name text h = rw (cut_word (codes "check") (spaced name text) (search rules), check_no_number, cut_word name text h) refl

a_map : (word text : List ℕ) → NoSpace word → guess_of (spaced (codes "map") (spaced word text)) ≡ mapped_by word text
unfolding guess_of behind_word with_word with_later_word with_last_word map_of
a_map word text h = rw (cut_word (codes "map") (spaced word text) (search rules), map_no_number, cut_word word text h) refl

a_call : (name text : List ℕ) → NoSpace name → guess_of (spaced (codes "call") (spaced name text)) ≡ called_of name text
unfolding guess_of behind_word with_word with_later_word with_last_word call_of
a_call name text h = rw (cut_word (codes "call") (spaced name text) (search rules), call_no_number, cut_word name text h) refl

not_passed_back : ReadBack → (name verdict word : List ℕ) (n : ℕ) → NoSpace verdict → NoSpace word → n < 2 ^ 32
    → verdict_of name (spaced verdict (spaced word (decimal n))) ≡ by_verdict name verdict word n
unfolding verdict_of not_passed
not_passed_back laws name verdict word n v w h = rw (cut_word verdict (spaced word (decimal n)) v, cut_word word (decimal n) w, small_back laws n h) refl

-- ---- lines

pub guess_text : ReadBack → NamesBack → (line : Line) → IsLine line → guess_of (text_of line) ≡ Some line
unfolding guess_of behind_word with_later_word with_word text_of verdict_of by_verdict mapped_by called_of ended_of returned_of stopped_of trapped_of svc_of load_of start_of unload_of exit_boot_of shown_of peek_of vars_of memmap_of row_of reset_of halt_of
guess_text laws names (Console text) f = rw (cut_word (codes "console") text (search rules), console_no_number) refl
guess_text laws names (Svc slot h0) f =
    rw (
      cut_word (codes "svc") _ (search rules),
      svc_no_number,
      cut_word (service_name slot) _ (slot_no_space slot),
      services_back slot f.0,
      hex_back laws h0 f.1.1,
    ) refl
guess_text laws names (Load name h0 h1 pages) f =
    rw (
      cut_word (codes "load") _ (search rules),
      load_no_number,
      cut_word name _ (name_no_space name f.0),
      cut_word (hex_digits 16 h0) _ (hex_no_space 16 h0),
      cut_word (hex_digits 16 h1) _ (hex_no_space 16 h1),
      hex_back laws h0 f.1.0,
      hex_back laws h1 f.1.1,
      small_back laws pages f.1.2,
    ) refl
guess_text laws names (Start name h0 steps) f =
    rw (
      cut_word (codes "start") _ (search rules),
      start_no_number,
      cut_word name _ (name_no_space name f.0),
      cut_word (hex_digits 16 h0) _ (hex_no_space 16 h0),
      hex_back laws h0 f.1.0,
      laws.decimals steps f.1.1,
    ) refl
guess_text laws names (Unload name h0) f =
    rw (
      cut_word (codes "unload") _ (search rules),
      unload_no_number,
      cut_word name _ (name_no_space name f.0),
      hex_back laws h0 f.1,
    ) refl
guess_text laws names (ExitBoot h0) f = rw (cut_word (codes "exit_boot") _ (search rules), exit_boot_no_number, hex_back laws h0 f.1) refl
guess_text laws names (CheckYes name) f = a_check name (codes "yes") (name_no_space name f.0) ∙ rw (cut_none (codes "yes") (search rules)) refl
guess_text laws names (CheckNo name rule n) f =
    a_check name _ (name_no_space name f.0)
    ∙ (not_passed_back laws name (codes "no") (rule_name rule) n (search rules) (words_no_space (rule_name rule) (names.rule_words rule)) f.1
    ∙ rw (names.rules rule) refl)
guess_text laws names (CheckCert name part n) f =
    a_check name _ (name_no_space name f.0)
    ∙ (not_passed_back laws name (codes "cert") (part_name part) n (search rules) (words_no_space (part_name part) (names.part_words part)) f.1
    ∙ rw (names.parts part) refl)
guess_text laws names (MapAccepted steps) f = a_map (codes "accepted") (decimal steps) (search rules) ∙ rw (laws.decimals steps f.1) refl
guess_text laws names (MapRefused fault) f = a_map (codes "refused") (fault_text fault) (search rules) ∙ rw (names.faults fault f.1) refl
guess_text laws names (Call name h0 steps) f =
    a_call name _ (called_no_space name f.0)
    ∙ rw (cut_word (hex_digits 16 h0) (decimal steps) (hex_no_space 16 h0), hex_back laws h0 f.1.0, laws.decimals steps f.1.1) refl
guess_text laws names (CallTrap name cause steps) f =
    a_call name _ (called_no_space name f.0)
    ∙ rw (
      cut_word (codes "trap") (spaced (cause_name cause) (decimal steps)) (search rules),
      trap_no_value,
      cut_word (cause_name cause) (decimal steps) (cause_no_space cause),
      cause_back cause,
      laws.decimals steps f.1,
    ) refl
guess_text laws names (CallBound name steps) f =
    a_call name _ (called_no_space name f.0) ∙ rw (cut_word (codes "bound") (decimal steps) (search rules), bound_no_value, laws.decimals steps f.1) refl
guess_text laws names (CallEarly name) f = a_call name (codes "early") (called_no_space name f.0) ∙ rw (cut_none (codes "early") (search rules)) refl
guess_text laws names (Bytes offset hex) f =
    rw (
      cut_word (codes "bytes") _ (search rules),
      bytes_no_number,
      cut_word (decimal offset) _ (decimal_no_space offset (omega (arith, f.1))),
      small_back laws offset f.1,
      bytes_back hex f.0.0.0,
    ) refl
guess_text laws names (Peek h0 hex) f =
    rw (
      cut_word (codes "peek") _ (search rules),
      peek_no_number,
      cut_word (hex_digits 16 h0) _ (hex_no_space 16 h0),
      hex_back laws h0 f.1,
      bytes_back hex f.0.0.0,
    ) refl
guess_text laws names (PeekFault h0) f =
    rw (
      cut_word (codes "peek") _ (search rules),
      peek_no_number,
      cut_word (hex_digits 16 h0) _ (hex_no_space 16 h0),
      hex_back laws h0 f.1,
      fault_no_bytes,
    ) refl
guess_text laws names (Vars hex) f = rw (cut_word (codes "vars") _ (search rules), vars_no_number, bytes_back hex f.0.0) refl
guess_text laws names (MemmapKey key) f =
    rw (cut_word (codes "memmap") _ (search rules), memmap_no_number, laws.decimals key f.1) refl
guess_text laws names (MemmapRow memory_type h0 pages h1) f =
    rw (
      cut_word (decimal memory_type) _ (decimal_no_space memory_type (omega (arith, f.1.0))),
      small_back laws memory_type f.1.0,
      cut_word (hex_digits 16 h0) _ (hex_no_space 16 h0),
      cut_word (decimal pages) _ (decimal_no_space pages f.1.2),
      hex_back laws h0 f.1.1,
      laws.decimals pages f.1.2,
      hex_back laws h1 f.1.3,
    ) refl
guess_text laws names (Reset kind h0) f =
    rw (
      cut_word (codes "reset") _ (search rules),
      reset_no_number,
      cut_word (decimal kind) _ (decimal_no_space kind (omega (arith, f.1.0))),
      small_back laws kind f.1.0,
      hex_back laws h0 f.1.1,
    ) refl
guess_text laws names (Halt cause h0 h1) f =
    rw (
      cut_word (codes "halt") _ (search rules),
      halt_no_number,
      cut_word (cause_name cause) _ (cause_no_space cause),
      cut_word (hex_digits 16 h0) _ (hex_no_space 16 h0),
      cause_back cause,
      hex_back laws h0 f.1.0,
      hex_back laws h1 f.1.1,
    ) refl
guess_text laws names End f = rw (cut_none (codes "end") (search rules)) refl
