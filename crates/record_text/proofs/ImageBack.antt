-- The text of a line on an image file is guessed to be that line's.
use Rattle.std.proofs.Common.{◌≡◌, ℕ, zero, suc, ◌+◌, ◌/◌, ◌%◌, ◌^◌, ◌<◌, ◌≤◌, Bool, List, [], ◌∷◌, ◌++◌, length, take, drop, codes, not, true, false, Some, None, refl, sym, ◌∙◌, rules, arith, append_assoc}
use Rattle.std.proofs.lemmas.Bool.{and_parts}
use Rattle.std.proofs.lemmas.Bool.Decides.{nat_tests}
use Rattle.std.proofs.lemmas.List.{take_at, drop_at, length-append}
use Rattle.std.proofs.lemmas.Fmt.{digits_decimal}
use Rattle.std.specs.Fmt.{decimal}
use Rattle.std.specs.List.{position_or_len, list_all}
use Rattle.std.specs.Str.{bytes_eq}
use Rattle.uh_base.specs.ConsoleText.{is_printable}
use Rattle.uh_base.specs.Hex.{hex_digit, hex_digits}
use Rattle.uh_base.specs.Numbers.{digit_value, digits_number, hexadecimal_number}
use Rattle.record_text.specs.ImageTexts.{kind_name, fault_text, rights_text, stripped_word, image_text, is_instruction_text, FaultFits, IsImageLine}
use Rattle.record_text.specs.ImageGuesses.{is_mark, cut_at, below, short_number, kind_of, plain_fault, numbered_fault, with_number, fault_of, stripped_of, image_of, with_rights, section_of, section_or_listed, site_of, refused_of, with_word, by_digits, code_of, behind_word, guess_of}
use Rattle.record_text.specs.declared.image_line.ImageFault.{ImageFault}
use Rattle.record_text.specs.declared.image_line.ImageFault.TheVariants as faults
use Rattle.record_text.specs.declared.image_line.ImageLine.{ImageLine}
use Rattle.record_text.specs.declared.image_line.ImageLine.TheVariants.{Image, Section, Site, Listed, Word, Half, NoInstruction, LastByte, Refused, End}
use Rattle.record_text.specs.declared.image_line.RelocKind.{RelocKind}
use Rattle.record_text.specs.declared.image_line.RelocKind.TheVariants.{Dir64, Highlow, High20}
use Rattle.record_text.proofs.Back.{NoSpace, cut_word, cut_none, hex_no_space, decimal_no_space, hex_back, small_back, ReadBack, AreDigits, own}

-- ---- texts that are cut at a mark

abbrev Without : (ℕ → Bool) → List ℕ → Type 0
Without is [] = Unit {0}
Without is (c ∷ cs) = (is c ≡ false) × Without is cs

mark_end : (is : ℕ → Bool) (w : List ℕ) (c : ℕ) (r : List ℕ) → is c ≡ true → Without is w → position_or_len is (w ++ c ∷ r) ≡ length w
mark_end is [] c r t h = rw t refl
mark_end is (d ∷ ds) c r t h = let f = h.0 in rw f (grind (arith, mark_end is ds c r t h.1))

no_mark : (is : ℕ → Bool) (w : List ℕ) → Without is w → position_or_len is w ≡ length w
no_mark is [] h = refl
no_mark is (c ∷ cs) h = let f = h.0 in rw f (grind (arith, no_mark is cs h.1))

cut_mark : (c : ℕ) (w r : List ℕ) → is_mark c c ≡ true → Without (is_mark c) w → cut_at c (w ++ c ∷ r) ≡ Some (w, r)
unfolding cut_at
cut_mark c w r t h =
    let at : position_or_len (is_mark c) (w ++ c ∷ r) ≡ length w = mark_end (is_mark c) w c r t h in
    let front : take (length w) (w ++ c ∷ r) ≡ w = take_at w (c ∷ r) (length w) refl in
    let same : w ++ c ∷ r ≡ (w ++ c ∷ []) ++ r = sym (append_assoc w (c ∷ []) r) in
    let back : drop (length w + 1) (w ++ c ∷ r) ≡ r = rw same (drop_at (w ++ c ∷ []) r (length w + 1) (length-append w (c ∷ []))) in
    let long : length (w ++ c ∷ r) ≡ length w + suc (length r) = length-append w (c ∷ r) in
    rw (at, front, back, long) (grind (arith, nat_tests))

not_cut : (c : ℕ) (w : List ℕ) → Without (is_mark c) w → cut_at c w ≡ None
unfolding cut_at
not_cut c w h = rw (no_mark (is_mark c) w h) (grind (arith, nat_tests))

digits_without : (ds : List ℕ) → AreDigits ds → Without (is_mark 41) ds
digits_without [] h = tt
digits_without (c ∷ cs) h = let r = h.0 in (grind (arith, nat_tests, r), digits_without cs h.1)

decimal_without : (n : ℕ) → n < 2 ^ 64 → Without (is_mark 41) (decimal n)
decimal_without n h = digits_without (decimal n) (digits_decimal own n h)

-- ---- numbers

below_back : (bits n : ℕ) → n < 2 ^ bits → below bits n ≡ Some n
below_back bits n h = grind (arith, nat_tests, h)

short_back : ReadBack → (n : ℕ) → n < 2 ^ 16 → short_number (decimal n) ≡ Some n
unfolding short_number
short_back laws n h = rw (laws.decimals n (omega arith)) (below_back 16 n h)

length_hex : (count n : ℕ) → length (hex_digits count n) ≡ count
unfolding hex_digits
length_hex zero n = refl
length_hex (suc count) n = rw (length-append (hex_digits count (n / 16)) (hex_digit (n % 16) ∷ []), length_hex count (n / 16)) (omega arith)

-- ---- words

kind_back : (kind : RelocKind) → kind_of (kind_name kind) ≡ Some kind
unfolding kind_of
kind_back Dir64 = refl
kind_back Highlow = refl
kind_back High20 = refl

kind_no_space : (kind : RelocKind) → NoSpace (kind_name kind)
kind_no_space Dir64 = search rules
kind_no_space Highlow = search rules
kind_no_space High20 = search rules

stripped_back : (b : Bool) → stripped_of (stripped_word b) ≡ Some b
unfolding stripped_of
stripped_back true = refl
stripped_back false = refl

rights_back : (number at len copied : ℕ) (read written executed : Bool) → with_rights number at len copied (rights_text read written executed) ≡ Some (Section number at len copied read written executed)
rights_back number at len copied true true true = refl
rights_back number at len copied true true false = refl
rights_back number at len copied true false true = refl
rights_back number at len copied true false false = refl
rights_back number at len copied false true true = refl
rights_back number at len copied false true false = refl
rights_back number at len copied false false true = refl
rights_back number at len copied false false false = refl

rights_no_space : (read written executed : Bool) → NoSpace (rights_text read written executed)
rights_no_space true true true = search rules
rights_no_space true true false = search rules
rights_no_space true false true = search rules
rights_no_space true false false = search rules
rights_no_space false true true = search rules
rights_no_space false true false = search rules
rights_no_space false false true = search rules
rights_no_space false false false = search rules

-- ---- faults

fault_with_number : ReadBack → (name : List ℕ) (n : ℕ) → n < 2 ^ 64 → Without (is_mark 40) name → fault_of (name ++ 40 ∷ decimal n ++ 41 ∷ []) ≡ numbered_fault name n
unfolding fault_of with_number
fault_with_number laws name n small h =
    let shape : name ++ 40 ∷ decimal n ++ 41 ∷ [] ≡ name ++ 40 ∷ (decimal n ++ 41 ∷ []) = simp append_assoc in
    rw (shape, cut_mark 40 name (decimal n ++ 41 ∷ []) refl h, cut_mark 41 (decimal n) [] refl (decimal_without n small), laws.decimals n small) refl

fault_back : ReadBack → (fault : ImageFault) → FaultFits fault → fault_of (fault_text fault) ≡ Some fault
unfolding fault_of plain_fault numbered_fault
fault_back laws (faults.Truncated n) f = fault_with_number laws (codes "Truncated") n (omega (arith, f)) (search rules) ∙ rw (below_back 32 n f) refl
fault_back laws faults.Magic f = rw (not_cut 40 (codes "Magic") (search rules)) refl
fault_back laws faults.Machine f = rw (not_cut 40 (codes "Machine") (search rules)) refl
fault_back laws faults.Header f = rw (not_cut 40 (codes "Header") (search rules)) refl
fault_back laws faults.Subsystem f = rw (not_cut 40 (codes "Subsystem") (search rules)) refl
fault_back laws faults.Alignment f = rw (not_cut 40 (codes "Alignment") (search rules)) refl
fault_back laws faults.TooLarge f = rw (not_cut 40 (codes "TooLarge") (search rules)) refl
fault_back laws (faults.SectionOutside n) f = fault_with_number laws (codes "SectionOutside") n (omega (arith, f)) (search rules) ∙ rw (below_back 16 n f) refl
fault_back laws (faults.SectionOverlap n) f = fault_with_number laws (codes "SectionOverlap") n (omega (arith, f)) (search rules) ∙ rw (below_back 16 n f) refl
fault_back laws faults.EntryOutside f = rw (not_cut 40 (codes "EntryOutside") (search rules)) refl
fault_back laws faults.Directory f = rw (not_cut 40 (codes "Directory") (search rules)) refl
fault_back laws (faults.BlockSize n) f = fault_with_number laws (codes "BlockSize") n (omega (arith, f)) (search rules) ∙ rw (below_back 32 n f) refl
fault_back laws (faults.Kind n) f = fault_with_number laws (codes "Kind") n (omega (arith, f)) (search rules) ∙ rw (below_back 32 n f) refl
fault_back laws (faults.Outside n) f = fault_with_number laws (codes "Outside") n (omega (arith, f)) (search rules) ∙ rw (below_back 32 n f) refl
fault_back laws (faults.Overlap n) f = fault_with_number laws (codes "Overlap") n (omega (arith, f)) (search rules) ∙ rw (below_back 32 n f) refl
fault_back laws (faults.Range32 n) f = fault_with_number laws (codes "Range32") n (omega (arith, f)) (search rules) ∙ rw (below_back 32 n f) refl

-- ---- words of lines are no offsets

image_no_offset : hexadecimal_number (codes "image") ≡ None
unfolding digits_number digit_value
image_no_offset = refl

section_no_offset : hexadecimal_number (codes "section") ≡ None
unfolding digits_number digit_value
section_no_offset = refl

site_no_offset : hexadecimal_number (codes "site") ≡ None
unfolding digits_number digit_value
site_no_offset = refl

refused_no_offset : hexadecimal_number (codes "refused") ≡ None
unfolding digits_number digit_value
refused_no_offset = refl

-- ---- code

code_back : ReadBack → (at digits word : ℕ) (text : List ℕ) → at < 2 ^ 32 → 1 ≤ digits → digits ≤ 16 → word < 16 ^ digits
    → guess_of (hex_digits 8 at ++ 32 ∷ (hex_digits digits word ++ 32 ∷ text)) ≡ by_digits at digits word text
unfolding guess_of behind_word code_of
code_back laws at digits word text small low high h =
    rw (
      cut_word (hex_digits 8 at) (hex_digits digits word ++ 32 ∷ text) (hex_no_space 8 at),
      laws.hexadecimals 8 at (omega arith) (omega arith) (omega (arith, small)),
      below_back 32 at small,
      cut_word (hex_digits digits word) text (hex_no_space digits word),
      laws.hexadecimals digits word low high h,
      length_hex digits word,
    ) refl

not_true : (b : Bool) → not b ≡ true → b ≡ false
not_true true h = absurd cc
not_true false h = refl

no_dash : (text : List ℕ) → is_instruction_text text ≡ true → bytes_eq text (codes "-") ≡ false
no_dash text h = not_true (bytes_eq text (codes "-")) (and_parts (list_all is_printable text) (not (bytes_eq text (codes "-"))) h).1

-- ---- lines

pub guess_text : ReadBack → (line : ImageLine) → IsImageLine line → guess_of (image_text line) ≡ Some line
unfolding guess_of behind_word with_word image_text image_of section_of section_or_listed site_of refused_of by_digits
guess_text laws (Image subsystem base size entry alignment is_stripped) f =
    rw (
      cut_word (codes "image") _ (search rules),
      image_no_offset,
      cut_word (decimal subsystem) _ (decimal_no_space subsystem (omega (arith, f.1.0))),
      cut_word (hex_digits 16 base) _ (hex_no_space 16 base),
      cut_word (decimal size) _ (decimal_no_space size (omega (arith, f.1.2))),
      cut_word (decimal entry) _ (decimal_no_space entry (omega (arith, f.1.3))),
      cut_word (decimal alignment) _ (decimal_no_space alignment (omega (arith, f.1.4))),
      short_back laws subsystem f.1.0,
      hex_back laws base f.1.1,
      small_back laws size f.1.2,
      small_back laws entry f.1.3,
      small_back laws alignment f.1.4,
      stripped_back is_stripped,
    ) refl
guess_text laws (Section number at len copied read written executed) f =
    rw (
      cut_word (codes "section") _ (search rules),
      section_no_offset,
      cut_word (decimal number) _ (decimal_no_space number (omega (arith, f.1.0))),
      short_back laws number f.1.0,
      cut_word (decimal at) _ (decimal_no_space at (omega (arith, f.1.1))),
      cut_word (decimal len) _ (decimal_no_space len (omega (arith, f.1.2))),
      cut_word (decimal copied) _ (decimal_no_space copied (omega (arith, f.1.3))),
      small_back laws at f.1.1,
      small_back laws len f.1.2,
      small_back laws copied f.1.3,
    ) (rights_back number at len copied read written executed)
guess_text laws (Site kind at) f =
    rw (
      cut_word (codes "site") _ (search rules),
      site_no_offset,
      cut_word (kind_name kind) _ (kind_no_space kind),
      kind_back kind,
      small_back laws at f.1,
    ) refl
guess_text laws (Listed number) f =
    rw (
      cut_word (codes "section") _ (search rules),
      section_no_offset,
      cut_none (decimal number) (decimal_no_space number (omega (arith, f.1))),
      short_back laws number f.1,
    ) refl
guess_text laws (Word at word text) f = code_back laws at 8 word text f.1.0 (omega arith) (omega arith) (omega (arith, f.1.1)) ∙ rw (below_back 32 word f.1.1) refl
guess_text laws (Half at half text) f =
    code_back laws at 4 half text f.1.0 (omega arith) (omega arith) (omega (arith, f.1.1)) ∙ rw (below_back 16 half f.1.1, no_dash text f.0) refl
guess_text laws (NoInstruction at half) f = code_back laws at 4 half (codes "-") f.1.0 (omega arith) (omega arith) (omega (arith, f.1.1)) ∙ rw (below_back 16 half f.1.1) refl
guess_text laws (LastByte at byte) f = code_back laws at 2 byte (codes "-") f.1.0 (omega arith) (omega arith) (omega (arith, f.1.1)) ∙ rw (below_back 8 byte f.1.1) refl
guess_text laws (Refused fault) f = rw (cut_word (codes "refused") _ (search rules), refused_no_offset, fault_back laws fault f.1) refl
guess_text laws End f = rw (cut_none (codes "end") (search rules)) refl
