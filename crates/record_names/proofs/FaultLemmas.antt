-- A fault's text is guessed to be that fault's.
use Rattle.std.proofs.Common.{◌≡◌, ℕ, suc, ◌+◌, ◌^◌, ◌<◌, Bool, List, [], ◌∷◌, ◌++◌, length, take, drop, codes, false, true, Some, None, refl, sym, ◌∙◌, rules, arith, append_assoc}
use Rattle.std.proofs.lemmas.Bool.Decides.{nat_tests}
use Rattle.std.proofs.lemmas.List.{take_at, drop_at, length-append}
use Rattle.std.proofs.lemmas.Fmt.{digits_decimal}
use Rattle.std.proofs.lemmas.Str.Parse.{IsNumeralModel, IsDigitsTest, numerals_by_value}
use Rattle.std.specs.Fmt.{decimal}
use Rattle.std.specs.Str.Parse.{digits_value}
use Rattle.std.specs.Int.{IsInRange}
use Rattle.std.specs.List.{position_or_len}
use Rattle.uh_base.specs.Numbers.{number_of}
use Rattle.record_names.specs.Faults.{numbered, fault_text, FaultFits, is_mark, cut_at, small_number, plain_fault, numbered_fault, site_fault, with_numbers, behind_name, guess_of}
use Rattle.record_names.specs.declared.fault.Fault.{Fault}
use Rattle.record_names.specs.declared.fault.Fault.TheVariants as faults

-- ---- texts that are cut at a mark

abbrev Without : (ℕ → Bool) → List ℕ → Type 0
Without is [] = Unit {0}
Without is (c ∷ cs) = (is c ≡ false) × Without is cs

Without-append : (is : ℕ → Bool) (a b : List ℕ) → Without is a → Without is b → Without is (a ++ b)
Without-append is [] b p q = q
Without-append is (c ∷ cs) b p q = (p.0, Without-append is cs b p.1 q)

mark_end : (is : ℕ → Bool) (w : List ℕ) (c : ℕ) (r : List ℕ) → is c ≡ true → Without is w → position_or_len is (w ++ c ∷ r) ≡ length w
mark_end is [] c r t h = rw t refl
mark_end is (d ∷ ds) c r t h = let f = h.0 in rw f (grind (arith, mark_end is ds c r t h.1))

no_mark : (is : ℕ → Bool) (w : List ℕ) → Without is w → position_or_len is w ≡ length w
no_mark is [] h = refl
no_mark is (c ∷ cs) h = let f = h.0 in rw f (grind (arith, no_mark is cs h.1))

cut_mark : (c : ℕ) (w r : List ℕ) → is_mark c c ≡ true → Without (is_mark c) w → cut_at c (w ++ c ∷ r) ≡ Some (w, r)
unfolding cut_at
cut_mark c w r t h =
    let at : position_or_len (is_mark c) (w ++ c ∷ r) ≡ length w = mark_end (is_mark c) w c r t h in
    let front : take (length w) (w ++ c ∷ r) ≡ w = take_at w (c ∷ r) (length w) refl in
    let same : w ++ c ∷ r ≡ (w ++ c ∷ []) ++ r = sym (append_assoc w (c ∷ []) r) in
    let back : drop (length w + 1) (w ++ c ∷ r) ≡ r = rw same (drop_at (w ++ c ∷ []) r (length w + 1) (length-append w (c ∷ []))) in
    let long : length (w ++ c ∷ r) ≡ length w + suc (length r) = length-append w (c ∷ r) in
    rw (at, front, back, long) (grind (arith, nat_tests))

not_cut : (c : ℕ) (w : List ℕ) → Without (is_mark c) w → cut_at c w ≡ None
unfolding cut_at
not_cut c w h = rw (no_mark (is_mark c) w h) (grind (arith, nat_tests))

-- ---- numbers

abbrev AreDigits : List ℕ → Type 0
AreDigits [] = Unit {0}
AreDigits (c ∷ cs) = IsInRange 48 57 c × AreDigits cs

tested : IsDigitsTest AreDigits
tested = record { empty = tt; parts = λ c cs h. h; more = λ c cs r h. (r, h) }

own : IsNumeralModel AreDigits (digits_value 10)
own = numerals_by_value AreDigits tested

digits_without : (mark : ℕ) (ds : List ℕ) → mark < 48 → AreDigits ds → Without (is_mark mark) ds
digits_without mark [] small h = tt
digits_without mark (c ∷ cs) small h = let r = h.0 in (grind (arith, nat_tests, r), digits_without mark cs small h.1)

decimal_without : (mark n : ℕ) → mark < 48 → n < 2 ^ 32 → Without (is_mark mark) (decimal n)
decimal_without mark n small h = digits_without mark (decimal n) small (digits_decimal own n (omega arith))

-- the texts of numbers are read back, as a law says
abbrev pub DecimalsBack : Type 0
DecimalsBack = (n : ℕ) → n < 2 ^ 64 → number_of (decimal n) ≡ Some n

small_back : DecimalsBack → (n : ℕ) → n < 2 ^ 32 → small_number (decimal n) ≡ Some n
unfolding small_number
small_back law n h = rw (law n (omega arith)) (grind (arith, nat_tests))

-- ---- faults

-- a name and numbers are taken apart
apart : (name numbers : List ℕ) → Without (is_mark 40) name → Without (is_mark 41) numbers → guess_of (numbered name numbers) ≡ with_numbers name numbers
unfolding guess_of behind_name
apart name numbers h k = rw (cut_mark 40 name (numbers ++ 41 ∷ []) refl h, cut_mark 41 numbers [] refl k) refl

one_number : DecimalsBack → (name : List ℕ) (i : ℕ) → i < 2 ^ 32 → Without (is_mark 40) name → guess_of (numbered name (decimal i)) ≡ with_numbers name (decimal i)
one_number law name i f h = apart name (decimal i) h (decimal_without 41 i (omega arith) f)

two_numbers : DecimalsBack → (image site : ℕ) → image < 2 ^ 32 → site < 2 ^ 32 → site_fault (decimal image ++ 44 ∷ decimal site) ≡ Some (faults.Reloc32 image site)
unfolding site_fault
two_numbers law image site f g = rw (cut_mark 44 (decimal image) (decimal site) refl (decimal_without 44 image (omega arith) f), small_back law image f, small_back law site g) refl

pub fault_back : DecimalsBack → (fault : Fault) → FaultFits fault → guess_of (fault_text fault) ≡ Some fault
unfolding plain_fault numbered_fault with_numbers guess_of
fault_back law faults.BeforeExit f = rw (not_cut 40 (codes "BeforeExit") (search rules)) refl
fault_back law faults.AlreadyMapped f = rw (not_cut 40 (codes "AlreadyMapped") (search rules)) refl
fault_back law faults.DescriptorSize f = rw (not_cut 40 (codes "DescriptorSize") (search rules)) refl
fault_back law faults.DescriptorVersion f = rw (not_cut 40 (codes "DescriptorVersion") (search rules)) refl
fault_back law faults.MapSize f = rw (not_cut 40 (codes "MapSize") (search rules)) refl
fault_back law (faults.NotFound i) f = one_number law (codes "NotFound") i f (search rules) ∙ rw (small_back law i f) refl
fault_back law (faults.Twice i) f = one_number law (codes "Twice") i f (search rules) ∙ rw (small_back law i f) refl
fault_back law (faults.Unaligned i) f = one_number law (codes "Unaligned") i f (search rules) ∙ rw (small_back law i f) refl
fault_back law (faults.OutOfRange i) f = one_number law (codes "OutOfRange") i f (search rules) ∙ rw (small_back law i f) refl
fault_back law (faults.Overlap i) f = one_number law (codes "Overlap") i f (search rules) ∙ rw (small_back law i f) refl
fault_back law (faults.Shadow i) f = one_number law (codes "Shadow") i f (search rules) ∙ rw (small_back law i f) refl
fault_back law faults.OsWindow f = rw (not_cut 40 (codes "OsWindow") (search rules)) refl
fault_back law (faults.NoMapping i) f = one_number law (codes "NoMapping") i f (search rules) ∙ rw (small_back law i f) refl
fault_back law (faults.Reloc32 image site) f =
    apart (codes "Reloc32") (decimal image ++ 44 ∷ decimal site) (search rules)
    (Without-append (is_mark 41) (decimal image) (44 ∷ decimal site) (decimal_without 41 image (omega arith) f.0) (refl, decimal_without 41 site (omega arith) f.1))
    ∙ two_numbers law image site f.0 f.1
