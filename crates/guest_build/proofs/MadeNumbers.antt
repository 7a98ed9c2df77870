-- A base is a number of 64 bits.
use Rattle.std.proofs.Common.{◌≡◌, ◌<◌, ℕ, zero, suc, ◌+◌, ◌^◌, Bool, true, false, ◌&&◌, nat_lt, List, length, take, drop, Option, Some, None, Result, Ok, Err, refl, subst, inl, inr, arith}
use Rattle.std.specs.Prelude.{◌==◌, if◌then◌else◌}
use Rattle.std.specs.List.{position_or_len}
use Rattle.std.proofs.Math.Dec.{eqb-suc-zero}
use Rattle.std.proofs.lemmas.Bool.{cases_Bool, and_parts}
use Rattle.std.proofs.lemmas.Bool.Decides.{nat_tests}
use Rattle.uh_base.specs.Numbers.{are_digits, value_of, digits_number, is_prefixed, number_of}
use Rattle.uh_base.specs.Guid.{read_of}
use Rattle.uh_base.specs.declared.guid.Guid.{Guid as AnyGuid}
use Rattle.rv_decode.specs.declared.insn.Op.{Op}
use Rattle.uh_base.specs.Answers.{◌>>=◌}
use Rattle.guest_build.specs.Numbers.{positive, negative, by_sign, number_in}
use Rattle.guest_build.specs.Texts.{is_blank, trimmed, outside, behind_first}
use Rattle.guest_build.specs.Operands.{is_label}
use Rattle.guest_build.specs.Words.{word_of}
use Rattle.guest_build.specs.Statements.{registers, immediate, shift, offset, store, branch, upper_of, lui, jump, bare, instruction, li, la, mv, nop, ret, jump_by, jr, zero_branch, of_number, numbered, number_or_label, dword, ascii16, guid_of, guid, saying}
use Rattle.guest_build.specs.Lines.{uncommented, said, or_fault, statement_of, labelled, line_in, line_of}
use Rattle.guest_build.specs.declared.fault.AsmKind.{AsmKind}
use Rattle.guest_build.specs.declared.number.Number.{Number}
use Rattle.guest_build.specs.declared.statement.Statement.{Statement}
use Rattle.guest_build.specs.declared.statement.Statement.TheVariants as statements
use Rattle.guest_build.specs.declared.word.Shape.{Shape}
use Rattle.guest_build.specs.declared.word.Shape.TheVariants as shapes
use Rattle.guest_build.specs.declared.word.Word.{Word}
use Rattle.guest_build.specs.declared.word.Word.TheVariants as words

-- ---- numbers

abbrev IsSmall : Option ℕ → Type 0
IsSmall None = Unit {0}
IsSmall (Some n) = n < 2 ^ 64

digits_small : (base : ℕ) (digits : List ℕ) → IsSmall (digits_number base digits)
unfolding digits_number
digits_small base digits =
    elim (cases_Bool (are_digits base digits && nat_lt (value_of base digits) (2 ^ 64))) [
      | inl good ↦ rw good (let e : nat_lt (value_of base digits) (2 ^ 64) ≡ true = (and_parts (are_digits base digits) (nat_lt (value_of base digits) (2 ^ 64)) good).1 in grind (arith, nat_tests, e))
      | inr bad ↦ rw bad tt
    ]

if_small : (test : Bool) (o : Option ℕ) → IsSmall o → IsSmall (if test then o else None)
if_small true o h = h
if_small false o h = tt

number_small : (text : List ℕ) → IsSmall (number_of text)
unfolding number_of
number_small text =
    elim (cases_Bool (is_prefixed text)) [
      | inl hexadecimal ↦ rw hexadecimal (if_small _ (digits_number 16 (drop 2 text)) (digits_small 16 (drop 2 text)))
      | inr decimal ↦ rw decimal (if_small _ (digits_number 10 text) (digits_small 10 text))
    ]

positive_fits : (o : Option ℕ) (n : Number) → IsSmall o → positive o ≡ Ok n → n.size < 2 ^ 64
positive_fits None n h e = absurd cc
positive_fits (Some m) n h e = let is : record { negative = false; size = m } ≡ n = cc in subst (λ (n : Number). n.size < 2 ^ 64) is h

negative_fits : (o : Option ℕ) (n : Number) → IsSmall o → negative o ≡ Ok n → n.size < 2 ^ 64
negative_fits None n h e = absurd cc
negative_fits (Some zero) n h e = absurd cc
negative_fits (Some (suc m)) n h e = let is : record { negative = true; size = suc m } ≡ n = (let f = rw (eqb-suc-zero m) at e in cc) in subst (λ (n : Number). n.size < 2 ^ 64) is h

signed_fits : (text : List ℕ) (digits : Option (List ℕ)) (n : Number) → by_sign text digits ≡ Ok n → n.size < 2 ^ 64
signed_fits text None n h = positive_fits (number_of text) n (number_small text) h
signed_fits text (Some digits) n h = negative_fits (number_of digits) n (number_small digits) h

number_fits : (text : List ℕ) (n : Number) → number_in text ≡ Ok n → n.size < 2 ^ 64
unfolding number_in
number_fits text n h = signed_fits text (behind_first 45 text) n h

-- ---- statements

abbrev pub BaseFits : Statement → Type 0
BaseFits (statements.Base n) = n.size < 2 ^ 64
BaseFits statement = Unit {0}

abbrev Fits : Result Statement AsmKind → Type 0
Fits (Ok statement) = BaseFits statement
Fits (Err kind) = Unit {0}

fits_then : {A : Type 0} (r : Result A AsmKind) (f : A → Result Statement AsmKind) → ((x : A) → r ≡ Ok x → Fits (f x)) → Fits (r >>= f)
fits_then (Ok x) f h = h x refl
fits_then (Err kind) f h = tt

shape_fits : (op : Op) (shape : Shape) (text : List ℕ) → Fits (instruction op shape text)
unfolding instruction registers immediate shift offset store branch upper_of lui jump bare
shape_fits op shapes.Registers text = search fits_then
shape_fits op shapes.Immediate text = search fits_then
shape_fits op shapes.Shift text = search fits_then
shape_fits op shapes.Offset text = search fits_then
shape_fits op shapes.Store text = search fits_then
shape_fits op shapes.Branch text = search fits_then
shape_fits op shapes.Upper text = search fits_then
shape_fits op shapes.Lui text = search fits_then
shape_fits op shapes.Jump text = search fits_then
shape_fits op shapes.Bare text = search fits_then

of_number_fits : (other : Word) (n : Number) → n.size < 2 ^ 64 → Fits (of_number other n)
of_number_fits words.Base n h = h
of_number_fits words.Subsystem n h = tt
of_number_fits words.Alignment n h = tt
of_number_fits words.Zero n h = tt
of_number_fits (words.Number width) n h = tt
of_number_fits other n h = tt

numbered_fits : (other : Word) (text : List ℕ) → Fits (numbered other text)
unfolding numbered
numbered_fits other text = fits_then (number_in text) (of_number other) (λ n e. of_number_fits other n (number_fits text n e))

dword_fits : (r : Result Number AsmKind) (text : List ℕ) → Fits (number_or_label r text)
dword_fits (Ok n) text = tt
dword_fits (Err kind) text = search fits_then

guid_fits : (id : Option AnyGuid) → Fits (guid_of id)
guid_fits None = tt
guid_fits (Some id) = tt

word_fits : (other : Word) (text : List ℕ) → Fits (saying other text)
unfolding saying li la mv nop ret jump_by jr zero_branch dword ascii16 guid
word_fits (words.Instruction op shape) text = shape_fits op shape text
word_fits words.Dword text = dword_fits (number_in text) text
word_fits words.Guid text = guid_fits (read_of text)
word_fits words.Li text = search fits_then
word_fits words.La text = search fits_then
word_fits words.Mv text = search fits_then
word_fits words.Nop text = search fits_then
word_fits words.Ret text = search fits_then
word_fits words.J text = search fits_then
word_fits words.Jr text = search fits_then
word_fits words.Beqz text = search fits_then
word_fits words.Bnez text = search fits_then
word_fits words.Call text = search fits_then
word_fits words.Text text = search fits_then
word_fits words.Data text = search fits_then
word_fits words.Ascii16 text = search fits_then
word_fits other text = numbered_fits other text

-- ---- lines

or_fault_fits : (r : Result Statement AsmKind) → Fits r → BaseFits (or_fault r)
or_fault_fits (Ok statement) h = h
or_fault_fits (Err kind) h = tt

statement_fits : (text : List ℕ) → BaseFits (statement_of text)
unfolding statement_of said
statement_fits text =
    elim (cases_Bool (length text == 0)) [
      | inl none ↦ rw none tt
      | inr some ↦ rw some (or_fault_fits (said text) (fits_then (word_of (take (position_or_len is_blank text) text)) (λ other. saying other (trimmed (drop (position_or_len is_blank text) text)))
          (λ other e. word_fits other (trimmed (drop (position_or_len is_blank text) text)))))
    ]

labelled_fits : (name : List ℕ) (statement : Statement) → BaseFits statement → BaseFits (labelled name statement).statement
unfolding labelled
labelled_fits name statement h = elim (cases_Bool (is_label name)) [ inl good ↦ rw good h | inr bad ↦ rw bad tt ]

pub line_fits : (line : List ℕ) → BaseFits (line_of line).statement
unfolding line_of line_in
line_fits line =
    let text = uncommented line in
    let at = outside 58 false text in
    elim (cases_Bool (nat_lt at (length text))) [
      | inl has ↦ rw has (labelled_fits (trimmed (take at text)) (statement_of (trimmed (drop (at + 1) text))) (statement_fits (trimmed (drop (at + 1) text))))
      | inr none ↦ rw none (statement_fits (trimmed text))
    ]
