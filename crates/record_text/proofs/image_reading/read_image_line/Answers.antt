use Rattle.std.proofs.Common.{◌≡◌, List, ℕ, Some, None, false, sym, ap, subst, ◌∙◌}
use Rattle.std.proofs.lemmas.Bool.{false≢true}
use Rattle.std.proofs.lemmas.Slice.Eq.{bytes_eq-Decides}
use Rattle.std.proofs.lemmas.Option.{same_Some}
use Rattle.std.specs.Str.{bytes_eq}
use Rattle.record_text.specs.declared.image_line.ImageLine.{ImageLine}
use Rattle.record_text.specs.ImageTexts.{image_text, IsImageLine}
use Rattle.record_text.specs.ImageGuesses.{guess_of}
use Rattle.record_text.proofs.Back.{ReadBack}
use Rattle.record_text.proofs.ImageBack.{guess_text}
use Rattle.record_text.proofs.image_reading.read_image_line.Goals as goal

-- the line of a text is the one that is guessed
is_guessed : ReadBack → (text : List ℕ) (line : ImageLine) → IsImageLine line → image_text line ≡ text → guess_of text ≡ Some line
is_guessed laws text line fits is = ap guess_of (sym is) ∙ guess_text laws line fits

none_guessed : ReadBack → (text : List ℕ) → None ≡ guess_of text → (line : ImageLine) → IsImageLine line → image_text line ≡ text → ⊥
none_guessed laws text h line fits is = let e = h ∙ is_guessed laws text line fits is in cc

the_guess : ReadBack → (text : List ℕ) (guess : ImageLine) → Some guess ≡ guess_of text → (line : ImageLine) → IsImageLine line → image_text line ≡ text → guess ≡ line
the_guess laws text guess h line fits is = same_Some guess line (h ∙ is_guessed laws text line fits is)

-- a line other than the guessed one has another text
none_fits : ReadBack → (text : List ℕ) (guess : ImageLine) → Some guess ≡ guess_of text → (IsImageLine guess → image_text guess ≡ text → ⊥) → (line : ImageLine) → IsImageLine line → image_text line ≡ text → ⊥
none_fits laws text guess h wrong line fits is =
    let e = the_guess laws text guess h line fits is in
    wrong (subst IsImageLine (sym e) fits) (ap image_text e ∙ is)

unequal : (a b : List ℕ) → false ≡ bytes_eq a b → a ≡ b → ⊥
unequal a b h e = false≢true (h ∙ (bytes_eq-Decides a b).1 e)

pub returns-in-None-clause-none : goal.returns-in-None-clause-none
returns-in-None-clause-none c = none_guessed (record { decimals = c.decimals_read_back.ensures; hexadecimals = c.hexadecimals_read_back.ensures }) c.args.text.now (sym c.in-None.is ∙ c.in_ok-line.ensures)

pub returns-then-not-has_forms-clause-none : goal.returns-then-not-has_forms-clause-none
returns-then-not-has_forms-clause-none c =
    none_fits (record { decimals = c.decimals_read_back.ensures; hexadecimals = c.hexadecimals_read_back.ensures }) c.args.text.now c.in-Some.line (sym c.in-Some.is ∙ c.in_ok-line.ensures) (λ fits _. false≢true (c.if-not-has_forms.ensures.all fits.0))

pub returns-then-eq-clause-only : goal.returns-then-eq-clause-only
returns-then-eq-clause-only c = λ other fits is. the_guess (record { decimals = c.decimals_read_back.ensures; hexadecimals = c.hexadecimals_read_back.ensures }) c.args.text.now c.in-Some.line (sym c.in-Some.is ∙ c.in_ok-line.ensures) other fits is

pub returns-else-eq-clause-none : goal.returns-else-eq-clause-none
returns-else-eq-clause-none c =
    none_fits (record { decimals = c.decimals_read_back.ensures; hexadecimals = c.hexadecimals_read_back.ensures }) c.args.text.now c.in-Some.line (sym c.in-Some.is ∙ c.in_ok-line.ensures)
    (λ _ is. unequal c.as_slice.result.now c.as_bytes.result.now c.if-eq.ensures (c.as_slice.ensures.value ∙ c.in_ok-written.ensures ∙ is ∙ sym c.as_bytes.ensures.value))
