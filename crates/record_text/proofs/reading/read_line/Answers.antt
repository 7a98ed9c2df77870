use Rattle.std.proofs.Common.{◌≡◌, List, ℕ, Some, None, false, sym, ap, subst, ◌∙◌}
use Rattle.std.proofs.lemmas.Bool.{false≢true}
use Rattle.std.proofs.lemmas.Slice.Eq.{bytes_eq-Decides}
use Rattle.std.proofs.lemmas.Option.{same_Some}
use Rattle.std.specs.Str.{bytes_eq}
use Rattle.record_text.specs.declared.line.Line.{Line}
use Rattle.record_text.specs.Texts.{text_of, IsLine}
use Rattle.record_text.specs.Guesses.{guess_of}
use Rattle.record_text.proofs.Back.{ReadBack, NamesBack, guess_text}
use Rattle.record_text.proofs.reading.read_line.Goals as goal

-- the line of a text is the one that is guessed
is_guessed : ReadBack → NamesBack → (text : List ℕ) (line : Line) → IsLine line → text_of line ≡ text → guess_of text ≡ Some line
is_guessed laws names text line fits is = ap guess_of (sym is) ∙ guess_text laws names line fits

none_guessed : ReadBack → NamesBack → (text : List ℕ) → None ≡ guess_of text → (line : Line) → IsLine line → text_of line ≡ text → ⊥
none_guessed laws names text h line fits is = let e = h ∙ is_guessed laws names text line fits is in cc

the_guess : ReadBack → NamesBack → (text : List ℕ) (guess : Line) → Some guess ≡ guess_of text → (line : Line) → IsLine line → text_of line ≡ text → guess ≡ line
the_guess laws names text guess h line fits is = same_Some guess line (h ∙ is_guessed laws names text line fits is)

-- a line other than the guessed one has another text
none_fits : ReadBack → NamesBack → (text : List ℕ) (guess : Line) → Some guess ≡ guess_of text → (IsLine guess → text_of guess ≡ text → ⊥) → (line : Line) → IsLine line → text_of line ≡ text → ⊥
none_fits laws names text guess h wrong line fits is =
    let e = the_guess laws names text guess h line fits is in
    wrong (subst IsLine (sym e) fits) (ap text_of e ∙ is)

unequal : (a b : List ℕ) → false ≡ bytes_eq a b → a ≡ b → ⊥
unequal a b h e = false≢true (h ∙ (bytes_eq-Decides a b).1 e)

pub returns-in-None-clause-none : goal.returns-in-None-clause-none
returns-in-None-clause-none c = none_guessed (record { decimals = c.decimals_read_back.ensures; hexadecimals = c.hexadecimals_read_back.ensures }) (record { rules = c.rules_read_back.ensures.back; rule_words = c.rules_read_back.ensures.words; parts = c.parts_read_back.ensures.back; part_words = c.parts_read_back.ensures.words; faults = c.faults_read_back.ensures }) c.args.text.now (sym c.in-None.is ∙ c.in_ok-line.ensures)

pub returns-then-not-has_forms-clause-none : goal.returns-then-not-has_forms-clause-none
returns-then-not-has_forms-clause-none c =
    none_fits (record { decimals = c.decimals_read_back.ensures; hexadecimals = c.hexadecimals_read_back.ensures }) (record { rules = c.rules_read_back.ensures.back; rule_words = c.rules_read_back.ensures.words; parts = c.parts_read_back.ensures.back; part_words = c.parts_read_back.ensures.words; faults = c.faults_read_back.ensures }) c.args.text.now c.in-Some.line (sym c.in-Some.is ∙ c.in_ok-line.ensures) (λ fits _. false≢true (c.if-not-has_forms.ensures.all fits.0))

pub returns-then-eq-clause-only : goal.returns-then-eq-clause-only
returns-then-eq-clause-only c = λ other fits is. the_guess (record { decimals = c.decimals_read_back.ensures; hexadecimals = c.hexadecimals_read_back.ensures }) (record { rules = c.rules_read_back.ensures.back; rule_words = c.rules_read_back.ensures.words; parts = c.parts_read_back.ensures.back; part_words = c.parts_read_back.ensures.words; faults = c.faults_read_back.ensures }) c.args.text.now c.in-Some.line (sym c.in-Some.is ∙ c.in_ok-line.ensures) other fits is

pub returns-else-eq-clause-none : goal.returns-else-eq-clause-none
returns-else-eq-clause-none c =
    none_fits (record { decimals = c.decimals_read_back.ensures; hexadecimals = c.hexadecimals_read_back.ensures }) (record { rules = c.rules_read_back.ensures.back; rule_words = c.rules_read_back.ensures.words; parts = c.parts_read_back.ensures.back; part_words = c.parts_read_back.ensures.words; faults = c.faults_read_back.ensures }) c.args.text.now c.in-Some.line (sym c.in-Some.is ∙ c.in_ok-line.ensures)
    (λ _ is. unequal c.as_str.result.now c.args.text.now c.if-eq.ensures (c.as_str.ensures.value ∙ c.in_ok-written.ensures ∙ is))
