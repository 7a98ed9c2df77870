-- What a line says: a label, and a statement behind it.
use Rattle.std.specs.Prelude.{ℕ, ◌+◌, ◌==◌, false, List, length, take, drop, Some, None, Result, Ok, Err, nat_lt, if◌then◌else◌}
use Rattle.std.specs.List.{position_or_len}
use Rattle.uh_base.specs.Answers.{◌>>=◌}
use Rattle.guest_build.specs.Texts.{is_blank, trimmed, outside}
use Rattle.guest_build.specs.Operands.{is_label}
use Rattle.guest_build.specs.Words.{word_of}
use Rattle.guest_build.specs.Statements.{saying}
use Rattle.guest_build.specs.declared.fault.AsmKind.{AsmKind}
use Rattle.guest_build.specs.declared.fault.AsmKind.TheVariants as kinds
use Rattle.guest_build.specs.declared.statement.Statement.{Statement}
use Rattle.guest_build.specs.declared.statement.Statement.TheVariants as statements
use Rattle.guest_build.specs.declared.statement.Line.{Line}

-- what stands before a comment: a # outside quotes begins one
unfoldable pub uncommented : List ℕ → List ℕ
uncommented line = take (outside 35 false line) line

-- the word ends at the first blank, and the rest are its operands
unfoldable pub said : List ℕ → Result Statement AsmKind
said text = do
  word ← word_of (take (position_or_len is_blank text) text)
  saying word (trimmed (drop (position_or_len is_blank text) text))

abbrev pub or_fault : Result Statement AsmKind → Statement
or_fault (Ok statement) = statement
or_fault (Err kind) = statements.Fault kind

unfoldable pub statement_of : List ℕ → Statement
statement_of text = if length text == 0 then statements.Empty else or_fault (said text)

-- what stands before the first : outside quotes has to be a label
unfoldable pub labelled : (name : List ℕ) → Statement → Line
labelled name statement =
    if is_label name then record { label = Some name; statement = statement }
    else record { label = None; statement = statements.Fault kinds.Word }

unfoldable pub line_in : List ℕ → Line
line_in text =
    let at = outside 58 false text in
    if nat_lt at (length text) then labelled (trimmed (take at text)) (statement_of (trimmed (drop (at + 1) text)))
    else record { label = None; statement = statement_of (trimmed text) }

unfoldable pub line_of : List ℕ → Line
line_of line = line_in (uncommented line)
