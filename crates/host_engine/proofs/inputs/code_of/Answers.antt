use Rattle.host_engine.proofs.InputLemmas.{of_file, of_text}
use Rattle.host_engine.proofs.inputs.code_of.Goals as goal

pub returns-in-Ok-clause-had : goal.returns-in-Ok-clause-had
returns-in-Ok-clause-had g c = λ next. rw c.in-File.is (of_file (g.F.Files.told c.args.files.now) c.args.name.now _ c.in-Ok.bytes.items next (rw c.as_str.ensures at c.in-Ok.ensures.had))

pub returns-in-Text-clause-had : goal.returns-in-Text-clause-had
returns-in-Text-clause-had g c = λ next. rw (c.in-Text.is, c.as_str-in-Text.ensures) (of_text (g.F.Files.told c.args.files.now) c.args.name.now _ next)
