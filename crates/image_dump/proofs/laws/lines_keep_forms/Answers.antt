use Rattle.image_dump.proofs.FormLemmas as lemmas
use Rattle.image_dump.proofs.laws.lines_keep_forms.Goals as goal

pub returns : goal.returns
returns c = lemmas.lines_keep_forms
