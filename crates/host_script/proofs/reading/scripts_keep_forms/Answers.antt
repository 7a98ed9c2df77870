use Rattle.host_script.proofs.FormLemmas.{keeps_forms}
use Rattle.host_script.proofs.reading.scripts_keep_forms.Goals as goal

pub returns : goal.returns
returns c = keeps_forms
