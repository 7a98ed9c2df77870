use Rattle.std.proofs.lemmas.Str.Pattern.{split_once_first}
use Rattle.prov_cert.proofs.WordLemmas.{is_cut}
use Rattle.prov_cert.proofs.words.cut.Goals as goal

pub returns : goal.returns
returns c = is_cut c.args.c c.args.text.now c.split_once.result (split_once_first c.args.c c.args.text.now c.split_once.result c.split_once.ensures.cases c.requires)
