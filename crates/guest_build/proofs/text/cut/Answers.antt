use Rattle.std.proofs.lemmas.Str.Pattern.{split_once_first}
use Rattle.guest_build.proofs.TextLemmas.{is_cut, is_uncut}
use Rattle.guest_build.proofs.text.cut.Goals as goal

pub returns-in-Some : goal.returns-in-Some
returns-in-Some c = is_cut c.args.c c.args.text.now c.split_once.result _ c.in-Some.is (split_once_first c.args.c c.args.text.now c.split_once.result c.split_once.ensures.cases c.requires)

pub returns-in-None : goal.returns-in-None
returns-in-None c = is_uncut c.args.c c.args.text.now c.split_once.result c.in-None.is (split_once_first c.args.c c.args.text.now c.split_once.result c.split_once.ensures.cases c.requires)
