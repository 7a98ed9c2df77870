use Rattle.std.proofs.lemmas.Str.Pattern.{strip_prefix_char}
use Rattle.guest_build.proofs.TextLemmas.{is_behind}
use Rattle.guest_build.proofs.text.behind_first.Goals as goal

pub returns : goal.returns
returns c = is_behind c.args.c c.args.text.now c.strip_prefix.result (strip_prefix_char c.args.c c.args.text.now c.strip_prefix.result c.strip_prefix.ensures.cases c.requires)
