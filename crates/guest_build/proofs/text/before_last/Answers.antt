use Rattle.std.proofs.lemmas.Str.Pattern.{strip_suffix_char}
use Rattle.guest_build.proofs.TextLemmas.{is_before}
use Rattle.guest_build.proofs.text.before_last.Goals as goal

pub returns : goal.returns
returns c = is_before c.args.c c.args.text.now c.strip_suffix.result (strip_suffix_char c.args.c c.args.text.now c.strip_suffix.result c.strip_suffix.ensures.cases c.requires)
