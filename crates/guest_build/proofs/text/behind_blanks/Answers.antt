use Rattle.guest_build.proofs.TextLemmas.{cut_behind}
use Rattle.guest_build.proofs.text.behind_blanks.Goals as goal

pub split_at-requires : goal.split_at-requires
split_at-requires c = cut_behind c.args.text.now c.blanks_in_front-count.result c.utf8.text (rw c.as_bytes.ensures.value at c.blanks_in_front-count.ensures.bound) (rw c.as_bytes.ensures.value at c.blanks_in_front-count.ensures.behind)
