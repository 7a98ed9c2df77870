use Rattle.prov_cert.proofs.WordLemmas.{cut_behind}
use Rattle.prov_cert.proofs.words.behind_spaces.Goals as goal

pub split_at-requires : goal.split_at-requires
split_at-requires c = cut_behind c.args.text.now c.spaces_in_front-count.result c.utf8.text (rw c.as_bytes.ensures.value at c.spaces_in_front-count.ensures.bound) (rw c.as_bytes.ensures.value at c.spaces_in_front-count.ensures.behind)
