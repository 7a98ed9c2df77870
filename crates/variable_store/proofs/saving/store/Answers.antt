use Rattle.std.proofs.Common.{arith}
use Rattle.variable_store.proofs.EditLemmas.{few}
use Rattle.variable_store.proofs.saving.store.Goals as goal

pub push_number-requires : goal.push_number-requires
push_number-requires c = let many = few c.args.entries.now in let room = c.requires.room in let kept = c.count_kept.ensures.bound in omega arith
