use Rattle.base_reloc.proofs.WordLemmas.{words_move, words_move_twice}
use Rattle.base_reloc.proofs.laws.words_move.Goals as goal

pub returns-clause-once : goal.returns-clause-once
returns-clause-once c = words_move

pub returns-clause-twice : goal.returns-clause-twice
returns-clause-twice c = words_move_twice
