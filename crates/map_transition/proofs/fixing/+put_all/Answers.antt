use Rattle.std.proofs.Common.{rules, arith, length}
use Rattle.map_transition.proofs.ByteLemmas.{rest_touched}
use Rattle.map_transition.proofs.fixing.+put_all.Goals as goal

pub put_all-requires : goal.put_all-requires
put_all-requires t c = (search rules, rest_touched c.args.memory.now c.put_byte.new.memory c.args.at (length c.in-Some.rest.now) c.whole.ensures c.put_byte.ensures.rest (λ at low high. c.requires at low (omega (arith, c.in-Some.ensures.cases.1))))
