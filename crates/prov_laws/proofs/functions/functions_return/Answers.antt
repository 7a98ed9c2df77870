use Rattle.prov_laws.proofs.CountLemmas.{last_converts}
use Rattle.prov_laws.proofs.ReturnLemmas.{functions_return}
use Rattle.prov_laws.proofs.functions.functions_return.Goals as goal

pub returns-clause-returns : goal.returns-clause-returns
returns-clause-returns c =
    let jumps = c.jump_node.ensures in
    let keep = c.conversion_keeps.ensures in
    functions_return c.one_node.ensures jumps.jumps c.others_stand.ensures c.edges_serve.ensures c.length_is_of_the_low_bits.ensures c.none_fails_judges.ensures c.other_bytes_stay.ensures keep.keeps

pub returns-clause-last : goal.returns-clause-last
returns-clause-last c = last_converts c.none_fails_judges.ensures
