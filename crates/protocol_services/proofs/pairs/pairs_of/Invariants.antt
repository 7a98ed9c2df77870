use Rattle.std.proofs.Common.{◌≡◌, ◌-◌, ◌+◌, ◌*◌}
use Rattle.address_view.specs.Windows.{see}
use Rattle.protocol_services.specs.Pairs.{pairs_from, pairs_of}
use Rattle.protocol_services.proofs.PairLemmas.{before}
use Rattle.protocol_services.proofs.pairs.pairs_of.Given as goal

-- the pairs so far, with those that are still to come, are the call's
abbrev pub invariant-loop-i : goal.invariant-loop-i
invariant-loop-i l = before l.pairs.items (pairs_from (33 - l.i) l.registers (see l.view) l.memory (1 + 2 * l.i)) ≡ pairs_of l.registers (see l.view) l.memory
