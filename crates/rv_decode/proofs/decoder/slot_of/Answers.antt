use Rattle.std.proofs.Common.{refl}
use Rattle.rv_decode.proofs.SlotLemmas.{long_slot, half_slot}
use Rattle.rv_decode.proofs.decoder.slot_of.Goals as goal

pub returns-then-word-eq3-clause-holds : goal.returns-then-word-eq3-clause-holds
returns-then-word-eq3-clause-holds c = long_slot c.args.word _ refl c.if-word-eq3.true

pub returns-else-word-eq3-clause-holds : goal.returns-else-word-eq3-clause-holds
returns-else-word-eq3-clause-holds c = half_slot c.args.word _ refl
