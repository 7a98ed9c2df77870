use Rattle.provenance_check.proofs.asked.moved.Goals as goal

pub returns-clause-proper : goal.returns-clause-proper
returns-clause-proper c = rw c.transfer.ensures (c.transfer_is_proper.ensures _ _ _ _ _ c.requires c.requires)
