use Rattle.runtime_services.proofs.info.tell_info.Goals as goal

pub returns-clause-ok : goal.returns-clause-ok
returns-clause-ok c = rw (c.to_le_bytes-most_bytes.ensures, c.to_le_bytes-left_bytes.ensures, c.to_le_bytes-one_bytes.ensures, c.saturating_sub.ensures) at c.in_ok-served.ensures.ok
