use Rattle.runtime_services.proofs.next_name.tell_name.Goals as goal

pub returns-clause-ok : goal.returns-clause-ok
returns-clause-ok c = rw (c.to_le_bytes-size.ensures, c.to_bytes-vendor.ensures) at c.in_ok-served.ensures.ok
