use Rattle.runtime_services.proofs.time.give_time.Goals as goal

pub returns-clause-ok : goal.returns-clause-ok
returns-clause-ok c = rw (c.to_bytes-bytes.ensures, c.unless_zero-more.ensures) at c.in_ok-served.ensures.ok
