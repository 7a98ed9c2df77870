use Rattle.runtime_services.proofs.get.tell_sizes.Goals as goal

pub returns-clause-ok : goal.returns-clause-ok
returns-clause-ok c = rw (c.unless_zero-first.ensures, c.attribute_bytes-attributes.ensures, c.size_bytes-size.ensures) at c.in_ok-served.ensures.ok
