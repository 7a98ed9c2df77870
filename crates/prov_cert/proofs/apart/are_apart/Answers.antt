use Rattle.std.proofs.Common.{sym, ◌∙◌}
use Rattle.prov_cert.proofs.ApartLemmas.{apart_from_rising, neighbours_suffice}
use Rattle.prov_cert.proofs.apart.are_apart.Goals as goal

pub returns-then-rises : goal.returns-then-rises
returns-then-rises c = sym (apart_from_rising 0 c.args.parts.now (sym c.rises.ensures ∙ c.if-rises.true))

pub returns : goal.returns
returns c = c.rises-2.ensures ∙ rw c.as_slice.ensures.value (neighbours_suffice c.args.parts.now c.in_ok-ordered.ordered.items c.requires c.in_ok-ordered.ensures.same c.in_ok-ordered.ensures.order)
