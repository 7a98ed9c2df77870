use Rattle.std.proofs.Common.{◌∙◌, arith}
use Rattle.event_queue.proofs.Moments.{found_first}
use Rattle.event_queue.proofs.ticks.rising_moment.Goals as goal

pub returns : goal.returns
returns c =
    c.lesser.ensures ∙ rw (c.first_listed.ensures, c.rounded.ensures) (found_first c.args.listed.now c.args.low c.requires (λ i. (let fits = c.type_inv.listed i in omega (arith, fits))))
