use Rattle.prov_cert.proofs.ApartLemmas.{stack_none, stack_some, all_wide}
use Rattle.prov_cert.specs.Seen.{texts_of}
use Rattle.prov_cert.proofs.parts.stack_of.Goals as goal

pub returns-in-None : goal.returns-in-None
returns-in-None c = stack_none c.args.regions (texts_of c.args.parts.now) (rw c.in-None.is at c.in_ok-parts_of.ensures)

pub are_apart-requires : goal.are_apart-requires
are_apart-requires c = rw c.as_slice.ensures.value (all_wide c.args.regions (texts_of c.args.parts.now) c.in-Some.stack.items (rw c.in-Some.is at c.in_ok-parts_of.ensures))

pub returns-then-branch : goal.returns-then-branch
returns-then-branch c = rw c.if-branch.true at (stack_some c.args.regions (texts_of c.args.parts.now) c.in-Some.stack.items c.in_ok-are_apart.field-0 (rw c.in-Some.is at c.in_ok-parts_of.ensures) (rw c.as_slice.ensures.value at c.in_ok-are_apart.ensures))

pub returns-else-branch : goal.returns-else-branch
returns-else-branch c = rw c.if-branch.false at (stack_some c.args.regions (texts_of c.args.parts.now) c.in-Some.stack.items c.in_ok-are_apart.field-0 (rw c.in-Some.is at c.in_ok-parts_of.ensures) (rw c.as_slice.ensures.value at c.in_ok-are_apart.ensures))
