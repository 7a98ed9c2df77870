use Rattle.std.proofs.Common.{◌≡◌, ◌<◌, ◌+◌, arith, sym, ◌∙◌, refl, true, false}
use Rattle.std.specs.Prelude.{if◌then◌else◌, nat_le}
use Rattle.std.proofs.lemmas.Bool.Decides.{nat_tests}
use Rattle.rv_step.specs.declared.bus.Access.TheVariants as access
use Rattle.prov_types.specs.Kinds.{length_of}
use Rattle.prov_layout.specs.Offsets.{at_each, count}
use Rattle.provenance_check.specs.Accesses.{is_allowed}
use Rattle.provenance_check.specs.Seen.{seen}
use Rattle.provenance_check.proofs.Runs.{and_false, ends_outside, every_of, not_every, whole_range}
use Rattle.provenance_check.proofs.accesses.each_allowed.Goals as goal

pub returns-then-more-ge65536-clause-is : goal.returns-then-more-ge65536-clause-is
unfolding at_each
returns-then-more-ge65536-clause-is g c =
    let e : nat_le (count c.args.s.now) 65536 ≡ false = grind (arith, nat_tests) in rw e refl

pub returns-then-not-ends_inside-clause-is : goal.returns-then-not-ends_inside-clause-is
unfolding at_each
returns-then-not-ends_inside-clause-is g c =
    let f : nat_le (c.args.s.now.hi + c.args.width) (length_of c.args.ground.now.lens.now c.args.region) ≡ false = sym c.ends_inside.ensures ∙ c.if-not-ends_inside.true in
    let h : length_of c.args.ground.now.lens.now c.args.region < c.args.s.now.hi + c.args.width = grind (arith, nat_tests) in
    sym (and_false (nat_le (count c.args.s.now) 65536) _ (ends_outside (seen c.args.ground.now) (g.R.PageRights.allows c.args.rights.now (if c.args.write then access.Store else access.Load)) c.args.region c.args.s.now c.args.width c.requires.span h))

pub returns-then-is_allowed-clause-is : goal.returns-then-is_allowed-clause-is
unfolding at_each
returns-then-is_allowed-clause-is g c =
    let e : nat_le (count c.args.s.now) 65536 ≡ true = grind (arith, nat_tests) in
    rw e (sym (whole_range (seen c.args.ground.now) (g.R.PageRights.allows c.args.rights.now (if c.args.write then access.Store else access.Load)) c.args.region c.args.s.now c.args.width c.requires.span.order (sym c.is_allowed.ensures ∙ c.if-is_allowed.true)))

pub returns-then-not-is_allowed-clause-is : goal.returns-then-not-is_allowed-clause-is
unfolding at_each
returns-then-not-is_allowed-clause-is g c =
    sym (and_false (nat_le (count c.args.s.now) 65536) _ (not_every (is_allowed (seen c.args.ground.now) (g.R.PageRights.allows c.args.rights.now (if c.args.write then access.Store else access.Load)) c.args.region c.args.width) c.args.s.now.lo c.args.s.now.by (count c.args.s.now) c.loop-k.k c.loop-k-test.true (sym c.is_allowed-in-loop-k.ensures ∙ c.if-not-is_allowed.true)))

pub returns-clause-is : goal.returns-clause-is
unfolding at_each
returns-clause-is g c =
    let e : nat_le (count c.args.s.now) 65536 ≡ true = grind (arith, nat_tests) in
    rw e (sym (every_of (is_allowed (seen c.args.ground.now) (g.R.PageRights.allows c.args.rights.now (if c.args.write then access.Store else access.Load)) c.args.region c.args.width) c.args.s.now.lo c.args.s.now.by (count c.args.s.now) (λ i h. c.loop-k.invariant i (omega (arith, h, c.loop-k-test.false)))))
