use Rattle.std.proofs.Common.{◌+◌, ◌-◌, length, refl, sym, ◌∙◌, arith}
use Rattle.guest_build.proofs.TextLemmas.{outside_stops, outside_goes, outside_end}
use Rattle.guest_build.proofs.text.outside.Goals as goal

pub returns-then-stops-clause-value : goal.returns-then-stops-clause-value
returns-then-stops-clause-value c =
    let e = outside_stops c.args.wanted c.loop-i.quoted c.args.bytes.now c.loop-i.i c.loop-i-test.true (sym c.stops.ensures ∙ c.if-stops.true) in
    omega (arith, e, c.loop-i.invariant)

pub loop-i-preserved : goal.loop-i-preserved
loop-i-preserved c =
    let e = outside_goes c.args.wanted c.loop-i.quoted c.args.bytes.now c.loop-i.i (length c.args.bytes.now - (c.loop-i.i + 1)) c.is_quoted-quoted.result c.loop-i-test.true (sym c.stops.ensures ∙ c.if-stops.false) refl c.is_quoted-quoted.ensures in
    omega (arith, e, c.loop-i.invariant)

pub returns-clause-value : goal.returns-clause-value
returns-clause-value c = omega (arith, c.loop-i.invariant, outside_end c.args.wanted c.loop-i.quoted c.args.bytes.now c.loop-i.i (omega arith))
