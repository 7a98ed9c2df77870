use Rattle.std.proofs.Common.{◌<◌, ◌+◌, ◌-◌, ◌/◌, length, sym, ◌∙◌, arith}
use Rattle.std.proofs.lemmas.Option.{slice_get-get_or}
use Rattle.prov_layout.proofs.Halves.{found_at, behind_lack, before_lack, all_lack}
use Rattle.prov_layout.proofs.find.piece_at.Goals as goal

pub returns-then-has_byte-clause-is : goal.returns-then-has_byte-clause-is
returns-then-has_byte-clause-is c =
    let l = c.loop-low in
    let m = l.low + (l.high - l.low) / 2 in
    let inside : m < length c.args.pieces.now = omega (arith, l.invariant.2, c.loop-low-test.true) in
    sym (found_at c.args.pieces.now m _ c.args.region c.args.o c.requires (slice_get-get_or c.args.pieces.now m _ inside) (sym c.has_byte.ensures ∙ c.if-has_byte.true))

pub loop-low-preserved-then-begins_behind : goal.loop-low-preserved-then-begins_behind
loop-low-preserved-then-begins_behind c =
    let l = c.loop-low in
    let m = l.low + (l.high - l.low) / 2 in
    let inside : m < length c.args.pieces.now = omega (arith, l.invariant.2, c.loop-low-test.true) in
    (l.invariant.0, behind_lack c.args.pieces.now m _ c.args.region c.args.o c.requires (slice_get-get_or c.args.pieces.now m _ inside) (sym c.has_byte.ensures ∙ c.if-has_byte.false) (sym c.begins_behind.ensures ∙ c.if-begins_behind.true), omega (arith, inside))

pub loop-low-preserved : goal.loop-low-preserved
loop-low-preserved c =
    let l = c.loop-low in
    let m = l.low + (l.high - l.low) / 2 in
    let inside : m < length c.args.pieces.now = omega (arith, l.invariant.2, c.loop-low-test.true) in
    (before_lack c.args.pieces.now m _ c.args.region c.args.o c.requires (slice_get-get_or c.args.pieces.now m _ inside) (sym c.has_byte.ensures ∙ c.if-has_byte.false) (sym c.begins_behind.ensures ∙ c.if-begins_behind.false), l.invariant.1, l.invariant.2)

pub returns-clause-is : goal.returns-clause-is
returns-clause-is c = sym (all_lack c.args.pieces.now c.args.region c.args.o c.loop-low.low c.loop-low.high c.loop-low.invariant.0 c.loop-low.invariant.1 (omega (arith, c.loop-low-test.false)))

pub returns-then-has_byte-clause-listed : goal.returns-then-has_byte-clause-listed
returns-then-has_byte-clause-listed c =
    let l = c.loop-low in
    let m = l.low + (l.high - l.low) / 2 in
    let inside : m < length c.args.pieces.now = omega (arith, l.invariant.2, c.loop-low-test.true) in
    (m, slice_get-get_or c.args.pieces.now m _ inside)
