use Rattle.std.proofs.Common.{length, ap, arith}
use Rattle.std.proofs.lemmas.List.{length-map}
use Rattle.guest_build.specs.Assembled.{assembled}
use Rattle.guest_build.proofs.LineLemmas.{lines-count}
use Rattle.guest_build.proofs.assembly.assemble.Goals as goal

pub image_in-requires : goal.image_in-requires
image_in-requires c =
    let same = ap length c.in-Ok.ensures in
    let few = lines-count c.args.text.now in
    let mapped = length-map c.in-Ok.lines.items (λ line. line.now) in
    rw c.as_slice.ensures.value (omega (arith, same, few, mapped))

pub returns-in-Ok : goal.returns-in-Ok
unfolding assembled
returns-in-Ok c = rw (c.as_slice.ensures.value, c.in-Ok.ensures) at c.image_in.ensures
