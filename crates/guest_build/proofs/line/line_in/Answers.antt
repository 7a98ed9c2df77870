use Rattle.std.proofs.Common.{◌<◌, arith}
use Rattle.std.specs.Prelude.{slice_index}
use Rattle.std.proofs.lemmas.Str.{IsCharBoundary-after_ascii}
use Rattle.guest_build.proofs.line.line_in.Goals as goal

pub split_at-requires-then-at-text : goal.split_at-requires-then-at-text
split_at-requires-then-at-text c =
    let is = rw c.as_bytes.ensures.value at (c.outside-at.ensures.before) in
    let small : slice_index c.args.text.now c.outside-at.result < 128 = omega (arith, is c.if-at-text.true) in
    IsCharBoundary-after_ascii c.args.text.now c.outside-at.result c.utf8.text c.if-at-text.true small
