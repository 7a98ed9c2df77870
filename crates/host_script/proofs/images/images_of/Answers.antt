use Rattle.std.proofs.Common.{sym, ◌∙◌, arith}
use Rattle.std.proofs.lemmas.Result.{err_from_is_err_and}
use Rattle.host_script.proofs.Loops.{images_of-goes_on, images_of-fails, images_of-end}
use Rattle.host_script.proofs.images.images_of.Goals as goal

pub returns-in_err-image : goal.returns-in_err-image
returns-in_err-image c =
    let p = err_from_is_err_and c.from_residual.result c.from_residual.ensures.1 in
    rw (p.1, p.2) (images_of-fails c.loop-value.images.items c.args.values.now c.loop-value.value-index c.value-item.result _ c.loop-value-test.true c.value-item.is c.loop-value.invariant c.in_err-image.field-0.0 (rw c.as_slice.ensures.value at c.in_err-image.ensures))

pub loop-value-preserved : goal.loop-value-preserved
loop-value-preserved c =
    rw c.in_ok-push.ensures.items (images_of-goes_on c.loop-value.images.items c.args.values.now c.loop-value.value-index c.value-item.result _ c.loop-value-test.true c.value-item.is c.loop-value.invariant c.in_ok-image.image (rw c.as_slice.ensures.value at c.in_ok-image.ensures))

pub returns : goal.returns
returns c = sym c.loop-value.invariant ∙ images_of-end c.loop-value.images.items c.args.values.now c.loop-value.value-index (omega arith)
