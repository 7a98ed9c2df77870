use Rattle.std.proofs.Common.{sym, ◌∙◌, arith}
use Rattle.std.proofs.lemmas.Result.{err_from_is_err_and}
use Rattle.host_script.proofs.Loops.{forms_of-goes_on, forms_of-fails, forms_of-end}
use Rattle.host_script.proofs.lists.forms_of.Goals as goal

pub returns-in_err-x : goal.returns-in_err-x
returns-in_err-x g c =
    let p = err_from_is_err_and c.from_residual.result c.from_residual.ensures.1 in
    rw (p.1, p.2) (forms_of-fails g.T.Form.form c.loop-value.read.items c.args.values.now c.loop-value.value-index c.value-item.result _ c.loop-value-test.true c.value-item.is c.loop-value.invariant c.in_err-x.field-0.0 c.in_err-x.ensures)

pub loop-value-preserved : goal.loop-value-preserved
loop-value-preserved g c =
    rw c.in_ok-push.ensures.items (forms_of-goes_on g.T.Form.form c.loop-value.read.items c.args.values.now c.loop-value.value-index c.value-item.result _ c.loop-value-test.true c.value-item.is c.loop-value.invariant c.in_ok-x.x c.in_ok-x.ensures)

pub returns : goal.returns
returns g c = sym c.loop-value.invariant ∙ forms_of-end g.T.Form.form c.loop-value.read.items c.args.values.now c.loop-value.value-index (omega arith)
