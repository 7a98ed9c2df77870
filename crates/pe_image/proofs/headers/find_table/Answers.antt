use Rattle.std.proofs.Common.{◌+◌, ◌*◌, ◌-◌, sym, ◌∙◌, arith}
use Rattle.std.proofs.lemmas.Result.{err_from_is_err_and}
use Rattle.pe_image.proofs.CheckLemmas.{table_goes_on, table_fails, table_ends}
use Rattle.pe_image.proofs.headers.find_table.Goals as goal

pub returns-in_err-find_section_header-clause-found : goal.returns-in_err-find_section_header-clause-found
returns-in_err-find_section_header-clause-found c =
    let p = err_from_is_err_and c.from_residual.result c.from_residual.ensures.1 in
    rw (p.1, p.2) (sym (table_fails c.args.bytes.now c.args.at c.loop-i.i (c.args.count - c.loop-i.i) (c.args.count - (c.loop-i.i + 1)) (omega arith) _ _ c.loop-i.invariant.same _ _ (sym c.in_err-find_section_header.ensures.found)))

pub loop-i-preserved : goal.loop-i-preserved
loop-i-preserved c = record {
  same = table_goes_on c.args.bytes.now c.args.at c.loop-i.i (c.args.count - c.loop-i.i) (c.args.count - (c.loop-i.i + 1)) (omega arith) _ _ c.loop-i.invariant.same _ _ (sym c.in_ok-find_section_header.ensures.found);
  inside = λ some. omega (arith, c.in_ok-find_section_header.ensures.inside);
}

pub returns-clause-found : goal.returns-clause-found
returns-clause-found c = sym (table_ends c.args.bytes.now (c.args.at + 40 * c.loop-i.i) (c.args.count - c.loop-i.i) _ (omega arith)) ∙ c.loop-i.invariant.same
