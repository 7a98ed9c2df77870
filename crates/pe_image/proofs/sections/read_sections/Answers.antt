use Rattle.std.proofs.Common.{◌+◌, ◌-◌, length, sym, arith}
use Rattle.std.proofs.lemmas.Result.{err_from_is_err_and}
use Rattle.pe_image.proofs.SectionLemmas.{section_goes_on, section_fails, sections_push}
use Rattle.pe_image.proofs.sections.read_sections.Goals as goal

pub returns-in_err-before : goal.returns-in_err-before
returns-in_err-before c =
    let p = err_from_is_err_and c.from_residual.result c.from_residual.ensures.1 in
    rw (p.1, p.2) (section_fails c.args.bytes.now c.args.at c.loop-i.i (c.args.count - c.loop-i.i) (c.args.count - (c.loop-i.i + 1)) (length c.args.bytes.now) c.args.optional.now.alignment c.args.optional.now.size c.loop-i.before (omega arith) c.section_at-section.result c.section_at-section.ensures _ _ c.loop-i.invariant.same _ (sym c.in_err-before.ensures))

pub loop-i-preserved : goal.loop-i-preserved
loop-i-preserved c = record {
  same = section_goes_on c.args.bytes.now c.args.at c.loop-i.i (c.args.count - c.loop-i.i) (c.args.count - (c.loop-i.i + 1)) (length c.args.bytes.now) c.args.optional.now.alignment c.args.optional.now.size c.loop-i.before (omega arith) c.section_at-section.result c.section_at-section.ensures _ _ c.loop-i.invariant.same _ (sym c.in_ok-before.ensures);
  pushed = rw c.in_ok-push.ensures.items (sections_push c.args.bytes.now c.args.at c.loop-i.i (c.args.count - c.loop-i.i) (c.args.count - (c.loop-i.i + 1)) c.section_at-section.result c.loop-i.sections.items _ (omega arith) c.section_at-section.ensures c.loop-i.invariant.pushed);
}
