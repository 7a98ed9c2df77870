use Rattle.std.proofs.Common.{◌<◌, length, arith}
use Rattle.image_dump.proofs.LineLemmas.{section_on, sections_end}
use Rattle.image_dump.proofs.headers.push_sections.Goals as goal

pub loop-section-preserved : goal.loop-section-preserved
loop-section-preserved c =
    let below : c.loop-section.section-index < length c.args.sections.now = omega arith in
    record {
      counted = omega arith;
      text = section_on _ c.loop-section.text.items c.push_section.new.text.items c.loop-section.number c.args.sections.now c.loop-section.section-index _ below c.loop-section.invariant.text c.in_ok-push_section.ensures;
    }

pub returns : goal.returns
returns c = sections_end _ c.loop-section.text.items c.loop-section.number c.args.sections.now c.loop-section.section-index c.loop-section-test.false c.loop-section.invariant.text
