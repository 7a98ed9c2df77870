use Rattle.std.proofs.Common.{◌≡◌, ◌++◌, drop}
use Rattle.image_dump.specs.Reports.{bytes_of, section_lines}
use Rattle.image_dump.proofs.headers.push_sections.Given as goal

abbrev pub invariant-loop-section : goal.invariant-loop-section
invariant-loop-section l = record {
  counted : l.number ≡ l.section-index;
  text : l.fn.text.items ++ bytes_of (section_lines 0 l.sections) ≡ l.text.items ++ bytes_of (section_lines l.number (drop l.section-index l.sections));
}
