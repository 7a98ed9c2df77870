use Rattle.std.proofs.Common.{◌≡◌, drop}
use Rattle.image_services.specs.Placing.{with_section_rights}
use Rattle.image_services.proofs.rights.set_sections_rights.Given as goal

abbrev pub invariant-loop-section : goal.invariant-loop-section
invariant-loop-section l = record {
  same : with_section_rights l.memory l.first (drop l.section-index l.sections) ≡ with_section_rights l.fn.memory l.first l.sections;
  base : l.memory.base ≡ l.fn.memory.base;
  pages : l.memory.pages ≡ l.fn.memory.pages;
  touched : l.memory.touched ≡ l.fn.memory.touched;
}
