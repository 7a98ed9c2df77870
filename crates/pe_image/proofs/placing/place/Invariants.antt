use Rattle.std.proofs.Common.{◌≡◌, ℕ, ◌<◌, length, get_or, drop}
use Rattle.pe_image.specs.ImageOf.{fields_of}
use Rattle.pe_image.specs.Placed.{placed_byte}
use Rattle.pe_image.proofs.PlaceLemmas.{overlaid}
use Rattle.pe_image.proofs.placing.place.Given as goal

-- each byte is right once the sections that are left are copied
abbrev pub invariant-loop-section : goal.invariant-loop-section
invariant-loop-section l = (at : ℕ) → at < length l.to → overlaid l.file (drop l.section-index l.image.sections.items) at (get_or l.to at 0) ≡ placed_byte (fields_of l.image) l.file at
