use Rattle.std.proofs.Common.{ap, ◌∙◌, List, ℕ}
use Rattle.pe_image.specs.ImageOf.{fields_of}
use Rattle.image_dump.specs.Listings.{all_listed}
use Rattle.image_dump.specs.Reports.{bytes_of, end_report, placed}
use Rattle.image_dump.proofs.GivesLemmas.{gives_behind}
use Rattle.image_dump.proofs.listing.put_read.Goals as goal

pub returns-in-Ok-put_sections : goal.returns-in-Ok-put_sections
returns-in-Ok-put_sections g c =
    let sections = c.args.image.now.sections.items in
    gives_behind (all_listed (placed (fields_of c.args.image.now) c.args.file.now) 0 sections) end_report _ _ (bytes_of (all_listed c.as_slice.result.now 0 sections)) _ _ _ _ _
    (ap (λ (p : List ℕ). bytes_of (all_listed p 0 sections)) (c.as_slice.ensures.value ∙ c.in-Ok.ensures.bytes)) c.in-Ok-put_sections.ensures.puts c.put_end.ensures
