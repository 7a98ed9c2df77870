use Rattle.std.proofs.Common.{refl}
use Rattle.pe_image.specs.ImageOf.{fields_of}
use Rattle.base_reloc.specs.Kept.{sites_in}
use Rattle.image_dump.specs.Reports.{bytes_of, header_lines, placed, sites_report}
use Rattle.image_dump.proofs.GivesLemmas.{gives_behind, stops_before}
use Rattle.image_dump.proofs.image.put_read.Goals as goal

pub returns-in-Ok : goal.returns-in-Ok
returns-in-Ok g c =
    let image = fields_of c.args.image.now in
    gives_behind (header_lines image) (sites_report (sites_in image (placed image c.args.file.now))) _ _ (bytes_of (header_lines image)) _ _ _ _ _ refl c.in-Ok.ensures.puts c.put_relocations.ensures

pub returns : goal.returns
returns g c =
    let image = fields_of c.args.image.now in
    stops_before (header_lines image) (sites_report (sites_in image (placed image c.args.file.now))) _ _ (bytes_of (header_lines image)) c.in-Err.stop _ _ refl c.in-Err.ensures.puts
