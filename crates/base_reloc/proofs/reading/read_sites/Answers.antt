use Rattle.std.proofs.Common.{◌∙◌}
use Rattle.std.proofs.lemmas.Result.{err_from_is_err_and}
use Rattle.pe_image.specs.ImageOf.{fields_of}
use Rattle.base_reloc.proofs.SiteLemmas.{sites_in_sound, nothing_in, read_in, stops_in}
use Rattle.base_reloc.proofs.reading.read_sites.Goals as goal

pub returns-then-image-eq0-clause-read : goal.returns-then-image-eq0-clause-read
returns-then-image-eq0-clause-read c = nothing_in (fields_of c.args.image.now) c.args.placed.now c.new-sites.result.items c.if-image-eq0.true c.new-sites.ensures.items

pub returns-in_err-read_blocks-clause-read : goal.returns-in_err-read_blocks-clause-read
returns-in_err-read_blocks-clause-read c =
    let p = err_from_is_err_and c.from_residual-in_err-read_blocks.result c.from_residual-in_err-read_blocks.ensures.1 in
    let long = c.as_mut_slice.ensures.len ∙ c.in_ok-marks.ensures.len in
    rw (p.1, p.2) (stops_in (fields_of c.args.image.now) c.args.placed.now _ c.new-sites.result.items _ c.new-sites.ensures.items long c.in_err-read_blocks.ensures)

pub returns-clause-read : goal.returns-clause-read
returns-clause-read c =
    let long = c.as_mut_slice.ensures.len ∙ c.in_ok-marks.ensures.len in
    read_in (fields_of c.args.image.now) c.args.placed.now _ c.new-sites.result.items _ c.new-sites.ensures.items long c.in_ok-read_blocks.ensures

pub returns-clause-sound : goal.returns-clause-sound
returns-clause-sound c =
    let long = c.as_mut_slice.ensures.len ∙ c.in_ok-marks.ensures.len in
    sites_in_sound (fields_of c.args.image.now) c.args.placed.now _ (read_in (fields_of c.args.image.now) c.args.placed.now _ c.new-sites.result.items _ c.new-sites.ensures.items long c.in_ok-read_blocks.ensures)
