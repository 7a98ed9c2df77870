use Rattle.std.proofs.Common.{sym}
use Rattle.std.proofs.lemmas.Result.{err_from_is_err_and}
use Rattle.pe_image.specs.ImageOf.{field_checks, value_checks, image_at, image_of}
use Rattle.pe_image.proofs.CheckLemmas.{failed}
use Rattle.pe_image.proofs.SectionLemmas.{stops}
use Rattle.pe_image.proofs.ImageLemmas.{headers_fail, sections_fail, ends_fail, image_read}
use Rattle.pe_image.proofs.SoundLemmas.{is_image}
use Rattle.pe_image.proofs.reading.read_image.Goals as goal

pub returns-in_err-headers-clause-read : goal.returns-in_err-headers-clause-read
unfolding image_of
returns-in_err-headers-clause-read c =
    let p = err_from_is_err_and c.from_residual.result c.from_residual.ensures.1 in
    rw (p.1, p.2) (stops _ _ (failed (field_checks c.args.bytes.now) (value_checks c.args.bytes.now (image_at c.args.bytes.now)) (image_at c.args.bytes.now) _ _ (sym c.in_err-headers.ensures.read)))

pub returns-in_err-check_headers-clause-read : goal.returns-in_err-check_headers-clause-read
returns-in_err-check_headers-clause-read c =
    let p = err_from_is_err_and c.from_residual-in_err-check_headers.result c.from_residual-in_err-check_headers.ensures.1 in
    rw (p.1, p.2) (headers_fail c.args.bytes.now _ (sym c.in_ok-headers.ensures.read) _ _ (sym c.in_err-check_headers.ensures.judged))

pub returns-in_err-sections-clause-read : goal.returns-in_err-sections-clause-read
returns-in_err-sections-clause-read c =
    let p = err_from_is_err_and c.from_residual-in_err-sections.result c.from_residual-in_err-sections.ensures.1 in
    rw (p.1, p.2) (sections_fail c.args.bytes.now _ (sym c.in_ok-headers.ensures.read) _ _ (sym c.in_ok-check_headers.ensures.judged) _ c.in_err-sections.ensures)

pub returns-in_err-check_ends-clause-read : goal.returns-in_err-check_ends-clause-read
returns-in_err-check_ends-clause-read c =
    let p = err_from_is_err_and c.from_residual-in_err-check_ends.result c.from_residual-in_err-check_ends.ensures.1 in
    rw (p.1, p.2) (ends_fail c.args.bytes.now _ (sym c.in_ok-headers.ensures.read) _ _ (sym c.in_ok-check_headers.ensures.judged) _ c.in_ok-sections.ensures _ _ (sym c.in_err-check_ends.ensures))

pub returns-clause-read : goal.returns-clause-read
returns-clause-read c = image_read c.args.bytes.now _ (sym c.in_ok-headers.ensures.read) _ _ (sym c.in_ok-check_headers.ensures.judged) _ c.in_ok-sections.ensures _ _ (sym c.in_ok-check_ends.ensures)

pub returns-clause-sound : goal.returns-clause-sound
returns-clause-sound c = is_image c.args.bytes.now _ (image_read c.args.bytes.now _ (sym c.in_ok-headers.ensures.read) _ _ (sym c.in_ok-check_headers.ensures.judged) _ c.in_ok-sections.ensures _ _ (sym c.in_ok-check_ends.ensures))
