use Rattle.std.proofs.Common.{◌≡◌, true, refl}
use Rattle.record_text.specs.declared.image_line.ImageLine.TheVariants as lines
use Rattle.image_dump.specs.Code.{listing}
use Rattle.image_dump.specs.Listings.{code_of}
use Rattle.image_dump.specs.Reports.{line_bytes, is_executed}
use Rattle.image_dump.proofs.GivesLemmas.{puts_both, puts_first}
use Rattle.image_dump.proofs.ListingLemmas.{listed_code}
use Rattle.image_dump.proofs.listing.put_section.Goals as goal

pub returns-in-Ok-clause-puts : goal.returns-in-Ok-clause-puts
returns-in-Ok-clause-puts g c =
    let yes : is_executed c.args.section.now ≡ true = cc in
    puts_both _ (line_bytes (lines.Listed c.args.number)) (listing c.args.section.now.at c.code_of.result.now) _ _ _ _ _ _ c.put_code.result
    (listed_code c.args.placed.now c.args.number c.args.section.now c.code_of.result.now yes c.code_of.ensures) c.in-Ok.ensures.puts c.put_code.ensures.puts

pub returns-clause-puts : goal.returns-clause-puts
returns-clause-puts g c =
    let yes : is_executed c.args.section.now ≡ true = cc in
    let code = code_of c.args.placed.now c.args.section.now in
    puts_first _ (line_bytes (lines.Listed c.args.number)) (listing c.args.section.now.at code) _ _ _ _ c.in-Err.stop
    (listed_code c.args.placed.now c.args.number c.args.section.now code yes refl) c.in-Err.ensures.puts
