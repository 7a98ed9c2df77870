use Rattle.std.proofs.Common.{◌+◌, ◌<◌, length, drop, arith}
use Rattle.image_dump.specs.Listings.{all_listed}
use Rattle.image_dump.specs.Reports.{bytes_of}
use Rattle.image_dump.proofs.PutLemmas.{goes_on, stops, ends}
use Rattle.image_dump.proofs.ListingLemmas.{next_listed, all_done}
use Rattle.image_dump.proofs.listing.put_sections.Goals as goal

pub loop-section-preserved : goal.loop-section-preserved
loop-section-preserved g c =
    let below : c.loop-section.section-index < length c.args.image.now.sections.items = omega arith in
    record {
      counted = omega arith;
      empty = c.in-Ok.ensures.empty;
      toward = goes_on _ _ _ _ _ _ c.loop-section.invariant.toward c.in-Ok.field-0 _ (bytes_of (all_listed c.args.placed.now (c.loop-section.number + 1) (drop (c.loop-section.section-index + 1) c.args.image.now.sections.items))) _ _
          (next_listed c.args.placed.now c.loop-section.number c.args.image.now.sections.items c.deref-section-items.result.now c.loop-section.section-index _ c.deref-section-items.ensures.value below) c.in-Ok.ensures.puts;
    }

pub returns-in-Err-clause-puts : goal.returns-in-Err-clause-puts
returns-in-Err-clause-puts g c =
    let below : c.loop-section.section-index < length c.args.image.now.sections.items = omega arith in
    stops _ _ _ _ _ _ c.loop-section.invariant.toward c.in-Err.stop _ (bytes_of (all_listed c.args.placed.now (c.loop-section.number + 1) (drop (c.loop-section.section-index + 1) c.args.image.now.sections.items))) _ _
    (next_listed c.args.placed.now c.loop-section.number c.args.image.now.sections.items c.deref-section-items.result.now c.loop-section.section-index _ c.deref-section-items.ensures.value below) c.in-Err.ensures.puts

pub returns-clause-puts : goal.returns-clause-puts
returns-clause-puts g c =
    ends _ _ _ _ _ _ c.loop-section.invariant.toward _ (all_done c.args.placed.now c.loop-section.number c.args.image.now.sections.items c.loop-section.section-index (omega arith))
