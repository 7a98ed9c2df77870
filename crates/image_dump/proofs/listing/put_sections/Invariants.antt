use Rattle.std.proofs.Common.{◌≡◌, [], drop}
use Rattle.image_dump.specs.Listings.{all_listed}
use Rattle.image_dump.specs.Reports.{bytes_of}
use Rattle.image_dump.proofs.PutLemmas.{Toward}
use Rattle.image_dump.proofs.listing.put_sections.Given as goal

abbrev pub invariant-loop-section : goal.invariant-loop-section
invariant-loop-section g l = record {
  counted : l.number ≡ l.section-index;
  empty : l.text.items ≡ [];
  toward : Toward (bytes_of (all_listed l.placed 0 l.image.sections.items)) (bytes_of (all_listed l.placed l.number (drop l.section-index l.image.sections.items))) (g.O.Sink.written l.fn.out) (g.O.Sink.faults l.fn.out) (g.O.Sink.written l.out) (g.O.Sink.faults l.out);
}
