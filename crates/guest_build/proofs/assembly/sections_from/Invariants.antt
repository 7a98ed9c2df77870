use Rattle.std.proofs.Common.{◌≡◌, ◌+◌, map, drop}
use Rattle.guest_build.specs.Layout.{no_sections}
use Rattle.guest_build.specs.Assembled.{sections_from}
use Rattle.guest_build.specs.Measures.{IsMeasure}
use Rattle.guest_build.specs.Views.{places_in, sections_of}
use Rattle.guest_build.proofs.assembly.sections_from.Given as goal

abbrev pub invariant-loop-i : goal.invariant-loop-i
invariant-loop-i l = record {
  same : sections_from l.origins (places_in l.labels) (l.i + 1) (sections_of l.all) (map (λ line. line.now) (drop l.i l.lines)) ≡ sections_from l.origins (places_in l.labels) 1 no_sections (map (λ line. line.now) l.lines);
  measure : IsMeasure l.measure l.all.in_text.sites.items l.all.in_data.sites.items;
}
