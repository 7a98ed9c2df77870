use Rattle.std.proofs.Common.{◌≡◌, ◌++◌, drop}
use Rattle.guest_memory.specs.Pages.{bytes_of}
use Rattle.address_view.specs.Windows.{see, seen_bytes}
use Rattle.provenance_tables.specs.Regions.{size_of}
use Rattle.provenance_attest.specs.Sites.{site_spans, site_targets}
use Rattle.provenance_attest.proofs.sites.spans_of.Given as goal

abbrev pub invariant-loop-site : goal.invariant-loop-site
invariant-loop-site l =
    (l.spans.items ++ site_spans (seen_bytes (see l.view) (bytes_of l.memory)) l.image.base l.size (drop l.site-index l.sites) l.rest ≡ site_spans (seen_bytes (see l.view) (bytes_of l.memory)) l.image.base (size_of l.image) l.image.sites l.image.words)
    × (l.targets.items ++ site_targets (seen_bytes (see l.view) (bytes_of l.memory)) l.image.base l.size (drop l.site-index l.sites) l.rest ≡ site_targets (seen_bytes (see l.view) (bytes_of l.memory)) l.image.base (size_of l.image) l.image.sites l.image.words)
