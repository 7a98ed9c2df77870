use Rattle.std.proofs.Common.{◌≡◌, ◌∙◌, arith, ap, length}
use Rattle.guest_memory.specs.Pages.{bytes_of}
use Rattle.address_view.specs.Windows.{see, seen_bytes}
use Rattle.provenance_tables.specs.Regions.{size_of}
use Rattle.provenance_attest.specs.Sites.{site_spans}
use Rattle.provenance_attest.proofs.Walks.{spans_few}
use Rattle.provenance_attest.proofs.sites.sites_laid.Goals as goal

pub lay-requires : goal.lay-requires
lay-requires c =
    let few = spans_few (seen_bytes (see c.args.view.now) (bytes_of c.args.memory.now)) c.args.image.now.base (size_of c.args.image.now) c.args.image.now.sites c.args.image.now.words in
    let long : length c.as_slice-2.result.now ≡ length (site_spans (seen_bytes (see c.args.view.now) (bytes_of c.args.memory.now)) c.args.image.now.base (size_of c.args.image.now) c.args.image.now.sites c.args.image.now.words) =
    ap length (c.as_slice-2.ensures.value ∙ c.in_ok-s.ensures.spans) in
    omega (arith, few, long, c.requires)
