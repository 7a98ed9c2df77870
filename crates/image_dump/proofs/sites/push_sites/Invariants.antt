use Rattle.std.proofs.Common.{◌≡◌, ◌++◌, drop}
use Rattle.image_dump.specs.Reports.{sites_text}
use Rattle.image_dump.proofs.sites.push_sites.Given as goal

abbrev pub invariant-loop-site : goal.invariant-loop-site
invariant-loop-site l = record {
  counted : l.count ≡ l.site-index;
  text : l.fn.text.items ++ sites_text l.sites ≡ l.text.items ++ sites_text (drop l.site-index l.sites);
}
