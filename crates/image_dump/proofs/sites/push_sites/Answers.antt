use Rattle.std.proofs.Common.{◌<◌, length, refl, arith}
use Rattle.image_dump.proofs.LineLemmas.{site_on}
use Rattle.image_dump.proofs.sites.push_sites.Goals as goal

pub loop-site-preserved : goal.loop-site-preserved
loop-site-preserved c =
    let below : c.loop-site.site-index < length c.args.sites.now = omega arith in
    record {
      counted = omega arith;
      text = site_on _ c.loop-site.text.items c.push_site.new.text.items c.args.sites.now c.loop-site.site-index c.loop-site.site-index _ refl below c.loop-site.invariant.text c.in_ok-push_site.ensures;
    }

pub returns-then-len-ge-PIECE-clause-text : goal.returns-then-len-ge-PIECE-clause-text
returns-then-len-ge-PIECE-clause-text c =
    let below : c.loop-site.site-index < length c.args.sites.now = omega arith in
    site_on _ c.loop-site.text.items c.push_site.new.text.items c.args.sites.now c.loop-site.count c.loop-site.site-index _ c.loop-site.invariant.counted below c.loop-site.invariant.text c.in_ok-push_site.ensures
