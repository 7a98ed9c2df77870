use Rattle.std.proofs.Common.{refl, arith}
use Rattle.base_reloc.proofs.MoveLemmas.{over_all, over_turn, kept_turn, apart_turn, separate}
use Rattle.base_reloc.proofs.moving.move_sites.Goals as goal

pub loop-site-init : goal.loop-site-init
loop-site-init c = record {
  over = λ at h. over_all c.args.bytes.now c.args.displacement at c.args.sites.now c.requires.apart;
  kept = λ at h some. refl;
  apart = separate c.args.sites.now c.requires.apart;
}

pub loop-site-preserved : goal.loop-site-preserved
loop-site-preserved c =
    let below = c.loop-site-test.true in
    record {
      over = λ at h. over_turn c.args.bytes.now c.loop-site.bytes c.move_site.new.bytes c.args.displacement c.loop-site.site-index c.args.sites.now _ below (rw c.loop-site.auto.bytes (c.requires.inside c.loop-site.site-index _ below)) c.move_site.auto.bytes c.loop-site.invariant.kept c.move_site.ensures at _ h (c.loop-site.invariant.over at (omega (arith, c.move_site.auto.bytes)));
      kept = λ at h some. kept_turn c.args.bytes.now c.loop-site.bytes c.move_site.new.bytes c.args.displacement c.loop-site.site-index c.args.sites.now _ below (rw c.loop-site.auto.bytes (c.requires.inside c.loop-site.site-index _ below)) c.move_site.auto.bytes c.loop-site.invariant.kept c.move_site.ensures c.loop-site.invariant.apart at h some;
      apart = apart_turn c.args.bytes.now c.loop-site.bytes c.move_site.new.bytes c.args.displacement c.loop-site.site-index c.args.sites.now _ below (rw c.loop-site.auto.bytes (c.requires.inside c.loop-site.site-index _ below)) c.move_site.auto.bytes c.loop-site.invariant.kept c.move_site.ensures c.loop-site.invariant.apart;
    }
