use Rattle.std.proofs.Common.{◌<◌, ◌^◌, Bool, not, ap, arith}
use Rattle.std.proofs.lemmas.List.Elements.{All-more}
use Rattle.base_reloc.specs.declared.site.Site.{Site}
use Rattle.base_reloc.proofs.MoveLemmas.{number_below, leaving_next}
use Rattle.base_reloc.proofs.moving.find_leaving.Goals as goal

pub overflow_cast-result : goal.overflow_cast-result
overflow_cast-result c =
    let below = All-more (λ (site : Site). site.at < 2 ^ 32) c.args.sites.now c.loop-i.i _ c.loop-i-test.true c.loop-i.invariant.below c.moved.ensures.at in
    let few : c.loop-i.i < 2 ^ 32 = number_below (2 ^ 32) c.loop-i.i c.args.sites.now c.requires.apart c.loop-i-test.true below in
    omega arith

pub loop-i-preserved : goal.loop-i-preserved
loop-i-preserved c = record {
  same = leaving_next c.args.bytes.now c.args.displacement c.loop-i.i c.args.sites.now _ c.moved.result _ c.loop-i-test.true c.loop-i.invariant.same c.moved.ensures.word (ap (λ (some : Bool). not some) c.if-is_none.ensures);
  below = All-more (λ (site : Site). site.at < 2 ^ 32) c.args.sites.now c.loop-i.i _ c.loop-i-test.true c.loop-i.invariant.below c.moved.ensures.at;
}
