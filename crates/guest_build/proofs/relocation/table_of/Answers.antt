use Rattle.std.proofs.Common.{◌∙◌, arith}
use Rattle.guest_build.proofs.TableLemmas.{table_start, table_step, table_end}
use Rattle.guest_build.proofs.relocation.table_of.Goals as goal

pub loop-i-init : goal.loop-i-init
loop-i-init c = table_start c.new-out.result.items c.args.sites.now c.new-out.ensures.items

pub loop-i-preserved : goal.loop-i-preserved
loop-i-preserved c =
    table_step c.loop-i.out.items c.put_site.new.out.items c.loop-i.block.page c.in_ok-block.block.page c.loop-i.block.odd c.in_ok-block.block.odd c.args.sites.now c.loop-i.i _ c.loop-i-test.true c.in_ok-block.ensures c.loop-i.invariant

pub returns : goal.returns
returns c = c.in_ok-put_padding.ensures ∙ table_end c.loop-i.out.items c.loop-i.block.page c.loop-i.block.odd c.args.sites.now c.loop-i.i (omega arith) c.loop-i.invariant
