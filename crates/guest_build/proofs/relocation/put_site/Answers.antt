use Rattle.std.proofs.Common.{sym, ◌∙◌}
use Rattle.guest_build.proofs.TableLemmas.{put_on, put_off}
use Rattle.guest_build.proofs.relocation.put_site.Goals as goal

pub returns-then-is_on : goal.returns-then-is_on
returns-then-is_on c = put_on c.args.out.now.items c.put_entry.new.out.items c.args.block.page c.args.block.odd c.args.site c.args.others.now (sym c.is_on.ensures ∙ c.if-is_on.true) c.in_ok-put_entry.ensures

pub returns : goal.returns
returns c =
    put_off c.args.out.now.items c.put_padding.new.out.items c.put_header.new.out.items c.put_entry-2.new.out.items c.args.block.page c.args.block.odd c.args.site c.args.others.now c.on_page.result (sym c.is_on.ensures ∙ c.if-is_on.false)
    c.in_ok-put_padding.ensures c.in_ok-put_header.ensures c.in_ok-put_entry-2.ensures c.on_page.ensures.value
