use Rattle.std.proofs.Common.{sym, subst, ◌∙◌}
use Rattle.std.specs.Prelude.{Option}
use Rattle.pool_alloc.specs.declared.span.PageSpan.{PageSpan}
use Rattle.pool_alloc.specs.Calls.{InRam}
use Rattle.image_services.proofs.BlockLemmas.{freed_block}
use Rattle.image_services.proofs.unload.free_block.Goals as goal

pub clear_block-requires-clause-inside : goal.clear_block-requires-clause-inside
clear_block-requires-clause-inside c =
    let ram = c.requires.ram in
    let inside : InRam c.pages_freed-span.result c.args.pages.now = subst (λ (s : Option PageSpan). InRam s c.args.pages.now) (sym c.pages_freed-span.ensures) c.in-Ok.ensures.inside in
    freed_block c.pages_freed-span.result c.args.pool.now c.args.pages.now c.args.memory.now c.args.at c.whole.ensures c.whole-2.ensures c.requires.together inside (ram.map_base ∙ sym ram.base) (ram.map_count ∙ sym ram.count) _ c.in-Ok.ensures.gives
