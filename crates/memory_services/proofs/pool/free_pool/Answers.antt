use Rattle.std.proofs.Common.{sym, subst}
use Rattle.std.specs.Prelude.{Option}
use Rattle.pool_alloc.specs.declared.span.PageSpan.{PageSpan}
use Rattle.pool_alloc.specs.Calls.{InRam}
use Rattle.memory_services.proofs.BlockLemmas.{span_lies, freed_bytes}
use Rattle.memory_services.proofs.pool.free_pool.Goals as goal

pub zero_block-requires-clause-pages : goal.zero_block-requires-clause-pages
zero_block-requires-clause-pages c =
    let inside : InRam c.pages_freed-span.result c.args.pages.now = subst (λ (s : Option PageSpan). InRam s c.args.pages.now) (sym c.pages_freed-span.ensures) c.in-Ok.ensures.inside in
    span_lies c.pages_freed-span.result c.args.pages.now c.free.new.map c.free.ensures.base c.free.ensures.length inside

pub zero_block-requires-clause-bytes : goal.zero_block-requires-clause-bytes
zero_block-requires-clause-bytes c =
    freed_bytes c.pages_freed-span.result c.args.pool.now c.args.pages.now c.free.new.map c.argument-at.result c.whole.ensures c.whole-2.ensures c.requires.together c.free.ensures.base c.free.ensures.length _ c.in-Ok.ensures.gives
