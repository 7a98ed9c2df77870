use Rattle.std.proofs.Common.{◌+◌, ◌*◌, ◌-◌, length, sym, ◌∙◌, arith}
use Rattle.std.proofs.lemmas.Result.{err_from_is_err_and}
use Rattle.base_reloc.specs.Blocks.{entry_count}
use Rattle.base_reloc.proofs.EntryLemmas.{entry_goes_on, entry_fails, no_entries}
use Rattle.base_reloc.proofs.reading.read_block.Goals as goal

pub returns-in_err-keep_entry-clause-kept : goal.returns-in_err-keep_entry-clause-kept
returns-in_err-keep_entry-clause-kept c =
    let p = err_from_is_err_and c.from_residual.result c.from_residual.ensures.1 in
    let kept = rw (c.loop-i.auto.marks, c.entry_kind.ensures, c.u16_in-word.ensures) at c.in_err-keep_entry.ensures.kept in
    rw (p.1, p.2) (entry_fails (length c.args.marks.now) c.loop-i.sites.items c.args.index c.args.block.now.page (c.args.at + 8) c.loop-i.i (entry_count c.args.block.now.size - c.loop-i.i) (entry_count c.args.block.now.size - (c.loop-i.i + 1)) c.args.table.now (omega arith) _ c.loop-i.invariant.same _ kept)

pub loop-i-preserved : goal.loop-i-preserved
loop-i-preserved c =
    let kept = rw (c.loop-i.auto.marks, c.entry_kind.ensures, c.u16_in-word.ensures) at c.in_ok-keep_entry.ensures.kept in
    record {
      same = entry_goes_on (length c.args.marks.now) c.loop-i.sites.items c.args.index c.args.block.now.page (c.args.at + 8) c.loop-i.i (entry_count c.args.block.now.size - c.loop-i.i) (entry_count c.args.block.now.size - (c.loop-i.i + 1)) c.args.table.now (omega arith) _ c.loop-i.invariant.same _ kept;
      marked = c.in_ok-keep_entry.ensures.marked;
    }

pub returns-clause-kept : goal.returns-clause-kept
returns-clause-kept c =
    sym c.loop-i.invariant.same ∙ no_entries (length c.args.marks.now) c.loop-i.sites.items (c.args.index + c.loop-i.i) c.args.block.now.page (c.args.at + 8 + 2 * c.loop-i.i) (entry_count c.args.block.now.size - c.loop-i.i) c.args.table.now (omega arith)
