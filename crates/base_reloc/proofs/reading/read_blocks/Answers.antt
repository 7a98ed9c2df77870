use Rattle.std.proofs.Common.{length, sym, arith}
use Rattle.std.proofs.lemmas.Result.{err_from_is_err_and}
use Rattle.base_reloc.proofs.BlockLemmas.{block_fails, block_last, block_goes_on, entries_fail, no_blocks}
use Rattle.base_reloc.proofs.reading.read_blocks.Goals as goal

pub returns-in_err-found : goal.returns-in_err-found
returns-in_err-found c =
    let p = err_from_is_err_and c.from_residual.result c.from_residual.ensures.1 in
    rw (p.1, p.2) (block_fails (length c.args.marks.now) c.loop-at.sites.items c.loop-at.entries c.loop-at.at c.loop-at.number c.args.table.now c.loop-at-test.true _ c.loop-at.invariant.same _ (sym c.in_err-found.ensures.read))

pub returns-in_err-read_block-in-Some : goal.returns-in_err-read_block-in-Some
returns-in_err-read_block-in-Some c =
    let p = err_from_is_err_and c.from_residual-in_err-read_block-in-Some.result c.from_residual-in_err-read_block-in-Some.ensures.1 in
    let kept = rw c.loop-at.auto.marks at c.in_err-read_block-in-Some.ensures.kept in
    let found = rw c.in-Some.is at (sym c.in_ok-found.ensures.read) in
    rw (p.1, p.2) (entries_fail (length c.args.marks.now) c.loop-at.sites.items c.loop-at.entries c.loop-at.at c.loop-at.number c.args.table.now c.loop-at-test.true _ c.loop-at.invariant.same c.in-Some.block _ found kept)

pub loop-at-preserved : goal.loop-at-preserved
loop-at-preserved c =
    let kept = rw c.loop-at.auto.marks at c.in_ok-read_block-in-Some.ensures.kept in
    let found = rw c.in-Some.is at (sym c.in_ok-found.ensures.read) in
    let sound = rw c.in-Some.is at c.in_ok-found.ensures.sound in
    record {
      same = block_goes_on (length c.args.marks.now) c.loop-at.sites.items c.loop-at.entries c.loop-at.at c.loop-at.number c.args.table.now c.loop-at-test.true _ c.loop-at.invariant.same c.in-Some.block _ found kept;
      marked = c.in_ok-read_block-in-Some.ensures.marked;
      within = sound.inside;
      few_blocks = omega (arith, sound.header);
      few_entries = omega (arith, sound.header);
    }

pub returns : goal.returns
returns c = no_blocks (length c.args.marks.now) c.loop-at.sites.items c.loop-at.entries c.loop-at.at c.loop-at.number c.args.table.now c.loop-at-test.false _ c.loop-at.invariant.same

pub returns-in-None : goal.returns-in-None
returns-in-None c = block_last (length c.args.marks.now) c.loop-at.sites.items c.loop-at.entries c.loop-at.at c.loop-at.number c.args.table.now c.loop-at-test.true _ c.loop-at.invariant.same (rw c.in-None.is at (sym c.in_ok-found.ensures.read))
