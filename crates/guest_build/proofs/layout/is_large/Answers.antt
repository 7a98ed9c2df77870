use Rattle.guest_build.specs.Views.{sections_of}
use Rattle.guest_build.proofs.MeasureLemmas.{large_is}
use Rattle.guest_build.proofs.layout.is_large.Goals as goal

pub returns-clause-value : goal.returns-clause-value
returns-clause-value c =
    let run = rw (c.text_from.ensures, c.data_from.ensures, c.as_slice.ensures.value, c.as_slice-2.ensures.value) at c.over-next.ensures.run in
    rw c.size_with.ensures (large_is (sections_of c.args.all.now) c.over-next.result.run c.table_len.result run c.table_len.ensures)
