use Rattle.std.proofs.Common.{sym}
use Rattle.image_dump.specs.Reports.{image_report}
use Rattle.host_engine.specs.Commands.{code_file}
use Rattle.host_engine.proofs.DumpLemmas.{dump_whole, dump_stops}
use Rattle.host_engine.proofs.dump.image.Goals as goal

pub returns-in-Ok-put_image : goal.returns-in-Ok-put_image
returns-in-Ok-put_image g c =
    dump_whole _ (code_file c.args.name.now) image_report c.in-Ok.file.items c.in-Ok.ensures.had _ _ _ _ _ _ _ _ _ c.in-Ok-put_image.is_refused (rw (sym c.as_slice.ensures.value) c.in-Ok-put_image.ensures)

pub returns : goal.returns
returns g c =
    rw c.stop_refusal.ensures (dump_stops _ (code_file c.args.name.now) image_report c.in-Ok.file.items c.in-Ok.ensures.had _ _ _ _ _ _ _ _ _ c.in-Err-put_image.stop (rw (sym c.as_slice.ensures.value) c.in-Err-put_image.ensures))
