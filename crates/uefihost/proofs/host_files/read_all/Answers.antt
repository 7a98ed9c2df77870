use Rattle.std.proofs.Common.{arith}
use Rattle.uefihost.proofs.TakeLemmas.{whole}
use Rattle.uefihost.proofs.host_files.read_all.Goals as goal

pub returns-in-Ok-clause-whole : goal.returns-in-Ok-clause-whole
returns-in-Ok-clause-whole g c =
    whole g.S.Read.remaining c.take.result.inner c.args.source c.take.result.limit c.new-bytes.result.items c.read_to_end.new.buf.items c.new-bytes.ensures.items c.take.ensures.inner c.in-Ok.ensures.bytes
    (omega (arith, c.if-len-limit.false, c.len.ensures, c.take.ensures.limit, c.read_to_end.new.buf.ok.0))
