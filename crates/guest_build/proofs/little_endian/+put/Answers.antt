use Rattle.guest_build.proofs.LowLemmas.{low_put}
use Rattle.guest_build.proofs.little_endian.+put.Goals as goal

pub returns-in_ok-put : goal.returns-in_ok-put
returns-in_ok-put t c = low_put c.args.out.now.items c.push.new.self.items c.put.new.out.items c.args.width c.args.value c.if-width-gt0.true c.in_ok-push.ensures.items c.in_ok-put.ensures
