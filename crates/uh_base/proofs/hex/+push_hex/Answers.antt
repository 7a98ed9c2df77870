use Rattle.std.proofs.Common.{arith}
use Rattle.uh_base.proofs.HexLemmas.{hex_more}
use Rattle.uh_base.proofs.hex.+push_hex.Goals as goal

pub returns-in_ok-push : goal.returns-in_ok-push
returns-in_ok-push t c =
    let more = hex_more c.args.text.now.items c.args.count c.args.n (omega arith) in
    let pushed = c.in_ok-push.ensures.items in
    let front = c.in_ok-push_hex.ensures in
    let last = c.digit.ensures in
    cc
