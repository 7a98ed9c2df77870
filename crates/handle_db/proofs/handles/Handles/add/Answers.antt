use Rattle.std.proofs.Common.{arith}
use Rattle.handle_db.proofs.DatabaseLemmas.{new_write}
use Rattle.handle_db.proofs.handles.Handles.add.Goals as goal

pub invariant_of-self-2 : goal.invariant_of-self-2
invariant_of-self-2 c =
    new_write c.self.inside.live.items _ _ c.self.inside.made c.args.guid c.args.interface c.new.result c.new-protocol.result c.self.invariant (let l = c.len.ensures in let t = c.if-len-ge-MOST_LIVE.false in omega (arith, l, t)) c.if-self-ge-MOST_MADE.false
    c.in_ok-reserve.ensures.items c.push_reserved.ensures.items c.new.ensures c.new-protocol.ensures
