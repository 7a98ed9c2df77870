use Rattle.std.proofs.Common.{refl, arith}
use Rattle.handle_db.proofs.AllLemmas.{new_full, full_live, full_made, new_written, new_refused}
use Rattle.handle_db.proofs.handles.Handles.add_all.Goals as goal
use Rattle.handle_db.proofs.handles.Handles.add_all.Goals.{then-len-ge-MOST_LIVE-via-then-len-ge-MOST_LIVE, then-len-ge-MOST_LIVE-via-else-len-ge-MOST_LIVE+then-self-ge-MOST_MADE}

pub returns-then-len-ge-MOST_LIVE : goal.returns-then-len-ge-MOST_LIVE
returns-then-len-ge-MOST_LIVE c =
    elim c.then-len-ge-MOST_LIVE.branch [
      | then-len-ge-MOST_LIVE-via-then-len-ge-MOST_LIVE w ↦ (new_full c.args.self.now c.args.pairs.now (full_live c.args.self.now c.self.inside.live.items c.self.inside.made c.len.result c.self.view_is (let was = c.self.inside.live.ok.0 in let l = c.len.ensures in omega (arith, l, was)) w.if-len-ge-MOST_LIVE.true) c.requires, refl)
      | then-len-ge-MOST_LIVE-via-else-len-ge-MOST_LIVE+then-self-ge-MOST_MADE w ↦ (new_full c.args.self.now c.args.pairs.now (full_made c.args.self.now c.self.inside.live.items c.self.inside.made c.self.view_is w.if-self-ge-MOST_MADE.true) c.requires, refl)
    ]

pub invariant_of-self-in-Ok : goal.invariant_of-self-in-Ok
invariant_of-self-in-Ok c =
    (new_written c.args.self.now c.args.pairs.now c.self.inside.live.items _ _ c.self.inside.made c.empty-live.result c.add_all.new.self c.self.view_is c.self.invariant (let l = c.len.ensures in let t = c.if-len-ge-MOST_LIVE.false in omega (arith, l, t)) c.if-self-ge-MOST_MADE.false c.requires
    c.in_ok-reserve.ensures.items c.push_reserved.ensures.items c.empty-live.ensures c.add_all.ensures.number c.in-Ok.ensures.gives).1

pub returns-in-Ok : goal.returns-in-Ok
returns-in-Ok c =
    (new_written c.args.self.now c.args.pairs.now c.self.inside.live.items _ _ c.self.inside.made c.empty-live.result c.add_all.new.self c.self.view_is c.self.invariant (let l = c.len.ensures in let t = c.if-len-ge-MOST_LIVE.false in omega (arith, l, t)) c.if-self-ge-MOST_MADE.false c.requires
    c.in_ok-reserve.ensures.items c.push_reserved.ensures.items c.empty-live.ensures c.add_all.ensures.number c.in-Ok.ensures.gives).0

pub returns-in-Err : goal.returns-in-Err
returns-in-Err c =
    new_refused c.args.self.now c.args.pairs.now c.self.inside.live.items _ c.self.inside.made c.empty-live.result c.add_all.new.self c.in-Err.refusal c.self.view_is c.self.invariant (let l = c.len.ensures in let t = c.if-len-ge-MOST_LIVE.false in omega (arith, l, t)) c.if-self-ge-MOST_MADE.false c.requires
    c.in_ok-reserve.ensures.items c.empty-live.ensures c.in-Err.ensures.gives
