use Rattle.std.proofs.Common.{arith, ◌<◌, length, true}
use Rattle.frame_arena.proofs.FrameLemmas.{got_inside}
use Rattle.frame_arena.proofs.KeptLemmas.{given, some_out}
use Rattle.frame_arena.proofs.SeenLemmas.{inside, mark, given_frame}
use Rattle.frame_arena.proofs.arena.Arena.give.Goals as goal

pub index_mut-requires : goal.index_mut-requires
index_mut-requires c =
    let h : c.id.inside.number < length c.self.inside.frames.items = inside c.args.self.now c.self.inside.limit c.self.inside.count c.self.inside.first c.self.inside.frames.items c.self.inside.marks.items c.self.invariant.0 c.self.view_is c.id.inside.number c.args.id c.id.view_is c.requires in
    let e = c.self.inside.frames.ok.0 in omega arith

pub index_mut-requires-2 : goal.index_mut-requires-2
index_mut-requires-2 c =
    let h : c.id.inside.number < length c.self.inside.marks.items = got_inside c.self.inside.marks.items c.id.inside.number true (mark c.args.self.now c.self.inside.limit c.self.inside.count c.self.inside.first c.self.inside.frames.items c.self.inside.marks.items c.self.invariant.0 c.self.view_is c.id.inside.number c.args.id c.id.view_is c.requires) in
    let e = c.self.inside.marks.ok.0 in omega arith

pub overflow_sub-self : goal.overflow_sub-self
overflow_sub-self c = some_out c.self.inside.limit c.self.inside.count c.self.inside.first c.self.inside.frames.items c.self.inside.marks.items c.self.invariant.0 c.id.inside.number (mark c.args.self.now c.self.inside.limit c.self.inside.count c.self.inside.first c.self.inside.frames.items c.self.inside.marks.items c.self.invariant.0 c.self.view_is c.id.inside.number c.args.id c.id.view_is c.requires)

pub invariant_of-self : goal.invariant_of-self
invariant_of-self c =
    (rw c.from.ensures (given c.self.inside.limit c.self.inside.count c.self.inside.first c.self.inside.frames.items c.self.inside.marks.items c.self.invariant.0 c.id.inside.number _ (mark c.args.self.now c.self.inside.limit c.self.inside.count c.self.inside.first c.self.inside.frames.items c.self.inside.marks.items c.self.invariant.0 c.self.view_is c.id.inside.number c.args.id c.id.view_is c.requires) c.set_link.ensures.value c.set_link.ensures.whole), c.self.invariant.1, c.self.invariant.2)

pub returns : goal.returns
returns c = given_frame c.args.self.now c.self.inside.limit c.self.inside.count c.self.inside.first c.self.inside.frames.items c.self.inside.marks.items c.self.invariant.0 c.self.view_is c.id.inside.number c.args.id c.id.view_is c.requires c.set_link.new.self
