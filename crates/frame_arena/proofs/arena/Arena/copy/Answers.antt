use Rattle.std.proofs.Common.{◌∙◌, sym, ap, arith, ◌<◌, length}
use Rattle.frame_arena.specs.Frames.{or_empty, with_frame}
use Rattle.frame_arena.proofs.KeptLemmas.{stored}
use Rattle.frame_arena.proofs.SeenLemmas.{inside, mark, stored_frame}
use Rattle.frame_arena.proofs.arena.Arena.copy.Goals as goal

pub index_mut-requires : goal.index_mut-requires
index_mut-requires c =
    let h : c.to.inside.number < length c.self.inside.frames.items = inside c.args.self.now c.self.inside.limit c.self.inside.count c.self.inside.first c.self.inside.frames.items c.self.inside.marks.items c.self.invariant.0 c.self.view_is c.to.inside.number c.args.to c.to.view_is c.requires.to in
    let e = c.self.inside.frames.ok.0 in omega arith

pub invariant_of-self : goal.invariant_of-self
invariant_of-self c =
    (stored c.self.inside.limit c.self.inside.count c.self.inside.first c.self.inside.frames.items c.self.inside.marks.items c.self.invariant.0 c.to.inside.number _ (mark c.args.self.now c.self.inside.limit c.self.inside.count c.self.inside.first c.self.inside.frames.items c.self.inside.marks.items c.self.invariant.0 c.self.view_is c.to.inside.number c.args.to c.to.view_is c.requires.to) c.copy.ensures.whole, c.self.invariant.1, c.self.invariant.2)

pub returns : goal.returns
returns c =
    stored_frame c.args.self.now c.self.inside.limit c.self.inside.count c.self.inside.first c.self.inside.frames.items c.self.inside.marks.items c.self.invariant.0 c.self.view_is c.to.inside.number c.args.to c.to.view_is c.requires.to c.copy.new.self
    ∙ ap (with_frame c.args.self.now c.args.to) (c.copy.ensures.value ∙ c.copy_from_slice.ensures.after ∙ sym (ap or_empty c.bytes.ensures.value))
