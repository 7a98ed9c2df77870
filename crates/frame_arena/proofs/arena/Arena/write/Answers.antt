use Rattle.std.proofs.Common.{◌∙◌, sym, ap, arith, ◌<◌, length}
use Rattle.frame_arena.specs.Frames.{or_empty, with_frame, written_over}
use Rattle.frame_arena.proofs.KeptLemmas.{stored}
use Rattle.frame_arena.proofs.SeenLemmas.{inside, mark, got, shown, stored_frame}
use Rattle.frame_arena.proofs.arena.Arena.write.Goals as goal

pub index_mut-requires : goal.index_mut-requires
index_mut-requires c =
    let h : c.id.inside.number < length c.self.inside.frames.items = inside c.args.self.now c.self.inside.limit c.self.inside.count c.self.inside.first c.self.inside.frames.items c.self.inside.marks.items c.self.invariant.0 c.self.view_is c.id.inside.number c.args.id c.id.view_is c.requires.out in
    let e = c.self.inside.frames.ok.0 in omega arith

pub invariant_of-self : goal.invariant_of-self
invariant_of-self c =
    (stored c.self.inside.limit c.self.inside.count c.self.inside.first c.self.inside.frames.items c.self.inside.marks.items c.self.invariant.0 c.id.inside.number _ (mark c.args.self.now c.self.inside.limit c.self.inside.count c.self.inside.first c.self.inside.frames.items c.self.inside.marks.items c.self.invariant.0 c.self.view_is c.id.inside.number c.args.id c.id.view_is c.requires.out) c.write.ensures.whole, c.self.invariant.1, c.self.invariant.2)

pub returns : goal.returns
returns c =
    let g = shown c.args.self.now c.self.inside.limit c.self.inside.count c.self.inside.first c.self.inside.frames.items c.self.inside.marks.items c.self.invariant.0 c.self.view_is c.id.inside.number c.args.id c.id.view_is c.requires.out _ (got c.args.self.now c.self.inside.limit c.self.inside.count c.self.inside.first c.self.inside.frames.items c.self.inside.marks.items c.self.invariant.0 c.self.view_is c.id.inside.number c.args.id c.id.view_is c.requires.out _ c.index_mut.ensures.value) in
    stored_frame c.args.self.now c.self.inside.limit c.self.inside.count c.self.inside.first c.self.inside.frames.items c.self.inside.marks.items c.self.invariant.0 c.self.view_is c.id.inside.number c.args.id c.id.view_is c.requires.out c.write.new.self
    ∙ ap (with_frame c.args.self.now c.args.id) (c.write.ensures.value ∙ ap (λ b. written_over b c.args.at c.args.bytes.now) (sym (ap or_empty g)))
