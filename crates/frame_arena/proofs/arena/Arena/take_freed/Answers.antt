use Rattle.std.proofs.Common.{◌∙◌, ap, refl, arith, ◌-◌, ◌<◌, length}
use Rattle.std.proofs.lemmas.Option.{slice_get_read}
use Rattle.frame_arena.specs.Frames.{with_frame}
use Rattle.frame_arena.proofs.FrameLemmas.{zeros_frame}
use Rattle.frame_arena.proofs.KeptLemmas.{taken}
use Rattle.frame_arena.proofs.SeenLemmas.{few, first_inside, first_in, first_taken}
use Rattle.frame_arena.proofs.arena.Arena.take_freed.Goals as goal

pub index_mut-requires : goal.index_mut-requires
index_mut-requires c =
    let h : c.self.inside.first - 1 < length c.self.inside.frames.items = first_inside c.args.self.now c.self.inside.limit c.self.inside.count c.self.inside.first c.self.inside.frames.items c.self.inside.marks.items c.self.invariant.0 c.self.view_is c.requires.some in
    let e = c.self.inside.frames.ok.0 in omega arith

pub index_mut-requires-2 : goal.index_mut-requires-2
index_mut-requires-2 c =
    let h : c.self.inside.first - 1 < length c.self.inside.frames.items = first_inside c.args.self.now c.self.inside.limit c.self.inside.count c.self.inside.first c.self.inside.frames.items c.self.inside.marks.items c.self.invariant.0 c.self.view_is c.requires.some in
    let m = c.self.invariant.0.marked in
    let e = c.self.inside.marks.ok.0 in omega arith

pub overflow_cast-result : goal.overflow_cast-result
overflow_cast-result c =
    let h : c.self.inside.first - 1 < length c.self.inside.frames.items = first_inside c.args.self.now c.self.inside.limit c.self.inside.count c.self.inside.first c.self.inside.frames.items c.self.inside.marks.items c.self.invariant.0 c.self.view_is c.requires.some in
    let a = c.self.invariant.0.few in
    let b = c.self.invariant.0.made_few in
    record { fits = omega arith }

pub invariant_of-self : goal.invariant_of-self
invariant_of-self c =
    let h : c.self.inside.first - 1 < length c.self.inside.frames.items = first_inside c.args.self.now c.self.inside.limit c.self.inside.count c.self.inside.first c.self.inside.frames.items c.self.inside.marks.items c.self.invariant.0 c.self.view_is c.requires.some in
    let f = few c.args.self.now c.self.inside.limit c.self.inside.count c.self.inside.first c.self.inside.frames.items c.self.inside.marks.items c.self.invariant.0 c.self.view_is c.requires.some in
    let g = slice_get_read c.self.inside.frames.items (length c.self.inside.frames.items) (c.self.inside.first - 1) _ refl h c.index.ensures in
    (taken c.self.inside.limit c.self.inside.count c.self.inside.first c.self.inside.frames.items c.self.inside.marks.items c.self.invariant.0 _ c.clear.new.self _ f g c.link-self-inside.ensures (rw c.clear.ensures zeros_frame), c.self.invariant.1, c.self.invariant.2)

pub returns-clause-id : goal.returns-clause-id
returns-clause-id c = first_in c.args.self.now c.self.inside.limit c.self.inside.count c.self.inside.first c.self.inside.frames.items c.self.inside.marks.items c.self.invariant.0 c.self.view_is c.requires.some

pub returns-clause-value : goal.returns-clause-value
returns-clause-value c = first_taken c.args.self.now c.self.inside.limit c.self.inside.count c.self.inside.first c.self.inside.frames.items c.self.inside.marks.items c.self.invariant.0 c.self.view_is c.clear.new.self c.requires.some ∙ ap (with_frame c.args.self.now (c.self.inside.first - 1)) c.clear.ensures
