use Rattle.std.proofs.Common.{◌≡◌, ◌∙◌, ap, arith, ◌<◌, [], ◌∷◌, ◌++◌, length}
use Rattle.frame_arena.specs.Frames.{zeros}
use Rattle.frame_arena.proofs.FrameLemmas.{zeros_frame}
use Rattle.frame_arena.proofs.KeptLemmas.{kept}
use Rattle.frame_arena.proofs.SeenLemmas.{seen, count_is, limit_is, made_is, new_kept}
use Rattle.frame_arena.proofs.arena.Arena.keep.Goals as goal

pub invariant_of-self : goal.invariant_of-self
invariant_of-self c =
    let n = count_is c.args.self.now c.self.inside.limit c.self.inside.count c.self.inside.first c.self.inside.frames.items c.self.inside.marks.items c.self.invariant.0 c.self.view_is in
    let l = limit_is c.args.self.now c.self.inside.limit c.self.inside.count c.self.inside.first c.self.inside.frames.items c.self.inside.marks.items c.self.invariant.0 c.self.view_is in
    let m = made_is c.args.self.now c.self.inside.limit c.self.inside.count c.self.inside.first c.self.inside.frames.items c.self.inside.marks.items c.self.invariant.0 c.self.view_is in
    let f = c.requires.few in
    let a = c.requires.all in
    let few : c.self.inside.count < c.self.inside.limit = omega arith in
    let all : c.self.inside.count ≡ length c.self.inside.frames.items = omega arith in
    let room = c.self.invariant in
    let frames = c.in-Ok.ensures.capacity in
    let marks = c.in-Ok-push.ensures.capacity in
    (rw (c.in-Ok.ensures.items, c.in-Ok-push.ensures.items, c.requires.zeros) (kept c.self.inside.limit c.self.inside.count c.self.inside.first c.self.inside.frames.items c.self.inside.marks.items c.self.invariant.0 zeros few all zeros_frame), omega arith, omega arith)

pub returns : goal.returns
returns c =
    ap (λ f. seen c.self.inside.limit f c.push-2.new.self.items) (c.in-Ok.ensures.items ∙ ap (λ z. c.self.inside.frames.items ++ z ∷ []) c.requires.zeros)
    ∙ ap (λ m. seen c.self.inside.limit (c.self.inside.frames.items ++ zeros ∷ []) m) c.in-Ok-push.ensures.items
    ∙ new_kept c.args.self.now c.self.inside.limit c.self.inside.count c.self.inside.first c.self.inside.frames.items c.self.inside.marks.items c.self.invariant.0 c.self.view_is zeros
