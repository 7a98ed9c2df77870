use Rattle.std.proofs.Common.{◌≡◌, ◌∙◌, sym, ap, refl, arith, ◌<◌, ◌≤◌, length}
use Rattle.std.proofs.lemmas.Option.{slice_get_read}
use Rattle.frame_arena.specs.Frames.{is_out}
use Rattle.frame_arena.proofs.SeenLemmas.{told, made_is, not_below, past}
use Rattle.frame_arena.proofs.arena.Arena.is_out.Goals as goal

pub returns-then-place-len : goal.returns-then-place-len
returns-then-place-len c =
    let e = c.self.inside.marks.ok.0 in
    let n = c.len.ensures in
    let t : c.id.inside.number < c.len.result = c.if-place-len.true in
    let h : c.id.inside.number < length c.self.inside.marks.items = omega arith in
    told c.args.self.now c.self.inside.limit c.self.inside.count c.self.inside.first c.self.inside.frames.items c.self.inside.marks.items c.self.invariant.0 c.self.view_is c.id.inside.number _ (slice_get_read c.self.inside.marks.items (length c.self.inside.marks.items) c.id.inside.number _ refl h c.index.ensures) ∙ ap (is_out c.args.self.now) c.id.view_is

pub returns-else-place-len : goal.returns-else-place-len
returns-else-place-len c =
    let e = c.self.inside.marks.ok.0 in
    let n = c.len.ensures in
    let t : c.len.result ≤ c.id.inside.number = c.if-place-len.false in
    let m = made_is c.args.self.now c.self.inside.limit c.self.inside.count c.self.inside.first c.self.inside.frames.items c.self.inside.marks.items c.self.invariant.0 c.self.view_is in
    let k = c.self.invariant.0.marked in
    let i : c.id.inside.number ≡ c.args.id = c.id.view_is in
    not_below c.id.inside.number c.len.result t ∙ sym (past c.args.self.now c.self.inside.limit c.self.inside.count c.self.inside.first c.self.inside.frames.items c.self.inside.marks.items c.self.invariant.0 c.self.view_is c.args.id (omega arith))
