use Rattle.std.proofs.Common.{◌∙◌, sym, ap, arith, ◌<◌, length, Some}
use Rattle.frame_arena.proofs.SeenLemmas.{inside, got, shown}
use Rattle.frame_arena.proofs.arena.Arena.bytes.Goals as goal

pub index-requires : goal.index-requires
index-requires c =
    let h : c.id.inside.number < length c.self.inside.frames.items = inside c.args.self.now c.self.inside.limit c.self.inside.count c.self.inside.first c.self.inside.frames.items c.self.inside.marks.items c.self.invariant.0 c.self.view_is c.id.inside.number c.args.id c.id.view_is c.requires in
    let e = c.self.inside.frames.ok.0 in omega arith

pub returns-clause-value : goal.returns-clause-value
returns-clause-value c =
    shown c.args.self.now c.self.inside.limit c.self.inside.count c.self.inside.first c.self.inside.frames.items c.self.inside.marks.items c.self.invariant.0 c.self.view_is c.id.inside.number c.args.id c.id.view_is c.requires _ (got c.args.self.now c.self.inside.limit c.self.inside.count c.self.inside.first c.self.inside.frames.items c.self.inside.marks.items c.self.invariant.0 c.self.view_is c.id.inside.number c.args.id c.id.view_is c.requires _ c.index.ensures) ∙ ap Some (sym c.bytes.ensures.value)
