use Rattle.std.proofs.Common.{rules, arith, ◌≡◌, ◌++◌, ◌∷◌, [], List}
use Rattle.std.proofs.lemmas.Fn.{filter_same}
use Rattle.handle_db.specs.Database.{Protocol, all_but, fresh}
use Rattle.handle_db.proofs.ViewLemmas.{handle_with, has_room, renewed}
use Rattle.handle_db.proofs.handle.LiveHandle.renew.Goals as goal

pub push_reserved-requires : goal.push_reserved-requires
push_reserved-requires c =
    let kept : c.retain.new.self.items ≡ all_but c.args.guid.now c.self.inside.protocols.items = filter_same _ _ _ (λ x b f' k. search rules) _ _ c.retain.ensures.filtered in
    let room = has_room c.args.guid.now c.args.self.now c.self.inside.number c.self.inside.protocols.items c.retain.new.self.items c.self.view_is c.requires kept in
    let same = c.retain.ensures.capacity in
    let len = c.retain.new.self.ok.0 in
    let was = c.self.inside.protocols.ok.0 in
    let fits = c.self.inside.protocols.ok.1 in
    omega (arith, room, same, len, was, fits)

pub returns : goal.returns
returns c =
    let kept : c.retain.new.self.items ≡ all_but c.args.guid.now c.self.inside.protocols.items = filter_same _ _ _ (λ x b f' k. search rules) _ _ c.retain.ensures.filtered in
    handle_with (λ (ps : List Protocol). all_but c.args.guid.now ps ++ fresh c.args.guid.now c.args.interface ∷ []) _ _ _ _ c.self.view_is (renewed c.args.guid.now c.args.interface c.self.inside.protocols.items c.retain.new.self.items _ _ kept c.new-protocol.ensures c.push_reserved.ensures.items)
