use Rattle.std.proofs.Common.{rules, ◌≡◌, subst, sym}
use Rattle.std.specs.Prelude.{not, ◌==◌}
use Rattle.std.specs.List.{filter}
use Rattle.std.proofs.lemmas.Fn.{filter_same}
use Rattle.protocol_db.specs.Registrations.{Registration}
use Rattle.protocol_db.specs.Whole.{IsWhole}
use Rattle.protocol_db.proofs.WholeLemmas.{forgotten_write, forgotten_whole}
use Rattle.protocol_db.proofs.protocols.Protocols.forget.Goals as goal

pub invariant_of-self : goal.invariant_of-self
invariant_of-self c =
    let kept : c.retain.new.self.items ≡ filter (λ (r : Registration). not (r.event == c.args.event)) c.self.inside.registrations.items = filter_same _ _ _ (λ x b f' k. search rules) _ _ c.retain.ensures.filtered in
    subst IsWhole (sym (forgotten_write c.args.self.now c.self.inside.handles c.self.inside.registrations.items c.retain.new.self.items c.self.inside.made c.args.event c.self.view_is kept)) (forgotten_whole c.args.self.now c.args.event (rw (← c.self.view_is) c.self.invariant))

pub returns : goal.returns
returns c =
    let kept : c.retain.new.self.items ≡ filter (λ (r : Registration). not (r.event == c.args.event)) c.self.inside.registrations.items = filter_same _ _ _ (λ x b f' k. search rules) _ _ c.retain.ensures.filtered in
    forgotten_write c.args.self.now c.self.inside.handles c.self.inside.registrations.items c.retain.new.self.items c.self.inside.made c.args.event c.self.view_is kept
