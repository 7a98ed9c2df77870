use Rattle.std.proofs.Common.{◌≡◌, ◌≤◌, ◌∙◌, ap, subst, sym, length, ℕ, Vec, Global}
use Rattle.map_faults.specs.Grounds.{Ground, IsGround}
use Rattle.address_view.specs.declared.view.Window.{Window}
use Rattle.virtual_map.specs.States.{Runtime}
use Rattle.runtime_turn.specs.Functions.{ground_of}
use Rattle.runtime_view.specs.Views.{view_after, WindowIsClear}
use Rattle.map_transition.proofs.Grounds.{ground_is, window_clear}
use Rattle.map_transition.proofs.WholeLemmas.{in_time}
use Rattle.map_transition.proofs.moving.see_by.Goals as goal

pub view_after-requires-clause-ground : goal.view_after-requires-clause-ground
view_after-requires-clause-ground c =
    let t = in_time c.args.state.now c.args.map.now c.requires.accepted in
    subst (λ (g : Ground). IsGround g) (sym (c.ground_of.ensures ∙ ap (λ (r : Runtime). ground_of r) c.state.view_is)) (ground_is c.args.state.now c.requires.whole t.gone c.map_is_map.ensures)

pub view_after-requires-clause-clear : goal.view_after-requires-clause-clear
view_after-requires-clause-clear c =
    let t = in_time c.args.state.now c.args.map.now c.requires.accepted in
    subst (λ (g : Ground). WindowIsClear g.layout g.descriptors) (sym (c.ground_of.ensures ∙ ap (λ (r : Runtime). ground_of r) c.state.view_is)) (window_clear c.args.state.now c.requires.whole t.gone c.map_is_map.ensures)

pub view_after-requires-clause-room : goal.view_after-requires-clause-room
view_after-requires-clause-room c =
    let t = in_time c.args.state.now c.args.map.now c.requires.accepted in
    let there : length c.replace-room.result.items ≡ c.args.state.now.room = ap (λ (v : Vec Window Global). length v.items) c.replace-room.ensures.value ∙ ap (λ (r : Runtime). r.room) c.state.view_is in
    let room : length (view_after c.args.state.now.layout c.args.state.now.descriptors c.args.map.now.entries c.args.state.now.os_virtual) ≤ c.args.state.now.room = c.requires.whole.room t.gone t.first c.args.map.now.entries in
    subst (λ (n : ℕ). length (view_after c.ground_of.result.layout c.ground_of.result.descriptors c.args.map.now.entries c.ground_of.result.os_virtual) ≤ n) (sym there)
    (subst (λ (g : Ground). length (view_after g.layout g.descriptors c.args.map.now.entries g.os_virtual) ≤ c.args.state.now.room) (sym (c.ground_of.ensures ∙ ap (λ (r : Runtime). ground_of r) c.state.view_is)) room)
