use Rattle.std.proofs.Common.{◌≡◌, ◌≤◌, ◌+◌, ◌-◌, ◌/◌, ◌∙◌, ap, refl, length, arith}
use Rattle.page_alloc.specs.Runs.{all_pages}
use Rattle.page_alloc.specs.Pages.{changed}
use Rattle.page_alloc.proofs.PageLemmas.{whole_changed, length-with_pages}
use Rattle.page_alloc.proofs.map.PageMap.change.Goals as goal

pub invariant_of-self : goal.invariant_of-self
invariant_of-self c =
    let i = c.self.invariant in
    let b : c.self.inside.base ≡ c.args.self.now.base = ap (λ m. m.base) c.self.view_is in
    let p : all_pages c.self.inside.runs.items ≡ c.args.self.now.pages = ap (λ m. m.pages) c.self.view_is in
    let inside : (c.args.at - c.self.inside.base) / 4096 + c.args.count ≤ length (all_pages c.self.inside.runs.items) = rw (b, p) c.requires.inside in
    let room = c.fill.ensures.room in (
      whole_changed c.self.inside.base c.self.inside.key _ (all_pages c.self.inside.runs.items) _ ((c.args.at - c.self.inside.base) / 4096) c.args.count c.args.page i.0 inside c.requires.nobodys c.fill.ensures.pages c.saturating_add-self-inside.ensures,
      ap length c.fill.ensures.pages ∙ length-with_pages _ _ _ c.args.page inside ∙ i.1,
      c.fill.ensures.none_empty,
      (let r = i.3 in omega (arith, room, r)),
    )

pub returns-clause-length : goal.returns-clause-length
returns-clause-length c =
    let b : c.self.inside.base ≡ c.args.self.now.base = ap (λ m. m.base) c.self.view_is in
    let p : all_pages c.self.inside.runs.items ≡ c.args.self.now.pages = ap (λ m. m.pages) c.self.view_is in
    let inside : (c.args.at - c.self.inside.base) / 4096 + c.args.count ≤ length (all_pages c.self.inside.runs.items) = rw (b, p) c.requires.inside in
    ap length c.fill.ensures.pages ∙ length-with_pages _ _ _ c.args.page inside ∙ ap length p

pub returns-clause-map : goal.returns-clause-map
unfolding changed
returns-clause-map c = rw (← c.self.view_is) (rw (c.fill.ensures.pages, c.saturating_add-self-inside.ensures) refl)
