use Rattle.std.proofs.Common.{◌≡◌, ◌∙◌, Some, None, sym, ap}
use Rattle.host_script.specs.Plain.{Plain}
use Rattle.host_engine.proofs.InputLemmas.{no_store, of_store}
use Rattle.host_engine.proofs.inputs.read_store.Goals as goal

pub returns-in-None-clause-had : goal.returns-in-None-clause-had
returns-in-None-clause-had g c = λ next.
    let none : c.args.script.now.store ≡ None = ap (λ (s : Plain). s.store) (sym c.script.view_is) ∙ c.in-None.is in
    rw none (no_store (g.F.Files.told c.args.files.now) next)

pub returns-in-Ok-clause-had : goal.returns-in-Ok-clause-had
returns-in-Ok-clause-had g c = λ next.
    let some : c.args.script.now.store ≡ Some c.as_str-name.result.now = ap (λ (s : Plain). s.store) (sym c.script.view_is) ∙ c.in-Some.is ∙ ap Some (sym c.as_str-name.ensures) in
    rw (some, c.from_vec.ensures) (of_store (g.F.Files.told c.args.files.now) c.as_str-name.result.now c.in-Ok.bytes.items next c.in-Ok.ensures.had)
