use Rattle.std.proofs.Common.{◌≡◌, sym, ap, ◌∙◌}
use Rattle.time_service.specs.Texts.{clock_of}
use Rattle.host_script.specs.Plain.{Plain}
use Rattle.host_engine.proofs.ClockLemmas.{sets_one, set_clock}
use Rattle.host_engine.proofs.script_run.opening_clock.Goals as goal

pub unreachable-requires : goal.unreachable-requires
unreachable-requires c =
    let text : c.as_str.result.now ≡ c.args.script.now.time = c.as_str.ensures ∙ ap (λ (s : Plain). s.time) c.script.view_is in
    absurd (sets_one c.args.script.now.time c.requires.time (ap clock_of (sym text) ∙ sym c.at.ensures.clock ∙ c.in-None.is))

pub returns-clause-clock : goal.returns-clause-clock
returns-clause-clock c =
    let text : c.as_str.result.now ≡ c.args.script.now.time = c.as_str.ensures ∙ ap (λ (s : Plain). s.time) c.script.view_is in
    set_clock c.args.script.now.time c.in-Some.clock (sym c.in-Some.is ∙ c.at.ensures.clock ∙ ap clock_of text)
