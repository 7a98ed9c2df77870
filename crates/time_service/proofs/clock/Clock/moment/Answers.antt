use Rattle.std.proofs.Common.{◌∙◌, ◌-◌, ap, arith, subst, ◌≡◌, ◌<◌, true}
use Rattle.time_service.specs.Times.{is_time_zone}
use Rattle.time_service.proofs.TimeLemmas.{shown, not_shown, shown_is_valid, number_shown, rest_shown}
use Rattle.time_service.proofs.clock.Clock.moment.Goals as goal

pub returns-in-Some-clause-moment : goal.returns-in-Some-clause-moment
returns-in-Some-clause-moment c =
    let first = c.from.ensures ∙ ap (λ x. x.nanosecond) c.self.view_is in
    let passed = c.from-2.ensures ∙ ap (λ x. c.args.now - x.set_at) c.self.view_is in
    let day = c.from-3.ensures ∙ ap (λ x. x.day) c.self.view_is in
    shown c.args.self.now c.args.now _ c.in-Some.year c.in-Some.month c.in-Some.day _ c.time_on.result
    (number_shown c.args.self.now c.args.now _ _ first passed _ day) (rest_shown c.args.self.now c.args.now _ _ first passed) c.in-Some.ensures.date c.time_on.ensures

pub returns-in-Some-clause-valid : goal.returns-in-Some-clause-valid
returns-in-Some-clause-valid c =
    shown_is_valid c.args.self.now _ _ c.time_on.result c.time_on.ensures (omega arith) c.in-Some.ensures.first c.in-Some.ensures.last c.in-Some.ensures.civil
    (subst (λ x. is_time_zone x.time_zone ≡ true) c.self.view_is c.self.invariant.time_zone) (subst (λ x. x.daylight < 4) c.self.view_is c.self.invariant.daylight)

pub returns-in-None-clause-moment : goal.returns-in-None-clause-moment
returns-in-None-clause-moment c =
    let first = c.from.ensures ∙ ap (λ x. x.nanosecond) c.self.view_is in
    let passed = c.from-2.ensures ∙ ap (λ x. c.args.now - x.set_at) c.self.view_is in
    let day = c.from-3.ensures ∙ ap (λ x. x.day) c.self.view_is in
    not_shown c.args.self.now c.args.now _ (number_shown c.args.self.now c.args.now _ _ first passed _ day) c.in-None.ensures.date
