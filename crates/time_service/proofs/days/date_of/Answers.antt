use Rattle.std.proofs.Common.{◌≡◌, refl, unsigned_abs, ◌∙◌}
use Rattle.time_service.proofs.CodeLemmas.{starts, is_day, date_found, date_missed, year_shown}
use Rattle.time_service.proofs.days.date_of.Goals as goal

pub returns-then-number-gt-LAST_DAY-clause-date : goal.returns-then-number-gt-LAST_DAY-clause-date
returns-then-number-gt-LAST_DAY-clause-date c = date_missed c.args.number c.if-number-gt-LAST_DAY.true

pub returns-clause-date : goal.returns-clause-date
returns-clause-date c =
    let d = c.from_days_since_min-date.result in
    let year : c.unsigned_abs.result ≡ unsigned_abs d.year = c.unsigned_abs.ensures.value ∙ year_shown d.year d.year_in in
    rw year (date_found d _ c.args.number c.from_days_since_min-date.ensures refl)

pub returns-clause-first : goal.returns-clause-first
returns-clause-first c =
    let d = c.from_days_since_min-date.result in
    let year : c.unsigned_abs.result ≡ unsigned_abs d.year = c.unsigned_abs.ensures.value ∙ year_shown d.year d.year_in in
    rw year (starts d _ c.args.number c.from_days_since_min-date.ensures refl)

pub returns-clause-civil : goal.returns-clause-civil
returns-clause-civil c =
    let d = c.from_days_since_min-date.result in
    let year : c.unsigned_abs.result ≡ unsigned_abs d.year = c.unsigned_abs.ensures.value ∙ year_shown d.year d.year_in in
    rw year (is_day d _ c.args.number c.from_days_since_min-date.ensures refl)
