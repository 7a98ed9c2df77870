use Rattle.std.proofs.Common.{◌∙◌}
use Rattle.time_service.proofs.CodeLemmas.{year_kept, day_kept, number_fits, number_bound, number_is}
use Rattle.time_service.proofs.days.day_number.Goals as goal

pub overflow_sub-result : goal.overflow_sub-result
overflow_sub-result c =
    number_fits c.constrain.result c.args.year c.args.month c.args.day c.days_since_min.result c.requires.first c.requires.last c.requires.date
    (c.constrain.ensures.year ∙ year_kept c.args.year c.requires.last) c.constrain.ensures.month (c.constrain.ensures.day ∙ day_kept c.args.year c.args.month c.args.day c.requires.last c.requires.date) c.days_since_min.ensures.value

pub returns-clause-number : goal.returns-clause-number
returns-clause-number c =
    number_is c.constrain.result c.args.year c.args.month c.args.day c.days_since_min.result c.requires.first c.requires.last c.requires.date
    (c.constrain.ensures.year ∙ year_kept c.args.year c.requires.last) c.constrain.ensures.month (c.constrain.ensures.day ∙ day_kept c.args.year c.args.month c.args.day c.requires.last c.requires.date) c.days_since_min.ensures.value

pub returns-clause-bound : goal.returns-clause-bound
returns-clause-bound c =
    number_bound c.constrain.result c.args.year c.args.month c.args.day c.days_since_min.result c.requires.first c.requires.last c.requires.date
    (c.constrain.ensures.year ∙ year_kept c.args.year c.requires.last) c.constrain.ensures.month (c.constrain.ensures.day ∙ day_kept c.args.year c.args.month c.args.day c.requires.last c.requires.date) c.days_since_min.ensures.value
