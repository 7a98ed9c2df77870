use Rattle.std.proofs.Common.{◌∙◌, ap, sym, Ok}
use Rattle.address_view.proofs.RunLemmas.{halves_loaded}
use Rattle.address_view.proofs.access.both_halves.Goals as goal

pub returns-in-Some : goal.returns-in-Some
returns-in-Some c =
    let h = halves_loaded _ _ _ _ _ c.in-Some.ensures in
    (h.0 ∙ ap Ok (sym c.number.ensures.value), h.1 ∙ ap Ok (sym c.number-in-Some.ensures.value))
