use Rattle.address_view.proofs.code.CodePage.from.Goals as goal

pub returns-in-None : goal.returns-in-None
returns-in-None c = c.none.ensures _ _
