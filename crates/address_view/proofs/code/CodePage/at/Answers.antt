use Rattle.address_view.proofs.code.CodePage.at.Goals as goal

pub returns-in_default : goal.returns-in_default
returns-in_default c = c.none.ensures _ _
