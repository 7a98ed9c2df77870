use Rattle.host_engine.proofs.unbuilt.read_runnable.Goals as goal

pub returns-in-None-clause-forms : goal.returns-in-None-clause-forms
returns-in-None-clause-forms c = c.scripts_keep_forms.ensures _ _ c.in-Ok.ensures

pub first_unbuilt-requires : goal.first_unbuilt-requires
first_unbuilt-requires c = c.scripts_keep_forms.ensures _ _ c.in-Ok.ensures
