use Rattle.std.proofs.Common.{◌∙◌}
use Rattle.std.proofs.lemmas.List.{length-map}
use Rattle.host_engine.proofs.GivesLemmas.{onward_past}
use Rattle.host_engine.proofs.RunPlanLemmas.{store_had, store_unread, text_refused, all_assembled}
use Rattle.host_engine.proofs.run.inputs_of.Goals as goal

pub read_images-requires : goal.read_images-requires
read_images-requires g c = c.requires.images

pub returns-in-Err-read_store-clause-refused : goal.returns-in-Err-read_store-clause-refused
returns-in-Err-read_store-clause-refused g c = store_unread _ c.args.script.now _ _ _ _ _ _ _ c.in-Ok.ensures.onward c.in-Ok.ensures.had c.in-Err-read_store.refusal _ _ c.in-Err-read_store.ensures.refused

pub returns-in-Err-read_store-clause-onward : goal.returns-in-Err-read_store-clause-onward
returns-in-Err-read_store-clause-onward g c = onward_past _ _ _ _ _ _ _ _ _ c.in-Ok.ensures.onward c.in-Err-read_store.ensures.onward

pub returns-in-Ok-assemble_texts-clause-had : goal.returns-in-Ok-assemble_texts-clause-had
returns-in-Ok-assemble_texts-clause-had g c = all_assembled c.args.script.now _ _ _ _ (store_had _ c.args.script.now _ _ _ _ _ _ _ c.in-Ok.ensures.onward c.in-Ok.ensures.had _ c.in-Ok-read_store.ensures.had) c.in-Ok-assemble_texts.ensures.gives

pub returns-in-Ok-assemble_texts-clause-many : goal.returns-in-Ok-assemble_texts-clause-many
returns-in-Ok-assemble_texts-clause-many g c = length-map _ _ ∙ (c.in-Ok-assemble_texts.ensures.many ∙ c.in-Ok.ensures.many)

pub returns-in-Ok-assemble_texts-clause-onward : goal.returns-in-Ok-assemble_texts-clause-onward
returns-in-Ok-assemble_texts-clause-onward g c = onward_past _ _ _ _ _ _ _ _ _ c.in-Ok.ensures.onward c.in-Ok-read_store.ensures.onward

pub returns-in-Err-assemble_texts-clause-refused : goal.returns-in-Err-assemble_texts-clause-refused
returns-in-Err-assemble_texts-clause-refused g c =
    rw c.of_text.ensures (text_refused c.args.script.now _ c.in-Err-assemble_texts.why _ _ _ _ _ _ (store_had _ c.args.script.now _ _ _ _ _ _ _ c.in-Ok.ensures.onward c.in-Ok.ensures.had _ c.in-Ok-read_store.ensures.had) c.in-Err-assemble_texts.ensures.gives)

pub returns-in-Err-assemble_texts-clause-onward : goal.returns-in-Err-assemble_texts-clause-onward
returns-in-Err-assemble_texts-clause-onward g c = onward_past _ _ _ _ _ _ _ _ _ c.in-Ok.ensures.onward c.in-Ok-read_store.ensures.onward
