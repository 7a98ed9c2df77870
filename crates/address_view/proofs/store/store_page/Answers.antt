use Rattle.address_view.specs.Windows.{see}
use Rattle.std.proofs.Common.{refl, ◌∙◌}
use Rattle.rv_step.specs.declared.bus.Access.TheVariants.{Store}
use Rattle.address_view.proofs.RunLemmas.{fast_content, lacks_is, unsure, some_width}
use Rattle.address_view.proofs.store.store_page.Goals as goal

pub returns-in-Ok-clause-end : goal.returns-in-Ok-clause-end
returns-in-Ok-clause-end c = (refl, lacks_is (see c.args.view.now) c.args.memory.now Store _ _ c.args.place c.whole.ensures (some_width _ c.requires.width) c.requires.one ∙ c.in-Ok.ensures.gives.0)

pub returns-in-Ok-clause-content : goal.returns-in-Ok-clause-content
returns-in-Ok-clause-content c = fast_content (see c.args.view.now) c.args.memory.now _ Store c.args.at c.args.width c.args.place c.args.value c.requires.one c.in-Ok.ensures.gives.1

pub returns-in-Err-Frames-clause-end : goal.returns-in-Err-Frames-clause-end
returns-in-Err-Frames-clause-end c = (refl, lacks_is (see c.args.view.now) c.args.memory.now Store _ _ c.args.place c.whole.ensures (some_width _ c.requires.width) c.requires.one ∙ (rw c.in-Err-Frames.field-0-is at c.in-Err-Frames.ensures.gives).0)

pub returns-in-Err-Memory-clause-end : goal.returns-in-Err-Memory-clause-end
returns-in-Err-Memory-clause-end c = (
  refl,
  lacks_is (see c.args.view.now) c.args.memory.now Store _ _ c.args.place c.whole.ensures (some_width _ c.requires.width) c.requires.one ∙ (rw c.in-Err-Memory.field-0-is at c.in-Err-Memory.ensures.gives).0,
  unsure (see c.args.view.now) c.args.memory.now Store _ _ c.args.place (some_width _ c.requires.width) c.requires.one (rw c.in-Err-Memory.field-0-is at c.in-Err-Memory.ensures.gives).1,
)
