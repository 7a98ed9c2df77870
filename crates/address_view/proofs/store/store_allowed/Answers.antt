use Rattle.address_view.specs.Windows.{see}
use Rattle.std.proofs.Common.{ap, ◌∙◌}
use Rattle.guest_memory.specs.Pages.{rights_at}
use Rattle.address_view.proofs.MemoryLemmas.{same_bytes, same_rights}
use Rattle.address_view.proofs.StoreLaws.{rights_store}
use Rattle.address_view.proofs.store.store_allowed.Goals as goal

pub returns-in-Ok-clause-rights : goal.returns-in-Ok-clause-rights
returns-in-Ok-clause-rights c = ap rights_at c.in-Ok.ensures.ok ∙ rights_store (see c.args.view.now) c.args.memory.now c.args.at _

pub returns-in-Err-clause-err : goal.returns-in-Err-clause-err
returns-in-Err-clause-err c = same_bytes c.args.memory.now _ c.in-Err.ensures.err.1.rest

pub returns-in-Err-clause-rights : goal.returns-in-Err-clause-rights
returns-in-Err-clause-rights c = same_rights c.args.memory.now _ c.in-Err.ensures.err.1.rest
