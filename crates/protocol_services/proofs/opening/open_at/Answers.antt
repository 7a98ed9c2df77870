use Rattle.address_view.specs.Windows.{see}
use Rattle.protocol_services.proofs.RefusalLemmas.{open_refused}
use Rattle.protocol_services.proofs.opening.open_at.Goals as goal

pub returns-in-Err-clause-ok : goal.returns-in-Err-clause-ok
returns-in-Err-clause-ok c =
    open_refused c.refuse_open.result (see c.args.view.now) c.args.memory.now c.refuse_open.new.memory c.args.at c.args.request.now c.args.protocols.now c.open_protocol.new.self _ c.in-Err.refusal
    c.refuse_open.ensures.other c.in-Err.ensures c.refuse_open.ensures.ok
