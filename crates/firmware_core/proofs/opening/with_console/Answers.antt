use Rattle.firmware_core.proofs.ConsoleLemmas.{console_alone}
use Rattle.firmware_core.proofs.opening.with_console.Goals as goal

pub returns-in-Ok : goal.returns-in-Ok
returns-in-Ok c = console_alone c.args.layout.now _ _ _ c.new-protocols.ensures c.in-Ok.ensures
