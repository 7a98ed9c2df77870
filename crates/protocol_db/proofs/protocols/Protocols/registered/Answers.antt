use Rattle.std.proofs.Common.{◌≡◌, ◌∙◌, rules}
use Rattle.std.specs.List.{find}
use Rattle.std.specs.Option.{is_some}
use Rattle.protocol_db.specs.Registrations.{is_numbered}
use Rattle.protocol_db.proofs.CallLemmas.{found_any}
use Rattle.protocol_db.proofs.protocols.Protocols.registered.Goals as goal

pub returns : goal.returns
returns c =
    let there : c.is_some.result ≡ is_some (find (is_numbered c.args.registration) c.args.self.now.registrations) = search rules in
    there ∙ found_any (is_numbered c.args.registration) c.args.self.now.registrations
