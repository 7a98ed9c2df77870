use Rattle.std.proofs.Common.{arith, refl, sym, ◌∙◌, ◌≡◌, length}
use Rattle.protocol_db.proofs.AllLemmas.{all_full, nothing_installed}
use Rattle.protocol_db.proofs.protocols.Protocols.install_all.Goals as goal

pub returns-then-is_empty : goal.returns-then-is_empty
returns-then-is_empty c =
    let none : length c.args.pairs.now ≡ 0 = grind (arith, c.is_empty.ensures, c.if-is_empty.true) in
    nothing_installed c.args.self.now c.args.handle c.args.pairs.now c.new-events.result.items none c.new-events.ensures.items

pub returns-in-None : goal.returns-in-None
returns-in-None c = (all_full c.args.self.now c.args.handle c.args.pairs.now (grind (arith, c.is_empty.ensures, c.if-is_empty.false)) (sym c.target.ensures ∙ c.in-None.is), refl)
