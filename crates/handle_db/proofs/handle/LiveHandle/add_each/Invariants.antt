use Rattle.std.proofs.Common.{◌≡◌, length, take, drop}
use Rattle.std.specs.Prelude.{Ok}
use Rattle.std.specs.List.{fold}
use Rattle.handle_db.specs.Calls.{added}
use Rattle.handle_db.proofs.handle.LiveHandle.add_each.Given as goal

abbrev pub invariant-loop-pair : goal.invariant-loop-pair
invariant-loop-pair l = record {
  number : l.self.number ≡ l.fn.self.number;
  before : take (length l.fn.self.protocols) l.self.protocols ≡ l.fn.self.protocols;
  gives : fold added (Ok l.self.protocols) (drop l.pair-index l.pairs) ≡ fold added (Ok l.fn.self.protocols) l.pairs;
}
