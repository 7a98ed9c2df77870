use Rattle.std.proofs.Common.{arith, sym}
use Rattle.std.specs.Prelude.{is_none}
use Rattle.prov_layout.specs.Pieces.{piece_at}
use Rattle.provenance_check.proofs.Runs.{all_from, one_from}
use Rattle.provenance_check.proofs.reading.is_clear.Goals as goal

pub returns-then-is_some : goal.returns-then-is_some
returns-then-is_some c = sym (one_from (λ i. is_none (piece_at c.args.sites.now 0 i)) c.args.o c.args.len c.loop-i.i c.loop-i-test.true (grind arith))

pub returns : goal.returns
returns c = sym (all_from (λ i. is_none (piece_at c.args.sites.now 0 i)) c.args.o c.args.len (λ i h. c.loop-i.invariant i (omega (arith, h, c.loop-i-test.false))))
