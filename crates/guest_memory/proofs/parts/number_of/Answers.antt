use Rattle.std.proofs.Common.{subst, ℕ, ◌<◌, ◌^◌, length, sym, arith}
use Rattle.guest_memory.proofs.NumberLemmas.{below}
use Rattle.guest_memory.proofs.parts.number_of.Goals as goal

pub returns-clause-below : goal.returns-clause-below
returns-clause-below c = subst (λ (n : ℕ). n < 256 ^ length c.args.bytes.now) (sym c.number_in.ensures) (below c.args.bytes.now (λ k h. omega (arith, c.type_inv.bytes k)))
