use Rattle.std.proofs.Common.{List, sym, subst, arith}
use Rattle.pool_alloc.specs.Pool.{BlockPage, Together}
use Rattle.firmware_core.proofs.firmware.Firmware.new.Goals as goal

pub invariant_of-result-2 : goal.invariant_of-result-2
invariant_of-result-2 c = (
  record {
    runtime = c.in_ok-runtime.ensures.belongs;
    pool = subst (λ (p : List BlockPage). Together p c.in_ok-runtime.runtime.pages) (sym c.new-3.ensures) tt;
    clock = omega arith;
  },
  c.none.ensures _ _,
)
