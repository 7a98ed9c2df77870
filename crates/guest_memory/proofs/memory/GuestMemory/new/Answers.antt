use Rattle.std.proofs.Common.{arith, sym, ap, ◌∙◌, ◌≡◌, false, replicate}
use Rattle.std.proofs.lemmas.Grind.{common_steps}
use Rattle.guest_memory.specs.Lists.{count_true}
use Rattle.guest_memory.proofs.MarkLemmas.{count_none}
use Rattle.guest_memory.proofs.memory.GuestMemory.new.Goals as goal

pub invariant_of-result : goal.invariant_of-result
invariant_of-result c =
    let t : c.resize-3.new.self.items ≡ replicate c.args.pages false = grind (arith, common_steps) in
    let n = ap count_true t ∙ count_none c.args.pages in
    let r = c.requires in (
      record {
        base_low = r.low;
        base_even = r.even;
        pages_low = r.some;
        pages_high = r.few;
        end = r.end;
        bytes_long = grind (arith, common_steps);
        rights_long = grind (arith, common_steps);
        touched_long = grind (arith, common_steps);
        touched_few = omega (arith, n);
      },
      sym n,
    )
