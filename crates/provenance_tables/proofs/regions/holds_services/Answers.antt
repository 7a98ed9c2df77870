use Rattle.std.proofs.Common.{◌+◌, ◌*◌, arith, sym, ◌∙◌}
use Rattle.std.specs.Prelude.{◌==◌}
use Rattle.uh_base.specs.Bytes.{number_at}
use Rattle.guest_memory.specs.Pages.{bytes_of}
use Rattle.address_view.specs.Windows.{see, seen_bytes}
use Rattle.provenance_tables.specs.Regions.{address_of}
use Rattle.provenance_tables.proofs.Runs.{all_below, one_below}
use Rattle.provenance_tables.proofs.regions.holds_services.Goals as goal

pub returns-then-not-is_given : goal.returns-then-not-is_given
returns-then-not-is_given c = sym (one_below c.every_is_each.ensures.fails (λ i. number_at (seen_bytes (see c.args.view.now) (bytes_of c.args.memory.now)) (address_of c.args.starts.now 4 (280 + 8 * i)) 8 == address_of c.args.starts.now 5 (16 * (44 + i))) 14 c.loop-i.i c.loop-i-test.true (sym c.is_given.ensures ∙ c.if-not-is_given.true))

pub returns : goal.returns
returns c = sym (all_below c.every_is_each.ensures.passes (λ i. number_at (seen_bytes (see c.args.view.now) (bytes_of c.args.memory.now)) (address_of c.args.starts.now 4 (280 + 8 * i)) 8 == address_of c.args.starts.now 5 (16 * (44 + i))) 14 (λ i h. c.loop-i.invariant i (omega (arith, h, c.loop-i-test.false))))
