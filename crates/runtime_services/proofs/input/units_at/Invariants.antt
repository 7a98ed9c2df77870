use Rattle.std.proofs.Common.{◌≡◌, ◌++◌, List, ℕ}
use Rattle.std.specs.Option.{option_map}
use Rattle.guest_memory.specs.Pages.{bytes_of}
use Rattle.address_view.specs.Windows.{see, seen_bytes}
use Rattle.runtime_services.specs.Inputs.{string_from, string_test}
use Rattle.runtime_services.proofs.input.units_at.Given as goal

-- the units so far, with those that are still to come, are the string's
abbrev pub invariant-loop-left : goal.invariant-loop-left
invariant-loop-left l = option_map (λ (rest : List ℕ). l.units.items ++ rest) (string_from (string_test l.written (see l.view) l.memory) (seen_bytes (see l.view) (bytes_of l.memory)) l.left l.here) ≡ string_from (string_test l.written (see l.view) l.memory) (seen_bytes (see l.view) (bytes_of l.memory)) 4096 l.at

abbrev pub decreases-loop-left : goal.decreases-loop-left
decreases-loop-left l = l.left
