use Rattle.std.proofs.Common.{◌≡◌, ◌-◌, ◌++◌, List, ℕ}
use Rattle.std.specs.Option.{option_map}
use Rattle.console_services.specs.Strings.{string_at, SeenFrom}
use Rattle.console_services.proofs.text.string_at.Given as goal

-- the units so far, with those that are still to come, are the string's
abbrev pub invariant-loop-i : goal.invariant-loop-i
invariant-loop-i l = record {
  rest : option_map (λ (rest : List ℕ). l.units.items ++ rest) (string_at (4096 - l.i) l.view l.memory l.here) ≡ string_at 4096 l.view l.memory l.at;
  part : SeenFrom l.view l.memory l.here l.part;
}
