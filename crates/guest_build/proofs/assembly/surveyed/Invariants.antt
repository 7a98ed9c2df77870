use Rattle.std.proofs.Common.{◌≡◌, ℕ, ◌+◌, List, map, drop}
use Rattle.guest_build.specs.Places.{extent_of, nothing_yet, found}
use Rattle.guest_build.specs.Views.{places_in, or_else}
use Rattle.guest_build.proofs.assembly.surveyed.Given as goal

abbrev pub invariant-loop-i : goal.invariant-loop-i
invariant-loop-i l = record {
  extent : extent_of l.survey.extent (map (λ line. line.now) (drop l.i l.lines)) ≡ extent_of nothing_yet (map (λ line. line.now) l.lines);
  labels : (name : List ℕ) → or_else (places_in l.survey.labels name) (found (l.i + 1) l.survey.extent (map (λ line. line.now) (drop l.i l.lines)) name) ≡ found 1 nothing_yet (map (λ line. line.now) l.lines) name;
}
