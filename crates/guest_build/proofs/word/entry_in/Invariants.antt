use Rattle.std.proofs.Common.{◌≡◌, map, drop}
use Rattle.guest_build.specs.Words.{entry_in}
use Rattle.guest_build.proofs.word.entry_in.Given as goal

abbrev pub invariant-loop-entry : goal.invariant-loop-entry
invariant-loop-entry l = entry_in (map (λ entry. (entry.0.now, entry.1)) (drop l.entry-index l.entries)) l.text ≡ entry_in (map (λ entry. (entry.0.now, entry.1)) l.entries) l.text
