use Rattle.std.proofs.Common.{◌≡◌, ℕ, drop}
use Rattle.std.specs.Prelude.{find}
use Rattle.guest_memory.specs.Pages.{bytes_of}
use Rattle.map_transition.specs.Fixes.{OnlyBytes, owns, fixed_by}
use Rattle.map_transition.proofs.fixing.fix_images.Given as goal

-- Each byte is right once the images that are left are moved.
abbrev pub invariant-loop-image : goal.invariant-loop-image
invariant-loop-image l = record {
  bytes : (at : ℕ) → fixed_by l.entries (find (owns at) (drop l.image-index l.kept)) at (bytes_of l.memory at) ≡ fixed_by l.entries (find (owns at) l.kept) at (bytes_of l.initial.memory at);
  rest : OnlyBytes l.initial.memory l.memory;
}
