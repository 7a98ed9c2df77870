use Rattle.std.proofs.Common.{◌≡◌, ℕ, drop}
use Rattle.guest_memory.specs.Pages.{bytes_of}
use Rattle.map_transition.specs.Fixes.{OnlyBytes, fixed_byte}
use Rattle.map_transition.proofs.fixing.fix_sites.Given as goal

-- Each byte is right once the sites that are left are moved.
abbrev pub invariant-loop-i : goal.invariant-loop-i
invariant-loop-i l = record {
  bytes : (at : ℕ) → fixed_byte l.base l.by (drop l.i l.sites) (drop l.i l.words) (drop l.i l.marks) at (bytes_of l.memory at) ≡ fixed_byte l.base l.by l.sites l.words l.marks at (bytes_of l.initial.memory at);
  rest : OnlyBytes l.initial.memory l.memory;
}
