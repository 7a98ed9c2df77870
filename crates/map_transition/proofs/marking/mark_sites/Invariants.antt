use Rattle.std.proofs.Common.{◌≡◌, ◌++◌, take, drop}
use Rattle.guest_memory.specs.Pages.{bytes_of}
use Rattle.map_transition.specs.Fixes.{marks_of}
use Rattle.map_transition.proofs.marking.mark_sites.Given as goal

-- The marks so far, and those of the sites that are left, are those of all.
abbrev pub invariant-loop-i : goal.invariant-loop-i
invariant-loop-i l = take l.i l.marks ++ marks_of (bytes_of l.memory) l.base (drop l.i l.sites) (drop l.i l.words) ≡ marks_of (bytes_of l.memory) l.base l.sites l.words
