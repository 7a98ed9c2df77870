use Rattle.std.proofs.Common.{◌≡◌, ◌+◌, drop, Some}
use Rattle.std.specs.List.{prefix_len}
use Rattle.guest_build.specs.Relocations.{is_on}
use Rattle.guest_build.proofs.relocation.on_page.Given as goal

abbrev pub invariant-loop-i : goal.invariant-loop-i
invariant-loop-i l = l.i + prefix_len (is_on (Some l.page)) (drop l.i l.sites) ≡ prefix_len (is_on (Some l.page)) l.sites
