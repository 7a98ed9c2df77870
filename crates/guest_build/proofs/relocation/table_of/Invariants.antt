use Rattle.std.proofs.Common.{◌≡◌, ◌++◌, drop}
use Rattle.guest_build.specs.Relocations.{table_behind, table_of}
use Rattle.guest_build.proofs.relocation.table_of.Given as goal

abbrev pub invariant-loop-i : goal.invariant-loop-i
invariant-loop-i l = l.out.items ++ table_behind l.block.page l.block.odd (drop l.i l.sites) ≡ table_of l.sites
