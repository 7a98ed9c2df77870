use Rattle.std.proofs.Common.{◌≡◌, ◌+◌, ◌%◌, ◌^◌, ◌++◌, List, length, drop}
use Rattle.guest_build.specs.Relocations.{placed, table_behind}
use Rattle.guest_build.specs.declared.relocation.Site.{Site}
use Rattle.guest_build.proofs.relocation.Run.with_all.Given as goal

abbrev pub invariant-loop-site : goal.invariant-loop-site
invariant-loop-site l = (others : List Site) → (l.run.len + length (table_behind l.run.page l.run.odd (placed l.from (drop l.site-index l.sites) ++ others))) % 2 ^ 64 ≡ (l.fn.self.len + length (table_behind l.fn.self.page l.fn.self.odd (placed l.from l.sites ++ others))) % 2 ^ 64
