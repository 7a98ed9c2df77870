use Rattle.std.proofs.Common.{◌≡◌, ◌++◌, take}
use Rattle.guest_build.specs.Relocations.{placed}
use Rattle.guest_build.proofs.relocation.place_all.Given as goal

abbrev pub invariant-loop-site : goal.invariant-loop-site
invariant-loop-site l = l.out.items ≡ l.fn.out.items ++ placed l.from (take l.site-index l.sites)
