use Rattle.std.proofs.Common.{◌≡◌, ◌<◌, ◌+◌, ◌*◌, ℕ, true}
use Rattle.std.specs.Prelude.{if◌then◌else◌}
use Rattle.rv_step.specs.declared.bus.Access.TheVariants as access
use Rattle.provenance_check.specs.Accesses.{is_allowed}
use Rattle.provenance_check.specs.Seen.{seen}
use Rattle.provenance_check.proofs.accesses.each_allowed.Given as goal

abbrev pub invariant-loop-k : goal.invariant-loop-k
invariant-loop-k g l = (i : ℕ) → i < l.k → is_allowed (seen l.ground) (g.R.PageRights.allows l.rights (if l.write then access.Store else access.Load)) l.region l.width (l.s.lo + i * l.s.by) ≡ true
