use Rattle.std.proofs.Common.{◌≡◌, ◌<◌, ◌≤◌, ◌+◌, ◌-◌, ◌*◌, ℕ, true}
use Rattle.prov_layout.specs.Offsets.{count}
use Rattle.prov_layout.specs.Pieces.{piece_at}
use Rattle.prov_layout.specs.Stores.{store_keeps}
use Rattle.prov_layout.proofs.stores.each_keeps.Given as goal

abbrev pub invariant-loop-done : goal.invariant-loop-done
invariant-loop-done l = ((i : ℕ) → i < l.done → store_keeps (piece_at l.pieces l.region) (l.s.lo + i * l.s.by) l.width l.kind ≡ true) × (l.done ≤ count l.s)

abbrev pub decreases-loop-done : goal.decreases-loop-done
decreases-loop-done l = count l.s - l.done
