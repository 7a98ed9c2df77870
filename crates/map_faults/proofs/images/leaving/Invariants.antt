use Rattle.std.proofs.Common.{◌≡◌, drop}
use Rattle.map_faults.specs.Grounds.{WordsFit}
use Rattle.map_faults.specs.Faults.{leaving}
use Rattle.map_faults.proofs.images.leaving.Given as goal

abbrev pub invariant-loop-number : goal.invariant-loop-number
invariant-loop-number l = (leaving l.by l.number (drop l.number l.sites) l.rest ≡ leaving l.by 0 l.sites l.words) × WordsFit (drop l.number l.sites) l.rest
