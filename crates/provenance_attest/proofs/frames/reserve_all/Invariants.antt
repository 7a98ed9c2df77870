use Rattle.std.proofs.Common.{◌≡◌, drop}
use Rattle.guest_memory.specs.Changes.{TouchedBesides}
use Rattle.provenance_attest.specs.Frames.{AreInRam, with_regions}
use Rattle.provenance_attest.proofs.frames.reserve_all.Given as goal

abbrev pub invariant-loop-start : goal.invariant-loop-start
invariant-loop-start l =
    (with_regions l.base l.memory.touched (drop l.start-index l.starts) l.rest ≡ with_regions l.base l.initial.memory.touched l.starts l.lens)
    × TouchedBesides l.initial.memory l.memory
    × AreInRam l.base l.memory.pages (drop l.start-index l.starts) l.rest
