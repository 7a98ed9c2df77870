use Rattle.std.proofs.Common.{◌≡◌, drop, length}
use Rattle.provenance_attest.specs.Frames.{AreInRam, with_regions}
use Rattle.provenance_attest.proofs.frames.mark_regions.Given as goal

abbrev pub invariant-loop-start : goal.invariant-loop-start
invariant-loop-start l =
    (with_regions l.base l.marks (drop l.start-index l.starts) l.rest ≡ with_regions l.base l.initial.marks l.starts l.lens)
    × (length l.marks ≡ length l.initial.marks)
    × AreInRam l.base l.memory.pages (drop l.start-index l.starts) l.rest
