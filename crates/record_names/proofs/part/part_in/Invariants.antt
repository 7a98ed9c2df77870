use Rattle.std.proofs.Common.{◌≡◌, drop}
use Rattle.record_names.specs.Parts.{part_in}
use Rattle.record_names.proofs.part.part_in.Given as goal

abbrev pub invariant-loop-part : goal.invariant-loop-part
invariant-loop-part l = part_in (drop l.part-index l.parts) l.word ≡ part_in l.parts l.word
