use Rattle.std.proofs.Common.{◌≡◌, drop, length}
use Rattle.image_services.specs.Loads.{also_marked}
use Rattle.image_services.proofs.marks.mark_also.Given as goal

abbrev pub invariant-loop-page : goal.invariant-loop-page
invariant-loop-page l = (also_marked l.marks (drop l.page-index l.also) ≡ also_marked l.initial.marks l.also) × (length l.marks ≡ length l.initial.marks)
