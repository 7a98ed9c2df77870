use Rattle.std.proofs.Common.{◌≡◌, take, replicate}
use Rattle.guest_memory.proofs.parts.fill_all.Given as goal

abbrev pub invariant-loop-item : goal.invariant-loop-item
invariant-loop-item g l = take l.item-index l.items ≡ replicate l.item-index l.value
