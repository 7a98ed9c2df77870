use Rattle.frame_arena.proofs.KeptLemmas.{kept_none}
use Rattle.frame_arena.proofs.SeenLemmas.{new_none}
use Rattle.frame_arena.proofs.arena.Arena.new.Goals as goal

pub invariant_of-result : goal.invariant_of-result
invariant_of-result c =
    (kept_none c.args.limit _ _ c.requires.high c.in_ok-with_capacity.ensures.items c.in_ok-with_capacity-2.ensures.items, c.in_ok-with_capacity.ensures.capacity, c.in_ok-with_capacity-2.ensures.capacity)

pub returns : goal.returns
returns c = new_none c.args.limit _ _ c.in_ok-with_capacity.ensures.items
