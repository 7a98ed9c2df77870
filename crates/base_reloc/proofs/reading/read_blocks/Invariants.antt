use Rattle.std.proofs.Common.{◌≡◌, ◌≤◌, ◌-◌, ◌*◌, length}
use Rattle.base_reloc.specs.Blocks.{parts_from, parts_of}
use Rattle.base_reloc.specs.Kept.{sites_from}
use Rattle.base_reloc.specs.Marks.{AreMarked}
use Rattle.base_reloc.proofs.reading.read_blocks.Given as goal

-- the blocks from here on give what all of them give
abbrev pub invariant-loop-at : goal.invariant-loop-at
invariant-loop-at l = record {
  same : sites_from (length l.fn.marks) l.sites.items l.entries (parts_from l.table l.at l.number) ≡ sites_from (length l.fn.marks) l.fn.sites.items 0 (parts_of l.table);
  marked : AreMarked l.sites.items l.marks;
  within : l.at ≤ length l.table;
  few_blocks : l.number ≤ l.at;
  few_entries : 2 * l.entries ≤ l.at;
}

abbrev pub decreases-loop-at : goal.decreases-loop-at
decreases-loop-at l = length l.table - l.at
