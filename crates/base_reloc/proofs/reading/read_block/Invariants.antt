use Rattle.std.proofs.Common.{◌≡◌, ◌+◌, ◌-◌, ◌*◌, length}
use Rattle.base_reloc.specs.Blocks.{entries_at, entry_count}
use Rattle.base_reloc.specs.Kept.{sites_from}
use Rattle.base_reloc.specs.Marks.{AreMarked}
use Rattle.base_reloc.proofs.reading.read_block.Given as goal

-- the entries from here on give what all of them give
abbrev pub invariant-loop-i : goal.invariant-loop-i
invariant-loop-i l =
    let count = entry_count l.block.size in
    record {
      same : sites_from (length l.fn.marks) l.sites.items (l.index + l.i) (entries_at l.table l.block.page (l.at + 8 + 2 * l.i) (count - l.i)) ≡ sites_from (length l.fn.marks) l.fn.sites.items l.index (entries_at l.table l.block.page (l.at + 8) count);
      marked : AreMarked l.sites.items l.marks;
    }
