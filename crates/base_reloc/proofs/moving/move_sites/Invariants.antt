use Rattle.std.proofs.Common.{◌≡◌, ℕ, ◌<◌, length, get_or, drop, true}
use Rattle.std.specs.List.{list_any}
use Rattle.base_reloc.specs.Sites.{covers}
use Rattle.base_reloc.specs.Moved.{moved_byte}
use Rattle.base_reloc.proofs.MoveLemmas.{moved_over, Separate}
use Rattle.base_reloc.proofs.moving.move_sites.Given as goal

-- Each byte is right once the sites that are left are moved, and theirs are as they were.
abbrev pub invariant-loop-site : goal.invariant-loop-site
invariant-loop-site l = record {
  over : (at : ℕ) → at < length l.bytes → moved_over l.fn.bytes l.displacement at (drop l.site-index l.sites) (get_or l.bytes at 0) ≡ moved_byte l.fn.bytes l.sites l.displacement at;
  kept : (at : ℕ) → at < length l.bytes → list_any (covers at) (drop l.site-index l.sites) ≡ true → get_or l.bytes at 0 ≡ get_or l.fn.bytes at 0;
  apart : Separate (drop l.site-index l.sites);
}
