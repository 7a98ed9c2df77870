use Rattle.std.proofs.Common.{◌≡◌, ◌<◌, ◌^◌, drop, take, All}
use Rattle.base_reloc.specs.declared.site.Site.{Site}
use Rattle.base_reloc.specs.Moved.{first_leaving}
use Rattle.base_reloc.proofs.moving.find_leaving.Given as goal

-- The sites from here on give what all of them give. Those before begin below 2^32, as each number of 32 bits.
abbrev pub invariant-loop-i : goal.invariant-loop-i
invariant-loop-i l = record {
  same : first_leaving l.bytes l.displacement l.i (drop l.i l.sites) ≡ first_leaving l.bytes l.displacement 0 l.sites;
  below : All (λ (site : Site). site.at < 2 ^ 32) (take l.i l.sites);
}
