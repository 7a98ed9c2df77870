use Rattle.std.proofs.Common.{◌≡◌, drop}
use Rattle.provenance_tables.specs.Sites.{loaded_at}
use Rattle.provenance_attest.proofs.targets.loaded_at.Given as goal

abbrev pub invariant-loop-site : goal.invariant-loop-site
invariant-loop-site l = loaded_at l.o (drop l.site-index l.sites) l.rest ≡ loaded_at l.o l.sites l.words
