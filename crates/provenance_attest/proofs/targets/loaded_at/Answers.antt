use Rattle.std.proofs.Common.{◌≡◌, ℕ, arith, drop, length, List, [], ◌∷◌, Option, None}
use Rattle.base_reloc.specs.declared.site.Site.{Site}
use Rattle.provenance_tables.specs.Sites.{loaded_at}
use Rattle.provenance_attest.proofs.targets.loaded_at.Goals as goal

none_left : (o : ℕ) (sites : List Site) (rest : List ℕ) (found : Option ℕ) → length rest ≡ 0 → loaded_at o sites rest ≡ found → None ≡ found
unfolding loaded_at
none_left o [] rest found e h = h
none_left o (site ∷ sites) [] found e h = h
none_left o (site ∷ sites) (word ∷ rest) found e h = absurd (omega (arith, e))

pub returns-in-None : goal.returns-in-None
returns-in-None c = none_left c.args.o (drop c.loop-site.site-index c.args.sites.now) c.loop-site.rest.now _ c.in-None.ensures.cases c.loop-site.invariant
