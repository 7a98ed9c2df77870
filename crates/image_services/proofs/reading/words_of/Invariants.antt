use Rattle.std.proofs.Common.{◌≡◌, take}
use Rattle.std.specs.Prelude.{map}
use Rattle.base_reloc.specs.declared.site.Site.{Site}
use Rattle.base_reloc.specs.Moved.{word_at}
use Rattle.image_services.proofs.reading.words_of.Given as goal

abbrev pub invariant-loop-site : goal.invariant-loop-site
invariant-loop-site l = l.words.items ≡ map (λ (site : Site). word_at site.kind l.bytes site.at) (take l.site-index l.sites)
