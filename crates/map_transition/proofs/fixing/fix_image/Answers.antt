use Rattle.std.proofs.Common.{subst, sym, ap, ◌∙◌, List}
use Rattle.std.specs.List.{AllPairs}
use Rattle.base_reloc.specs.declared.site.Site.{Site}
use Rattle.base_reloc.specs.Sites.{AreApart}
use Rattle.map_faults.specs.Grounds.{Kept}
use Rattle.map_transition.proofs.fixing.fix_image.Goals as goal

pub fix_sites-requires-clause-apart : goal.fix_sites-requires-clause-apart
fix_sites-requires-clause-apart c = subst (λ (sites : List Site). AllPairs AreApart sites) (sym (ap (λ (k : Kept). k.sites) c.image.view_is) ∙ sym c.as_slice.ensures.value) c.requires.sites.apart
