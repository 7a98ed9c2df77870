use Rattle.std.proofs.Common.{◌∙◌}
use Rattle.provenance_attest.proofs.Walks.{same_range}
use Rattle.provenance_attest.proofs.rights.SeenRightsPageRights.allowed.Goals as goal

pub returns : goal.returns
returns c = c.allowed.ensures ∙ same_range _ c.args.at c.args.len c.requires
