use Rattle.std.proofs.Common.{map}
use Rattle.guest_build.specs.Views.{places_in}
use Rattle.guest_build.proofs.LineLemmas.{image_is}
use Rattle.guest_build.proofs.assembly.image_in.Goals as goal

pub returns-in-Ok : goal.returns-in-Ok
returns-in-Ok c =
    rw (image_is (map (λ line. line.now) c.args.lines.now) c.in-Ok.survey.extent c.origins_of-origins.result (places_in c.in-Ok.survey.labels) c.in-Ok.ensures.extent c.origins_of-origins.ensures c.in-Ok.ensures.labels) at c.image_from.ensures
