use Rattle.guest_build.specs.Views.{places_in, sections_of}
use Rattle.guest_build.proofs.MeasureLemmas.{put_keeps}
use Rattle.guest_build.proofs.sections.Sections.add.Goals as goal

pub is_large-requires : goal.is_large-requires
is_large-requires c = put_keeps c.args.measure.now (sections_of c.args.self.now) (sections_of c.put.new.self) c.args.line.now.statement c.requires c.args.origins.now (places_in c.args.labels.now) c.in_ok-put.ensures
