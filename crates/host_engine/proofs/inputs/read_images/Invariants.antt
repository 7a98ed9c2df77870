use Rattle.std.proofs.Common.{◌≡◌, Ok, drop, length, map}
use Rattle.host_engine.specs.Commands.{images_read, images_judged, script_plan}
use Rattle.host_engine.specs.Plans.{Leads}
use Rattle.host_engine.specs.Stages.{Onward, made}
use Rattle.host_engine.proofs.inputs.read_images.Given as goal

abbrev pub invariant-loop-image : goal.invariant-loop-image
invariant-loop-image g l = record {
  leads : Leads (g.F.Files.told l.fn.files) (script_plan (Ok l.script)) (images_read (drop l.image-index l.images) (map made l.codes.items) (images_judged l.script));
  many : length l.codes.items ≡ l.image-index;
  onward : Onward (g.F.Files.told l.fn.files) (g.F.Files.told l.files) (g.F.Files.faults l.fn.files) (g.F.Files.faults l.files) (g.F.Files.longs l.fn.files) (g.F.Files.longs l.files);
}
