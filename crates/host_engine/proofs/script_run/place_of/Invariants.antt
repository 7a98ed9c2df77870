use Rattle.std.proofs.Common.{◌≡◌, ◌+◌, drop}
use Rattle.host_engine.specs.ScriptRuns.{place_of}
use Rattle.host_engine.proofs.script_run.place_of.Given as goal

abbrev pub invariant-loop-image : goal.invariant-loop-image
invariant-loop-image l = record {
  counted : l.place ≡ l.image-index;
  so_far : l.image-index + place_of (drop l.image-index l.images) l.name ≡ place_of l.images l.name;
}
