use Rattle.std.proofs.Common.{◌∙◌, ℕ, List, sym, ap, arith, refl}
use Rattle.std.specs.Str.{bytes_eq}
use Rattle.host_engine.proofs.PlaceLemmas.{found, not_here, nowhere}
use Rattle.host_engine.proofs.script_run.place_of.Goals as goal

pub loop-image-init : goal.loop-image-init
loop-image-init c = record { counted = refl; so_far = omega arith }

pub loop-image-preserved : goal.loop-image-preserved
loop-image-preserved c = record {
  counted = (let k = c.loop-image.invariant.counted in omega (arith, k));
  so_far = not_here c.args.images.now c.args.name.now c.loop-image.image-index c.image-item.result c.loop-image-test.true c.image-item.is c.loop-image.invariant.so_far (ap (λ (n : List ℕ). bytes_eq n c.args.name.now) (sym c.as_str.ensures) ∙ (sym c.eq.ensures ∙ c.if-eq.false));
}

pub returns-then-eq : goal.returns-then-eq
returns-then-eq c = c.loop-image.invariant.counted ∙ found c.args.images.now c.args.name.now c.loop-image.image-index c.image-item.result c.loop-image-test.true c.image-item.is c.loop-image.invariant.so_far (ap (λ (n : List ℕ). bytes_eq n c.args.name.now) (sym c.as_str.ensures) ∙ (sym c.eq.ensures ∙ c.if-eq.true))

pub returns : goal.returns
returns c = c.loop-image.invariant.counted ∙ nowhere c.args.images.now c.args.name.now c.loop-image.image-index (omega arith) c.loop-image.invariant.so_far
