use Rattle.std.proofs.Common.{◌≡◌, ◌∙◌, sym, ap, subst, [], Ok, ◌∷◌, ◌+◌, length, length-append, arith, inl, refl}
use Rattle.host_script.specs.Forms.{AreImages}
use Rattle.host_script.specs.Plain.{Plain}
use Rattle.host_engine.specs.Commands.{script_plan}
use Rattle.host_engine.proofs.GivesLemmas.{onward_past}
use Rattle.host_engine.proofs.InputLemmas.{origin_at, takes, begins, had_there, refused_there, all_read}
use Rattle.host_engine.proofs.inputs.read_images.Goals as goal

pub code_of-requires : goal.code_of-requires
code_of-requires g c =
    let same : c.as_slice-images.result.now ≡ c.args.script.now.image = c.as_slice-images.ensures.value ∙ ap (λ (s : Plain). s.image) c.script.view_is in
    origin_at [] c.as_slice-images.result.now c.loop-image.image-index c.image-item.result (subst (AreImages []) (sym same) c.requires) c.loop-image-test.true c.image-item.is

pub loop-image-init : goal.loop-image-init
loop-image-init g c = record {
  leads = rw c.new-codes.ensures.items (begins (g.F.Files.told c.args.files.now) c.args.script.now c.as_slice-images.result.now (c.as_slice-images.ensures.value ∙ ap (λ (s : Plain). s.image) c.script.view_is));
  many = rw c.new-codes.ensures.items refl;
  onward = record { told_same = refl; faults_up = omega arith; longs_up = omega arith };
}

pub loop-image-preserved : goal.loop-image-preserved
loop-image-preserved g c =
    let pushed = rw c.if-is_err.ensures.negation at c.push.ensures.items in
    let long : length c.push.new.self.items ≡ length c.loop-image.codes.items + 1 = ap length pushed ∙ length-append c.loop-image.codes.items (c.in-Ok.code ∷ []) in
    let many = c.loop-image.invariant.many in record {
      leads = had_there (g.F.Files.told c.args.files.now) (g.F.Files.told c.loop-image.files) c.args.script.now (script_plan (Ok c.args.script.now)) c.as_slice-images.result.now c.loop-image.image-index c.image-item.result c.loop-image.codes.items c.loop-image-test.true c.image-item.is c.loop-image.invariant.leads c.push.new.self.items c.in-Ok.code c.as_str.result.now c.loop-image.invariant.onward.told_same pushed c.as_str.ensures c.in-Ok.ensures.had;
      many = omega (arith, long, many);
      onward = onward_past _ _ _ _ _ _ _ _ _ c.loop-image.invariant.onward c.in-Ok.ensures.onward;
    }

pub returns-in-Err-clause-refused : goal.returns-in-Err-clause-refused
returns-in-Err-clause-refused g c = refused_there (g.F.Files.told c.args.files.now) (g.F.Files.told c.loop-image.files) c.args.script.now (script_plan (Ok c.args.script.now)) c.as_slice-images.result.now c.loop-image.image-index c.image-item.result c.loop-image.codes.items c.loop-image-test.true c.image-item.is c.loop-image.invariant.leads c.in-Err.refusal _ _ _ _ _ _ c.as_str.result.now c.loop-image.invariant.onward c.as_str.ensures c.in-Err.ensures.refused

pub returns-in-Err-clause-onward : goal.returns-in-Err-clause-onward
returns-in-Err-clause-onward g c = onward_past _ _ _ _ _ _ _ _ _ c.loop-image.invariant.onward c.in-Err.ensures.onward

pub returns-then-is_err-clause-refused : goal.returns-then-is_err-clause-refused
returns-then-is_err-clause-refused g c = λ told' out p. (takes c.args.script.now, inl refl)

pub returns-then-is_err-clause-onward : goal.returns-then-is_err-clause-onward
returns-then-is_err-clause-onward g c = onward_past _ _ _ _ _ _ _ _ _ c.loop-image.invariant.onward c.in-Ok.ensures.onward

pub returns-clause-had : goal.returns-clause-had
returns-clause-had g c = all_read (g.F.Files.told c.args.files.now) c.args.script.now (script_plan (Ok c.args.script.now)) c.as_slice-images.result.now c.loop-image.image-index c.loop-image.codes.items (omega arith) c.loop-image.invariant.leads

pub returns-clause-many : goal.returns-clause-many
returns-clause-many g c =
    let same : c.as_slice-images.result.now ≡ c.args.script.now.image = c.as_slice-images.ensures.value ∙ ap (λ (s : Plain). s.image) c.script.view_is in
    let many = c.loop-image.invariant.many in
    let long = ap length same in
    omega (arith, many, long)
