use Rattle.std.proofs.Common.{◌∙◌, List, length, ap, sym, subst}
use Rattle.host_script.specs.Forms.{IsCall}
use Rattle.host_script.specs.declared.script.ImageSpec.{ImageSpec}
use Rattle.host_script.specs.Plain.{Plain}
use Rattle.host_engine.proofs.PlaceLemmas.{is_handed, place_below}
use Rattle.host_engine.proofs.script_run.make_step.Goals as goal

pub file_at-file-requires : goal.file_at-file-requires
file_at-file-requires g c =
    is_handed (λ file. file.bytes.items) c.as_slice.result.now c.args.script.now.image c.as_str.result.now c.place_of-place.result c.inputs.inside.images.items c.as_slice-in-Load.result.now c.inputs.inside.store c.args.inputs.now (rw c.as_str.ensures (rw c.in-Load.is at c.requires.known)) c.place_of-place.ensures
    (c.as_slice.ensures.value ∙ ap (λ (s : Plain). s.image) c.script.view_is) c.as_slice-in-Load.ensures.value c.inputs.view_is c.requires.many

pub load_image-requires : goal.load_image-requires
load_image-requires g c = record {
  known = place_below c.as_slice.result.now c.args.script.now.image c.as_str.result.now c.place_of-place.result _ (rw c.as_str.ensures (rw c.in-Load.is at c.requires.known)) c.place_of-place.ensures
      (c.as_slice.ensures.value ∙ ap (λ (s : Plain). s.image) c.script.view_is) c.requires.handles;
}

pub start-requires : goal.start-requires
start-requires g c = record {
  known = place_below c.as_slice-in-Start.result.now c.args.script.now.image c.as_str-in-Start.result.now c.place_of-place-in-Start.result _ (rw c.as_str-in-Start.ensures (rw c.in-Start.is at c.requires.known).0) c.place_of-place-in-Start.ensures
      (c.as_slice-in-Start.ensures.value ∙ ap (λ (s : Plain). s.image) c.script.view_is) c.requires.handles;
}

pub unload_image-requires : goal.unload_image-requires
unload_image-requires g c = record {
  known = place_below c.as_slice-in-Unload.result.now c.args.script.now.image c.as_str-in-Unload.result.now c.place_of-place-in-Unload.result _ (rw c.as_str-in-Unload.ensures (rw c.in-Unload.is at c.requires.known)) c.place_of-place-in-Unload.ensures
      (c.as_slice-in-Unload.ensures.value ∙ ap (λ (s : Plain). s.image) c.script.view_is) c.requires.handles;
}

pub exit_boot-requires : goal.exit_boot-requires
exit_boot-requires g c = record {
  known = place_below c.as_slice-in-ExitBoot.result.now c.args.script.now.image c.as_str-in-ExitBoot.result.now c.place_of-place-in-ExitBoot.result _ (rw c.as_str-in-ExitBoot.ensures (rw c.in-ExitBoot.is at c.requires.known)) c.place_of-place-in-ExitBoot.ensures
      (c.as_slice-in-ExitBoot.ensures.value ∙ ap (λ (s : Plain). s.image) c.script.view_is) c.requires.handles;
}

pub call-requires : goal.call-requires
call-requires g c =
    let same = c.as_slice-in-Call.ensures.value ∙ ap (λ (s : Plain). s.image) c.script.view_is in
    record {
      handles = c.requires.handles ∙ ap length (sym same);
      known = subst (λ (images : List ImageSpec). IsCall images c.in-Call.step) (sym same) (rw c.in-Call.is at c.requires.known);
    }
