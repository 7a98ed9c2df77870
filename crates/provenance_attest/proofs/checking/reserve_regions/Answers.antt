use Rattle.std.proofs.Common.{◌∙◌, ap, sym}
use Rattle.virtual_map.specs.States.{Runtime}
use Rattle.prov_cert.specs.Cert.{Plain}
use Rattle.provenance_tables.specs.Regions.{kept_with, lens_of, starts_of}
use Rattle.provenance_attest.proofs.Judging.{regions_there}
use Rattle.provenance_attest.proofs.checking.reserve_regions.Goals as goal

pub reserve_these-requires-clause-ram : goal.reserve_these-requires-clause-ram
reserve_these-requires-clause-ram c =
    let own = c.as_slice-own.ensures.value ∙ ap (λ (p : Plain). p.regions) c.cert.view_is in
    regions_there c.args.state.now c.args.handle c.in-Some.image.now c.args.cert.now _ _ c.requires.whole c.requires.stands
    (ap (kept_with c.args.handle) (sym (c.as_slice.ensures.value ∙ ap (λ (r : Runtime). r.kept) c.state.view_is)) ∙ sym c.in-Some.ensures) c.map_is_map.ensures
    (c.as_slice-in-Some.ensures.value ∙ c.in_ok-starts-in-Some.ensures ∙ ap (starts_of c.args.state.now c.in-Some.image.now) own)
    (c.as_slice-in-Some-2.ensures.value ∙ c.in_ok-lens-in-Some.ensures ∙ ap (lens_of c.in-Some.image.now) own)
