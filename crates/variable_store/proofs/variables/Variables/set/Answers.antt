use Rattle.std.proofs.Common.{length, refl, sym, ◌∙◌}
use Rattle.variable_store.proofs.SetLemmas.{gives_refusal, refused, refusal_by}
use Rattle.variable_store.proofs.variables.Variables.set.Goals as goal

pub returns-in-Some : goal.returns-in-Some
returns-in-Some c =
    gives_refusal c.in-Some.refusal _ _ _ c.in-Some.ensures.known
    (refused c.args.self.now c.args.name.now c.args.vendor.now c.args.attributes c.args.bytes.now c.args.runtime c.in-Some.refusal
    (refusal_by c.args.self.now c.deref.result.now c.args.name.now c.args.vendor.now c.args.attributes (length c.args.bytes.now) c.args.runtime c.look-found.result.seen c.look-found.result.is_there (c.deref.ensures.value ∙ c.self.view_is) c.look-found.ensures.seen c.look-found.ensures.is_there ∙ sym c.in-Some.ensures.first)) refl

pub accept-requires-clause-free : goal.accept-requires-clause-free
accept-requires-clause-free c =
    refusal_by c.args.self.now c.deref.result.now c.args.name.now c.args.vendor.now c.args.attributes (length c.args.bytes.now) c.args.runtime c.look-found.result.seen c.look-found.result.is_there (c.deref.ensures.value ∙ c.self.view_is) c.look-found.ensures.seen c.look-found.ensures.is_there
    ∙ sym c.in-None.ensures.first
