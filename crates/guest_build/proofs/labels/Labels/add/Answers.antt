use Rattle.std.proofs.Common.{sym, ◌∙◌}
use Rattle.guest_build.proofs.LabelLemmas.{added}
use Rattle.guest_build.proofs.labels.Labels.add.Goals as goal

pub returns : goal.returns
returns c = λ other. added c.args.self.now.places c.insert.new.self c.args.name.now _ c.args.place c.in_ok-key.ensures.ok (sym c.contains_key.ensures ∙ c.if-contains_key.false) c.in_ok-insert.ensures.updates other
