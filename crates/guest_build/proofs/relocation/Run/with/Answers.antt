use Rattle.std.proofs.Common.{sym, ◌∙◌}
use Rattle.guest_build.proofs.TableLemmas.{run_on, run_off}
use Rattle.guest_build.proofs.relocation.Run.with.Goals as goal

pub returns-then-is_on : goal.returns-then-is_on
returns-then-is_on c = λ others. run_on c.args.self.len c.args.self.page c.args.self.odd c.args.site others (sym c.is_on.ensures ∙ c.if-is_on.true)

pub returns : goal.returns
returns c = λ others. rw c.padding_len.ensures (run_off c.args.self.len c.args.self.page c.args.self.odd c.args.site others (sym c.is_on.ensures ∙ c.if-is_on.false))
