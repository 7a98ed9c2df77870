use Rattle.std.proofs.Common.{◌≡◌, ◌+◌, arith, ap, sym, ◌∙◌, Some}
use Rattle.std.specs.Prelude.{slice_get}
use Rattle.provenance_check.specs.Entries.{entry_passes}
use Rattle.provenance_check.proofs.Runs.{fails_from, none_from}
use Rattle.provenance_check.proofs.entries.check_entries.Goals as goal

pub returns-then-not-entry_passes : goal.returns-then-not-entry_passes
returns-then-not-entry_passes c =
    sym (fails_from (λ i. entry_passes c.args.nodes.now (slice_get c.args.entries.now i)) 0 _ c.loop-i.i c.loop-i-test.true
    (λ k l. let z : 0 + k ≡ k = omega arith in ap (λ i. entry_passes c.args.nodes.now (slice_get c.args.entries.now i)) z ∙ c.loop-i.invariant k l)
    (let z : 0 + c.loop-i.i ≡ c.loop-i.i = omega arith in ap (λ i. entry_passes c.args.nodes.now (slice_get c.args.entries.now i)) z ∙ (sym c.entry_passes.ensures ∙ c.if-not-entry_passes.true))
    ∙ (let z : 0 + c.loop-i.i ≡ c.loop-i.i = omega arith in ap Some z))

pub returns : goal.returns
returns c =
    sym (none_from (λ i. entry_passes c.args.nodes.now (slice_get c.args.entries.now i)) 0 _
    (λ k l. let z : 0 + k ≡ k = omega arith in ap (λ i. entry_passes c.args.nodes.now (slice_get c.args.entries.now i)) z ∙ c.loop-i.invariant k (omega (arith, l, c.loop-i-test.false))))
