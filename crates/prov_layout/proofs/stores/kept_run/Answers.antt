use Rattle.std.proofs.Common.{sym, ◌≡◌, ◌-◌, ◌/◌, ◌∙◌, arith, true}
use Rattle.std.proofs.Math.Nat.{min-le_left}
use Rattle.prov_layout.specs.Pieces.{is_plain}
use Rattle.prov_layout.specs.Stores.{is_number}
use Rattle.prov_layout.proofs.Runs.{plain_keeps}
use Rattle.prov_layout.proofs.stores.kept_run.Goals as goal

pub returns-then-o-p-clause-keeps : goal.returns-then-o-p-clause-keeps
returns-then-o-p-clause-keeps c = λ i k.
    let class : is_plain c.in-Some.p.class ≡ true = sym c.is_plain.ensures ∙ c.if-is_plain.true in
    let number : is_number c.args.kind ≡ true = sym c.is_number.ensures ∙ c.if-is_number.true in
    plain_keeps c.args.pieces.now c.in-Some.p c.args.region c.args.o c.args.by c.args.width c.args.kind c.requires.order (sym c.in-Some.ensures.is) class number c.requires.some
    (omega (arith, c.if-p-width.true, c.if-o-p.true, c.if-p-o.true)) i (omega (arith, k, c.min.ensures, min-le_left ((c.in-Some.p.len - c.args.width - (c.args.o - c.in-Some.p.at)) / c.args.by) (c.args.left - 1)))
