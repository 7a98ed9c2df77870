use Rattle.std.proofs.Common.{◌≡◌, ℕ, Option, Some, None, IfSome, ap, sym, ◌∙◌, arith, ◌+◌, ◌*◌, ◌%◌}
use Rattle.rv_decode.specs.Rows.{rows, word_of}
use Rattle.rv_decode.specs.Means.{decoded, first, Means}
use Rattle.rv_decode.specs.declared.insn.Insn.{Insn}
use Rattle.rv_decode.proofs.RowLemmas.{decoded_means, means_decoded}
use Rattle.rv_decode.proofs.decoder.decode.Goals as goal

-- what a result that is the reading has of the table
found : (half0 half1 : ℕ) (r : Option (Insn × ℕ)) → r ≡ decoded half0 half1 → IfSome r (λ x. Means half0 half1 x.0 x.1)
found half0 half1 None e = tt
found half0 half1 (Some x) e = decoded_means half0 half1 x.0 x.1 (sym e)

pub returns : goal.returns
unfolding decoded
returns c =
    let word : c.from.result + c.from-2.result * 65536 % 4294967296 ≡ word_of c.args.half0 c.args.half1 = omega arith in
    let e = c.find_in.ensures.first ∙ ap (first rows) word in
    record { registers = c.find_in.ensures.registers; exact = e; means = found _ _ _ e; only = λ insn len m. e ∙ means_decoded _ _ insn len m }
