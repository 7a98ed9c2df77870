use Rattle.image_dump.proofs.CodeLemmas.{code_on, within_drop}
use Rattle.image_dump.proofs.code.push_lines.Goals as goal

pub returns-then-len-ge-PIECE-clause-text : goal.returns-then-len-ge-PIECE-clause-text
returns-then-len-ge-PIECE-clause-text c =
    code_on _ c.loop-count.text.items c.push_front.new.text.items c.args.at c.loop-count.count c.in_ok-count.field-0 c.args.code.now c.behind.result.now c.behind.ensures c.in_ok-count.ensures.len c.in_ok-count.ensures.some c.in_ok-count.ensures.within c.loop-count.invariant.text c.in_ok-count.ensures.text

pub loop-count-preserved : goal.loop-count-preserved
loop-count-preserved c = record {
  within = within_drop c.loop-count.count c.in_ok-count.field-0 c.args.code.now c.behind.result.now c.behind.ensures c.loop-count.invariant.within c.in_ok-count.ensures.within;
  text = code_on _ c.loop-count.text.items c.push_front.new.text.items c.args.at c.loop-count.count c.in_ok-count.field-0 c.args.code.now c.behind.result.now c.behind.ensures c.in_ok-count.ensures.len c.in_ok-count.ensures.some c.in_ok-count.ensures.within c.loop-count.invariant.text c.in_ok-count.ensures.text;
}
