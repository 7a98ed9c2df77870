use Rattle.image_dump.proofs.TextLemmas.{instruction_on}
use Rattle.image_dump.proofs.instruction.push_instruction.Goals as goal

pub returns : goal.returns
returns c = instruction_on c.args.text.now.items c.push_name.new.text.items c.push_operands_of.new.text.items c.args.insn.now c.in_ok-push_name.ensures c.in_ok-push_operands_of.ensures
