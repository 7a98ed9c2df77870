use Rattle.guest_build.specs.Codes.{bytes_at}
use Rattle.guest_build.proofs.bytes.put_statement.Goals as goal

pub returns-in-Instruction : goal.returns-in-Instruction
unfolding bytes_at
returns-in-Instruction c = rw c.in-Instruction.is c.put_instruction.ensures
