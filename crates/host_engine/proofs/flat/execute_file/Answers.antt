use Rattle.std.proofs.Common.{◌∙◌, ap, ◌++◌, ◌∷◌, []}
use Rattle.host_engine.specs.FlatMemories.{flat_bytes}
use Rattle.host_engine.specs.Executions.{End}
use Rattle.host_engine.specs.Lines.{line_of, flat_text}
use Rattle.host_engine.specs.Commands.{halts}
use Rattle.host_engine.proofs.ExecutionLemmas.{flat_ended}
use Rattle.host_engine.proofs.flat.execute_file.Goals as goal

pub returns-clause-halted : goal.returns-clause-halted
returns-clause-halted c = c.halts.ensures ∙ ap (λ (e : End). halts e.cause) (flat_ended _ _ _ _ c.in_ok-memory.ensures c.execute-end.ensures)

pub returns-clause-text : goal.returns-clause-text
unfolding flat_text
returns-clause-text c = c.in_ok-line.ensures (flat_bytes c.execute-end.new.memory.bytes.items) ∙ ap (λ (e : End). line_of e ++ 10 ∷ []) (flat_ended _ _ _ _ c.in_ok-memory.ensures c.execute-end.ensures)
