use Rattle.guest_memory.specs.Pages.{bytes_of}
use Rattle.std.proofs.Common.{arith}
use Rattle.map_transition.proofs.SiteLemmas.{marks_next, marks_done}
use Rattle.map_transition.proofs.marking.mark_sites.Goals as goal

pub loop-i-preserved : goal.loop-i-preserved
loop-i-preserved c = marks_next (bytes_of c.args.memory.now) c.args.base c.args.sites.now c.args.words.now c.loop-i.marks c.loop-i.i _ c.is_same.result _ (omega arith) (omega arith) c.requires.words c.is_same.ensures c.loop-i.invariant

pub returns-clause-value : goal.returns-clause-value
returns-clause-value c = marks_done (bytes_of c.args.memory.now) c.args.base c.args.sites.now c.args.words.now c.loop-i.marks c.loop-i.i _ (omega arith) (omega arith) c.loop-i.invariant
