use Rattle.std.proofs.Common.{◌≡◌, ◌++◌, ◌∷◌, [], ◌∙◌, ap, arith}
use Rattle.guest_memory.specs.Pages.{bytes_of}
use Rattle.host_engine.proofs.CallLemmas.{byte_read, all_read}
use Rattle.host_engine.proofs.call_step.bytes_at.Goals as goal

pub loop-left-preserved : goal.loop-left-preserved
loop-left-preserved c =
    let is : c.push.new.self.items ≡ c.loop-left.bytes.items ++ bytes_of c.args.memory.now c.loop-left.here ∷ [] = c.in_ok-push.ensures.items ∙ ap (λ n. c.loop-left.bytes.items ++ n ∷ []) c.byte_at.ensures in
    rw is (byte_read _ _ _ _ _ c.loop-left.invariant (omega arith))

pub returns : goal.returns
returns c = all_read _ _ _ _ _ c.loop-left.invariant (omega arith)
