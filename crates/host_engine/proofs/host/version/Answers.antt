use Rattle.std.proofs.Common.{◌≡◌, ℕ, List, false, sym, subst}
use Rattle.host_engine.specs.Commands.{plan_of}
use Rattle.host_engine.specs.Plans.{Fixed, Prints, Over, Leads}
use Rattle.host_engine.specs.Texts.{version_text}
use Rattle.host_engine.specs.Words as words
use Rattle.host_engine.proofs.GivesLemmas.{put_whole, put_part}
use Rattle.host_engine.proofs.PlanLemmas.{here}
use Rattle.host_engine.proofs.host.version.Goals as goal

pub returns-in-Ok : goal.returns-in-Ok
returns-in-Ok g c =
    let same : c.as_bytes.result.now ≡ version_text = c.as_bytes.ensures.value in
    let leads : Leads (g.F.Files.told c.args.files.now) (plan_of words.Version) (Over (Prints Fixed c.as_bytes.result.now false)) =
    subst (λ (t : List ℕ). Leads (g.F.Files.told c.args.files.now) (plan_of words.Version) (Over (Prints Fixed t false))) (sym same) (here (g.F.Files.told c.args.files.now) (plan_of words.Version)) in
    put_whole (plan_of words.Version) Fixed c.as_bytes.result.now false (g.F.Files.told c.args.files.now) _ _ _ _ _ _ _ (g.O.Sink.written c.args.out.now) (g.O.Sink.written c.put.new.self) leads c.in-Ok.ensures.ok

pub returns-in-Err : goal.returns-in-Err
returns-in-Err g c =
    let same : c.as_bytes.result.now ≡ version_text = c.as_bytes.ensures.value in
    let leads : Leads (g.F.Files.told c.args.files.now) (plan_of words.Version) (Over (Prints Fixed c.as_bytes.result.now false)) =
    subst (λ (t : List ℕ). Leads (g.F.Files.told c.args.files.now) (plan_of words.Version) (Over (Prints Fixed t false))) (sym same) (here (g.F.Files.told c.args.files.now) (plan_of words.Version)) in
    (c.in-Err.ensures.cause, (Fixed, put_part (plan_of words.Version) Fixed c.as_bytes.result.now false (g.F.Files.told c.args.files.now) _ _ _ _ _ _ _ (g.O.Sink.written c.args.out.now) (g.O.Sink.written c.put.new.self) leads c.in-Err.ensures.part))
