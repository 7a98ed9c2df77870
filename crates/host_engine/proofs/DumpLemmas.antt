-- The plans of `image` and `list`: one file, and its lines.
use Rattle.std.proofs.Common.{ℕ, Bool, List, Option, Ok, Err, refl, sym, subst, inr}
use Rattle.uh_base.specs.Told.{FileMap, GrownByPart}
use Rattle.image_dump.specs.Puts as dump
use Rattle.image_dump.specs.Reports.{Report, bytes_of}
use Rattle.image_dump.specs.declared.stop.Stop.{Stop}
use Rattle.image_dump.specs.declared.stop.Stop.TheVariants as stops
use Rattle.host_engine.specs.Commands.{report_answer}
use Rattle.host_engine.specs.Gives.{CommandGives, PutWhole, PutPart}
use Rattle.host_engine.specs.Outside.{outside}
use Rattle.host_engine.specs.Plans.{Wanted, Plan, Reads, Over, ByLines, Prints, IsFile, Leads}
use Rattle.host_engine.specs.Stages.{stop_refusal}
use Rattle.host_engine.proofs.PlanLemmas.{here, onward}
use Rattle.host_engine.proofs.GivesLemmas.{put_whole, put_part}

module _ (told : Option FileMap) (wanted : Wanted) (report : List ℕ → Report) (file : List ℕ) (is : IsFile told wanted file) (told' : Option FileMap) (f f' l l' p p' : ℕ) (old new : Option (List ℕ)) where
  plan : Plan
  plan = Reads wanted (λ bytes. Over (report_answer (report bytes)))

  leads : Leads told plan (Over (report_answer (report file)))
  unfolding plan
  leads = onward told wanted (λ bytes. Over (report_answer (report bytes))) file (Over (report_answer (report file))) is (here told (Over (report_answer (report file))))

  pub dump_whole : (halted : Bool) → dump.Gives (report file) (Ok halted) old p new p' → PutWhole (Reads wanted (λ bytes. Over (report_answer (report bytes)))) halted (outside told f l old p) (outside told' f' l' new p')
  unfolding plan
  dump_whole halted gives =
      put_whole plan ByLines (bytes_of (report file).lines) halted told told' f f' l l' p p' old new
      (subst (λ (b : Bool). Leads told plan (Over (Prints ByLines (bytes_of (report file).lines) b))) (sym gives.refused) leads) gives.puts.whole

  part : GrownByPart old (bytes_of (report file).lines) new → PutPart ByLines plan (outside told f l old p) (outside told' f' l' new p')
  part grows = put_part plan ByLines (bytes_of (report file).lines) (report file).is_refused told told' f f' l l' p p' old new leads grows

  pub dump_stops : (stop : Stop) → dump.Gives (report file) (Err stop) old p new p' → CommandGives (Reads wanted (λ bytes. Over (report_answer (report bytes)))) (Err (stop_refusal stop)) (outside told f l old p) (outside told' f' l' new p')
  unfolding plan
  dump_stops stops.Write gives = (gives.puts.cause refl, (ByLines, part gives.puts.part))
  dump_stops stops.Memory gives = (tt, inr (part gives.puts.part))
