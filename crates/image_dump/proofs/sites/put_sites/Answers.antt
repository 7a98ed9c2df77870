use Rattle.std.proofs.Common.{◌≡◌, ap, ◌∙◌, sym, ◌++◌, arith}
use Rattle.std.proofs.lemmas.Bool.Decides.{nat_tests}
use Rattle.image_dump.specs.Reports.{sites_text}
use Rattle.image_dump.proofs.LineLemmas.{nothing_before, no_sites}
use Rattle.image_dump.proofs.PutLemmas.{goes_on, stops, ends}
use Rattle.image_dump.proofs.sites.put_sites.Goals as goal

pub loop-left-preserved : goal.loop-left-preserved
loop-left-preserved g c =
    let split : sites_text c.loop-left.left.now ≡ c.push_sites.new.text.items ++ sites_text c.behind-left.result.now =
    nothing_before c.loop-left.text.items _ c.push_sites.new.text.items _ c.loop-left.invariant.empty (c.in-Ok.ensures.text ∙ ap (λ l. c.push_sites.new.text.items ++ sites_text l) (sym c.behind-left.ensures)) in
    record {
      empty = c.in-Ok-put_text.ensures.empty;
      toward = goes_on _ _ _ _ _ _ c.loop-left.invariant.toward c.in-Ok-put_text.field-0 c.push_sites.new.text.items (sites_text c.behind-left.result.now) _ _ split c.in-Ok-put_text.ensures.puts;
    }

pub returns-in-Err-put_text-clause-puts : goal.returns-in-Err-put_text-clause-puts
returns-in-Err-put_text-clause-puts g c =
    let split : sites_text c.loop-left.left.now ≡ c.push_sites.new.text.items ++ sites_text c.behind-left.result.now =
    nothing_before c.loop-left.text.items _ c.push_sites.new.text.items _ c.loop-left.invariant.empty (c.in-Ok.ensures.text ∙ ap (λ l. c.push_sites.new.text.items ++ sites_text l) (sym c.behind-left.ensures)) in
    stops _ _ _ _ _ _ c.loop-left.invariant.toward c.in-Err-put_text.stop c.push_sites.new.text.items (sites_text c.behind-left.result.now) _ _ split c.in-Err-put_text.ensures.puts

pub returns-clause-puts : goal.returns-clause-puts
returns-clause-puts g c = ends _ _ _ _ _ _ c.loop-left.invariant.toward _ (no_sites c.loop-left.left.now (grind (arith, nat_tests, c.loop-left-test.ensures)))
