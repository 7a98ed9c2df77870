use Rattle.std.proofs.Common.{map}
use Rattle.image_dump.specs.Reports.{site_line, sites_text, end_report}
use Rattle.image_dump.proofs.GivesLemmas.{gives_behind, stops_before, sites_are_lines}
use Rattle.image_dump.proofs.image.put_sites_and_end.Goals as goal

pub returns-in-Ok : goal.returns-in-Ok
returns-in-Ok g c =
    gives_behind (map site_line c.args.sites.now) end_report _ _ (sites_text c.args.sites.now) _ _ _ _ _ (sites_are_lines c.args.sites.now) c.in-Ok.ensures.puts c.put_end.ensures

pub returns-in-Err : goal.returns-in-Err
returns-in-Err g c =
    stops_before (map site_line c.args.sites.now) end_report _ _ (sites_text c.args.sites.now) c.in-Err.stop _ _ (sites_are_lines c.args.sites.now) c.in-Err.ensures.puts
