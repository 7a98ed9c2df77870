-- A report that is put in parts.
use Rattle.std.proofs.Common.{◌≡◌, ℕ, List, [], ◌∷◌, ◌++◌, Bool, map, Option, Some, Result, Ok, Err, refl, sym, ap, ◌∙◌, append-nil}
use Rattle.std.proofs.lemmas.Grind.{flat_map-append}
use Rattle.uh_base.specs.Told.{grown}
use Rattle.pe_image.specs.ImageOf.{Fields}
use Rattle.pe_image.specs.Checks.{Stops}
use Rattle.pe_image.specs.declared.fault.PeFault.{PeFault}
use Rattle.pe_image.specs.declared.fault.PeFault.TheVariants as pe
use Rattle.base_reloc.specs.Kept.{Stops as RelocStops}
use Rattle.base_reloc.specs.declared.fault.RelocFault.{RelocFault}
use Rattle.base_reloc.specs.declared.fault.RelocFault.TheVariants as reloc
use Rattle.base_reloc.specs.declared.site.Site.{Site}
use Rattle.record_text.specs.declared.image_line.ImageFault.{ImageFault}
use Rattle.record_text.specs.declared.image_line.ImageLine.{ImageLine}
use Rattle.image_dump.specs.declared.stop.Stop.{Stop}
use Rattle.image_dump.specs.declared.stop.Stop.TheVariants.{Memory}
use Rattle.image_dump.specs.Puts.{Puts, Gives}
use Rattle.image_dump.specs.Reports.{Report, line_bytes, bytes_of, behind, site_line, sites_text, pe_fault, reloc_fault}
use Rattle.image_dump.proofs.PutLemmas.{begins, goes_on, stops, lacks, last}

pub put_alone : (line : ImageLine) (b : Bool) (old : Option (List ℕ)) (f : ℕ) (new : Option (List ℕ)) (h : ℕ) → Puts {X = Unit {0}} (Ok tt) (line_bytes line) old f new h → Gives (record { lines = line ∷ []; is_refused = b }) (Ok b) old f new h
put_alone line b old f new h puts = record {
  refused = refl;
  puts = record { whole = puts.whole ∙ ap (grown old) (sym (append-nil (line_bytes line))); part = tt; cause = λ e. absurd cc; never_falls = puts.never_falls };
}

pub not_alone : (line : ImageLine) (b : Bool) (stop : Stop) (old : Option (List ℕ)) (f : ℕ) (new : Option (List ℕ)) (h : ℕ) → Puts {X = Unit {0}} (Err stop) (line_bytes line) old f new h → Gives (record { lines = line ∷ []; is_refused = b }) (Err stop) old f new h
not_alone line b stop old f new h puts = record {
  refused = tt;
  puts = stops (bytes_of (line ∷ [])) (bytes_of (line ∷ [])) old f old f (begins (bytes_of (line ∷ [])) old f) stop (line_bytes line) [] new h refl puts;
}

-- nothing was put, and memory was wanting
pub gives_nothing : (report : Report) (old : Option (List ℕ)) (f : ℕ) → Gives report (Err Memory) old f old f
gives_nothing report old f = record { refused = tt; puts = lacks _ _ _ _ _ _ (begins (bytes_of report.lines) old f) }

-- lines were put, and then the rest of a report or a part of it
module _ (before : List ImageLine) (report : Report) (old : Option (List ℕ)) (f : ℕ) where
  split : bytes_of (behind before report).lines ≡ bytes_of before ++ bytes_of report.lines
  split = flat_map-append line_bytes before report.lines

  pub gives_behind : (text : List ℕ) (now : Option (List ℕ)) (g : ℕ) (result : Result Bool Stop) (new : Option (List ℕ)) (h : ℕ) → text ≡ bytes_of before → Puts {X = Unit {0}} (Ok tt) text old f now g → Gives report result now g new h → Gives (behind before report) result old f new h
  gives_behind text now g result new h same puts gives = record {
    refused = gives.refused;
    puts = last (bytes_of (behind before report).lines) (bytes_of report.lines) old f now g
        (goes_on _ _ _ _ _ _ (begins (bytes_of (behind before report).lines) old f) tt text (bytes_of report.lines) now g (split ∙ ap (λ (t : List ℕ). t ++ bytes_of report.lines) (sym same)) puts)
        result new h gives.puts;
  }

  pub stops_before : (text : List ℕ) (stop : Stop) (new : Option (List ℕ)) (h : ℕ) → text ≡ bytes_of before → Puts {X = Unit {0}} (Err stop) text old f new h → Gives (behind before report) (Err stop) old f new h
  stops_before text stop new h same puts = record {
    refused = tt;
    puts = stops _ _ _ _ _ _ (begins (bytes_of (behind before report).lines) old f) stop text (bytes_of report.lines) new h (split ∙ ap (λ (t : List ℕ). t ++ bytes_of report.lines) (sym same)) puts;
  }

pub sites_are_lines : (sites : List Site) → sites_text sites ≡ bytes_of (map site_line sites)
unfolding sites_text
sites_are_lines [] = refl
sites_are_lines (site ∷ sites) = ap (λ (t : List ℕ). line_bytes (site_line site) ++ t) (sites_are_lines sites)

-- a fault that has a name is what judging gives
pub named_fault : (fault : PeFault) (judged : Result Fields PeFault) (name : ImageFault) → Some name ≡ pe_fault fault → Stops fault judged → judged ≡ Err fault
named_fault pe.Memory judged name e h = absurd cc
named_fault fault judged name e h = h

pub named_reloc : (fault : RelocFault) (judged : Result (List Site) RelocFault) (name : ImageFault) → Some name ≡ reloc_fault fault → RelocStops fault judged → judged ≡ Err fault
named_reloc reloc.Memory judged name e h = absurd cc
named_reloc fault judged name e h = h

-- two pieces, one after the other
pub puts_both : {X : Type 0} (whole piece rest : List ℕ) (old now new : Option (List ℕ)) (f g h : ℕ) (result : Result X Stop) → whole ≡ piece ++ rest
    → Puts {X = Unit {0}} (Ok tt) piece old f now g → Puts result rest now g new h → Puts result whole old f new h
puts_both whole piece rest old now new f g h result split first second =
    last whole rest old f now g (goes_on whole whole old f old f (begins whole old f) tt piece rest now g split first) result new h second

pub puts_first : {X : Type 0} (whole piece rest : List ℕ) (old new : Option (List ℕ)) (f h : ℕ) (stop : Stop) → whole ≡ piece ++ rest
    → Puts {X = Unit {0}} (Err stop) piece old f new h → Puts {X = X} (Err stop) whole old f new h
puts_first whole piece rest old new f h stop split first = stops whole whole old f old f (begins whole old f) stop piece rest new h split first
