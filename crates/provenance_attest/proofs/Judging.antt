-- Where the rules before those of nodes pass, nodes can be judged; and what the rules come to.
use Rattle.std.proofs.Common.{◌≡◌, ℕ, refl, sym, ap, subst, ◌∙◌, Bool, Option, Some, None, List}
use Rattle.std.specs.Prelude.{◌==◌, IfOk, Result, Ok, Err}
use Rattle.memory_map.specs.Laws.{MapIsMap}
use Rattle.map_faults.specs.Grounds.{Kept}
use Rattle.guest_memory.specs.Pages.{Pages}
use Rattle.virtual_map.specs.States.{Runtime}
use Rattle.map_transition.specs.Laws.{WholeStays}
use Rattle.map_transition.specs.Wholes.{IsImage, Whole}
use Rattle.prov_cert.specs.Cert.{Plain}
use Rattle.prov_cert.specs.Kept.{IsCert}
use Rattle.prov_layout.specs.Laws.{LaidIsOrdered}
use Rattle.provenance_check.specs.declared.rule.Rule.{Rule}
use Rattle.provenance_tables.specs.Regions.{bytes_in, kept_with, lens_of, starts_of}
use Rattle.provenance_tables.specs.Passed.{NoneFailsStands, Stands, TablesPass}
use Rattle.provenance_tables.specs.Tables.{TablesGive, first_in_tables}
use Rattle.provenance_attest.specs.Grounds.{AreReaches, CanBeJudged, Reaches}
use Rattle.provenance_attest.specs.Rules.{RulesGive, first_of_rules, nodes_of, or_else}
use Rattle.provenance_attest.specs.Frames.{AreInRam, OnlyTouches}
use Rattle.provenance_attest.proofs.Formed.{nodes_formed}
use Rattle.provenance_attest.proofs.RegionLemmas.{all_find, image_seen, regions_end, regions_in_ram}
use Rattle.provenance_attest.proofs.SiteLemmas.{sites_ordered}

-- the image that stands is the one with the handle
same_image : (r : Runtime) (handle : ℕ) (a b : Kept) → kept_with handle r.kept ≡ Some a → kept_with handle r.kept ≡ Some b → a ≡ b
same_image r handle a b e f = let h : Some a ≡ Some b = sym e ∙ f in cc

pub can_be : (r : Runtime) (handle : ℕ) (image : Kept) (cert : Plain) → Whole r → IsCert cert → ((marks : List (List Bool)) × Stands r handle cert marks) → kept_with handle r.kept ≡ Some image
    → LaidIsOrdered → MapIsMap → CanBeJudged r image cert
can_be r handle image cert w c (marks, s) e law map =
    let is : IsImage r image = (all_find (IsImage r) (λ (k : Kept). k.handle == handle) r.kept image w.images e).0 in
    let same : s.image ≡ image = same_image r handle s.image image s.kept e in
    let p : TablesPass r image cert (starts_of r image cert.regions) (lens_of image cert.regions) marks =
    subst (λ (k : Kept). TablesPass r k cert (starts_of r k cert.regions) (lens_of k cert.regions) marks) same s.passes in
    record {
      seen = image_seen r image w s.unmapped is;
      end = regions_end r image cert.regions cert.spans w s.gone map is p.regions;
      order = p.ordered;
      sites = sites_ordered (bytes_in r) image is.sites.sites.apart law;
      few = is.sites.words.few;
      formed = nodes_formed cert c;
    }

-- a rule before those of nodes fails
failed_before : (r : Runtime) (handle : ℕ) (cert : Plain) (reaches : Reaches) (first : Rule × ℕ) → AreReaches cert reaches → TablesGive r handle cert (Some first) → RulesGive r handle cert (Some first)
unfolding first_of_rules
failed_before r handle cert reaches first h t =
    record { marks = t.marks; are_marks = t.are_marks; reaches = reaches; are_reaches = h; first = ap (λ o. or_else o (nodes_of r cert reaches (kept_with handle r.kept))) t.first }

-- none does
judged_then : (r : Runtime) (handle : ℕ) (cert : Plain) (reaches : Reaches) (answer : Option (Rule × ℕ)) → AreReaches cert reaches → TablesGive r handle cert None → answer ≡ nodes_of r cert reaches (kept_with handle r.kept) → RulesGive r handle cert answer
unfolding first_of_rules
judged_then r handle cert reaches answer h t e =
    record { marks = t.marks; are_marks = t.are_marks; reaches = reaches; are_reaches = h; first = e ∙ ap (λ o. or_else o (nodes_of r cert reaches (kept_with handle r.kept))) t.first }

pub before_nodes : (r : Runtime) (handle : ℕ) (cert : Plain) (reaches : Reaches) (first : Rule × ℕ) (answer : Option (Rule × ℕ)) → AreReaches cert reaches → TablesGive r handle cert answer → answer ≡ Some first → RulesGive r handle cert (Some first)
before_nodes r handle cert reaches first answer h t e = failed_before r handle cert reaches first h (subst (TablesGive r handle cert) e t)

pub at_nodes : {E : Type 0} (r : Runtime) (handle : ℕ) (cert : Plain) (reaches : Reaches) (answer : Option (Rule × ℕ)) (result : Result (Option (Rule × ℕ)) E) → AreReaches cert reaches → TablesGive r handle cert answer → answer ≡ None
    → IfOk result (λ first. first ≡ nodes_of r cert reaches (kept_with handle r.kept)) → IfOk result (RulesGive r handle cert)
at_nodes r handle cert reaches answer (Ok first) h t e k = judged_then r handle cert reaches first h (subst (TablesGive r handle cert) e t) k
at_nodes r handle cert reaches answer (Err why) h t e k = tt

-- where no rule before Frames fails the driver stands
none_else : (a b : Option (Rule × ℕ)) → or_else a b ≡ None → a ≡ None
none_else None b e = refl
none_else (Some first) b e = absurd cc

pub stands_then : (r : Runtime) (handle : ℕ) (cert : Plain) (answer : Option (Rule × ℕ)) → IsCert cert → NoneFailsStands → RulesGive r handle cert answer → answer ≡ None → (marks : List (List Bool)) × Stands r handle cert marks
unfolding first_of_rules
stands_then r handle cert answer c law g e = (g.marks, law r handle cert g.marks c (none_else (first_in_tables r handle cert g.marks) (nodes_of r cert g.reaches (kept_with handle r.kept)) (sym g.first ∙ e)))

-- its regions are in RAM
pub regions_there : (r : Runtime) (handle : ℕ) (image : Kept) (cert : Plain) (starts lens : List ℕ) → Whole r → ((marks : List (List Bool)) × Stands r handle cert marks) → kept_with handle r.kept ≡ Some image → MapIsMap
    → starts ≡ starts_of r image cert.regions → lens ≡ lens_of image cert.regions → AreInRam r.layout.base r.memory.pages starts lens
regions_there r handle image cert starts lens w (marks, s) e map a b =
    let is : IsImage r image = (all_find (IsImage r) (λ (k : Kept). k.handle == handle) r.kept image w.images e).0 in
    let same : s.image ≡ image = same_image r handle s.image image s.kept e in
    let p : TablesPass r image cert (starts_of r image cert.regions) (lens_of image cert.regions) marks =
    subst (λ (k : Kept). TablesPass r k cert (starts_of r k cert.regions) (lens_of k cert.regions) marks) same s.passes in
    rw (a, b) (subst (λ (n : ℕ). AreInRam r.layout.base n (starts_of r image cert.regions) (lens_of image cert.regions)) (sym w.ram.count) (regions_in_ram r image cert.regions cert.spans w s.gone map is p.regions))

-- a state stays whole where pages are touched
pub touched_whole : (r r2 : Runtime) → WholeStays → Whole r → OnlyTouches r r2 → Whole r2
touched_whole r r2 law w h =
    law r r2 w (record {
      layout = ap (λ (x : Runtime). x.layout) h.rest;
      base = ap (λ (m : Pages). m.base) h.memory.rest;
      count = ap (λ (m : Pages). m.pages) h.memory.rest;
      map = ap (λ (x : Runtime). x.pages) h.rest;
      view = ap (λ (x : Runtime). x.view) h.rest;
      descriptors = ap (λ (x : Runtime). x.descriptors) h.rest;
      kept = ap (λ (x : Runtime). x.kept) h.rest;
      notifies = ap (λ (x : Runtime). x.notifies) h.rest;
      gone = ap (λ (x : Runtime). x.gone) h.rest;
      mapped = ap (λ (x : Runtime). x.mapped) h.rest;
      os_virtual = ap (λ (x : Runtime). x.os_virtual) h.rest;
      room = ap (λ (x : Runtime). x.room) h.rest;
    }) h.memory.kept
