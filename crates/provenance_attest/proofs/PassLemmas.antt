-- What is so where no rule fails.
use Rattle.std.proofs.Common.{◌≡◌, ℕ, ◌≤◌, arith, Bool, true, false, refl, sym, ap, subst, ◌∙◌, Option, Some, None, length}
use Rattle.std.specs.Prelude.{if◌then◌else◌, nat_lt, slice_get}
use Rattle.std.proofs.lemmas.Bool.Decides.{nat_tests}
use Rattle.std.proofs.lemmas.Option.{slice_get_within}
use Rattle.uh_base.specs.Limits.{frame_limit}
use Rattle.guest_memory.specs.Lists.{count_true}
use Rattle.memory_map.specs.Laws.{MapIsMap}
use Rattle.map_faults.specs.Grounds.{Kept}
use Rattle.virtual_map.specs.States.{Runtime}
use Rattle.prov_cert.specs.Cert.{Node, Plain}
use Rattle.prov_layout.specs.Laws.{LaidIsOrdered}
use Rattle.provenance_check.specs.declared.rule.Rule.{Rule}
use Rattle.provenance_check.specs.Rules.{first_rule}
use Rattle.provenance_tables.specs.Regions.{kept_with, lens_of, rights_in, starts_of}
use Rattle.provenance_tables.specs.Passed.{NoneFailsStands, Stands}
use Rattle.provenance_tables.specs.Tables.{first_in_tables}
use Rattle.provenance_attest.specs.Grounds.{Reaches, ground_of}
use Rattle.provenance_attest.specs.Rules.{first_in_nodes, first_of_rules, nodes_of, or_else, rule_at}
use Rattle.provenance_attest.specs.Frames.{AreInRam, beyond, frames_of, frames_rule, marks_with}
use Rattle.provenance_attest.specs.Laws.{NoneFailsAllPass}
use Rattle.provenance_attest.proofs.Judging.{can_be, regions_there}
use Rattle.provenance_attest.proofs.Walks.{none_at}

none_both : (a b : Option (Rule × ℕ)) → or_else a b ≡ None → (a ≡ None) × (b ≡ None)
none_both None b e = (refl, e)
none_both (Some first) b e = absurd cc

node_passes : (r : Runtime) (image : Kept) (cert : Plain) (m : Reaches) (number : ℕ) (node : Node) → first_in_nodes (ground_of r image cert m) (rights_in r) ≡ None → slice_get cert.nodes number ≡ Some node
    → first_rule (ground_of r image cert m) (rights_in r) number node ≡ None
unfolding ground_of
node_passes r image cert m number node h e =
    let k : rule_at (ground_of r image cert m) (rights_in r) number ≡ None = none_at (rule_at (ground_of r image cert m) (rights_in r)) (length cert.nodes) number h (slice_get_within cert.nodes number node e) in
    rw e at k

enough : (pages : ℕ) → frames_rule (beyond pages) ≡ None → pages ≤ frame_limit
enough pages h = by (nat_lt frame_limit pages) refl h
  where
    by : (b : Bool) → nat_lt frame_limit pages ≡ b → frames_rule (if b then Some pages else None) ≡ None → pages ≤ frame_limit
    by true e k = absurd cc
    by false e k = grind (arith, nat_tests)

pub all_pass : NoneFailsStands → LaidIsOrdered → MapIsMap → NoneFailsAllPass
unfolding first_of_rules
all_pass law ordered map r handle cert marks m w c e =
    let a = none_both (first_of_rules r handle cert marks m) (frames_of r cert (kept_with handle r.kept)) e in
    let b = none_both (first_in_tables r handle cert marks) (nodes_of r cert m (kept_with handle r.kept)) a.0 in
    let s : Stands r handle cert marks = law r handle cert marks c b.0 in
    let h : nodes_of r cert m (Some s.image) ≡ None = sym (ap (nodes_of r cert m) s.kept) ∙ b.1 in
    record {
      stands = s;
      judged = can_be r handle s.image cert w c (marks, s) s.kept ordered map;
      regions = subst (λ (n : ℕ). AreInRam n r.memory.pages (starts_of r s.image cert.regions) (lens_of s.image cert.regions)) (sym w.ram.base) (regions_there r handle s.image cert _ _ w (marks, s) s.kept map refl refl);
      nodes = λ number node f. node_passes r s.image cert m number node h f;
      frames = enough (count_true (marks_with r cert (kept_with handle r.kept))) a.1;
    }
