-- What a transition comes to.
use Rattle.std.proofs.Common.{◌≡◌, ℕ, List, [], ◌∷◌, refl, sym, ap, subst, ◌∙◌}
use Rattle.std.specs.Prelude.{map, Ok, Err}
use Rattle.memory_map.specs.declared.descriptor.Descriptor.{Descriptor}
use Rattle.guest_memory.specs.Pages.{bytes_of}
use Rattle.map_faults.specs.Grounds.{Kept}
use Rattle.virtual_map.specs.States.{Runtime, SameParts}
use Rattle.runtime_turn.specs.declared.function.CallEnd.{CallEnd}
use Rattle.runtime_turn.specs.declared.function.CallEnd.TheVariants.{Halted, LacksMemory}
use Rattle.map_transition.specs.Fixes.{all_marked}
use Rattle.map_transition.specs.Wholes.{Whole}
use Rattle.map_transition.specs.Transitions.{UnlessLacking, Changed, AllGive, MadeGives, moved_by, all_moved, begun, transition_of, without_marks, Stays}
use Rattle.map_transition.proofs.RunLemmas.{Keeps}
use Rattle.map_transition.proofs.WholeLemmas.{whole_ran}

pub made : (entries : List Descriptor) (sp steps : ℕ) (r begin ran end : Runtime) → begin ≡ begun r → AllGive (Ok steps) entries sp begin ran → end ≡ all_moved entries ran → MadeGives (Ok steps) entries sp r end
unfolding transition_of
made entries sp steps r begin ran end b h e =
    let k : AllGive (Ok steps) entries sp (begun r) ran = subst (λ (x : Runtime). AllGive (Ok steps) entries sp x ran) b h in
    ap (λ (x : Runtime). record { end = Ok steps; runtime = x }) e ∙ ap (λ (c : Changed). moved_by entries c.end c.runtime) k

ended : (entries : List Descriptor) (sp : ℕ) (r end : Runtime) (why : CallEnd) → AllGive (Err why) entries sp (begun r) end → MadeGives (Err why) entries sp r end
unfolding transition_of
ended entries sp r end (Halted halt) h = ap (λ (c : Changed). moved_by entries c.end c.runtime) h
ended entries sp r end LacksMemory h = h

pub not_made : (entries : List Descriptor) (sp : ℕ) (r begin end : Runtime) (why : CallEnd) → begin ≡ begun r → AllGive (Err why) entries sp begin end → MadeGives (Err why) entries sp r end
not_made entries sp r begin end why b h = ended entries sp r end why (subst (λ (x : Runtime). AllGive (Err why) entries sp x end) b h)

-- ---- what stays

marks_gone : (bytes : ℕ → ℕ) (kept : List Kept) → map without_marks (all_marked bytes kept) ≡ map without_marks kept
marks_gone bytes [] = refl
marks_gone bytes (image ∷ images) = ap (λ (ks : List Kept). without_marks image ∷ ks) (marks_gone bytes images)

stays_by : (r end : Runtime) → SameParts (begun r) end → Stays r end
stays_by r end h = record {
  layout = h.layout;
  base = h.base;
  count = h.count;
  page_map = h.map;
  descriptors = h.descriptors;
  images = ap (λ (ks : List Kept). map without_marks ks) h.kept ∙ marks_gone (bytes_of r.memory) r.kept;
  functions = h.notifies;
  gone = h.gone;
  os_virtual = h.os_virtual;
}

pub stays_ran : (r begin end : Runtime) → begin ≡ begun r → SameParts begin end → Stays r end
stays_ran r begin end b h = stays_by r end (subst (λ (x : Runtime). SameParts x end) b h)

stays_all : (entries : List Descriptor) (r ran : Runtime) → Stays r ran → Stays r (all_moved entries ran)
stays_all entries r ran h = record {
  layout = h.layout;
  base = h.base;
  count = h.count;
  page_map = h.page_map;
  descriptors = h.descriptors;
  images = h.images;
  functions = h.functions;
  gone = h.gone;
  os_virtual = h.os_virtual;
}

pub stays_moved : (entries : List Descriptor) (r ran end : Runtime) → end ≡ all_moved entries ran → Stays r ran → Stays r end
stays_moved entries r ran end e h = subst (λ (x : Runtime). Stays r x) (sym e) (stays_all entries r ran h)

pub whole_stopped : (why : CallEnd) (a b : Runtime) → Whole a → SameParts a b → UnlessLacking (Err why) (Keeps a.memory b.memory) → UnlessLacking (Err why) (Whole b)
whole_stopped (Halted halt) a b w h keep = whole_ran a b w h keep
whole_stopped LacksMemory a b w h keep = tt
