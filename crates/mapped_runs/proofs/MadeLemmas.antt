-- What is seen behind a transition.
use Rattle.std.proofs.Common.{◌≡◌, ℕ, ◌+◌, List, refl, sym, ap, ◌∙◌}
use Rattle.guest_memory.specs.Pages.{Pages, bytes_of, rights_at}
use Rattle.address_view.specs.declared.view.Window.{Window}
use Rattle.address_view.specs.Windows.{see, seen_bytes}
use Rattle.address_view.specs.Seen.{view_allows}
use Rattle.memory_map.specs.declared.descriptor.Descriptor.{Descriptor}
use Rattle.page_alloc.specs.declared.layout.Layout.{Layout}
use Rattle.map_faults.specs.Grounds.{Call, Kept}
use Rattle.virtual_map.specs.States.{Runtime}
use Rattle.runtime_view.specs.Views.{view_after}
use Rattle.prov_cert.specs.Cert.{Plain}
use Rattle.provenance_tables.specs.Regions.{bytes_in}
use Rattle.mapped_runs.specs.Checked.{IsChecked, starts_after, starts_before}
use Rattle.mapped_runs.specs.Shown.{ViewShows, seen_before}
use Rattle.mapped_runs.specs.Made.{IsMaking, MadeRights, MadeShows, fixed_up, made}
use Rattle.mapped_runs.proofs.GroundLemmas.{view_is}

-- the view behind a map, by what it is made of
view_same : (a b : Layout) (ds es : List Descriptor) (v w : ℕ) (entries : List Descriptor) → a ≡ b → ds ≡ es → v ≡ w → view_after a ds entries v ≡ view_after b es entries w
view_same a b ds es v w entries h k l = rw (h, k, l) refl

pub rights_same : (m n : Pages) → n.base ≡ m.base → n.pages ≡ m.pages → n.rights ≡ m.rights → rights_at n ≡ rights_at m
unfolding rights_at
rights_same m n h k l = rw (h, k, l) refl

-- the parts behind the functions are those of the state that was checked
pub record SamePlaces (r ran : Runtime) : Type 0 where
  pub layout : ran.layout ≡ r.layout
  pub base : ran.memory.base ≡ r.memory.base
  pub count : ran.memory.pages ≡ r.memory.pages
  pub view : ran.view ≡ r.view
  pub descriptors : ran.descriptors ≡ r.descriptors
  pub os_virtual : ran.os_virtual ≡ r.os_virtual
  pub rights : ran.memory.rights ≡ r.memory.rights

pub same_places : (r s ran : Runtime) → IsMaking r s ran → SamePlaces r ran
same_places r s ran h =
    let a = h.begins in
    let b = h.functions in
    record {
      layout = b.parts.layout ∙ a.parts.layout;
      base = b.parts.base ∙ a.parts.base;
      count = b.parts.count ∙ a.parts.count;
      view = b.parts.view ∙ a.parts.view;
      descriptors = b.parts.descriptors ∙ a.parts.descriptors;
      os_virtual = b.parts.os_virtual ∙ a.parts.os_virtual;
      rights = b.rights ∙ a.rights;
    }

pub made_rights : MadeRights
made_rights r s ran call image cert checked making =
    let p = same_places r s ran making in
    ap (λ (ws : List Window). view_allows (see ws) (rights_at (made call ran).memory)) (view_same ran.layout r.layout ran.descriptors r.descriptors ran.os_virtual r.os_virtual call.entries p.layout p.descriptors p.os_virtual)
    ∙ ap (λ (f : _). view_allows (see (view_after r.layout r.descriptors call.entries r.os_virtual)) f) (rights_same r.memory (made call ran).memory p.base p.count p.rights)

pub seen_fixed : (r s ran : Runtime) (call : Call) (image : Kept) (cert : Plain) → IsChecked r call image cert → IsMaking r s ran → bytes_in (fixed_up call ran) ≡ seen_before r (bytes_of (fixed_up call ran).memory)
seen_fixed r s ran call image cert checked making =
    let p = same_places r s ran making in
    ap (λ (ws : List Window). seen_bytes (see ws) (bytes_of (fixed_up call ran).memory)) (p.view ∙ view_is r call checked.whole checked.accepted)

pub made_shows : ViewShows → MadeShows
made_shows law r s ran call image cert g checked lens making n o l =
    let p = same_places r s ran making in
    let bytes = bytes_of (fixed_up call ran).memory in
    let view = view_same ran.layout r.layout ran.descriptors r.descriptors ran.os_virtual r.os_virtual call.entries p.layout p.descriptors p.os_virtual in
    ap (λ (ws : List Window). seen_bytes (see ws) bytes (starts_after r call image cert n + o)) view
    ∙ law r call image cert g bytes checked lens n o l
    ∙ ap (λ (f : ℕ → ℕ). f (starts_before r image cert n + o)) (sym (seen_fixed r s ran call image cert checked making))
