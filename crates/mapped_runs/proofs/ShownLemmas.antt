-- What a driver's regions show before an accepted map and from it on.
use Rattle.std.proofs.Common.{◌≡◌, ◌<◌, ◌≤◌, ◌+◌, ◌-◌, ◌*◌, ℕ, true, List, refl, sym, subst, arith, ◌∙◌, ap}
use Rattle.std.specs.Prelude.{nat_lt, nat_le, slice_index, Option, Some, None}
use Rattle.std.proofs.lemmas.Bool.Decides.{nat_tests}
use Rattle.page_alloc.specs.declared.layout.Layout.{Layout}
use Rattle.memory_map.specs.Laws.{MapIsMap}
use Rattle.guest_memory.specs.Pages.{rights_at}
use Rattle.address_view.specs.Windows.{at_place, see, seen_bytes, window_at}
use Rattle.address_view.specs.Seen.{may, view_allows}
use Rattle.map_faults.specs.Grounds.{Call, Kept}
use Rattle.map_faults.specs.Pointers.{converted}
use Rattle.virtual_map.specs.States.{Runtime}
use Rattle.runtime_view.specs.Views.{view_after, view_before}
use Rattle.prov_types.specs.Kinds.{length_of}
use Rattle.prov_cert.specs.Cert.{Plain}
use Rattle.prov_layout.specs.Laws.{PassesEach}
use Rattle.provenance_tables.specs.Regions.{lens_of, starts_of}
use Rattle.provenance_tables.specs.Passed.{NoneFailsStands}
use Rattle.prov_laws.specs.Convert.{is_owned}
use Rattle.mapped_runs.specs.Places.{PointersMove, RangesAreSeen}
use Rattle.mapped_runs.specs.Checked.{IsChecked, starts_after, starts_before}
use Rattle.mapped_runs.specs.Shown.{PointersConvert, RightsStay, ViewShows, answer_of, or_same, seen_after, seen_before}
use Rattle.mapped_runs.proofs.RegionLemmas.{after_at, before_at, ram_of, region_moves}

-- before a map RAM is seen at its own addresses
pub itself : (layout : Layout) (at : ℕ) → layout.base ≤ at → at < layout.base + 4096 * layout.pages → see (view_before layout) at ≡ Some at
unfolding window_at
itself layout at low high =
    let a : nat_le layout.base at ≡ true = grind (arith, nat_tests) in
    let b : nat_lt at (layout.base + 4096 * layout.pages) ≡ true = grind (arith, nat_tests) in
    let same : layout.base + (at - layout.base) ≡ at = omega (arith, low) in
    rw (a, b) (ap Some same)

module _ (is_map : MapIsMap) (each : PassesEach) (stands : NoneFailsStands) (seen : RangesAreSeen) (pointers : PointersMove) where
  module _ (r : Runtime) (call : Call) (image : Kept) (cert : Plain) (checked : IsChecked r call image cert) where
    abbrev lens : List ℕ
    lens = lens_of image cert.regions

    -- a byte of a region, before a map and from it on
    record Same (n o : ℕ) : Type 0 where
      place : ℕ
      old : see (view_before r.layout) (starts_before r image cert n + o) ≡ Some place
      new : see (view_after r.layout r.descriptors call.entries r.os_virtual) (starts_after r call image cert n + o) ≡ Some place

    same : (n o : ℕ) → o < length_of lens n → Same n o
    same n o l =
        let some : 0 < length_of lens n = omega (arith, l) in
        let m = region_moves is_map each stands seen r call image cert checked n some in
        let ram = ram_of is_map each stands seen r call image cert checked n some in
        let low = ram.low in
        let high = ram.high in
        let before = before_at is_map each stands seen r call image cert checked n some in
        let after = after_at is_map each stands seen r call image cert checked n some in
        let shown = (seen r call (slice_index (starts_of r image cert.regions) n) (length_of lens n) checked.whole checked.accepted some m.as_one).shown o l in
        record {
          place = slice_index (starts_of r image cert.regions) n + o;
          old = ap (λ (a : ℕ). see (view_before r.layout) (a + o)) before ∙ itself r.layout (slice_index (starts_of r image cert.regions) n + o) (omega (arith, low)) (omega (arith, high, l));
          new = ap (λ (a : ℕ). see (view_after r.layout r.descriptors call.entries r.os_virtual) (a + o)) after ∙ shown;
        }

    pub bytes_shown : (bytes : ℕ → ℕ) (n o : ℕ) → o < length_of lens n → seen_after r call bytes (starts_after r call image cert n + o) ≡ seen_before r bytes (starts_before r image cert n + o)
    unfolding seen_bytes
    bytes_shown bytes n o l = let s = same n o l in ap (at_place 0 bytes) (s.new ∙ sym s.old)

    pub answers : (n o : ℕ) → is_owned n ≡ true → o < length_of lens n → answer_of call.entries (starts_before r image cert n + o) ≡ starts_after r call image cert n + o
    unfolding answer_of
    answers n o own l =
        let some : 0 < length_of lens n = omega (arith, l) in
        let m = region_moves is_map each stands seen r call image cert checked n some in
        let before = before_at is_map each stands seen r call image cert checked n some in
        let after = after_at is_map each stands seen r call image cert checked n some in
        let given = pointers r call 1 (slice_index (starts_of r image cert.regions) n) (length_of lens n) o checked.whole checked.accepted (m.owned own) l in
        ap (λ (a : ℕ). or_same (a + o) (converted call.entries 1 (a + o))) before ∙ ap (or_same (slice_index (starts_of r image cert.regions) n + o)) given ∙ ap (λ (a : ℕ). a + o) (sym after)

    pub nought : answer_of call.entries 0 ≡ 0
    unfolding answer_of converted
    nought = refl

  pub view_shows : ViewShows
  view_shows r call image cert g bytes checked is n o l = bytes_shown r call image cert checked bytes n o (subst (λ (lens : List ℕ). o < length_of lens n) is l)

  pub rights_stay : RightsStay
  unfolding view_allows
  rights_stay r call image cert m n o right checked l = let s = same r call image cert checked n o l in ap (λ (place : Option ℕ). may right (at_place None (rights_at m) place)) (s.new ∙ sym s.old)

  pub pointers_convert : PointersConvert
  pointers_convert r call image cert checked = record { pointer = answers r call image cert checked; nought = nought r call image cert checked }
