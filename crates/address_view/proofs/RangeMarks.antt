-- The pages that several ranges mark.
use Rattle.std.proofs.Common.{◌≡◌, ℕ, ◌%◌, ◌<◌, ◌^◌, true, List, [], ◌∷◌, length, refl, ◌∙◌, arith, ◌⊎◌, inl, inr, zero, suc}
use Rattle.std.specs.Prelude.{Option, Some, All, slice_get}
use Rattle.guest_memory.specs.Pages.{Pages, touched_at}
use Rattle.guest_memory.specs.Laws.{MarksArePut}
use Rattle.address_view.specs.declared.frames.ByteRange.{ByteRange}
use Rattle.address_view.specs.Stored.{marked}
use Rattle.address_view.specs.Ranges.{RangesSeen, marked_ranges}
use Rattle.address_view.specs.Laws.{ShowsPage, RangesShow, RangesAreMarked}
use Rattle.address_view.proofs.LoopLemmas.{length_marked}
use Rattle.address_view.proofs.StoreLaws.{all_seen}
use Rattle.address_view.proofs.TouchLaws.{Marks, marked_there}

-- a mark is there where it was or where one of the ranges meets it
record RangeMarks (see : ℕ → Option ℕ) (m : Pages) (ranges : List ByteRange) (place : ℕ) : Type 0 where
  to : touched_at (record m { touched = marked_ranges see m.base m.touched ranges }) place ≡ true → (touched_at m place ≡ true) ⊎ RangesShow see ranges place
  was : touched_at m place ≡ true → touched_at (record m { touched = marked_ranges see m.base m.touched ranges }) place ≡ true
  met : RangesShow see ranges place → touched_at (record m { touched = marked_ranges see m.base m.touched ranges }) place ≡ true

-- what the first range shows, and what the others do
first_or_later : (see : ℕ → Option ℕ) (range : ByteRange) (ranges : List ByteRange) (place i : ℕ) (met : ByteRange) → slice_get (range ∷ ranges) i ≡ Some met → ShowsPage see met.at met.len place
    → ShowsPage see range.at range.len place ⊎ RangesShow see ranges place
first_or_later see range ranges place zero met there shown = let same : range ≡ met = cc in inl (rw same shown)
first_or_later see range ranges place (suc i) met there shown = inr (i, met, there, shown)

marks_are : MarksArePut → (see : ℕ → Option ℕ) (m : Pages) (ranges : List ByteRange) (place : ℕ) → m.base % 4096 ≡ 0 → length m.touched ≡ m.pages → All (λ (range : ByteRange). range.at < 2 ^ 64) ranges
    → RangesSeen see m ranges → RangeMarks see m ranges place
unfolding marked_ranges
marks_are put see m [] place even long low seen = record { to = λ e. inl e; was = λ e. e; met = λ s. let none = s.2 in absurd (cc) }
marks_are put see m (range ∷ ranges) place even long low seen =
    let m2 : Pages = record m { touched = marked see m.base m.touched range.at range.len } in
    let first : Marks see m range.at range.len place = marked_there see m range.at range.len place put (low 0 range (omega arith)) even long (all_seen see m range.at range.len (seen 0 range (omega arith))) in
    let later : RangeMarks see m2 ranges place = marks_are put see m2 ranges place even (length_marked see m.base m.touched range.at range.len ∙ long) (λ k d below. low (suc k) d (omega arith)) (λ k d below. seen (suc k) d (omega arith)) in
    record {
      to = λ e. elim (later.to e) [
        | inl t ↦ elim (first.to t) [ inl before ↦ inl before | inr shown ↦ inr (0, range, refl, shown) ]
        | inr s ↦ inr (suc s.0, s.1, s.2, s.3)
      ];
      was = λ e. later.was (first.was e);
      met = λ s. elim (first_or_later see range ranges place s.0 s.1 s.2 s.3) [ inl shown ↦ later.was (first.met shown) | inr rest ↦ later.met rest ];
    }

pub ranges_are_marked : MarksArePut → RangesAreMarked
ranges_are_marked put see m ranges place low whole seen =
    let marks = marks_are put see m ranges place whole.base_even whole.touched_long low seen in (λ e. marks.to e, λ s. elim s [ inl before ↦ marks.was before | inr shown ↦ marks.met shown ])
