-- A store in two parts.
use Rattle.std.proofs.Common.{◌≡◌, ℕ, ◌+◌, ◌<◌, ◌^◌, true, false, List, ◌++◌, length, length-append, refl, sym, ◌∙◌, ap, arith}
use Rattle.std.specs.Prelude.{nat_lt, Option}
use Rattle.std.proofs.lemmas.Bool.Decides.{nat_tests}
use Rattle.uh_base.specs.Bytes.{behind, first_refused}
use Rattle.uh_base.specs.Limits.{frame_limit}
use Rattle.guest_memory.specs.Lists.{count_true}
use Rattle.guest_memory.specs.Pages.{Pages}
use Rattle.address_view.specs.Seen.{all_pass, is_seen}
use Rattle.address_view.specs.Stored.{stored, marked, lacks_seen, AllSeen}
use Rattle.address_view.specs.Laws.{Follow, StoresFollow}
use Rattle.address_view.proofs.StoreLaws.{none_is, is_none_of}
use Rattle.address_view.proofs.BaseLemmas.{base_stored, pages_stored}
use Rattle.address_view.proofs.MarkedLemmas.{marked_less}
use Rattle.address_view.proofs.SplitLemmas.{pass_split, marked_split, stored_split}
use Rattle.address_view.proofs.TouchLaws.{marks_stored}

module _ (see : ℕ → Option ℕ) (m : Pages) (at : ℕ) (first later : List ℕ) (low : at < 2 ^ 64) where
  lengths : length (first ++ later) ≡ length first + length later
  lengths = length-append first later

  still_seen : AllSeen see m (behind at (length first)) (length later) → AllSeen see (stored see m at first) (behind at (length first)) (length later)
  still_seen ok = rw (base_stored see m at first, pages_stored see m at first) ok

  seen_parts : all_pass (is_seen see m) at (length (first ++ later)) ≡ true
      → (all_pass (is_seen see m) at (length first) ≡ true) × (all_pass (is_seen see (stored see m at first)) (behind at (length first)) (length later) ≡ true)
  seen_parts ok =
      let parts = pass_split (is_seen see m) at (length (first ++ later)) (length first) (length later) lengths low (none_is (first_refused (is_seen see m) at (length (first ++ later))) ok) in (
        is_none_of (first_refused (is_seen see m) at (length first)) parts.0,
        is_none_of (first_refused (is_seen see (stored see m at first)) (behind at (length first)) (length later)) (still_seen parts.1),
      )

  marks : marked see m.base m.touched at (length (first ++ later)) ≡ marked see (stored see m at first).base (stored see m at first).touched (behind at (length first)) (length later)
  marks =
      marked_split see m.base m.touched at (length (first ++ later)) (length first) (length later) lengths low
      ∙ ap (λ ms. marked see m.base ms (behind at (length first)) (length later)) (sym (marks_stored see m at first))
      ∙ ap (λ k. marked see k (stored see m at first).touched (behind at (length first)) (length later)) (sym (base_stored see m at first))

  lacks_parts : lacks_seen see m at (length (first ++ later)) ≡ false
      → (lacks_seen see m at (length first) ≡ false) × (lacks_seen see (stored see m at first) (behind at (length first)) (length later) ≡ false)
  lacks_parts few =
      let split = ap count_true (marked_split see m.base m.touched at (length (first ++ later)) (length first) (length later) lengths low) in
      let less = marked_less see m.base (marked see m.base m.touched at (length first)) (behind at (length first)) (length later) in
      let total : count_true (marked see m.base m.touched at (length (first ++ later))) < frame_limit + 1 = grind (arith, nat_tests) in
      let part : count_true (marked see m.base m.touched at (length first)) < frame_limit + 1 = omega (arith, split, less, total) in
      (grind (arith, nat_tests), ap (λ ms. nat_lt frame_limit (count_true ms)) (sym marks) ∙ few)

pub stores_follow : StoresFollow
stores_follow see m at first later low = record { bytes = stored_split see m at first later low; seen = seen_parts see m at first later low; lacks = lacks_parts see m at first later low }
