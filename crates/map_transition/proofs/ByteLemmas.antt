-- Bytes that change on touched pages.
use Rattle.std.proofs.Common.{◌≡◌, ℕ, zero, suc, ◌+◌, ◌*◌, ◌-◌, ◌^◌, ◌≤◌, ◌<◌, Bool, true, false, List, [], ◌∷◌, length, take, refl, sym, ap, ◌∙◌, arith}
use Rattle.std.specs.Prelude.{slice_get, slice_set, Some, if◌then◌else◌}
use Rattle.std.specs.Prelude.{slice_index, ◌≢◌}
use Rattle.std.specs.Int.{to_le_bytes, w64}
use Rattle.std.proofs.lemmas.Grind.{common_steps}
use Rattle.std.proofs.lemmas.List.{get_or-take, length-take-le}
use Rattle.std.proofs.lemmas.Bool.Decides.{nat_tests}
use Rattle.uh_base.specs.Bytes.{next, behind}
use Rattle.base_reloc.specs.Moved.{moved_word}
use Rattle.guest_memory.specs.Runs.{with_bytes}
use Rattle.base_reloc.specs.declared.site.Site.{Site}
use Rattle.base_reloc.specs.declared.site.SiteKind.{SiteKind}
use Rattle.base_reloc.specs.declared.site.SiteKind.TheVariants.{Dir64, Highlow, High20}
use Rattle.base_reloc.specs.Sites.{width_of, end_of}
use Rattle.guest_memory.specs.Pages.{Pages, Whole, or_false, holds, is_touched, page_of, touched_at}
use Rattle.map_transition.specs.Images.{AreTouched}
use Rattle.map_transition.specs.Fixes.{OnlyBytes, has_byte, fixed_at}

-- a mark that is set again
pub still_marked : (marks : List Bool) (i : ℕ) → or_false (slice_get marks i) ≡ true → slice_set marks i true ≡ marks
still_marked [] i h = refl
still_marked (mark ∷ marks) zero h = ap (λ (m : Bool). m ∷ marks) (sym h)
still_marked (mark ∷ marks) (suc i) h = ap (λ (ms : List Bool). mark ∷ ms) (still_marked marks i h)

pub touched_still : (old new : Pages) (at : ℕ) → OnlyBytes old new → touched_at new at ≡ touched_at old at
unfolding touched_at
touched_still old new at e = ap (λ (m : Pages). touched_at m at) e

low_by : (m : Pages) (at : ℕ) (b : Bool) → holds m at ≡ b → (if b then is_touched m (page_of m at) else false) ≡ true → Whole m → at < 2 ^ 47
low_by m at true e h w = let end = w.end in grind (arith, nat_tests)
low_by m at false e h w = let bad : ⊥ = cc in absurd bad

-- a touched page lies in RAM
pub touched_low : (m : Pages) (at : ℕ) → Whole m → touched_at m at ≡ true → at < 2 ^ 47
unfolding touched_at
touched_low m at w h = low_by m at (holds m at) refl h w

pub first_touched : (m : Pages) (at n : ℕ) → AreTouched m at (at + suc n) → touched_at m at ≡ true
first_touched m at n h = h at (omega arith) (omega arith)

pub rest_touched : (old new : Pages) (at n : ℕ) → Whole old → OnlyBytes old new → AreTouched old at (at + suc n) → AreTouched new (next at) (next at + n)
rest_touched old new at n w e h = λ here low high.
    let l : at < 2 ^ 47 = touched_low old at w (h at (omega arith) (omega arith)) in
    let s : next at ≡ at + 1 = grind arith in
    touched_still old new here e ∙ h here (omega arith) (omega arith)

pub only_then : (a b c : Pages) → OnlyBytes a b → OnlyBytes b c → OnlyBytes a c
only_then a b c e f = f ∙ ap (λ (m : Pages). record m { bytes = c.bytes }) e

pub below : (b n w : ℕ) → b < 256 → 0 < w → n < 256 ^ (w - 1) → b + 256 * n < 256 ^ w
below b n zero l p h = absurd (omega (arith, p))
below b n (suc w) l p h = let e : 256 ^ suc w ≡ 256 * 256 ^ (suc w - 1) = grind (arith, common_steps) in omega arith

width_some : (kind : SiteKind) → 0 < width_of kind
width_some Dir64 = omega arith
width_some Highlow = omega arith
width_some High20 = omega arith

pub site_low : (m : Pages) (base : ℕ) (site : Site) → Whole m → AreTouched m (base + site.at) (base + end_of site) → base + site.at < 2 ^ 47
site_low m base site w h = touched_low m (base + site.at) w (h (base + site.at) (omega arith) (omega (arith, width_some site.kind)))

-- ---- bytes that are put one behind another

abbrev pub StoredAt : Type 0
StoredAt = (bytes : ℕ → ℕ) (at i : ℕ) (list : List ℕ) → at < 2 ^ 64 → length list ≤ 2 ^ 64 → i < length list → with_bytes bytes at list (behind at i) ≡ slice_index list i

abbrev pub OthersAt : Type 0
OthersAt = (bytes : ℕ → ℕ) (at other : ℕ) (list : List ℕ) → at < 2 ^ 64 → ((i : ℕ) → i < length list → behind at i ≢ other) → with_bytes bytes at list other ≡ bytes other

width_few : (kind : SiteKind) → width_of kind ≤ 8
width_few Dir64 = omega arith
width_few Highlow = omega arith
width_few High20 = omega arith

module _ (old new : ℕ → ℕ) (base by word moved n : ℕ) (site : Site) (low : base + site.at < 2 ^ 47) (wide : n ≡ width_of site.kind) (is : Some moved ≡ moved_word site.kind word by)
    (stored : StoredAt) (others : OthersAt) (put : new ≡ with_bytes old (base + site.at) (take n (to_le_bytes w64 moved))) where
  long : length (take n (to_le_bytes w64 moved)) ≡ n
  long = length-take-le n (to_le_bytes w64 moved) (omega (arith, wide, width_few site.kind))

  inside : (at : ℕ) → has_byte base site at ≡ true → new at ≡ slice_index (to_le_bytes w64 moved) (at - (base + site.at))
  inside at h =
      let few = width_few site.kind in
      let from : base + site.at ≤ at = grind (arith, nat_tests) in
      let to : at < base + site.at + n = grind (arith, nat_tests) in
      let there : behind (base + site.at) (at - (base + site.at)) ≡ at = grind arith in
      let byte : with_bytes old (base + site.at) (take n (to_le_bytes w64 moved)) (behind (base + site.at) (at - (base + site.at))) ≡ slice_index (take n (to_le_bytes w64 moved)) (at - (base + site.at))
      = stored old (base + site.at) (at - (base + site.at)) (take n (to_le_bytes w64 moved)) (omega arith) (omega (arith, long, wide, few)) (omega (arith, long)) in
      ap (λ (f : ℕ → ℕ). f at) put ∙ (rw there at byte) ∙ get_or-take n (to_le_bytes w64 moved) (at - (base + site.at)) 0 (omega arith)

  outside : (at : ℕ) → has_byte base site at ≡ false → new at ≡ old at
  outside at h =
      let few = width_few site.kind in
      ap (λ (f : ℕ → ℕ). f at) put
      ∙ others old (base + site.at) at (take n (to_le_bytes w64 moved)) (omega arith) (λ i l e. let i_low : i < n = omega (arith, long, l) in let here : base + site.at + i ≡ at = (let m : behind (base + site.at) i ≡ base + site.at + i = grind arith in sym m ∙ e) in absurd (let no_byte : has_byte base site at ≡ true = grind (arith, nat_tests) in cc))

  put_by : (at : ℕ) (b : Bool) → has_byte base site at ≡ b → new at ≡ fixed_at base by site word true at (old at)
  put_by at true e = rw (e, ← is) (inside at e)
  put_by at false e = rw e (outside at e)

  pub site_put : (at : ℕ) → new at ≡ fixed_at base by site word true at (old at)
  site_put at = put_by at (has_byte base site at) refl
