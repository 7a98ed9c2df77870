-- What code sees from an accepted map on.
use Rattle.std.proofs.Common.{◌≡◌, ◌<◌, ◌≤◌, ◌+◌, ◌-◌, ◌*◌, ◌%◌, ℕ, zero, suc, Bool, true, false, List, [], ◌∷◌, ◌++◌, refl, sym, subst, arith, ◌⊎◌, inl, inr, ◌∙◌, ap}
use Rattle.std.specs.Prelude.{◌^◌, ◌==◌, ◌&&◌, nat_lt, nat_le, slice_get, Option, Some, None, Ok, if◌then◌else◌}
use Rattle.std.proofs.lemmas.Bool.Decides.{nat_tests}
use Rattle.memory_map.specs.declared.descriptor.Descriptor.{Descriptor}
use Rattle.memory_map.specs.Map.{Covers}
use Rattle.memory_map.specs.Laws.{MapIsMap}
use Rattle.address_view.specs.declared.view.Window.{Window}
use Rattle.address_view.specs.Windows.{place_in, see, shows, window_at}
use Rattle.map_faults.specs.Grounds.{Call, window_pages, IsGround}
use Rattle.map_faults.specs.Rules.{is_runtime, is_unaligned, is_out, behind, meet, overlaps}
use Rattle.map_faults.specs.Faults.{first_fault, entry_at}
use Rattle.map_faults.specs.Pointers.{converted}
use Rattle.map_faults.specs.Laws.{EntriesArePlaced, RangesAreApart}
use Rattle.virtual_map.specs.States.{Runtime}
use Rattle.runtime_turn.specs.Functions.{ground_of}
use Rattle.runtime_view.specs.Views.{os_window, ranges_between, runtime_windows, view_after, virtual_of}
use Rattle.map_transition.specs.Wholes.{Whole}
use Rattle.mapped_runs.specs.Places.{AreSeenAt, IsInDescriptor, IsInWindow, MovesAsOne, OffsetsMove, PointersMove, RangesAreSeen, moved_by}
use Rattle.mapped_runs.proofs.MemberLemmas.{none_at, on_page, some_same, within}
use Rattle.mapped_runs.proofs.GroundLemmas.{ground_is, is_first, places, window_clear}
use Rattle.mapped_runs.proofs.EntryLemmas.{HasEntry, entry_of, place_by, window_fits}

-- ---- the first window that shows an address

abbrev window_for : List Descriptor → Descriptor → Window
window_for entries d = record { virt = virtual_of entries d.start; phys = d.start; len = 4096 * d.pages }

-- none of these runtime descriptors is shown at an address
abbrev NoneShows : (entries ds : List Descriptor) → (x : ℕ) → Type 0
NoneShows entries ds x = (j : ℕ) (e : Descriptor) → slice_get ds j ≡ Some e → is_runtime e ≡ true → shows (window_for entries e) x ≡ false

skipped : (w : Window) (ws : List Window) (x : ℕ) → shows w x ≡ false → window_at (w ∷ ws) x ≡ window_at ws x
unfolding window_at
skipped w ws x h = rw h refl

taken : (w : Window) (ws : List Window) (x : ℕ) → shows w x ≡ true → window_at (w ∷ ws) x ≡ Some w
unfolding window_at
taken w ws x h = rw h refl

passed : (entries ds : List Descriptor) (rest : List Window) (x : ℕ) → NoneShows entries ds x → window_at (runtime_windows entries ds ++ rest) x ≡ window_at rest x
unfolding runtime_windows
passed entries [] rest x h = refl
passed entries (d ∷ ds) rest x h = by (passed entries ds rest x (λ j e s r. h (suc j) e s r)) (is_runtime d) refl
  where
    by : window_at (runtime_windows entries ds ++ rest) x ≡ window_at rest x → (b : Bool) → is_runtime d ≡ b
        → window_at ((if b then window_for entries d ∷ runtime_windows entries ds else runtime_windows entries ds) ++ rest) x ≡ window_at rest x
    by later true r = skipped (window_for entries d) (runtime_windows entries ds ++ rest) x (h 0 d refl r) ∙ later
    by later false r = later

shown_by : (entries ds : List Descriptor) (rest : List Window) (i : ℕ) (d : Descriptor) (x : ℕ) → slice_get ds i ≡ Some d → is_runtime d ≡ true → shows (window_for entries d) x ≡ true
    → ((j : ℕ) (e : Descriptor) → j < i → slice_get ds j ≡ Some e → is_runtime e ≡ true → shows (window_for entries e) x ≡ false)
    → window_at (runtime_windows entries ds ++ rest) x ≡ Some (window_for entries d)
unfolding runtime_windows
shown_by entries [] rest i d x s r t h = absurd cc
shown_by entries (e ∷ es) rest zero d x s r t h =
    let same = some_same e d s in
    subst (λ (y : Descriptor). window_at ((if is_runtime y then window_for entries y ∷ runtime_windows entries es else runtime_windows entries es) ++ rest) x ≡ Some (window_for entries d)) (sym same)
    (rw r (taken (window_for entries d) (runtime_windows entries es ++ rest) x t))
shown_by entries (e ∷ es) rest (suc i) d x s r t h = by (shown_by entries es rest i d x s r t (λ j f l u q. h (suc j) f (omega (arith, l)) u q)) (is_runtime e) refl
  where
    by : window_at (runtime_windows entries es ++ rest) x ≡ Some (window_for entries d) → (b : Bool) → is_runtime e ≡ b
        → window_at ((if b then window_for entries e ∷ runtime_windows entries es else runtime_windows entries es) ++ rest) x ≡ Some (window_for entries d)
    by later true q = skipped (window_for entries e) (runtime_windows entries es ++ rest) x (h 0 e (omega arith) refl q) ∙ later
    by later false q = later

does_show : (w : Window) (x : ℕ) → w.virt ≤ x → x < w.virt + w.len → shows w x ≡ true
does_show w x low high = grind (arith, nat_tests)

not_shown : (w : Window) (x : ℕ) → (w.virt ≤ x → x < w.virt + w.len → ⊥) → shows w x ≡ false
not_shown w x h = by (nat_le w.virt x) (nat_lt x (w.virt + w.len)) refl refl
  where
    by : (a b : Bool) → nat_le w.virt x ≡ a → nat_lt x (w.virt + w.len) ≡ b → shows w x ≡ false
    by true true e f = absurd (h (grind (arith, nat_tests)) (grind (arith, nat_tests)))
    by true false e f = rw (e, f) refl
    by false b e f = rw e refl

-- ---- ranges of entries

order : (a b : ℕ) → (a ≡ b) ⊎ ((a < b) ⊎ (b < a))
order a b = by (a == b) (nat_lt a b) refl refl
  where
    by : (s t : Bool) → (a == b) ≡ s → nat_lt a b ≡ t → (a ≡ b) ⊎ ((a < b) ⊎ (b < a))
    by true t e f = inl (grind (arith, nat_tests))
    by false true e f = inr (inl (grind (arith, nat_tests)))
    by false false e f = inr (inr (grind (arith, nat_tests)))

meets_not : (a m b n x : ℕ) → meet a m b n ≡ false → a ≤ x → x < behind a m → b ≤ x → x < behind b n → ⊥
meets_not a m b n x h p q r s = absurd (let bad : meet a m b n ≡ true = grind (arith, nat_tests) in cc)

unaligned_not : (virt : ℕ) → is_unaligned virt ≡ false → virt % 4096 ≡ 0
unaligned_not virt h = grind (arith, nat_tests)

out_low : (virt pages : ℕ) → is_out virt pages ≡ false → 4096 ≤ virt
out_low virt pages h = grind (arith, nat_tests)

out_high : (virt pages : ℕ) → is_out virt pages ≡ false → behind virt pages ≤ 2 ^ 64 - 4096
out_high virt pages h = grind (arith, nat_tests)

second_false : (a b : Bool) → a ≡ true → (a && b) ≡ false → b ≡ false
second_false true b e h = h
second_false false b e h = absurd cc

-- ---- the view

module _ (r : Runtime) (call : Call) (whole : Whole r) (ok : first_fault (ground_of r) call ≡ None) (is_map : MapIsMap) (placed : EntriesArePlaced) (apart : RangesAreApart) where
  ground : IsGround (ground_of r)
  ground = ground_is r whole (is_first r call ok).gone is_map

  entry : (i : ℕ) (d : Descriptor) → slice_get r.descriptors i ≡ Some d → is_runtime d ≡ true → HasEntry call.entries d
  entry i d s t = entry_of (ground_of r) call ground ok placed i d s t

  abbrev end : ℕ
  end = r.layout.base + 4096 * r.layout.pages

  -- where the addresses of a runtime descriptor go
  record Goes (d : Descriptor) (virt : ℕ) : Type 0 where
    low : 4096 ≤ virt
    even : virt % 4096 ≡ 0
    high : behind virt d.pages ≤ 2 ^ 64 - 4096
    each : (x : ℕ) → d.start ≤ x → x < behind d.start d.pages → virtual_of call.entries x ≡ virt + (x - d.start)
    some : 0 < d.pages
    in_ram : behind d.start d.pages ≤ end
    above : r.layout.base ≤ d.start
    page : d.start % 4096 ≡ 0

  goes : (i : ℕ) (d : Descriptor) → slice_get r.descriptors i ≡ Some d → is_runtime d ≡ true → (e : HasEntry call.entries d) → Goes d e.one.virt
  goes i d s t e =
      let p = placed (ground_of r) call e.at e.one ok e.here e.runtime in
      let w = within r.layout.base end r.descriptors i d ground.covers s in
      let top = (places r.layout whole.ram.is_layout).end in
      let start = e.start in
      let pages = e.pages in
      let far = p.high in
      let last = w.high in
      record {
        low = p.low;
        even = p.aligned;
        high = omega (arith, far, pages);
        each = λ x low high. place_by call.entries x e.one (e.found x low high) (omega (arith, start, low)) (omega (arith, high, last, top)) (omega (arith, far, pages, start, high, low))
            ∙ ap (λ (n : ℕ). e.one.virt + (x - n)) start;
        some = w.some;
        in_ram = w.high;
        above = w.low;
        page = on_page r.layout.base end r.descriptors i d ground.covers (places r.layout whole.ram.is_layout).even s;
      }

  starts_at : (i : ℕ) (d : Descriptor) → slice_get r.descriptors i ≡ Some d → is_runtime d ≡ true → (e : HasEntry call.entries d) → virtual_of call.entries d.start ≡ e.one.virt
  starts_at i d s t e =
      let g = goes i d s t e in
      let some = g.some in
      g.each d.start (omega arith) (omega (arith, some)) ∙ omega arith

  -- two descriptors of different starts are shown at no common address
  one_shows : (i j : ℕ) (d f : Descriptor) (x : ℕ) → slice_get r.descriptors i ≡ Some d → is_runtime d ≡ true → slice_get r.descriptors j ≡ Some f → is_runtime f ≡ true → (d.start ≡ f.start → ⊥)
      → (a : HasEntry call.entries d) → (b : HasEntry call.entries f) → a.one.virt ≤ x → x < behind a.one.virt d.pages → shows (window_for call.entries f) x ≡ false
  one_shows i j d f x s t u q other a b low high = not_shown (window_for call.entries f) x (λ l h. by (order a.at b.at) (subst (λ (n : ℕ). n ≤ x) place l) (subst (λ (n : ℕ). x < n + 4096 * f.pages) place h))
    where
      place : virtual_of call.entries f.start ≡ b.one.virt
      place = starts_at j f u q b

      met : (behind a.one.virt a.one.pages ≤ b.one.virt) ⊎ (behind b.one.virt b.one.pages ≤ a.one.virt) → b.one.virt ≤ x → x < b.one.virt + 4096 * f.pages → ⊥
      met (inl k) l h = let p = a.pages in absurd (omega (arith, k, p, high, l))
      met (inr k) l h = let p = b.pages in absurd (omega (arith, k, p, low, h))

      turned : {A B : Type 0} → A ⊎ B → B ⊎ A
      turned (inl y) = inr y
      turned (inr y) = inl y

      by : (a.at ≡ b.at) ⊎ ((a.at < b.at) ⊎ (b.at < a.at)) → b.one.virt ≤ x → x < b.one.virt + 4096 * f.pages → ⊥
      by (inl same) l h =
          let here : slice_get call.entries b.at ≡ Some a.one = subst (λ (n : ℕ). slice_get call.entries n ≡ Some a.one) same a.here in
          let one : a.one ≡ b.one = some_same a.one b.one (sym here ∙ b.here) in
          absurd (other (sym a.start ∙ ap (λ (y : Descriptor). y.start) one ∙ b.start))
      by (inr (inl k)) l h = met (apart (ground_of r) call a.at b.at a.one b.one ok k a.here b.here a.runtime b.runtime) l h
      by (inr (inr k)) l h = met (turned (apart (ground_of r) call b.at a.at b.one a.one ok k b.here a.here b.runtime a.runtime)) l h

  -- an earlier descriptor begins before
  before : (ds : List Descriptor) (from to i j : ℕ) (d f : Descriptor) → i < j → Covers from to ds → slice_get ds i ≡ Some d → slice_get ds j ≡ Some f → d.start < f.start
  before [] from to i j d f l c s t = absurd cc
  before (e ∷ es) from to zero zero d f l c s t = absurd (omega (arith, l))
  before (e ∷ es) from to zero (suc j) d f l c s t =
      let low = (within (from + 4096 * e.pages) to es j f c.2 t).low in
      let start = c.0 in
      let some = c.1 in
      subst (λ (y : Descriptor). y.start < f.start) (some_same e d s) (omega (arith, low, start, some))
  before (e ∷ es) from to (suc i) zero d f l c s t = absurd (omega (arith, l))
  before (e ∷ es) from to (suc i) (suc j) d f l c s t = before es (from + 4096 * e.pages) to i j d f (omega (arith, l)) c.2 s t

  abbrev view : List Window
  view = view_after r.layout r.descriptors call.entries r.os_virtual

  abbrev later : List Window
  later = os_window r.layout r.os_virtual ∷ ranges_between r.layout r.layout.base r.descriptors

  seen_in : (i : ℕ) (d : Descriptor) → slice_get r.descriptors i ≡ Some d → is_runtime d ≡ true → (e : HasEntry call.entries d) → (o : ℕ) → o < 4096 * d.pages → see view (e.one.virt + o) ≡ Some (d.start + o)
  unfolding view_after
  seen_in i d s t e o l =
      let start = starts_at i d s t e in
      let shown : shows (window_for call.entries d) (e.one.virt + o) ≡ true = does_show (window_for call.entries d) (e.one.virt + o) (omega (arith, start)) (omega (arith, start, l)) in
      let first = shown_by call.entries r.descriptors later i d (e.one.virt + o) s t shown
      (λ j f k u q. let less = before r.descriptors r.layout.base end j i f d k ground.covers u s in one_shows i j d f (e.one.virt + o) s t u q (λ same. omega (arith, same, less)) e (entry j f u q) (omega arith) (omega (arith, l))) in
      let place : d.start + (e.one.virt + o - virtual_of call.entries d.start) ≡ d.start + o = omega (arith, start) in
      ap (λ (w : Option Window). place_in (e.one.virt + o) w) first ∙ ap Some place

  -- ---- a range of a runtime descriptor

  outside : (start len : ℕ) → (m : IsInDescriptor r.descriptors start len) → (x : ℕ) → start ≤ x → x < start + len → (nat_le r.layout.os_stack x && nat_lt x r.layout.boot_stack) ≡ false
  outside start len m x low high = by (nat_le r.layout.os_stack x) (nat_lt x r.layout.boot_stack) refl refl
    where
      by : (a b : Bool) → nat_le r.layout.os_stack x ≡ a → nat_lt x r.layout.boot_stack ≡ b → (nat_le r.layout.os_stack x && nat_lt x r.layout.boot_stack) ≡ false
      by true true p q =
          let l = m.low in
          let h = m.high in
          absurd (window_clear r whole (is_first r call ok).gone is_map m.at m.one x m.here m.runtime (grind (arith, nat_tests)) (grind (arith, nat_tests)) (omega (arith, l, low)) (omega (arith, h, high)))
      by true false p q = rw (p, q) refl
      by false b p q = rw p refl

  moved_in : (start len : ℕ) → (m : IsInDescriptor r.descriptors start len) → (e : HasEntry call.entries m.one) → (x : ℕ) → start ≤ x → x < start + len → moved_by r call x ≡ e.one.virt + (x - m.one.start)
  moved_in start len m e x low high =
      let off = outside start len m x low high in
      let l = m.low in
      let h = m.high in
      rw off ((goes m.at m.one m.here m.runtime e).each x (omega (arith, l, low)) (omega (arith, h, high)))

  range_seen : (start len : ℕ) → 0 < len → IsInDescriptor r.descriptors start len → AreSeenAt view start len (moved_by r call start)
  range_seen start len some m =
      let e = entry m.at m.one m.here m.runtime in
      let g = goes m.at m.one m.here m.runtime e in
      let l = m.low in
      let h = m.high in
      let low = g.low in
      let high = g.high in
      let even = g.even in
      let page = g.page in
      let to : moved_by r call start ≡ e.one.virt + (start - m.one.start) = moved_in start len m e start (omega arith) (omega (arith, some)) in
      record {
        low = omega (arith, to, low);
        high = omega (arith, to, high, h, l);
        page = omega (arith, to, even, page, l);
        shown = λ o k.
            let at : moved_by r call start + o ≡ e.one.virt + (start - m.one.start + o) = omega (arith, to) in
            let place : m.one.start + (start - m.one.start + o) ≡ start + o = omega (arith, l) in
            ap (see view) at ∙ seen_in m.at m.one m.here m.runtime e (start - m.one.start + o) (omega (arith, l, h, k)) ∙ ap Some place;
      }

  -- ---- a range of the window

  window_none : (x : ℕ) → r.os_virtual ≤ x → x < behind r.os_virtual window_pages → overlaps call.entries r.os_virtual window_pages ≡ false → NoneShows call.entries r.descriptors x
  unfolding overlaps
  window_none x low high h j f s t =
      let b = entry j f s t in
      let off = none_at (λ (y : Descriptor). is_runtime y && meet y.virt y.pages r.os_virtual window_pages) call.entries b.at b.one h b.here in
      let no = second_false (is_runtime b.one) _ b.runtime off in
      let start = starts_at j f s t b in
      let pages = b.pages in
      not_shown (window_for call.entries f) x (λ l k. meets_not b.one.virt b.one.pages r.os_virtual window_pages x no (omega (arith, start, l)) (omega (arith, start, pages, k)) low high)

  in_window : (start len : ℕ) → 0 < len → IsInWindow r.layout start len → (x : ℕ) → start ≤ x → x < start + len → moved_by r call x ≡ r.os_virtual + (x - r.layout.os_stack)
  in_window start len some m x low high =
      let l = m.low in
      let h = m.high in
      let a : nat_le r.layout.os_stack x ≡ true = grind (arith, nat_tests) in
      let b : nat_lt x r.layout.boot_stack ≡ true = grind (arith, nat_tests) in
      rw (a, b) refl

  window_seen : (start len : ℕ) → 0 < len → IsInWindow r.layout start len → AreSeenAt view start len (moved_by r call start)
  unfolding view_after
  window_seen start len some m =
      let f = window_fits (ground_of r) call ok in
      let p = places r.layout whole.ram.is_layout in
      let l = m.low in
      let h = m.high in
      let window = p.window in
      let stack = p.stack in
      let even = unaligned_not r.os_virtual f.even in
      let low = out_low r.os_virtual window_pages f.inside in
      let high = out_high r.os_virtual window_pages f.inside in
      let to : moved_by r call start ≡ r.os_virtual + (start - r.layout.os_stack) = in_window start len some m start (omega arith) (omega (arith, some)) in
      record {
        low = omega (arith, to, low);
        high = omega (arith, to, high, h, l, window);
        page = omega (arith, to, even, stack, l);
        shown = λ o k.
            let at : moved_by r call start + o ≡ r.os_virtual + (start - r.layout.os_stack + o) = omega (arith, to) in
            let first = passed call.entries r.descriptors later (r.os_virtual + (start - r.layout.os_stack + o)) (window_none (r.os_virtual + (start - r.layout.os_stack + o)) (omega arith) (omega (arith, l, h, window, k)) f.apart) in
            let shown = taken (os_window r.layout r.os_virtual) (ranges_between r.layout r.layout.base r.descriptors) (r.os_virtual + (start - r.layout.os_stack + o))
            (does_show (os_window r.layout r.os_virtual) (r.os_virtual + (start - r.layout.os_stack + o)) (omega arith) (omega (arith, l, h, window, k))) in
            let place : r.layout.os_stack + (r.os_virtual + (start - r.layout.os_stack + o) - r.os_virtual) ≡ start + o = omega (arith, l) in
            ap (see view) at ∙ ap (λ (w : Option Window). place_in (r.os_virtual + (start - r.layout.os_stack + o)) w) (first ∙ shown) ∙ ap Some place;
      }

  seen_by : (start len : ℕ) → 0 < len → MovesAsOne r start len → AreSeenAt view start len (moved_by r call start)
  seen_by start len some (inl m) = range_seen start len some m
  seen_by start len some (inr m) = window_seen start len some m

  offset_by : (start len o : ℕ) → MovesAsOne r start len → o < len → moved_by r call (start + o) ≡ moved_by r call start + o
  offset_by start len o (inl m) k =
      let e = entry m.at m.one m.here m.runtime in
      let l = m.low in
      let a = moved_in start len m e (start + o) (omega arith) (omega (arith, k)) in
      let b = moved_in start len m e start (omega arith) (omega (arith, k)) in
      omega (arith, a, b, l)
  offset_by start len o (inr m) k =
      let l = m.low in
      let a = in_window start len (omega (arith, k)) m (start + o) (omega arith) (omega (arith, k)) in
      let b = in_window start len (omega (arith, k)) m start (omega arith) (omega (arith, k)) in
      omega (arith, a, b, l)

  pointer_by : (flags start len o : ℕ) → IsInDescriptor r.descriptors start len → o < len → converted call.entries flags (start + o) ≡ Ok (moved_by r call start + o)
  unfolding converted
  pointer_by flags start len o m k =
      let e = entry m.at m.one m.here m.runtime in
      let g = goes m.at m.one m.here m.runtime e in
      let l = m.low in
      let h = m.high in
      let above = g.above in
      let base = (places r.layout whole.ram.is_layout).base in
      let some : (start + o == 0) ≡ false = (let more : 0 < start + o = omega (arith, above, base, l) in grind (arith, nat_tests)) in
      let found : entry_at call.entries (start + o) ≡ Some e.one = e.found (start + o) (omega (arith, l)) (omega (arith, h, k)) in
      let first = e.start in
      let to : moved_by r call start ≡ e.one.virt + (start - m.one.start) = moved_in start len m e start (omega arith) (omega (arith, k)) in
      let value : e.one.virt + (start + o - e.one.start) ≡ moved_by r call start + o = omega (arith, to, first, l) in
      rw (some, found) (ap Ok value)

module _ (is_map : MapIsMap) (placed : EntriesArePlaced) (apart : RangesAreApart) where
  pub ranges_are_seen : RangesAreSeen
  ranges_are_seen r call start len whole ok some m = seen_by r call whole ok is_map placed apart start len some m

  pub offsets_move : OffsetsMove
  offsets_move r call start len o whole ok m k = offset_by r call whole ok is_map placed apart start len o m k

  pub pointers_move : PointersMove
  pointers_move r call flags start len o whole ok m k = pointer_by r call whole ok is_map placed apart flags start len o m k
