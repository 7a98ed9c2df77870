-- No address lies in two windows of the view after an accepted map.
use Rattle.std.proofs.Common.{◌≡◌, ◌<◌, ◌≤◌, ◌+◌, ◌-◌, ◌*◌, ℕ, zero, suc, Bool, true, false, List, [], ◌∷◌, ◌++◌, length, refl, sym, subst, arith, ◌⊎◌, inl, inr, ◌∙◌, ap}
use Rattle.std.specs.Prelude.{◌^◌, ◌==◌, ◌&&◌, not, nat_lt, nat_le, max, min, slice_get, Option, Some, None, if◌then◌else◌}
use Rattle.std.specs.List.{list_any, All}
use Rattle.std.proofs.lemmas.List.Elements.{All-nil, All-cons}
use Rattle.std.proofs.lemmas.Bool.Decides.{nat_tests}
use Rattle.page_alloc.specs.Layout.{IsLayout, layout_at}
use Rattle.page_alloc.specs.declared.layout.Layout.{Layout}
use Rattle.memory_map.specs.declared.descriptor.Descriptor.{Descriptor}
use Rattle.memory_map.specs.Map.{Covers}
use Rattle.address_view.specs.declared.view.Window.{Window}
use Rattle.address_view.specs.Windows.{AreWindows, ApartFrom, Disjoint, Fits}
use Rattle.map_faults.specs.Grounds.{Ground, Call, window_pages, IsGround}
use Rattle.map_faults.specs.Rules.{is_runtime, behind, meet, overlaps, shadows, sticks_out, is_out}
use Rattle.map_faults.specs.Faults.{first_fault}
use Rattle.map_faults.specs.Laws.{EntriesArePlaced, RangesAreApart, IsPlaced}
use Rattle.runtime_view.specs.Views.{virtual_of, runtime_windows, os_window, range, ranges_around, ranges_between, view_after, IsClear, WindowIsClear}
use Rattle.runtime_view.proofs.Members.{Each, In, at_each, none_any, all_in, OneOrApart, one_or_apart, starts_late, held, Holder}
use Rattle.runtime_view.proofs.Accepted.{Entry, WindowFits, window_fits, entry_clear, entry_of, place_of, second}

-- ---- lists of windows

pub apart_append : (w : Window) (a b : List Window) → ApartFrom w a → ApartFrom w b → ApartFrom w (a ++ b)
apart_append w [] b h k = k
apart_append w (u ∷ us) b h k = (h.0, h.1, apart_append w us b h.2 k)

pub are_append : (a b : List Window) → AreWindows a → AreWindows b → Each (λ (w : Window). ApartFrom w b) a → AreWindows (a ++ b)
are_append [] b h k x = k
are_append (w ∷ ws) b h k x = (h.0, apart_append w ws b h.1 x.0, are_append ws b h.2 k x.1)

-- ---- the places of a layout

record Places (layout : Layout) : Type 0 where
  base : 0 < layout.base
  stack : layout.base ≤ layout.os_stack
  window : layout.os_stack + 4096 * window_pages ≡ layout.boot_stack
  boot : layout.boot_stack ≤ layout.base + 4096 * layout.pages
  end : layout.base + 4096 * layout.pages ≤ 2 ^ 47

places : (layout : Layout) → IsLayout layout → Places layout
unfolding layout_at
places layout h =
    let is = h.places in
    let room = h.ram.room in
    let end = h.ram.end in
    let low = h.ram.above_zero in
    let stack : layout.os_stack ≡ (layout_at layout.base layout.pages).os_stack = ap (λ (x : Layout). x.os_stack) is in
    let boot : layout.boot_stack ≡ (layout_at layout.base layout.pages).boot_stack = ap (λ (x : Layout). x.boot_stack) is in
    record {
      base = low;
      stack = omega (arith, stack, room);
      window = omega (arith, stack, boot, room);
      boot = omega (arith, boot, room);
      end = end;
    }

-- ---- one range within another's shadow

at_none : (layout : Layout) (virt pages x : ℕ) (d : Descriptor) → (not (is_runtime d) && sticks_out layout (max d.start virt) (min (behind d.start d.pages) (behind virt pages))) ≡ false
    → is_runtime d ≡ false → d.start ≤ x → x < behind d.start d.pages → virt ≤ x → x < behind virt pages → ((x < layout.os_stack) ⊎ (layout.boot_stack ≤ x)) → ⊥
at_none layout virt pages x d h r a b c e (inl out) =
    let off = second (not (is_runtime d)) _ (ap not r) h in
    grind (arith, nat_tests)
at_none layout virt pages x d h r a b c e (inr out) =
    let off = second (not (is_runtime d)) _ (ap not r) h in
    grind (arith, nat_tests)

module _ (g : Ground) (call : Call) (ground : IsGround g) (ok : first_fault g call ≡ None) (clear : WindowIsClear g.layout g.descriptors) (placed : EntriesArePlaced) (apart : RangesAreApart) where
  abbrev end : ℕ
  end = g.layout.base + 4096 * g.layout.pages

  -- an address of RAM in no runtime descriptor and not in the operating system's window
  record Free (x : ℕ) : Type 0 where
    low : g.layout.base ≤ x
    high : x < end
    plain : (i : ℕ) (d : Descriptor) → slice_get g.descriptors i ≡ Some d → is_runtime d ≡ true → d.start ≤ x → x < behind d.start d.pages → ⊥
    out : (x < g.layout.os_stack) ⊎ (g.layout.boot_stack ≤ x)

  not_runtime : (d : Descriptor) (b : Bool) → is_runtime d ≡ b → (is_runtime d ≡ true → ⊥) → is_runtime d ≡ false
  not_runtime d true e h = absurd (h e)
  not_runtime d false e h = e

  -- a range that keeps out of the RAM that stays doesn't hold it
  unmet : (virt pages x : ℕ) → shadows g.layout g.descriptors virt pages ≡ false → Free x → virt ≤ x → x < behind virt pages → ⊥
  unfolding shadows
  unmet virt pages x h f low high =
      let k = held g.layout.base end x g.descriptors ground.covers f.low f.high in
      let all = none_any (λ (d : Descriptor). not (is_runtime d) && sticks_out g.layout (max d.start virt) (min (behind d.start d.pages) (behind virt pages))) g.descriptors h in
      let at = at_each (λ (d : Descriptor). (not (is_runtime d) && sticks_out g.layout (max d.start virt) (min (behind d.start d.pages) (behind virt pages))) ≡ false) g.descriptors k.at k.one all k.here in
      let r = not_runtime k.one (is_runtime k.one) refl (λ t. f.plain k.at k.one k.here t k.low k.high) in
      at_none g.layout virt pages x k.one at r k.low k.high low high f.out

  -- ---- ranges of RAM that stay

  record IsGap (from : ℕ) (w : Window) : Type 0 where
    same : w.virt ≡ w.phys
    low : from ≤ w.phys
    high : w.phys + w.len ≤ end
    free : (x : ℕ) → w.phys ≤ x → x < w.phys + w.len → Free x

  record AreGaps (from : ℕ) (ws : List Window) : Type 0 where
    windows : AreWindows ws
    gaps : Each (IsGap from) ws

  gap_fits : (from : ℕ) (w : Window) → IsGap from w → Fits w
  gap_fits from w h =
      let p = places g.layout ground.layout in
      let high = h.high in let top = p.end in let same = h.same in
      record { virt_end = omega (arith, high, top, same); phys_end = omega (arith, high, top) }

  lower : (from less : ℕ) (ws : List Window) → less ≤ from → Each (IsGap from) ws → Each (IsGap less) ws
  lower from less [] l h = tt
  lower from less (w ∷ ws) l h = let low = h.0.low in (record { same = h.0.same; low = omega (arith, low, l); high = h.0.high; free = h.0.free }, lower from less ws l h.1)

  -- a range below others is apart from them
  below : (a : ℕ) (w : Window) (from : ℕ) (ws : List Window) → IsGap a w → w.phys + w.len ≤ from → Each (IsGap from) ws → ApartFrom w ws
  below a w from [] g1 l h = tt
  below a w from (u ∷ us) g1 l h =
      let low = h.0.low in let s = h.0.same in let t = g1.same in
      (λ x p q r z. omega (arith, p, q, r, z, low, s, t, l), λ x p q r z. omega (arith, p, q, r, z, low, l), below a w from us g1 l h.1)

  all_below : (a from : ℕ) (ws us : List Window) → Each (λ (w : Window). IsGap a w × (w.phys + w.len ≤ from)) ws → Each (IsGap from) us → Each (λ (w : Window). ApartFrom w us) ws
  all_below a from [] us h k = tt
  all_below a from (w ∷ ws) us h k = (below a w from us h.0.0 h.0.1 k, all_below a from ws us h.1 k)

  -- ranges, each ending at most at an address
  record Ending (from to : ℕ) (ws : List Window) : Type 0 where
    windows : AreWindows ws
    gaps : Each (λ (w : Window). IsGap from w × (w.phys + w.len ≤ to)) ws

  gaps_of : (from to : ℕ) (ws : List Window) → Each (λ (w : Window). IsGap from w × (w.phys + w.len ≤ to)) ws → Each (IsGap from) ws
  gaps_of from to [] h = tt
  gaps_of from to (w ∷ ws) h = (h.0.0, gaps_of from to ws h.1)

  all_append : (P : Window → Type 0) (a b : List Window) → Each P a → Each P b → Each P (a ++ b)
  all_append P [] b h k = k
  all_append P (w ∷ ws) b h k = (h.0, all_append P ws b h.1 k)

  -- what is free of a range
  abbrev FreeIn : ℕ → ℕ → Type 0
  FreeIn low high = (x : ℕ) → low ≤ x → x < high → Free x

  range_by : (low high : ℕ) (b : Bool) → nat_lt low high ≡ b → high ≤ end → FreeIn low high → Ending low high (if b then record { virt = low; phys = low; len = high - low } ∷ [] else [])
  range_by low high true e top f =
      let l : low < high = grind (arith, nat_tests) in
      let gap : IsGap low (record { virt = low; phys = low; len = high - low }) = record { same = refl; low = omega arith; high = omega (arith, l, top); free = λ x p q. f x p (omega (arith, q, l)) } in
      record { windows = (gap_fits low _ gap, tt, tt); gaps = ((gap, omega (arith, l)), tt) }
  range_by low high false e top f = record { windows = tt; gaps = tt }

  range_gaps : (low high : ℕ) → high ≤ end → FreeIn low high → Ending low high (range low high)
  range_gaps low high top f = range_by low high (nat_lt low high) refl top f

  raised : (from low to : ℕ) (ws : List Window) → from ≤ low → Each (λ (w : Window). IsGap low w × (w.phys + w.len ≤ to)) ws → (up : ℕ) → to ≤ up → Each (λ (w : Window). IsGap from w × (w.phys + w.len ≤ up)) ws
  raised from low to [] l h up u = tt
  raised from low to (w ∷ ws) l h up u =
      let a = h.0.0.low in let b = h.0.1 in
      ((record { same = h.0.0.same; low = omega (arith, a, l); high = h.0.0.high; free = h.0.0.free }, omega (arith, b, u)), raised from low to ws l h.1 up u)

  two_ranges : (low mid1 mid2 high : ℕ) (a b : List Window) → Ending low mid1 a → Ending mid2 high b → mid1 ≤ mid2 → low ≤ mid2 → mid1 ≤ high → Ending low high (a ++ b)
  two_ranges low mid1 mid2 high a b h k l m n =
      record {
        windows = are_append a b h.windows k.windows (all_below low mid2 a b (raised low low mid1 a (omega arith) h.gaps mid2 l) (gaps_of mid2 high b k.gaps));
        gaps = all_append (λ (w : Window). IsGap low w × (w.phys + w.len ≤ high)) a b (raised low low mid1 a (omega arith) h.gaps high n) (raised low mid2 high b m k.gaps high (omega arith));
      }

  around_gaps : (low high : ℕ) → g.layout.base ≤ low → high ≤ end → ((x : ℕ) → low ≤ x → x < high → (i : ℕ) (d : Descriptor) → slice_get g.descriptors i ≡ Some d → is_runtime d ≡ true → d.start ≤ x → x < behind d.start d.pages → ⊥)
      → Ending low high (ranges_around g.layout low high)
  around_gaps low high base top plain =
      let p = places g.layout ground.layout in
      let window = p.window in
      two_ranges low (min high g.layout.os_stack) (max low g.layout.boot_stack) high (range low (min high g.layout.os_stack)) (range (max low g.layout.boot_stack) high)
      (range_gaps low (min high g.layout.os_stack) (grind arith) (λ x a b. record { low = omega (arith, a, base); high = (let l : x < high = grind arith in omega (arith, l, top)); plain = plain x a (grind arith); out = inl (grind arith) }))
      (range_gaps (max low g.layout.boot_stack) high top (λ x a b. record { low = (let l : low ≤ x = grind arith in omega (arith, l, base)); high = omega (arith, b, top); plain = plain x (grind arith) b; out = inr (grind arith) }))
      (let l : g.layout.os_stack ≤ g.layout.boot_stack = omega (arith, window) in grind arith) (grind arith) (grind arith)

  -- each runtime descriptor ends at most at one address or begins at least at another
  abbrev Passed : ℕ → ℕ → Type 0
  Passed from next = (i : ℕ) (d : Descriptor) → slice_get g.descriptors i ≡ Some d → is_runtime d ≡ true → (behind d.start d.pages ≤ from) ⊎ (next ≤ d.start)

  next_by : (d e : Descriptor) → OneOrApart d e → 0 < e.pages → d.start ≤ e.start → (d ≡ e) ⊎ (behind d.start d.pages ≤ e.start)
  next_by d e (inl same) some l = inl same
  next_by d e (inr (inl before)) some l = inr before
  next_by d e (inr (inr after)) some l = absurd (omega (arith, after, some, l))

  next_one : (i j : ℕ) (d e : Descriptor) → slice_get g.descriptors i ≡ Some d → slice_get g.descriptors j ≡ Some e → d.start ≤ e.start → (d ≡ e) ⊎ (behind d.start d.pages ≤ e.start)
  next_one i j d e s t l = next_by d e (one_or_apart g.layout.base end g.descriptors i j d e ground.covers s t) (starts_late g.layout.base end g.descriptors j e ground.covers t).2 l

  passed_runtime : (d e : Descriptor) (from : ℕ) → from ≤ d.start → ((behind e.start e.pages ≤ from) ⊎ (d.start ≤ e.start)) → (d.start ≤ e.start → (d ≡ e) ⊎ (behind d.start d.pages ≤ e.start))
      → (behind e.start e.pages ≤ behind d.start d.pages) ⊎ (behind d.start d.pages ≤ e.start)
  passed_runtime d e from l (inl h) next = inl (omega (arith, h, l))
  passed_runtime d e from l (inr h) next = by (next h)
    where
      by : (d ≡ e) ⊎ (behind d.start d.pages ≤ e.start) → (behind e.start e.pages ≤ behind d.start d.pages) ⊎ (behind d.start d.pages ≤ e.start)
      by (inl same) = inl (subst (λ (x : Descriptor). behind x.start x.pages ≤ behind d.start d.pages) same (omega arith))
      by (inr after) = inr after

  passed_plain : (d e : Descriptor) (from : ℕ) → is_runtime d ≡ false → is_runtime e ≡ true → ((behind e.start e.pages ≤ from) ⊎ (d.start ≤ e.start)) → (d.start ≤ e.start → (d ≡ e) ⊎ (behind d.start d.pages ≤ e.start))
      → (behind e.start e.pages ≤ from) ⊎ (behind d.start d.pages ≤ e.start)
  passed_plain d e from p r (inl h) next = inl h
  passed_plain d e from p r (inr h) next = by (next h)
    where
      by : (d ≡ e) ⊎ (behind d.start d.pages ≤ e.start) → (behind e.start e.pages ≤ from) ⊎ (behind d.start d.pages ≤ e.start)
      by (inl same) = let bad : is_runtime e ≡ false = subst (λ (x : Descriptor). is_runtime x ≡ false) same p in let none : ⊥ = cc in absurd none
      by (inr after) = inr after

  out_of : (e : Descriptor) (from next x : ℕ) → ((behind e.start e.pages ≤ from) ⊎ (next ≤ e.start)) → from ≤ x → x < next → e.start ≤ x → x < behind e.start e.pages → ⊥
  out_of e from next x (inl h) a b c d = omega (arith, h, a, d)
  out_of e from next x (inr h) a b c d = omega (arith, h, b, c)

  joined : (from to behind_it : ℕ) (a b : List Window) → Ending from to a → AreGaps behind_it b → to ≤ behind_it → from ≤ behind_it → AreGaps from (a ++ b)
  joined from to behind_it a b h k l m = record {
    windows = are_append a b h.windows k.windows (all_below from behind_it a b (raised from from to a (omega arith) h.gaps behind_it l) k.gaps);
    gaps = all_append (IsGap from) a b (gaps_of from to a h.gaps) (lower behind_it from b m k.gaps);
  }

  between_by : (d : Descriptor) (ds : List Descriptor) (from : ℕ) (b : Bool) → is_runtime d ≡ b → from ≤ d.start → Ending from d.start (ranges_around g.layout from d.start)
      → (is_runtime d ≡ true → AreGaps (behind d.start d.pages) (ranges_between g.layout (behind d.start d.pages) ds)) → (is_runtime d ≡ false → AreGaps from (ranges_between g.layout from ds))
      → AreGaps from (if b then ranges_around g.layout from d.start ++ ranges_between g.layout (behind d.start d.pages) ds else ranges_between g.layout from ds)
  between_by d ds from true e l first after rest = joined from d.start (behind d.start d.pages) (ranges_around g.layout from d.start) (ranges_between g.layout (behind d.start d.pages) ds) first (after e) (omega arith) (omega (arith, l))
  between_by d ds from false e l first after rest = rest e

  between_gaps : (ds : List Descriptor) (from next : ℕ) → Covers next end ds → Each (λ (d : Descriptor). In d g.descriptors) ds → g.layout.base ≤ from → from ≤ next → Passed from next → AreGaps from (ranges_between g.layout from ds)
  unfolding ranges_between
  between_gaps [] from next c m base l passed =
      let k = around_gaps from end base (omega arith) (λ x a b i d s r p q. out_of d from next x (passed i d s r) a (omega (arith, b, c)) p q) in
      record { windows = k.windows; gaps = gaps_of from end (ranges_around g.layout from end) k.gaps }
  between_gaps (d ∷ ds) from next c m base l passed =
      let start : d.start ≡ next = c.0 in
      let within = starts_late g.layout.base end g.descriptors m.0.0 d ground.covers m.0.1 in
      let last = within.1 in
      let low : from ≤ d.start = omega (arith, start, l) in
      let rest : Covers (behind d.start d.pages) end ds = subst (λ (n : ℕ). Covers (n + 4096 * d.pages) end ds) (sym start) c.2 in
      between_by d ds from (is_runtime d) refl low
      (around_gaps from d.start base (omega (arith, last)) (λ x a b i e s r p q. out_of e from next x (passed i e s r) a (omega (arith, b, start)) p q))
      (λ r. between_gaps ds (behind d.start d.pages) (behind d.start d.pages) rest m.1 (omega (arith, base, low)) (omega arith)
      (λ i e s t. passed_runtime d e from low (subst (λ (n : ℕ). (behind e.start e.pages ≤ from) ⊎ (n ≤ e.start)) (sym start) (passed i e s t)) (next_one m.0.0 i d e m.0.1 s)))
      (λ r. between_gaps ds from (behind d.start d.pages) rest m.1 base (omega (arith, low))
      (λ i e s t. passed_plain d e from r t (subst (λ (n : ℕ). (behind e.start e.pages ≤ from) ⊎ (n ≤ e.start)) (sym start) (passed i e s t)) (next_one m.0.0 i d e m.0.1 s)))

  all_gaps : AreGaps g.layout.base (ranges_between g.layout g.layout.base g.descriptors)
  all_gaps = between_gaps g.descriptors g.layout.base g.layout.base ground.covers (all_in g.descriptors) (omega arith) (omega arith) (λ i d s r. inr (starts_late g.layout.base end g.descriptors i d ground.covers s).0)

  -- ---- windows of runtime descriptors

  abbrev window_for : Descriptor → Window
  window_for d = record { virt = virtual_of call.entries d.start; phys = d.start; len = 4096 * d.pages }

  record IsRuntimeWindow (from : ℕ) (w : Window) : Type 0 where
    at : ℕ
    one : Descriptor
    here : slice_get g.descriptors at ≡ Some one
    runtime : is_runtime one ≡ true
    is : w ≡ window_for one
    low : from ≤ one.start

  order : (a b : ℕ) → (a ≡ b) ⊎ ((a < b) ⊎ (b < a))
  order zero zero = inl refl
  order zero (suc b) = inr (inl (omega arith))
  order (suc a) zero = inr (inr (omega arith))
  order (suc a) (suc b) = by (order a b)
    where
      by : (a ≡ b) ⊎ ((a < b) ⊎ (b < a)) → (suc a ≡ suc b) ⊎ ((suc a < suc b) ⊎ (suc b < suc a))
      by (inl e) = inl (ap suc e)
      by (inr (inl l)) = inr (inl (omega (arith, l)))
      by (inr (inr l)) = inr (inr (omega (arith, l)))

  abbrev Apart : Descriptor → Descriptor → Type 0
  Apart e f = (behind e.virt e.pages ≤ f.virt) ⊎ (behind f.virt f.pages ≤ e.virt)

  turned : (e f : Descriptor) → Apart e f → Apart f e
  turned e f (inl h) = inr h
  turned e f (inr h) = inl h

  one_entry : (e f : Descriptor) (i : ℕ) → slice_get call.entries i ≡ Some e → slice_get call.entries i ≡ Some f → e ≡ f
  one_entry e f i s t = let both : Some e ≡ Some f = sym s ∙ t in cc

  apart_by : (d e : Descriptor) (a : Entry g call.entries d) (b : Entry g call.entries e) → (d.start ≡ e.start → ⊥) → (a.at ≡ b.at) ⊎ ((a.at < b.at) ⊎ (b.at < a.at)) → Apart a.one b.one
  apart_by d e a b other (inl same) =
      let one : a.one ≡ b.one = one_entry a.one b.one b.at (subst (λ (i : ℕ). slice_get call.entries i ≡ Some a.one) same a.here) b.here in
      let starts : d.start ≡ e.start = sym a.start ∙ ap (λ (x : Descriptor). x.start) one ∙ b.start in
      absurd (other starts)
  apart_by d e a b other (inr (inl l)) = apart g call a.at b.at a.one b.one ok l a.here b.here a.runtime b.runtime
  apart_by d e a b other (inr (inr l)) = turned b.one a.one (apart g call b.at a.at b.one a.one ok l b.here a.here b.runtime a.runtime)

  never_both : (a m b n v w x : ℕ) → (behind a m ≤ b) ⊎ (behind b n ≤ a) → v ≡ a → w ≡ b → v ≤ x → x < v + 4096 * m → w ≤ x → x < w + 4096 * n → ⊥
  never_both a m b n v w x (inl h) p q c d e f = omega (arith, h, p, q, c, d, e, f)
  never_both a m b n v w x (inr h) p q c d e f = omega (arith, h, p, q, c, d, e, f)

  two_apart : (i j : ℕ) (d e : Descriptor) → slice_get g.descriptors i ≡ Some d → slice_get g.descriptors j ≡ Some e → is_runtime d ≡ true → is_runtime e ≡ true → behind d.start d.pages ≤ e.start
      → Disjoint (virtual_of call.entries d.start) (4096 * d.pages) (virtual_of call.entries e.start) (4096 * e.pages) × Disjoint d.start (4096 * d.pages) e.start (4096 * e.pages)
  two_apart i j d e s t r q l =
      let a = entry_of g call ground ok placed i d s r in
      let b = entry_of g call ground ok placed j e t q in
      let some = (starts_late g.layout.base end g.descriptors i d ground.covers s).2 in
      let ranges = apart_by d e a b (λ same. omega (arith, l, some, same)) (order a.at b.at) in
      let sizes : (behind a.one.virt d.pages ≤ b.one.virt) ⊎ (behind b.one.virt e.pages ≤ a.one.virt) = subst (λ (n : ℕ). (behind a.one.virt n ≤ b.one.virt) ⊎ (behind b.one.virt e.pages ≤ a.one.virt)) a.pages (subst (λ (n : ℕ). (behind a.one.virt a.one.pages ≤ b.one.virt) ⊎ (behind b.one.virt n ≤ a.one.virt)) b.pages ranges) in (
        λ x u v w z. never_both a.one.virt d.pages b.one.virt e.pages (virtual_of call.entries d.start) (virtual_of call.entries e.start) x sizes (place_of g call ground ok placed i d s a) (place_of g call ground ok placed j e t b) u v w z,
        λ x u v w z. omega (arith, l, u, v, w, z),
      )

  apart_later : (i : ℕ) (d : Descriptor) → slice_get g.descriptors i ≡ Some d → is_runtime d ≡ true → (ws : List Window) → Each (IsRuntimeWindow (behind d.start d.pages)) ws → ApartFrom (window_for d) ws
  apart_later i d s r [] h = tt
  apart_later i d s r (w ∷ ws) h =
      let k = h.0 in
      let two = two_apart i k.at d k.one s k.here r k.runtime k.low in
      let same = sym k.is in
      subst (λ (u : Window). Disjoint (virtual_of call.entries d.start) (4096 * d.pages) u.virt u.len × Disjoint d.start (4096 * d.pages) u.phys u.len × ApartFrom (window_for d) ws) same (two.0, two.1, apart_later i d s r ws h.1)

  runtime_fits : (i : ℕ) (d : Descriptor) → slice_get g.descriptors i ≡ Some d → is_runtime d ≡ true → Fits (window_for d)
  runtime_fits i d s r =
      let a = entry_of g call ground ok placed i d s r in
      let p = placed g call a.at a.one ok a.here a.runtime in
      let high = p.high in let pages = a.pages in
      let is = place_of g call ground ok placed i d s a in
      let last = (starts_late g.layout.base end g.descriptors i d ground.covers s).1 in
      let top = (places g.layout ground.layout).end in
      record { virt_end = omega (arith, high, pages, is); phys_end = omega (arith, last, top) }

  record AreRuntime (from : ℕ) (ws : List Window) : Type 0 where
    windows : AreWindows ws
    each : Each (IsRuntimeWindow from) ws

  less_low : (from less : ℕ) (ws : List Window) → less ≤ from → Each (IsRuntimeWindow from) ws → Each (IsRuntimeWindow less) ws
  less_low from less [] l h = tt
  less_low from less (w ∷ ws) l h = let low = h.0.low in (record { at = h.0.at; one = h.0.one; here = h.0.here; runtime = h.0.runtime; is = h.0.is; low = omega (arith, low, l) }, less_low from less ws l h.1)

  runtime_by : (i : ℕ) (d : Descriptor) (ds : List Descriptor) (next : ℕ) → slice_get g.descriptors i ≡ Some d → next ≤ d.start → (b : Bool) → is_runtime d ≡ b → AreRuntime (behind d.start d.pages) (runtime_windows call.entries ds)
      → AreRuntime next (if b then window_for d ∷ runtime_windows call.entries ds else runtime_windows call.entries ds)
  runtime_by i d ds next s l true r h = record {
    windows = (runtime_fits i d s r, apart_later i d s r (runtime_windows call.entries ds) h.each, h.windows);
    each = (record { at = i; one = d; here = s; runtime = r; is = refl; low = l }, less_low (behind d.start d.pages) next (runtime_windows call.entries ds) (omega (arith, l)) h.each);
  }
  runtime_by i d ds next s l false r h = record { windows = h.windows; each = less_low (behind d.start d.pages) next (runtime_windows call.entries ds) (omega (arith, l)) h.each }

  are_runtime : (ds : List Descriptor) (next : ℕ) → Covers next end ds → Each (λ (d : Descriptor). In d g.descriptors) ds → AreRuntime next (runtime_windows call.entries ds)
  unfolding runtime_windows
  are_runtime [] next c m = record { windows = tt; each = tt }
  are_runtime (d ∷ ds) next c m =
      let start : d.start ≡ next = c.0 in
      let rest : Covers (behind d.start d.pages) end ds = subst (λ (n : ℕ). Covers (n + 4096 * d.pages) end ds) (sym start) c.2 in
      runtime_by m.0.0 d ds next m.0.1 (omega (arith, start)) (is_runtime d) refl (are_runtime ds (behind d.start d.pages) rest m.1)

  -- ---- the operating system's window

  fits_of : WindowFits g call
  fits_of = window_fits g call ok

  os_fits : Fits (os_window g.layout g.os_virtual)
  os_fits =
      let inside = fits_of.inside in
      let p = places g.layout ground.layout in
      let window = p.window in let boot = p.boot in let top = p.end in
      record { virt_end = grind (arith, nat_tests); phys_end = omega (arith, window, boot, top) }

  not_met : (a m b n : ℕ) → meet a m b n ≡ false → (x : ℕ) → a ≤ x → x < behind a m → b ≤ x → x < behind b n → ⊥
  not_met a m b n h x p q r s = grind (arith, nat_tests)

  os_apart : (i : ℕ) (d : Descriptor) → slice_get g.descriptors i ≡ Some d → is_runtime d ≡ true → Disjoint (virtual_of call.entries d.start) (4096 * d.pages) g.os_virtual (4096 * window_pages) × Disjoint d.start (4096 * d.pages) g.layout.os_stack (4096 * window_pages)
  unfolding overlaps
  os_apart i d s r =
      let a = entry_of g call ground ok placed i d s r in
      let all = none_any (λ (f : Descriptor). is_runtime f && meet f.virt f.pages g.os_virtual window_pages) call.entries fits_of.apart in
      let off = second (is_runtime a.one) (meet a.one.virt a.one.pages g.os_virtual window_pages) a.runtime (at_each (λ (f : Descriptor). (is_runtime f && meet f.virt f.pages g.os_virtual window_pages) ≡ false) call.entries a.at a.one all a.here) in
      let is = place_of g call ground ok placed i d s a in
      let pages = a.pages in
      let window = (places g.layout ground.layout).window in (
        λ x p q u v. not_met a.one.virt a.one.pages g.os_virtual window_pages off x (omega (arith, p, is)) (omega (arith, q, is, pages)) u v,
        λ x p q u v. clear i d s r x u (omega (arith, v, window)) p q,
      )

  -- ---- windows against ranges that stay

  runtime_from_gaps : (i : ℕ) (d : Descriptor) → slice_get g.descriptors i ≡ Some d → is_runtime d ≡ true → (from : ℕ) (ws : List Window) → Each (IsGap from) ws → ApartFrom (window_for d) ws
  runtime_from_gaps i d s r from [] h = tt
  runtime_from_gaps i d s r from (w ∷ ws) h =
      let a = entry_of g call ground ok placed i d s r in
      let is = place_of g call ground ok placed i d s a in
      let pages = a.pages in let same = h.0.same in
      let out = entry_clear g call a.at a.one ok a.here a.runtime in (
        λ x p q u v. unmet a.one.virt a.one.pages x out (h.0.free x (omega (arith, u, same)) (omega (arith, v, same))) (omega (arith, p, is)) (omega (arith, q, is, pages)),
        λ x p q u v. (h.0.free x u v).plain i d s r p q,
        runtime_from_gaps i d s r from ws h.1,
      )

  outside : (x : ℕ) → (x < g.layout.os_stack) ⊎ (g.layout.boot_stack ≤ x) → g.layout.os_stack ≤ x → x < g.layout.os_stack + 4096 * window_pages → ⊥
  outside x (inl h) p q = omega (arith, h, p)
  outside x (inr h) p q = let window = (places g.layout ground.layout).window in omega (arith, h, q, window)

  os_from_gaps : (from : ℕ) (ws : List Window) → Each (IsGap from) ws → ApartFrom (os_window g.layout g.os_virtual) ws
  os_from_gaps from [] h = tt
  os_from_gaps from (w ∷ ws) h =
      let same = h.0.same in (
        λ x p q u v. unmet g.os_virtual window_pages x fits_of.clear (h.0.free x (omega (arith, u, same)) (omega (arith, v, same))) p q,
        λ x p q u v. outside x (h.0.free x u v).out p q,
        os_from_gaps from ws h.1,
      )

  -- ---- all

  abbrev others : List Window
  others = os_window g.layout g.os_virtual ∷ ranges_between g.layout g.layout.base g.descriptors

  from_others : (from : ℕ) (ws : List Window) → Each (IsRuntimeWindow from) ws → Each (λ (w : Window). ApartFrom w others) ws
  from_others from [] h = tt
  from_others from (w ∷ ws) h =
      let k = h.0 in
      let os = os_apart k.at k.one k.here k.runtime in
      let gaps = runtime_from_gaps k.at k.one k.here k.runtime g.layout.base (ranges_between g.layout g.layout.base g.descriptors) all_gaps.gaps in
      (subst (λ (u : Window). ApartFrom u others) (sym k.is) (os.0, os.1, gaps), from_others from ws h.1)

  pub lawful : AreWindows (view_after g.layout g.descriptors call.entries g.os_virtual)
  unfolding view_after
  lawful =
      let r = are_runtime g.descriptors g.layout.base ground.covers (all_in g.descriptors) in
      are_append (runtime_windows call.entries g.descriptors) others r.windows (os_fits, os_from_gaps g.layout.base (ranges_between g.layout g.layout.base g.descriptors) all_gaps.gaps, all_gaps.windows) (from_others g.layout.base (runtime_windows call.entries g.descriptors) r.each)

pub ends_low : (from to : ℕ) (ds : List Descriptor) → Covers from to ds → to ≤ 2 ^ 47 → All (λ (d : Descriptor). d.start + 4096 * d.pages < 2 ^ 64) ds
ends_low from to [] c l = All-nil (λ (d : Descriptor). d.start + 4096 * d.pages < 2 ^ 64)
ends_low from to (d ∷ ds) c l =
    let r = (starts_late from to (d ∷ ds) 0 d c refl).1 in
    All-cons (λ (e : Descriptor). e.start + 4096 * e.pages < 2 ^ 64) d ds (omega (arith, r, l)) (ends_low (from + 4096 * d.pages) to ds c.2 l)

pub pages_low : (ds : List Descriptor) → All (λ (d : Descriptor). d.start + 4096 * d.pages < 2 ^ 64) ds → All (λ (d : Descriptor). 4096 * d.pages < 2 ^ 64) ds
pages_low ds h i d l = let k = h i d l in omega (arith, k)
