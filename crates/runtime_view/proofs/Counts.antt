-- How many windows the view after a map has.
use Rattle.std.proofs.Common.{◌≡◌, ◌≤◌, ◌+◌, ◌*◌, ◌^◌, ℕ, suc, Bool, true, false, List, [], ◌∷◌, ◌++◌, length, refl, sym, arith, ◌∙◌, ap}
use Rattle.std.specs.Prelude.{if◌then◌else◌}
use Rattle.std.specs.List.{filter}
use Rattle.std.proofs.lemmas.List.{length-append}
use Rattle.page_alloc.specs.Layout.{IsLayout}
use Rattle.page_alloc.specs.declared.layout.Layout.{Layout}
use Rattle.memory_map.specs.declared.descriptor.Descriptor.{Descriptor}
use Rattle.memory_map.specs.Map.{Covers}
use Rattle.map_faults.specs.Rules.{is_runtime}
use Rattle.runtime_view.specs.Views.{virtual_of, runtime_windows, os_window, ranges_between, view_after, window_count}

-- each descriptor has a page
few_between : (from to : ℕ) (ds : List Descriptor) → Covers from to ds → from + 4096 * length ds ≤ to
few_between from to [] h = omega (arith, h)
few_between from to (d ∷ ds) h =
    let some = h.1 in
    let rest = few_between (from + 4096 * d.pages) to ds h.2 in
    omega (arith, some, rest)

pub few : (layout : Layout) (ds : List Descriptor) → IsLayout layout → Covers layout.base (layout.base + 4096 * layout.pages) ds → length ds ≤ 2 ^ 40
few layout ds h c =
    let end = h.ram.end in
    let all = few_between layout.base (layout.base + 4096 * layout.pages) ds c in
    omega (arith, end, all)

runtime_as_many : (entries ds : List Descriptor) → length (runtime_windows entries ds) ≡ length (filter is_runtime ds)
unfolding runtime_windows
runtime_as_many entries [] = refl
runtime_as_many entries (d ∷ ds) = by (is_runtime d) (runtime_as_many entries ds)
  where
    by : (b : Bool) → length (runtime_windows entries ds) ≡ length (filter is_runtime ds)
        → length (if b then record { virt = virtual_of entries d.start; phys = d.start; len = 4096 * d.pages } ∷ runtime_windows entries ds else runtime_windows entries ds)
        ≡ length (if b then d ∷ filter is_runtime ds else filter is_runtime ds)
    by true rest = ap suc rest
    by false rest = rest

pub as_many : (layout : Layout) (ds entries : List Descriptor) (os_virtual : ℕ) → length (view_after layout ds entries os_virtual) ≡ window_count layout ds
unfolding view_after window_count
as_many layout ds entries os_virtual =
    let both = length-append (runtime_windows entries ds) (os_window layout os_virtual ∷ ranges_between layout layout.base ds) in
    let same = runtime_as_many entries ds in
    omega (arith, both, same)
