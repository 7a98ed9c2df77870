-- Which place in memory an address shows.
use Rattle.std.specs.Prelude.{ℕ, ◌≡◌, ◌+◌, ◌-◌, ◌<◌, ◌≤◌, ◌^◌, ◌&&◌, nat_le, nat_lt, Bool, List, [], ◌∷◌, Option, Some, None, if◌then◌else◌}
use Rattle.address_view.specs.declared.view.Window.{Window}

-- a window's ranges don't wrap
pub record Fits (w : Window) : Type 0 where
  pub virt_end : w.virt + w.len ≤ 2 ^ 64
  pub phys_end : w.phys + w.len ≤ 2 ^ 64

-- No address lies in both of two ranges, each by its start and length.
abbrev pub Disjoint : ℕ → ℕ → ℕ → ℕ → Type 0
Disjoint a m b n = (x : ℕ) → a ≤ x → x < a + m → b ≤ x → x < b + n → ⊥

-- a window and each of a list have disjoint virtual ranges, and disjoint physical ones
abbrev pub ApartFrom : Window → List Window → Type 0
ApartFrom w [] = Unit {0}
ApartFrom w (u ∷ us) = Disjoint w.virt w.len u.virt u.len × Disjoint w.phys w.len u.phys u.len × ApartFrom w us

-- windows whose ranges don't wrap, with disjoint virtual ranges and disjoint physical ones
abbrev pub AreWindows : List Window → Type 0
AreWindows [] = Unit {0}
AreWindows (w ∷ ws) = Fits w × ApartFrom w ws × AreWindows ws

abbrev pub shows : Window → ℕ → Bool
shows w at = nat_le w.virt at && nat_lt at (w.virt + w.len)

-- the first window that shows an address
unfoldable pub window_at : List Window → ℕ → Option Window
window_at [] at = None
window_at (w ∷ ws) at = if shows w at then Some w else window_at ws at

abbrev pub place_in : ℕ → Option Window → Option ℕ
place_in at None = None
place_in at (Some w) = Some (w.phys + (at - w.virt))

-- the place that an address shows
abbrev pub see : List Window → ℕ → Option ℕ
see ws at = place_in at (window_at ws at)

abbrev pub shows_place : Window → ℕ → Bool
shows_place w place = nat_le w.phys place && nat_lt place (w.phys + w.len)

-- the first window that shows a place
unfoldable pub window_of : List Window → ℕ → Option Window
window_of [] place = None
window_of (w ∷ ws) place = if shows_place w place then Some w else window_of ws place

abbrev pub address_in : ℕ → Option Window → Option ℕ
address_in place None = None
address_in place (Some w) = Some (w.virt + (place - w.phys))

-- the address at which a place is shown
abbrev pub shown_at : List Window → ℕ → Option ℕ
shown_at ws place = address_in place (window_of ws place)

abbrev pub at_place : {X : Type 0} → X → (ℕ → X) → Option ℕ → X
at_place none f None = none
at_place none f (Some place) = f place

-- the byte that is seen at each address, 0 where none is, by the place that each address shows
unfoldable pub seen_bytes : (ℕ → Option ℕ) → (ℕ → ℕ) → ℕ → ℕ
seen_bytes shown bytes = λ at. at_place 0 bytes (shown at)

-- no place is shown at two addresses
abbrev pub ShowsOnce : (ℕ → Option ℕ) → Type 0
ShowsOnce shown = (a b place : ℕ) → shown a ≡ Some place → shown b ≡ Some place → a ≡ b
