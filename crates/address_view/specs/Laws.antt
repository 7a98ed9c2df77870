-- Laws of loads and stores, where `see` is the place that each address shows.
use Rattle.std.specs.Prelude.{ℕ, ◌≡◌, ◌≢◌, ◌<◌, ◌^◌, ◌↔◌, ◌⊎◌, Bool, true, false, List, ◌∷◌, ◌++◌, length, slice_get, Option, Some, All}
use Rattle.uh_base.specs.Bytes.{number_at, behind}
use Rattle.rv_step.specs.declared.bus.Access.{Access}
use Rattle.guest_memory.specs.Runs.{bytes_from}
use Rattle.guest_memory.specs.Pages.{Pages, Whole, bytes_of, rights_at, touched_at, same_page}
use Rattle.address_view.specs.Windows.{seen_bytes}
use Rattle.address_view.specs.Seen.{all_pass, view_allows, is_seen, IsCode}
use Rattle.address_view.specs.declared.code.CodePage.{CodePage}
use Rattle.address_view.specs.Stored.{stored, marked, lacks_seen, all_touched}
use Rattle.address_view.specs.declared.frames.ByteRange.{ByteRange}
use Rattle.address_view.specs.Ranges.{RangesSeen, marked_ranges, lacks_ranges}

-- so many addresses, from one on, all pass a test
abbrev pub AllPass : (ℕ → Bool) → ℕ → ℕ → Type 0
AllPass test at len = (i : ℕ) → i < len → test (behind at i) ≡ true

-- so many addresses, from two on, show the same places in the same order
abbrev pub SamePlaces : (ℕ → Option ℕ) → (ℕ → Option ℕ) → ℕ → ℕ → ℕ → Type 0
SamePlaces see other at there n = (i : ℕ) → i < n → see (behind at i) ≡ other (behind there i)

-- what two ranges have in common that show the same places
pub record Alike (see other : ℕ → Option ℕ) (m : Pages) (at there n : ℕ) : Type 0 where
  pub number : number_at (seen_bytes see (bytes_of m)) at n ≡ number_at (seen_bytes other (bytes_of m)) there n
  pub bytes : bytes_from (seen_bytes see (bytes_of m)) at n ≡ bytes_from (seen_bytes other (bytes_of m)) there n
  pub allowed : (kind : Access) → all_pass (view_allows see (rights_at m) kind) at n ≡ all_pass (view_allows other (rights_at m) kind) there n
  pub seen : all_pass (is_seen see m) at n ≡ all_pass (is_seen other m) there n
  pub after : (bytes : List ℕ) → length bytes ≡ n → stored see m at bytes ≡ stored other m there bytes
  pub lacks : lacks_seen see m at n ≡ lacks_seen other m there n
  pub touched : all_touched see m at n ≡ all_touched other m there n

-- what is loaded and stored depends on the places alone, through whatever view and at whatever addresses
abbrev pub PlacesDecide : Type 0
PlacesDecide = (see other : ℕ → Option ℕ) (m : Pages) (at there n : ℕ) → at < 2 ^ 64 → there < 2 ^ 64 → SamePlaces see other at there n → Alike see other m at there n

-- one of so many addresses shows the page of a place
abbrev pub ShowsPage : (ℕ → Option ℕ) → ℕ → ℕ → ℕ → Type 0
ShowsPage see at n place = (i : ℕ) × (i < n) × (shown : ℕ) × (see (behind at i) ≡ Some shown) × (same_page shown place ≡ true)

-- memory after a store of bytes, or with their pages touched
pub record After (see : ℕ → Option ℕ) (m : Pages) (at : ℕ) (bytes : List ℕ) : Type 0 where
  pub byte : (place : ℕ) → ((i : ℕ) → i < length bytes → see (behind at i) ≢ Some place) → bytes_of (stored see m at bytes) place ≡ bytes_of m place
  pub touched : (place : ℕ) → (touched_at (stored see m at bytes) place ≡ true) ↔ ((touched_at m place ≡ true) ⊎ ShowsPage see at (length bytes) place)
  pub marked : (place : ℕ) → (touched_at (record m { touched = marked see m.base m.touched at (length bytes) }) place ≡ true) ↔ ((touched_at m place ≡ true) ⊎ ShowsPage see at (length bytes) place)

-- a place that no address shows keeps its byte, and after a store a page is touched exactly where it was or one of the
-- addresses shows it
abbrev pub OthersStay : Type 0
OthersStay = (see : ℕ → Option ℕ) (m : Pages) (at : ℕ) (bytes : List ℕ) → at < 2 ^ 64 → Whole m → all_pass (is_seen see m) at (length bytes) ≡ true → After see m at bytes

-- a store on touched pages changes no mark, and never lacks frames
pub record Sure (see : ℕ → Option ℕ) (m : Pages) (at : ℕ) (bytes : List ℕ) : Type 0 where
  pub marks : (stored see m at bytes).touched ≡ m.touched
  pub frames : lacks_seen see m at (length bytes) ≡ false

abbrev pub TouchedSuffice : Type 0
TouchedSuffice = (see : ℕ → Option ℕ) (m : Pages) (at : ℕ) (bytes : List ℕ) → Whole m → all_touched see m at (length bytes) ≡ true → Sure see m at bytes

-- marks that are all there stay as they are
abbrev pub SameMarked : Type 0
SameMarked = (see : ℕ → Option ℕ) (m : Pages) (at n : ℕ) → all_touched see m at n ≡ true → marked see m.base m.touched at n ≡ m.touched

-- bytes are stored whatever is marked
abbrev pub StoredOver : Type 0
StoredOver = (see : ℕ → Option ℕ) (m : Pages) (marks : List Bool) (at : ℕ) (bytes : List ℕ)
    → stored see (record m { touched = marks }) at bytes ≡ record (stored see m at bytes) { touched = marked see m.base marks at (length bytes) }

-- A store of bytes is two stores, one behind the other. Where all of its addresses show memory, and frames suffice for it,
-- so it is for each of the two.
pub record Follow (see : ℕ → Option ℕ) (m : Pages) (at : ℕ) (first later : List ℕ) : Type 0 where
  pub bytes : stored see m at (first ++ later) ≡ stored see (stored see m at first) (behind at (length first)) later
  pub seen : all_pass (is_seen see m) at (length (first ++ later)) ≡ true
      → (all_pass (is_seen see m) at (length first) ≡ true) × (all_pass (is_seen see (stored see m at first)) (behind at (length first)) (length later) ≡ true)
  pub lacks : lacks_seen see m at (length (first ++ later)) ≡ false
      → (lacks_seen see m at (length first) ≡ false) × (lacks_seen see (stored see m at first) (behind at (length first)) (length later) ≡ false)

abbrev pub StoresFollow : Type 0
StoresFollow = (see : ℕ → Option ℕ) (m : Pages) (at : ℕ) (first later : List ℕ) → at < 2 ^ 64 → Follow see m at first later

-- where stores into several ranges don't lack frames together, the first doesn't, and the others don't behind it
pub record Suffice (see : ℕ → Option ℕ) (m : Pages) (range : ByteRange) (ranges : List ByteRange) : Type 0 where
  pub first : lacks_seen see m range.at range.len ≡ false
  pub touched : lacks_ranges see (record m { touched = marked see m.base m.touched range.at range.len }) ranges ≡ false
  pub stored : (bytes : List ℕ) → length bytes ≡ range.len → lacks_ranges see (stored see m range.at bytes) ranges ≡ false

abbrev pub RangesSuffice : Type 0
RangesSuffice = (see : ℕ → Option ℕ) (m : Pages) (range : ByteRange) (ranges : List ByteRange) → lacks_ranges see m (range ∷ ranges) ≡ false → Suffice see m range ranges

-- What is remembered of a page of code stays so while its addresses show the same places of the same RAM with the same
-- rights, whatever bytes are there.
abbrev pub CodeStays : Type 0
CodeStays = (see : ℕ → Option ℕ) (m n : Pages) (code : CodePage) → view_allows see (rights_at n) ≡ view_allows see (rights_at m) → n.base ≡ m.base → n.pages ≡ m.pages → IsCode see m code → IsCode see n code

-- an address of one of the ranges shows the page of a place
abbrev pub RangesShow : (ℕ → Option ℕ) → List ByteRange → ℕ → Type 0
RangesShow see ranges place = (i : ℕ) × (range : ByteRange) × (slice_get ranges i ≡ Some range) × ShowsPage see range.at range.len place

-- with the marks of several ranges a page is touched exactly where it was or an address of one of them shows it
abbrev pub RangesAreMarked : Type 0
RangesAreMarked = (see : ℕ → Option ℕ) (m : Pages) (ranges : List ByteRange) (place : ℕ) → All (λ (range : ByteRange). range.at < 2 ^ 64) ranges → Whole m → RangesSeen see m ranges
    → (touched_at (record m { touched = marked_ranges see m.base m.touched ranges }) place ≡ true) ↔ ((touched_at m place ≡ true) ⊎ RangesShow see ranges place)
