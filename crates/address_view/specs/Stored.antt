-- What stores make of memory, where `see` is the place that each address shows.
use Rattle.std.specs.Prelude.{ℕ, zero, suc, ◌≡◌, ◌-◌, ◌/◌, ◌&&◌, nat_lt, Bool, true, false, List, [], ◌∷◌, Option, Some, None, Result, Ok, Err, slice_get, slice_set}
use Rattle.uh_base.specs.Bytes.{next, first_refused}
use Rattle.uh_base.specs.Limits.{frame_limit}
use Rattle.uh_base.specs.LittleEndian.{low_bytes}
use Rattle.guest_memory.specs.Lists.{count_true}
use Rattle.guest_memory.specs.Pages.{Pages, or_false}
use Rattle.guest_memory.specs.Changes.{put_to, TouchedBesides}
use Rattle.guest_memory.specs.declared.rights.PutEnd.{PutEnd}
use Rattle.guest_memory.specs.declared.rights.PutEnd.TheVariants.{Outside, Frames, Memory}
use Rattle.address_view.specs.Seen.{is_seen}

abbrev pub put_seen : Pages → ℕ → Option ℕ → Pages
put_seen m byte None = m
put_seen m byte (Some place) = put_to m place byte

-- the memory with bytes stored from an address on
unfoldable pub stored : (ℕ → Option ℕ) → Pages → ℕ → List ℕ → Pages
stored see m at [] = m
stored see m at (byte ∷ bytes) = stored see (put_seen m byte (see at)) (next at) bytes

-- the memory with a number of so many bytes stored at an address, its least byte first
abbrev pub store_seen : (ℕ → Option ℕ) → Pages → ℕ → ℕ → ℕ → Pages
store_seen see m at width value = stored see m at (low_bytes width value)

abbrev pub mark_seen : ℕ → List Bool → Option ℕ → List Bool
mark_seen base marks None = marks
mark_seen base marks (Some place) = slice_set marks ((place - base) / 4096) true

-- the touched marks of a memory, by its base, with those of the pages that so many addresses show
unfoldable pub marked : (ℕ → Option ℕ) → ℕ → List Bool → ℕ → ℕ → List Bool
marked see base marks at zero = marks
marked see base marks at (suc n) = marked see base (mark_seen base marks (see at)) (next at) n

-- whether a store of so many bytes would touch more pages than there are frames
abbrev pub lacks_seen : (ℕ → Option ℕ) → Pages → ℕ → ℕ → Bool
lacks_seen see m at n = nat_lt frame_limit (count_true (marked see m.base m.touched at n))

abbrev pub is_marked : ℕ → List Bool → Option ℕ → Bool
is_marked base marks None = true
is_marked base marks (Some place) = or_false (slice_get marks ((place - base) / 4096))

-- whether each page that so many addresses show is marked
unfoldable pub all_marked : (ℕ → Option ℕ) → ℕ → List Bool → ℕ → ℕ → Bool
all_marked see base marks at zero = true
all_marked see base marks at (suc n) = is_marked base marks (see at) && all_marked see base marks (next at) n

-- whether each page that a store of so many bytes meets is touched
abbrev pub all_touched : (ℕ → Option ℕ) → Pages → ℕ → ℕ → Bool
all_touched see m at n = all_marked see m.base m.touched at n

-- A store of bytes at addresses that show memory, which ends so, leads from old to new; `n` is how many they are.
abbrev pub StoreGives : {X : Type 0} → Result X PutEnd → (ℕ → Option ℕ) → Pages → Pages → ℕ → List ℕ → ℕ → Type 0
StoreGives (Ok done) see old new at bytes n = (lacks_seen see old at n ≡ false) × (new ≡ stored see old at bytes)
StoreGives (Err Outside) see old new at bytes n = ⊥
StoreGives (Err Frames) see old new at bytes n = (lacks_seen see old at n ≡ true) × (new ≡ old)
StoreGives (Err Memory) see old new at bytes n = (lacks_seen see old at n ≡ false) × (all_touched see old at n ≡ false) × TouchedBesides old new

-- A touch of the pages that so many addresses show, which ends so, leads from old to new.
abbrev pub TouchesGive : {X : Type 0} → Result X PutEnd → (ℕ → Option ℕ) → Pages → Pages → ℕ → ℕ → Type 0
TouchesGive (Ok done) see old new at n = (lacks_seen see old at n ≡ false) × (new ≡ record old { touched = marked see old.base old.touched at n })
TouchesGive (Err Outside) see old new at n = ⊥
TouchesGive (Err Frames) see old new at n = (lacks_seen see old at n ≡ true) × (new ≡ old)
TouchesGive (Err Memory) see old new at n = (lacks_seen see old at n ≡ false) × (all_touched see old at n ≡ false) × TouchedBesides old new

-- so many addresses, from one on, all show memory
abbrev pub AllSeen : (ℕ → Option ℕ) → Pages → ℕ → ℕ → Type 0
AllSeen see m at n = first_refused (is_seen see m) at n ≡ None
