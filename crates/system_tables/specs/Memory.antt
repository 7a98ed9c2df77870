-- The tables in guest memory.
use Rattle.std.specs.Prelude.{ℕ, ◌≡◌, ◌≤◌, ◌<◌, List, Result, Ok, Err}
use Rattle.page_alloc.specs.declared.layout.Layout.{Layout}
use Rattle.page_alloc.specs.Layout.{IsLayout}
use Rattle.uh_base.specs.Limits.{frame_limit}
use Rattle.guest_memory.specs.Lists.{count_true}
use Rattle.guest_memory.specs.Pages.{Pages, page_of, bytes_of}
use Rattle.guest_memory.specs.Runs.{bytes_from}
use Rattle.guest_memory.specs.Changes.{put_part, reserved, SomeUntouched, TouchedBesides}
use Rattle.guest_memory.specs.declared.rights.PutEnd.{PutEnd}
use Rattle.guest_memory.specs.declared.rights.PutEnd.TheVariants.{Outside, Frames, Memory}
use Rattle.system_tables.specs.Tables.{system_page, boot_page}

-- the memory is the RAM of the layout
pub record IsRamOf (layout : Layout) (m : Pages) : Type 0 where
  pub is_layout : IsLayout layout
  pub base : m.base ≡ layout.base
  pub pages : m.pages ≡ layout.pages

-- the bytes of the page at an address
abbrev pub page_bytes : Pages → ℕ → List ℕ
page_bytes m at = bytes_from (bytes_of m) at 4096

-- the memory with the boot page and, behind it, the system page touched
abbrev pub with_room : Layout → Pages → Pages
with_room layout m = reserved m (page_of m layout.boot) 2

-- the memory with the tables in it
abbrev pub built : Layout → Pages → Pages
built layout m = put_part (put_part (with_room layout m) layout.boot (boot_page layout)) layout.system (system_page layout)

-- Why there is no room for the tables, which leaves all bytes and rights as they were.
abbrev pub Refuses : PutEnd → Layout → Pages → Pages → Type 0
Refuses Outside layout old new = ⊥
Refuses Frames layout old new = (frame_limit < count_true (with_room layout old).touched) × (new ≡ old)
Refuses Memory layout old new =
    (count_true (with_room layout old).touched ≤ frame_limit) × SomeUntouched old (page_of old layout.boot) 2 × TouchedBesides old new

-- A touch of the two pages that ends so leads from old to new.
abbrev pub RoomGives : {X : Type 0} → Result X PutEnd → Layout → Pages → Pages → Type 0
RoomGives (Ok done) layout old new = (count_true (with_room layout old).touched ≤ frame_limit) × (new ≡ with_room layout old)
RoomGives (Err end) layout old new = Refuses end layout old new

-- A build that ends so leads from old to new.
abbrev pub BuildGives : {X : Type 0} → Result X PutEnd → Layout → Pages → Pages → Type 0
BuildGives (Ok done) layout old new = (count_true (with_room layout old).touched ≤ frame_limit) × (new ≡ built layout old)
BuildGives (Err end) layout old new = Refuses end layout old new
