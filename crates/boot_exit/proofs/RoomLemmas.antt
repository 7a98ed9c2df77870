-- The page of the system table, touched.
use Rattle.std.proofs.Common.{◌≡◌, ◌∙◌, ◌<◌, ◌≤◌, ◌+◌, ◌-◌, ◌*◌, ◌/◌, ℕ, Bool, true, false, refl, sym, ap, arith}
use Rattle.std.specs.Prelude.{◌^◌, OnOk, Result, Ok, Err, if◌then◌else◌}
use Rattle.std.proofs.lemmas.Bool.Decides.{nat_tests}
use Rattle.uh_base.specs.Limits.{frame_limit}
use Rattle.guest_memory.specs.declared.rights.PutEnd.{PutEnd}
use Rattle.guest_memory.specs.declared.rights.PutEnd.TheVariants as puts
use Rattle.guest_memory.specs.Lists.{count_true}
use Rattle.guest_memory.specs.Pages.{Pages, holds, page_of, is_touched, touched_at}
use Rattle.guest_memory.specs.Changes.{ReserveGives, has_pages, in_run}
use Rattle.page_alloc.specs.declared.layout.Layout.{Layout}
use Rattle.page_alloc.specs.Layout.{layout_at}
use Rattle.system_tables.specs.Memory.{IsRamOf}
use Rattle.boot_exit.specs.Exits.{with_room, lacks_room, RoomGives}

-- where the page lies
record Place (layout : Layout) : Type 0 where
  low : layout.base ≤ layout.system
  high : layout.system < layout.base + 4096 * layout.pages
  even : layout.base + 4096 * ((layout.system - layout.base) / 4096) ≡ layout.system
  page : (layout.system - layout.base) / 4096 + 2 ≡ layout.pages

place : (layout : Layout) (m : Pages) → IsRamOf layout m → Place layout
unfolding layout_at
place layout m h =
    let is = h.is_layout in
    let room = is.ram.room in
    let system : layout.system ≡ layout.base + 4096 * layout.pages - 0x2000 = ap (λ (l : Layout). l.system) is.places in
    record { low = omega (arith, system, room); high = omega (arith, system, room); even = omega (arith, system, room); page = omega (arith, system, room) }

pub is_above : (layout : Layout) (m : Pages) → IsRamOf layout m → layout.base ≤ layout.system
is_above layout m h = (place layout m h).low

pub is_small : (layout : Layout) (m : Pages) → IsRamOf layout m → (layout.system - layout.base) / 4096 < 2 ^ 32
is_small layout m h = let p = place layout m h in let page = p.page in let few = h.is_layout.ram.most in omega (arith, page, few)

has_page : (layout : Layout) (m : Pages) → IsRamOf layout m → has_pages m (page_of m layout.system) 1 ≡ true
has_page layout m h =
    let p = place layout m h in
    let base = h.base in let pages = h.pages in let page = p.page in
    let same : page_of m layout.system ≡ (layout.system - layout.base) / 4096 = ap (λ base. (layout.system - base) / 4096) base in
    grind (arith, nat_tests)

lacks_by : (layout : Layout) (m : Pages) → frame_limit < count_true (with_room layout m).touched → lacks_room layout m ≡ true
lacks_by layout m h = grind (arith, nat_tests)

room_by : (layout : Layout) (m : Pages) → count_true (with_room layout m).touched ≤ frame_limit → lacks_room layout m ≡ false
room_by layout m h = grind (arith, nat_tests)

-- what a touch of one page gives
given : {X : Type 0} (result : Result X PutEnd) (layout : Layout) (m new : Pages) → IsRamOf layout m → ReserveGives result m new (page_of m layout.system) 1 → RoomGives result layout m new
given (Ok done) layout m new h g = (room_by layout m g.1, g.2)
given (Err puts.Outside) layout m new h g = let bad : true ≡ false = sym (has_page layout m h) ∙ g.0 in cc
given (Err puts.Frames) layout m new h g = (lacks_by layout m g.1, g.2)
given (Err puts.Memory) layout m new h g = (g.2, g.3)

pub gives : {X : Type 0} (result : Result X PutEnd) (layout : Layout) (m new : Pages) (page : ℕ) → IsRamOf layout m → page ≡ (layout.system - layout.base) / 4096 → ReserveGives result m new page 1 → RoomGives result layout m new
gives result layout m new page h e g =
    let base = h.base in
    let same : page ≡ page_of m layout.system = e ∙ ap (λ base. (layout.system - base) / 4096) (sym base) in
    given result layout m new h (rw same at g)

touched_by : (m : Pages) (at : ℕ) (b : Bool) → (if b then is_touched m (page_of m at) else false) ≡ true → is_touched m (page_of m at) ≡ true
touched_by m at true h = h
touched_by m at false h = cc

-- a page of which a byte's address is touched
pub touched_page : (m : Pages) (at : ℕ) → touched_at m at ≡ true → is_touched m (page_of m at) ≡ true
unfolding touched_at
touched_page m at h = touched_by m at (holds m at) h

pub in_page : (layout : Layout) (m : Pages) (page : ℕ) → IsRamOf layout m → page ≡ (layout.system - layout.base) / 4096 → in_run m page 1 layout.system ≡ true
in_page layout m page h e =
    let p = place layout m h in
    let base = h.base in let even = p.even in
    grind (arith, nat_tests)

pub touched : {X E : Type 0} (result : Result X E) (layout : Layout) (m new : Pages) (page : ℕ) → IsRamOf layout m → page ≡ (layout.system - layout.base) / 4096
    → OnOk result (touched_at new ≡ (λ at. if in_run m page 1 at then true else touched_at m at)) → OnOk result (is_touched new (page_of new layout.system) ≡ true)
touched (Ok done) layout m new page h e g =
    let is : touched_at new layout.system ≡ (if in_run m page 1 layout.system then true else touched_at m layout.system) = ap (λ (f : ℕ → Bool). f layout.system) g in
    let here = in_page layout m page h e in
    touched_page new layout.system (is ∙ rw here refl)
touched (Err end) layout m new page h e g = tt
