-- The two pages of a layout's RAM.
use Rattle.std.proofs.Common.{◌≡◌, ℕ, zero, suc, ◌+◌, ◌*◌, ◌-◌, ◌/◌, ◌^◌, ◌≤◌, ◌<◌, Bool, true, false, List, length, get_or, refl, sym, ap, subst, ◌∙◌, arith, [], ◌∷◌, Some, length-append, length-drop}
use Rattle.std.specs.Prelude.{slice_get, slice_set, Result, Ok, Err}
use Rattle.std.proofs.lemmas.Bool.Decides.{nat_tests}
use Rattle.std.proofs.lemmas.List.{places as places_in, length-replicate, length-take}
use Rattle.std.proofs.lemmas.Bool.{false≢true}
use Rattle.std.proofs.lemmas.Option.{slice_get-get_or}
use Rattle.page_alloc.specs.declared.layout.Layout.{Layout}
use Rattle.page_alloc.specs.Layout.{IsLayout, layout_at, end_of}
use Rattle.guest_memory.specs.Lists.{filled}
use Rattle.guest_memory.specs.Pages.{Pages, Whole, InPage, page_of, is_touched, or_false}
use Rattle.guest_memory.specs.Changes.{put_part, reserved, ReserveGives}
use Rattle.guest_memory.specs.declared.rights.PutEnd.{PutEnd}
use Rattle.guest_memory.specs.declared.rights.PutEnd.TheVariants.{Outside, Frames, Memory}
use Rattle.system_tables.specs.Memory.{IsRamOf, with_room, RoomGives}

pub record Places (layout : Layout) (m : Pages) : Type 0 where
  pub boot : InPage m layout.boot 4096
  pub system : InPage m layout.system 4096
  pub boot_page : page_of m layout.boot + 3 ≡ m.pages
  pub system_page : page_of m layout.system + 2 ≡ m.pages
  pub above : layout.base ≤ layout.boot
  pub first : (layout.boot - layout.base) / 4096 ≡ page_of m layout.boot
  pub small : (layout.boot - layout.base) / 4096 < 2 ^ 32

boot_is : (layout : Layout) → IsLayout layout → layout.boot + 0x3000 ≡ layout.base + 4096 * layout.pages
unfolding layout_at
boot_is layout is =
    let room = is.ram.room in
    let e : layout.boot ≡ end_of layout.base layout.pages - 0x3000 = ap (λ (l : Layout). l.boot) is.places in
    omega arith

system_is : (layout : Layout) → IsLayout layout → layout.system + 0x2000 ≡ layout.base + 4096 * layout.pages
unfolding layout_at
system_is layout is =
    let room = is.ram.room in
    let e : layout.system ≡ end_of layout.base layout.pages - 0x2000 = ap (λ (l : Layout). l.system) is.places in
    omega arith

pub places : (layout : Layout) (m : Pages) → IsRamOf layout m → Places layout m
places layout m is =
    let b = boot_is layout is.is_layout in
    let s = system_is layout is.is_layout in
    let even = is.is_layout.ram.on_page in
    let room = is.is_layout.ram.room in
    let most = is.is_layout.ram.most in
    let base = is.base in
    let pages = is.pages in
    record {
      boot = record { low = omega arith; high = omega arith; one = omega arith };
      system = record { low = omega arith; high = omega arith; one = omega arith };
      boot_page = omega arith;
      system_page = omega arith;
      above = omega arith;
      first = ap (λ base. (layout.boot - base) / 4096) (sym base);
      small = omega arith;
    }

-- marks that were made
marked : (marks : List Bool) (i n k : ℕ) → i + n ≤ length marks → i ≤ k → k < i + n → or_false (slice_get (filled marks i n true) k) ≡ true
marked marks i n k room low high =
    let e : get_or (filled marks i n true) k false ≡ true = grind (arith, places_in, nat_tests) in
    let l : length (filled marks i n true) ≡ length marks = simp (length-append, length-take, length-drop, length-replicate) (omega arith) in
    let s : slice_get (filled marks i n true) k ≡ Some (get_or (filled marks i n true) k false) = slice_get-get_or (filled marks i n true) k false (omega arith) in
    ap or_false (s ∙ ap Some e)

kept : (marks : List Bool) (i k : ℕ) → or_false (slice_get marks k) ≡ true → or_false (slice_get (slice_set marks i true) k) ≡ true
kept [] i k h = h
kept (mark ∷ marks) zero zero h = refl
kept (mark ∷ marks) zero (suc k) h = h
kept (mark ∷ marks) (suc i) zero h = h
kept (mark ∷ marks) (suc i) (suc k) h = kept marks i k h

pub room_touched : (m : Pages) (page k : ℕ) → Whole m → page + 2 ≤ m.pages → page ≤ k → k < page + 2 → is_touched (reserved m page 2) k ≡ true
room_touched m page k whole room low high =
    let long = whole.touched_long in
    marked m.touched page 2 k (omega arith) low high

pub still_touched : (m : Pages) (at page : ℕ) (bytes : List ℕ) → is_touched m page ≡ true → is_touched (put_part m at bytes) page ≡ true
still_touched m at page bytes h = kept m.touched (page_of m at) page h

-- the pages of both tables are touched
pub record Ready (layout : Layout) (m : Pages) : Type 0 where
  pub boot : InPage m layout.boot 4096
  pub system : InPage m layout.system 4096
  pub boot_touched : is_touched m (page_of m layout.boot) ≡ true
  pub system_touched : is_touched m (page_of m layout.system) ≡ true

pub ready : (layout : Layout) (m new : Pages) → Whole m → IsRamOf layout m → new ≡ with_room layout m → Ready layout new
ready layout m new whole is e =
    let p = places layout m is in
    let b = p.boot_page in
    let s = p.system_page in
    let next : page_of m layout.system ≡ page_of m layout.boot + 1 = omega arith in
    rw e (record {
      boot = record { low = p.boot.low; high = p.boot.high; one = p.boot.one };
      system = record { low = p.system.low; high = p.system.high; one = p.system.one };
      boot_touched = room_touched m (page_of m layout.boot) (page_of m layout.boot) whole (omega arith) (omega arith) (omega arith);
      system_touched = room_touched m (page_of m layout.boot) (page_of m layout.system) whole (omega arith) (omega arith) (omega arith);
    })

pub ready_still : (layout : Layout) (m new : Pages) (at : ℕ) (bytes : List ℕ) → Ready layout m → new ≡ put_part m at bytes → Ready layout new
ready_still layout m new at bytes r e =
    rw e (record {
      boot = record { low = r.boot.low; high = r.boot.high; one = r.boot.one };
      system = record { low = r.system.low; high = r.system.high; one = r.system.one };
      boot_touched = still_touched m at (page_of m layout.boot) bytes r.boot_touched;
      system_touched = still_touched m at (page_of m layout.system) bytes r.system_touched;
    })

pub room : {X : Type 0} (r : Result X PutEnd) (layout : Layout) (old new : Pages) → IsRamOf layout old → ReserveGives r old new ((layout.boot - layout.base) / 4096) 2 → RoomGives r layout old new
room {X = X} r layout old new is gives = by r (subst (λ first. ReserveGives r old new first 2) (places layout old is).first gives)
  where
    by : (r : Result X PutEnd) → ReserveGives r old new (page_of old layout.boot) 2 → RoomGives r layout old new
    by (Ok done) gives = (gives.1, gives.2)
    by (Err Outside) gives =
        let inside : page_of old layout.boot + 2 ≤ old.pages = let b = (places layout old is).boot_page in omega arith in
        false≢true (sym gives.0 ∙ grind (arith, nat_tests, inside))
    by (Err Frames) gives = (gives.1, gives.2)
    by (Err Memory) gives = (gives.1, gives.2, gives.3)
