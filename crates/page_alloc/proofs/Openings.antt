-- The pages at opening are a whole list.
use Rattle.std.proofs.Common.{◌≡◌, ℕ, ◌-◌, ◌/◌, ◌<◌, List, length, replicate, ◌++◌, refl, arith, length-append, ap, ◌∙◌}
use Rattle.std.proofs.lemmas.List.{length-replicate}
use Rattle.std.proofs.lemmas.List.Elements.{All-append, All-replicate}
use Rattle.std.specs.List.{All}
use Rattle.page_alloc.specs.declared.layout.Layout.{Layout}
use Rattle.page_alloc.specs.declared.page.Page.{Page}
use Rattle.page_alloc.specs.Layout.{IsLayout, IsRam, layout_at}
use Rattle.page_alloc.specs.Pages.{Whole, IsNobodys, conventional}
use Rattle.page_alloc.specs.Opening.{opening_pages, at_opening, firmware}

length_at : (base pages : ℕ) → IsRam base pages → length (opening_pages (layout_at base pages)) ≡ pages
unfolding opening_pages layout_at
length_at base pages ram =
    let room = ram.room in
    simp (length-append, length-replicate) (omega arith)

pub opening_length : (layout : Layout) → IsLayout layout → length (opening_pages layout) ≡ layout.pages
opening_length layout whole = ap (λ l. length (opening_pages l)) whole.places ∙ length_at layout.base layout.pages whole.ram

-- a page of the firmware's isn't conventional
firmware_is : (memory_type : ℕ) → memory_type < 7 → IsNobodys (firmware memory_type)
firmware_is memory_type h e = absurd (omega arith)

of_parts : (a b c d e : List Page) → All IsNobodys a → All IsNobodys b → All IsNobodys c → All IsNobodys d → All IsNobodys e → All IsNobodys (a ++ b ++ c ++ d ++ e)
of_parts a b c d e p q r s t =
    All-append IsNobodys (a ++ b ++ c ++ d) e (All-append IsNobodys (a ++ b ++ c) d (All-append IsNobodys (a ++ b) c (All-append IsNobodys a b p q) r) s) t

alike : (count : ℕ) (page : Page) → IsNobodys page → All IsNobodys (replicate count page)
alike count page h = All-replicate IsNobodys count page h

nobodys : (layout : Layout) → All IsNobodys (opening_pages layout)
unfolding opening_pages
nobodys layout =
    let a = (layout.os_stack - layout.base) / 4096 in
    let b = (layout.boot_stack - layout.os_stack) / 4096 in
    let c = (layout.system - layout.boot_stack) / 4096 in
    let d = (layout.slots - layout.system) / 4096 in
    of_parts (replicate a conventional) (replicate b (firmware 2)) (replicate c (firmware 4)) (replicate d (firmware 6)) (replicate 1 (firmware 5))
    (alike a conventional (λ e. refl)) (alike b (firmware 2) (firmware_is 2 (omega arith))) (alike c (firmware 4) (firmware_is 4 (omega arith)))
    (alike d (firmware 6) (firmware_is 6 (omega arith))) (alike 1 (firmware 5) (firmware_is 5 (omega arith)))

pub opening_whole : (layout : Layout) → IsLayout layout → Whole (at_opening layout)
opening_whole layout whole = record {
  ram = rw (opening_length layout whole) whole.ram;
  free = nobodys layout;
  key_low = omega arith;
  key_high = omega arith;
}
