-- Where the places of a layout lie.
use Rattle.std.proofs.Common.{◌≡◌, ℕ, sym, ap, ◌∙◌, arith, ◌+◌, ◌-◌, ◌*◌}
use Rattle.guest_memory.specs.Pages.{Pages}
use Rattle.page_alloc.specs.declared.layout.Layout.{Layout}
use Rattle.page_alloc.specs.Layout.{IsLayout, layout_at}
use Rattle.system_tables.specs.Memory.{IsRamOf}
use Rattle.firmware_core.specs.Parts.{Spread}
use Rattle.firmware_core.specs.Opening.{fresh}

pub spreads : (layout : Layout) → IsLayout layout → Spread layout
unfolding layout_at
spreads layout h =
    let room = h.ram.room in let most = h.ram.most in let end = h.ram.end in
    let slots : layout.slots ≡ layout.base + 4096 * layout.pages - 0x1000 = ap (λ (l : Layout). l.slots) h.places in
    let args : layout.os_args ≡ layout.base + 4096 * layout.pages - 0x34000 = ap (λ (l : Layout). l.os_args) h.places in
    let boot : layout.boot ≡ layout.base + 4096 * layout.pages - 0x3000 = ap (λ (l : Layout). l.boot) h.places in
    record { args = omega arith; slots = omega arith; boot = omega arith; end = end; some = room; few = most }

-- fresh memory is the RAM of its layout
pub ram_of : (layout : Layout) (m : Pages) (base pages : ℕ) → layout ≡ layout_at base pages → IsLayout layout → m ≡ fresh base pages → IsRamOf layout m
unfolding layout_at
ram_of layout m base pages places h e = record {
  is_layout = h;
  base = ap (λ (x : Pages). x.base) e ∙ sym (ap (λ (x : Layout). x.base) places);
  pages = ap (λ (x : Pages). x.pages) e ∙ sym (ap (λ (x : Layout). x.pages) places);
}
