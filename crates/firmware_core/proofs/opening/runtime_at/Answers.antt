use Rattle.std.proofs.Common.{ap, ◌∙◌, length}
use Rattle.page_alloc.specs.Pages.{PageList}
use Rattle.firmware_core.proofs.LayoutLemmas.{ram_of}
use Rattle.firmware_core.proofs.opening.runtime_at.Goals as goal

pub returns-clause-belongs : goal.returns-clause-belongs
returns-clause-belongs c =
    let ram = ram_of _ _ _ _ c.at-layout.ensures.places c.at-layout.ensures.layout c.in_ok-memory.ensures in
    record {
      is_layout = c.at-layout.ensures.layout;
      base = c.put_firmware.ensures.base ∙ ram.base;
      count = c.put_firmware.ensures.pages ∙ ram.pages;
      map_base = ap (λ (m : PageList). m.base) c.in_ok-map.ensures;
      map_count = ap (λ (m : PageList). length m.pages) c.in_ok-map.ensures ∙ c.opening_covers_ram.ensures _ c.at-layout.ensures.layout;
    }
