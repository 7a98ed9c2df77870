-- What the memory map comes to.
use Rattle.page_alloc.specs.Pages.{PageList}
use Rattle.memory_map.specs.Map.{map_of, IsMap}

-- The map of any pages has no gap and no overlap, neighbours differ, and each address has its page's type.
abbrev pub MapIsMap : Type 0
MapIsMap = (m : PageList) → IsMap m (map_of m)
