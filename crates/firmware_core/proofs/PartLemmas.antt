-- Parts that still belong together.
use Rattle.std.proofs.Common.{◌≡◌, List, length, ◌∙◌, sym, subst}
use Rattle.guest_memory.specs.Pages.{Pages}
use Rattle.page_alloc.specs.Pages.{PageList}
use Rattle.pool_alloc.specs.Pool.{BlockPage, Together}
use Rattle.memory_services.specs.Ram.{SameRam}
use Rattle.virtual_map.specs.States.{Runtime, Belongs}
use Rattle.firmware_core.specs.Parts.{Parts, Whole}

-- `r` is the runtime state that the parts had.
module _ (f : Parts) (r : Runtime) (is : r ≡ f.runtime) (whole : Whole f) (m : Pages) where
  belongs : Belongs r
  belongs = subst Belongs (sym is) whole.runtime

  pub whole_pages : (q : PageList) (pool : List BlockPage) → SameRam r.memory m r.pages q → Together pool q → Whole (record f { runtime = record r { memory = m; pages = q }; pool = pool })
  whole_pages q pool same together = record {
    runtime = record {
      is_layout = belongs.is_layout;
      base = same.base ∙ belongs.base;
      count = same.count ∙ belongs.count;
      map_base = same.map_base ∙ belongs.map_base;
      map_count = same.map_count ∙ belongs.map_count;
    };
    pool = together;
    clock = whole.clock;
  }

  pub whole_parts : (q : PageList) (pool : List BlockPage) → m.base ≡ r.memory.base → m.pages ≡ r.memory.pages → q.base ≡ r.pages.base → length q.pages ≡ length r.pages.pages → Together pool q → Whole (record f { runtime = record r { memory = m; pages = q }; pool = pool })
  whole_parts q pool base count map_base map_count together = record {
    runtime = record {
      is_layout = belongs.is_layout;
      base = base ∙ belongs.base;
      count = count ∙ belongs.count;
      map_base = map_base ∙ belongs.map_base;
      map_count = map_count ∙ belongs.map_count;
    };
    pool = together;
    clock = whole.clock;
  }

  pub whole_memory : m.base ≡ r.memory.base → m.pages ≡ r.memory.pages → Whole (record f { runtime = record r { memory = m } })
  whole_memory base count = record {
    runtime = record {
      is_layout = belongs.is_layout;
      base = base ∙ belongs.base;
      count = count ∙ belongs.count;
      map_base = belongs.map_base;
      map_count = belongs.map_count;
    };
    pool = subst (λ (x : Runtime). Together f.pool x.pages) (sym is) whole.pool;
    clock = whole.clock;
  }

  -- the pool is that of the same pages
  pub same_pool : Together f.pool r.pages
  same_pool = subst (λ (x : Runtime). Together f.pool x.pages) (sym is) whole.pool
