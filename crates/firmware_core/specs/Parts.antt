-- The parts of a machine.
use Rattle.std.specs.Prelude.{ℕ, ◌≡◌, ◌+◌, ◌*◌, ◌^◌, ◌≤◌, List, Option}
use Rattle.page_alloc.specs.declared.layout.Layout.{Layout}
use Rattle.pool_alloc.specs.Pool.{BlockPage, Together}
use Rattle.protocol_db.specs.Registrations.{Protocols}
use Rattle.event_queue.specs.Queue.{EventList}
use Rattle.variable_store.specs.Entries.{Entry}
use Rattle.time_service.specs.Clocks.{ClockState}
use Rattle.image_services.specs.Images.{Loaded}
use Rattle.virtual_map.specs.States.{Runtime, Belongs}
use Rattle.firmware_core.specs.declared.frame.Frame.{Frame}
use Rattle.firmware_core.specs.Harts.{Hart}

pub record Parts : Type 0 where
  pub hart : Hart
  -- what runs, the outermost first
  pub frames : List Frame
  -- the moment, in units of 100 ns since opening
  pub time : ℕ
  -- RAM, how it is used and seen
  pub runtime : Runtime
  pub pool : List BlockPage
  -- the loaded images, in order of loading
  pub images : List Loaded
  -- the handles with their protocols
  pub protocols : Protocols
  -- the events, their timers, and the queue of notifications
  pub events : EventList
  -- the variables in order of making, the clock, and the monotonic count
  pub variables : List Entry
  pub clock : ClockState
  pub count : ℕ
  -- a0 at the end of the last call by the host, until it is taken
  pub returned : Option ℕ

-- the parts belong together
pub record Whole (f : Parts) : Type 0 where
  pub runtime : Belongs f.runtime
  pub pool : Together f.pool f.runtime.pages
  -- The clock was set before now.
  pub clock : f.clock.set_at ≤ f.time

-- where the places of a layout lie
pub record Spread (layout : Layout) : Type 0 where
  pub args : layout.os_args + 0x34000 ≡ layout.base + 4096 * layout.pages
  pub slots : layout.slots + 0x1000 ≡ layout.base + 4096 * layout.pages
  pub boot : layout.boot + 0x3000 ≡ layout.base + 4096 * layout.pages
  pub end : layout.base + 4096 * layout.pages ≤ 2 ^ 47
  pub some : 256 ≤ layout.pages
  pub few : layout.pages ≤ 1048576
