-- What services leave so. Each law speaks of a service as it is defined, whatever the registers `x` of its call are, whatever
-- place `shown` gives for each address, and however it ends.
use Rattle.std.specs.Prelude.{ℕ, ◌<◌, List, Option}
use Rattle.guest_memory.specs.Pages.{bytes_of}
use Rattle.guest_memory.specs.Pages as memory
use Rattle.page_alloc.specs.Pages as pages
use Rattle.pool_alloc.specs.Pool.{BlockPage, IsPool, Together}
use Rattle.protocol_db.specs.Registrations.{Protocols}
use Rattle.event_queue.specs.Queue.{EventList}
use Rattle.variable_store.specs.Entries.{Entry}
use Rattle.time_service.specs.Clocks.{ClockState}
use Rattle.virtual_map.specs.States.{Runtime}
use Rattle.map_transition.specs.Wholes.{Whole}
use Rattle.memory_services.specs.Copies.{copy_mem, set_mem, calculate_crc32}
use Rattle.memory_services.specs.MapService.{get_memory_map}
use Rattle.memory_services.specs.PageServices.{allocate_pages, free_pages}
use Rattle.memory_services.specs.PoolServices.{allocate_pool, free_pool}
use Rattle.image_services.specs.Images.{Loaded}
use Rattle.image_services.specs.Stores.{Store}
use Rattle.image_calls.specs.Loading.{load_image, unload_image}
use Rattle.image_calls.specs.Starts.{outputs_given}
use Rattle.event_services.specs.Creation.{create_event, create_event_ex}
use Rattle.event_services.specs.Notices.{register_protocol_notify}
use Rattle.event_services.specs.Changes.{close_event}
use Rattle.event_services.specs.Waits.{wait_for_event, wait_anew, wait_for_signal}
use Rattle.console_services.specs.Modes.{query_mode}
use Rattle.runtime_services.specs.Serving.{serve_runtime}
use Rattle.protocol_services.specs.Services.{serve_protocol}
use Rattle.runtime_whole.specs.Boots.{BootWhole, StoreWhole}

-- ---- memory

-- It stays so behind AllocatePages and FreePages, whatever the registers `x` of the call are and however it ends.
pub record ArePagesKept (r : Runtime) (images : List Loaded) (made : ℕ) (x : List ℕ) : Type 0 where
  pub allocated : (shown : ℕ → Option ℕ) → (let d = allocate_pages x shown r.memory r.pages in BootWhole (record r { memory = d.memory; pages = d.pages }) images made)
  pub freed : let d = free_pages x r.memory r.pages in BootWhole (record r { memory = d.memory; pages = d.pages }) images made

abbrev pub PagesKeep : Type 0
PagesKeep = (r : Runtime) (images : List Loaded) (made : ℕ) (x : List ℕ) → BootWhole r images made → pages.Whole r.pages → ArePagesKept r images made x

-- So it does behind AllocatePool and FreePool.
pub record IsPoolKept (r : Runtime) (images : List Loaded) (made : ℕ) (pool : List BlockPage) (x : List ℕ) : Type 0 where
  pub allocated : (shown : ℕ → Option ℕ) → (let d = allocate_pool x shown r.memory r.pages pool in BootWhole (record r { memory = d.memory; pages = d.pages }) images made)
  pub freed : let d = free_pool x r.memory r.pages pool in BootWhole (record r { memory = d.memory; pages = d.pages }) images made

abbrev pub PoolKeeps : Type 0
PoolKeeps = (r : Runtime) (images : List Loaded) (made : ℕ) (pool : List BlockPage) (x : List ℕ) → BootWhole r images made → pages.Whole r.pages → IsPool pool → Together pool r.pages
    → IsPoolKept r images made pool x

-- So it does behind CopyMem, SetMem, CalculateCrc32 and GetMemoryMap.
pub record AreWritesKept (r : Runtime) (images : List Loaded) (made : ℕ) (x : List ℕ) (shown : ℕ → Option ℕ) : Type 0 where
  pub copied : BootWhole (record r { memory = (copy_mem x shown r.memory).memory }) images made
  pub set : BootWhole (record r { memory = (set_mem x shown r.memory).memory }) images made
  pub summed : BootWhole (record r { memory = (calculate_crc32 x shown r.memory).memory }) images made
  pub mapped : BootWhole (record r { memory = (get_memory_map x shown r.memory r.pages).memory }) images made

abbrev pub MemoryWritesKeep : Type 0
MemoryWritesKeep = (r : Runtime) (images : List Loaded) (made : ℕ) (x : List ℕ) (shown : ℕ → Option ℕ) → BootWhole r images made → AreWritesKept r images made x shown

-- ---- runtime services

-- the state behind a runtime service (UEFI 2.10, section 8)
abbrev pub behind_runtime : Runtime → ℕ → List ℕ → (ℕ → Option ℕ) → List Entry → ClockState → ℕ → ℕ → Runtime
behind_runtime r slot x shown variables clock count now = record r { memory = (serve_runtime slot x shown r.memory variables clock count now r.gone).memory }

-- Runtime services keep it before the end of boot services, and leave a whole state whole behind that.
abbrev pub RuntimeServicesKeep : Type 0
RuntimeServicesKeep = (r : Runtime) (images : List Loaded) (made slot : ℕ) (x : List ℕ) (shown : ℕ → Option ℕ) (variables : List Entry) (clock : ClockState) (count now : ℕ) → BootWhole r images made
    → BootWhole (behind_runtime r slot x shown variables clock count now) images made

abbrev pub RuntimeServicesStayWhole : Type 0
RuntimeServicesStayWhole = (r : Runtime) (slot : ℕ) (x : List ℕ) (shown : ℕ → Option ℕ) (variables : List Entry) (clock : ClockState) (count now : ℕ) → Whole r → Whole (behind_runtime r slot x shown variables clock count now)

-- ---- events, the console and images

-- It stays so behind services on events that write or change protocols.
pub record AreEventsKept (r : Runtime) (images : List Loaded) (x : List ℕ) (shown : ℕ → Option ℕ) (s : EventList) (p : Protocols) : Type 0 where
  pub created : BootWhole (record r { memory = (create_event x shown r.memory s).memory }) images p.handles.made
  pub created_ex : BootWhole (record r { memory = (create_event_ex x shown r.memory s).memory }) images p.handles.made
  pub registered : let d = register_protocol_notify x shown r.memory s p in BootWhole (record r { memory = d.memory }) images d.protocols.handles.made
  pub closed : BootWhole r images (close_event x s p).protocols.handles.made
  pub waited : (tpl : ℕ) → BootWhole (record r { memory = (wait_for_event x tpl shown r.memory s).memory }) images p.handles.made
  pub waited_anew : BootWhole (record r { memory = (wait_anew x shown r.memory s).memory }) images p.handles.made
  pub waited_on : (now : ℕ) → BootWhole (record r { memory = (wait_for_signal x shown r.memory s now).memory }) images p.handles.made

abbrev pub EventServicesKeep : Type 0
EventServicesKeep = (r : Runtime) (images : List Loaded) (x : List ℕ) (shown : ℕ → Option ℕ) (s : EventList) (p : Protocols) → BootWhole r images p.handles.made → AreEventsKept r images x shown s p

-- So it does behind QueryMode of the console.
abbrev pub ConsoleKeeps : Type 0
ConsoleKeeps = (r : Runtime) (images : List Loaded) (made : ℕ) (x : List ℕ) (shown : ℕ → Option ℕ) → BootWhole r images made → BootWhole (record r { memory = (query_mode x shown r.memory).memory }) images made

-- So it does behind LoadImage, UnloadImage and the outputs of StartImage; the numbers in memory are bytes.
pub record AreImagesKept (r : Runtime) (s : Store) (x : List ℕ) (shown : ℕ → Option ℕ) : Type 0 where
  pub loaded : StoreWhole r (load_image x shown r.layout s).after
  pub unloaded : StoreWhole r (unload_image x s).after
  pub written : (status size exit_data : ℕ) → StoreWhole r (record s { memory = (outputs_given x shown s.memory status size exit_data).memory })

abbrev pub ImageServicesKeep : Type 0
ImageServicesKeep = (r : Runtime) (s : Store) (x : List ℕ) (shown : ℕ → Option ℕ) → StoreWhole r s → pages.Whole s.pages → memory.Whole s.memory → ((at : ℕ) → bytes_of s.memory at < 256)
    → IsPool s.pool → Together s.pool s.pages → AreImagesKept r s x shown

-- ---- handles and protocols

-- So it does behind each service on handles and protocols: no fewer handles were made.
abbrev pub ProtocolServicesKeep : Type 0
ProtocolServicesKeep = (r : Runtime) (images : List Loaded) (slot : ℕ) (x : List ℕ) (shown : ℕ → Option ℕ) (pool : List BlockPage) (p : Protocols) → BootWhole r images p.handles.made → pages.Whole r.pages
    → (let d = serve_protocol slot x shown r.memory r.pages pool p in BootWhole (record r { memory = d.memory; pages = d.pages }) images d.protocols.handles.made)
