-- The load of an image into a machine, and its unload.
use Rattle.std.specs.Prelude.{ℕ, ◌==◌, Bool, List, is_some, Option, Some, None, Result, Ok, Err, if◌then◌else◌}
use Rattle.std.specs.List.{list_any}
use Rattle.uh_base.specs.Statuses.{success, unsupported}
use Rattle.event_queue.specs.Queue.{signal_each}
use Rattle.map_faults.specs.Grounds.{Kept}
use Rattle.image_services.specs.declared.refusal.LoadRefusal.{LoadRefusal}
use Rattle.image_services.specs.Images.{Loaded, find_image}
use Rattle.image_services.specs.Stores.{Store}
use Rattle.image_services.specs.Loads.{Load, load_of}
use Rattle.image_services.specs.Status.{load_status}
use Rattle.image_services.specs.Unloads.{unloaded as image_unloaded}
use Rattle.image_calls.specs.Loading as calls
use Rattle.firmware_core.specs.Parts.{Parts}
use Rattle.firmware_core.specs.Services.{store_of, with_store}
use Rattle.firmware_core.specs.Turns.{State}

-- the status of a load, the handle, the base and the pages of the image, all 0 where it is refused, and the machine behind it
pub record LoadDone : Type 0 where
  pub status : ℕ
  pub handle : ℕ
  pub base : ℕ
  pub pages : ℕ
  pub state : State

abbrev pub answer_for : State → ℕ → Option Loaded → LoadDone
answer_for s handle None = record { status = success; handle = 0; base = 0; pages = 0; state = s }
answer_for s handle (Some image) = record { status = success; handle = handle; base = image.base; pages = image.pages; state = s }

abbrev pub signalled : Parts → List ℕ → Parts
signalled f events = record f { events = signal_each events f.events }

abbrev pub with_loaded : State → Store → List ℕ → State
with_loaded s store events = record s { firmware = signalled (with_store s.firmware store) events }

-- The events that are registered for the protocol of the image's handle are signalled.
abbrev pub load_comes_to : State → Result Load LoadRefusal → LoadDone
load_comes_to s (Ok load) = answer_for (with_loaded s load.after load.answer.events) load.answer.handle (find_image load.after.images load.answer.handle)
load_comes_to s (Err refusal) = record { status = load_status refusal; handle = 0; base = 0; pages = 0; state = s }

-- An image is loaded without a parent.
unfoldable pub loaded_at_boot : State → List ℕ → LoadDone
loaded_at_boot s file = load_comes_to s (load_of s.firmware.runtime.layout (store_of s.firmware) file 0)

-- Once boot services are over, none is loaded. (UEFI 2.10, 7.4.6: ExitBootServices)
unfoldable pub loaded : State → List ℕ → LoadDone
loaded s file = if s.firmware.runtime.gone then record { status = unsupported; handle = 0; base = 0; pages = 0; state = s } else loaded_at_boot s file

-- the status of an unload, and the machine behind it
pub record UnloadDone : Type 0 where
  pub status : ℕ
  pub state : State

abbrev pub unload_comes_to : State → calls.UnloadDone → UnloadDone
unload_comes_to s done = record { status = done.status; state = record s { firmware = with_store s.firmware done.after } }

-- An image that wasn't started goes, as by UnloadImage.
unfoldable pub unloaded_at_boot : State → ℕ → UnloadDone
unloaded_at_boot s handle = unload_comes_to s (calls.unloaded_to (store_of s.firmware) (image_unloaded (store_of s.firmware) handle))

-- Once boot services are over, none is unloaded.
unfoldable pub unloaded : State → ℕ → UnloadDone
unloaded s handle = if s.firmware.runtime.gone then record { status = unsupported; state = s } else unloaded_at_boot s handle

-- an image that was kept has a handle
abbrev pub is_of : ℕ → Kept → Bool
is_of handle kept = kept.handle == handle

-- whether an image has a handle: while boot services last one that is loaded, and then one that was kept
abbrev pub has_image : Parts → ℕ → Bool
has_image f handle = if f.runtime.gone then list_any (is_of handle) f.runtime.kept else is_some (find_image f.images handle)
