-- LoadImage and UnloadImage (UEFI 2.10, sections 7.4.1 and 7.4.3), where `see` is the place that each address shows and `x`
-- are the registers of the call.
use Rattle.std.specs.Prelude.{ℕ, zero, suc, ◌-◌, ◌/◌, ◌==◌, ◌&&◌, ◌||◌, not, nat_lt, Bool, List, [], ◌∷◌, ◌++◌, Option, Some, None, Result, Ok, Err, if◌then◌else◌}
use Rattle.std.specs.Option.{is_some}
use Rattle.uh_base.specs.Bytes.{next}
use Rattle.uh_base.specs.declared.status.EfiStatus.{EfiStatus}
use Rattle.uh_base.specs.Statuses.{success, invalid_parameter, unsupported, not_found}
use Rattle.guest_memory.specs.Pages.{Pages, bytes_of}
use Rattle.guest_memory.specs.Runs.{bytes_from}
use Rattle.page_alloc.specs.declared.layout.Layout.{Layout}
use Rattle.address_view.specs.Windows.{seen_bytes}
use Rattle.address_view.specs.Stored.{store_seen}
use Rattle.guest_call.specs.Arguments.{argument}
use Rattle.guest_call.specs.Checks.{can_write, can_read_buffer}
use Rattle.service_answer.specs.Answers.{Answer, gives, announces, lacks_frames}
use Rattle.image_services.specs.declared.refusal.LoadRefusal.{LoadRefusal}
use Rattle.image_services.specs.declared.refusal.LoadRefusal.TheVariants as refusals
use Rattle.image_services.specs.declared.refusal.UnloadRefusal.{UnloadRefusal}
use Rattle.image_services.specs.declared.refusal.UnloadRefusal.TheVariants as unloads
use Rattle.image_services.specs.Images.{Loaded, find_image}
use Rattle.image_services.specs.Stores.{Store}
use Rattle.image_services.specs.Status.{load_status}
use Rattle.image_services.specs.Loads.{Load, load_counting}
use Rattle.image_services.specs.Unloads.{unloaded}

-- ---- LoadImage

-- what it comes to, and the images behind it with the parts that they lie in
pub record LoadDone : Type 0 where
  pub served : Answer
  pub after : Store

abbrev pub is_image : List Loaded → ℕ → Bool
is_image images handle = is_some (find_image images handle)

-- The most bytes of a file, by this host's choice: 4 MiB.
abbrev pub most_bytes : ℕ
most_bytes = 0x400000

abbrev pub status : ℕ → EfiStatus
status n = record { 0 = n }

-- Why a call is refused before its file is read, if it is. A file is taken from memory alone, so that a device path finds
-- none and the boot policy doesn't matter.
unfoldable pub refused : List ℕ → (ℕ → Option ℕ) → Pages → List Loaded → Option EfiStatus
refused x see m images =
    if not (can_write see m (argument 5 x) 8 && is_image images (argument 1 x)) then Some (status invalid_parameter)
    else (if argument 3 x == 0 && argument 2 x == 0 then Some (status not_found)
    else (if argument 3 x == 0 || nat_lt most_bytes (argument 4 x) then Some (status unsupported)
    else (if can_read_buffer see m (argument 3 x) (argument 4 x) then None
    else Some (status invalid_parameter))))

-- the bytes of a file in memory
abbrev pub file_seen : (ℕ → Option ℕ) → Pages → ℕ → ℕ → List ℕ
file_seen see m at size = bytes_from (seen_bytes see (bytes_of m)) at size

-- the pages that addresses show, each by its number from the base of memory
abbrev pub page_shown : ℕ → Option ℕ → List ℕ
page_shown base None = []
page_shown base (Some place) = (place - base) / 4096 ∷ []

unfoldable pub pages_shown : (ℕ → Option ℕ) → ℕ → ℕ → ℕ → List ℕ
pages_shown see base at zero = []
pages_shown see base at (suc n) = page_shown base (see at) ++ pages_shown see base (next at) n

-- The handle is written behind the load, also where its output lies in the image's pages or may not be written by then.
abbrev pub loaded_to : (ℕ → Option ℕ) → ℕ → Store → Result Load LoadRefusal → LoadDone
loaded_to see at s (Ok load) = record {
  served = announces success load.answer.events;
  after = record load.after { memory = store_seen see load.after.memory at 8 load.answer.handle };
}
loaded_to see at s (Err refusals.Frames) = record { served = lacks_frames; after = s }
loaded_to see at s (Err refusal) = record { served = gives (load_status refusal); after = s }

abbrev pub load_unless : List ℕ → (ℕ → Option ℕ) → Layout → Store → Option EfiStatus → LoadDone
load_unless x see layout s (Some refusal) = record { served = gives refusal.0; after = s }
load_unless x see layout s None =
    loaded_to see (argument 5 x) s
    (load_counting layout s (file_seen see s.memory (argument 3 x) (argument 4 x)) (argument 1 x) (pages_shown see s.memory.base (argument 5 x) 8))

-- LoadImage(policy, parent, path, source, size, *image8): the pages of the output are counted with those of the load.
unfoldable pub load_image : List ℕ → (ℕ → Option ℕ) → Layout → Store → LoadDone
load_image x see layout s = load_unless x see layout s (refused x see s.memory s.images)

-- ---- UnloadImage

pub record UnloadDone : Type 0 where
  pub status : ℕ
  pub after : Store

abbrev pub unloaded_to : Store → Result Store UnloadRefusal → UnloadDone
unloaded_to s (Ok after) = record { status = success; after = after }
unloaded_to s (Err unloads.Unknown) = record { status = invalid_parameter; after = s }
unloaded_to s (Err unloads.Started) = record { status = unsupported; after = s }

-- UnloadImage(image)
unfoldable pub unload_image : List ℕ → Store → UnloadDone
unload_image x s = unloaded_to s (unloaded s (argument 0 x))
