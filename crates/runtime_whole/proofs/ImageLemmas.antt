-- Services on images.
use Rattle.std.proofs.Common.{◌≡◌, ℕ, zero, suc, ◌<◌, List, [], ◌∷◌, refl, arith}
use Rattle.std.specs.Prelude.{Option, Some, None, Result, Ok, Err}
use Rattle.std.specs.List.{All}
use Rattle.uh_base.specs.Bytes.{next}
use Rattle.uh_base.specs.LittleEndian.{low_bytes}
use Rattle.uh_base.specs.declared.status.EfiStatus.{EfiStatus}
use Rattle.service_answer.specs.Answers.{gives, lacks_frames}
use Rattle.guest_memory.specs.Pages.{Pages, bytes_of}
use Rattle.guest_memory.specs.Pages as memory
use Rattle.guest_memory.specs.Runs.{bytes_from}
use Rattle.page_alloc.specs.Pages as pages
use Rattle.pool_alloc.specs.Pool.{IsPool, Together}
use Rattle.address_view.specs.Ranges.{lacks_ranges}
use Rattle.address_view.specs.Stored.{store_seen}
use Rattle.address_view.specs.Windows.{at_place, seen_bytes}
use Rattle.guest_call.specs.Arguments.{argument}
use Rattle.virtual_map.specs.States.{Runtime}
use Rattle.image_services.specs.declared.refusal.LoadRefusal.{LoadRefusal}
use Rattle.image_services.specs.declared.refusal.LoadRefusal.TheVariants as refusals
use Rattle.image_services.specs.declared.refusal.UnloadRefusal.{UnloadRefusal}
use Rattle.image_services.specs.declared.refusal.UnloadRefusal.TheVariants as unloads
use Rattle.image_services.specs.Loads.{Load, load_counting}
use Rattle.image_services.specs.Stores.{Store}
use Rattle.image_services.specs.Unloads.{unloaded}
use Rattle.image_calls.specs.Loading.{refused, file_seen, pages_shown, loaded_to, load_unless, load_image, unloaded_to, unload_image}
use Rattle.image_calls.specs.Starts.{StartDone, written_bytes, outputs_given}
use Rattle.runtime_whole.specs.Boots.{with_store, StoreWhole}
use Rattle.runtime_whole.specs.Laws.{LoadsKeep, UnloadsKeep}
use Rattle.runtime_whole.specs.Services.{ImageServicesKeep}
use Rattle.runtime_whole.proofs.ListLemmas.{all_cons}
use Rattle.runtime_whole.proofs.MarkLemmas.{grows_on, itself, stored_grows, Leads, one_of}
use Rattle.runtime_whole.proofs.WriteLemmas.{written}

-- ---- bytes that are seen

place_small : (bytes : ℕ → ℕ) (place : Option ℕ) → ((at : ℕ) → bytes at < 256) → at_place 0 bytes place < 256
place_small bytes None all = omega arith
place_small bytes (Some place) all = all place

seen_small : (shown : ℕ → Option ℕ) (bytes : ℕ → ℕ) → ((at : ℕ) → bytes at < 256) → (at : ℕ) → seen_bytes shown bytes at < 256
unfolding seen_bytes
seen_small shown bytes all at = place_small bytes (shown at) all

all_small : (bytes : ℕ → ℕ) (at n : ℕ) → ((at : ℕ) → bytes at < 256) → All (λ (byte : ℕ). byte < 256) (bytes_from bytes at n)
unfolding bytes_from
all_small bytes at zero all = λ k d l. absurd (omega (arith, l))
all_small bytes at (suc n) all = all_cons (λ (byte : ℕ). byte < 256) (bytes at) (bytes_from bytes (next at) n) (all at) (all_small bytes (next at) n all)

-- ---- LoadImage

module _ (law : LoadsKeep) (r : Runtime) (s : Store) (x : List ℕ) (shown : ℕ → Option ℕ) (b : StoreWhole r s) (wp : pages.Whole s.pages) (wm : memory.Whole s.memory) (small : (at : ℕ) → bytes_of s.memory at < 256) where
  abbrev file : List ℕ
  file = file_seen shown s.memory (argument 3 x) (argument 4 x)

  abbrev also : List ℕ
  also = pages_shown shown s.memory.base (argument 5 x) 8

  file_small : All (λ (byte : ℕ). byte < 256) file
  file_small = all_small (seen_bytes shown (bytes_of s.memory)) (argument 3 x) (argument 4 x) (seen_small shown (bytes_of s.memory) small)

  by_result : (judged : Result Load LoadRefusal) → load_counting r.layout s file (argument 1 x) also ≡ judged → StoreWhole r (loaded_to shown (argument 5 x) s judged).after
  by_result (Ok load) e =
      let kept : StoreWhole r load.after = law r s load.after file (argument 1 x) also (Ok load.answer) b wp wm file_small e in
      written (with_store r load.after) load.after.images load.after.protocols.handles.made (store_seen shown load.after.memory (argument 5 x) 8 load.answer.handle) kept (stored_grows shown load.after.memory (argument 5 x) (low_bytes 8 load.answer.handle))
  by_result (Err refusals.Memory) e = b
  by_result (Err refusals.TooMany) e = b
  by_result (Err (refusals.Pe fault)) e = b
  by_result (Err (refusals.Reloc fault)) e = b
  by_result (Err refusals.Placed) e = b
  by_result (Err refusals.NoPages) e = b
  by_result (Err refusals.Full) e = b
  by_result (Err refusals.Frames) e = b

  by_refusal : (refusal : Option EfiStatus) → StoreWhole r (load_unless x shown r.layout s refusal).after
  by_refusal (Some refusal) = b
  by_refusal None = by_result (load_counting r.layout s file (argument 1 x) also) refl

  loaded : StoreWhole r (load_image x shown r.layout s).after
  unfolding load_image
  loaded = by_refusal (refused x shown s.memory s.images)

-- ---- UnloadImage

unloaded_image : UnloadsKeep → (r : Runtime) (s : Store) (x : List ℕ) → StoreWhole r s → pages.Whole s.pages → IsPool s.pool → Together s.pool s.pages → StoreWhole r (unload_image x s).after
unfolding unload_image
unloaded_image law r s x b wp is t = by (unloaded s (argument 0 x)) refl
  where
    by : (judged : Result Store UnloadRefusal) → unloaded s (argument 0 x) ≡ judged → StoreWhole r (unloaded_to s judged).after
    by (Ok after) e = law r s after (argument 0 x) (Ok tt) b wp is t e
    by (Err unloads.Unknown) e = b
    by (Err unloads.Started) e = b

-- ---- the outputs of StartImage

abbrev start_memory : StartDone → Pages
start_memory d = d.memory

outputs_grow : (x : List ℕ) (see : ℕ → Option ℕ) (m : Pages) (status size exit_data : ℕ) → Leads start_memory m (outputs_given x see m status size exit_data)
unfolding outputs_given
outputs_grow x see m status size exit_data =
    let first = argument 1 x in
    let second = argument 2 x in
    let first_bytes = written_bytes see m first in
    let second_bytes = written_bytes see m second in
    let one = store_seen see m first first_bytes size in
    let both = store_seen see one second second_bytes exit_data in
    one_of start_memory (lacks_ranges see m (record { at = first; len = first_bytes } ∷ record { at = second; len = second_bytes } ∷ [])) m (record { served = lacks_frames; memory = m }) (record { served = gives status; memory = both })
    (record { grows = itself m }) (record { grows = grows_on m one both (stored_grows see m first (low_bytes first_bytes size)) (stored_grows see one second (low_bytes second_bytes exit_data)) })

pub images_keep : LoadsKeep → UnloadsKeep → ImageServicesKeep
images_keep load unload r s x shown b wp wm small is t = record {
  loaded = loaded load r s x shown b wp wm small;
  unloaded = unloaded_image unload r s x b wp is t;
  written = λ status size exit_data. written (with_store r s) s.images s.protocols.handles.made _ b (outputs_grow x shown s.memory status size exit_data).grows;
}
