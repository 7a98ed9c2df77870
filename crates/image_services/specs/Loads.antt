-- How an image file is loaded (UEFI 2.10, 7.4: LoadImage).
use Rattle.std.specs.Prelude.{ℕ, ◌+◌, ◌-◌, ◌*◌, nat_lt, Bool, true, false, List, [], ◌∷◌, ◌++◌, length, slice_set, Option, Some, None, Result, Ok, Err, if◌then◌else◌}
use Rattle.uh_base.specs.Answers.{◌>>=◌}
use Rattle.uh_base.specs.Limits.{frame_limit}
use Rattle.guest_memory.specs.Lists.{count_true}
use Rattle.guest_memory.specs.Pages.{Pages, page_of, all_rights}
use Rattle.guest_memory.specs.Changes.{put_part, reserved, with_rights, written_pages, zeroed}
use Rattle.page_alloc.specs.declared.layout.Layout.{Layout}
use Rattle.page_alloc.specs.declared.page.Owner.TheVariants as owners
use Rattle.page_alloc.specs.declared.page.PageRefusal.{PageRefusal}
use Rattle.page_alloc.specs.Pages.{PageList}
use Rattle.page_alloc.specs.Calls.{allocation, after_allocation}
use Rattle.pool_alloc.specs.declared.refusal.PoolRefusal.{PoolRefusal}
use Rattle.pool_alloc.specs.declared.span.PageSpan.{PageSpan}
use Rattle.pool_alloc.specs.Pool.{BlockPage}
use Rattle.pool_alloc.specs.Calls.{Done, pool_allocation, pages_allocated}
use Rattle.protocol_db.specs.declared.refusal.ProtocolRefusal.{ProtocolRefusal}
use Rattle.protocol_db.specs.Calls.{Done as ProtocolsDone, Installation, installation}
use Rattle.pe_image.specs.declared.fault.PeFault.{PeFault}
use Rattle.pe_image.specs.ImageOf.{Fields, image_of}
use Rattle.base_reloc.specs.declared.fault.RelocFault.{RelocFault}
use Rattle.base_reloc.specs.declared.site.Site.{Site}
use Rattle.base_reloc.specs.Kept.{sites_in}
use Rattle.image_services.specs.declared.refusal.LoadRefusal.{LoadRefusal}
use Rattle.image_services.specs.declared.refusal.LoadRefusal.TheVariants as refusals
use Rattle.image_services.specs.Images.{Loaded, most_images}
use Rattle.image_services.specs.Stores.{Store}
use Rattle.image_services.specs.Blocks.{loaded_image_protocol, block_size, block_type, code_type, block_bytes}
use Rattle.image_services.specs.Placing.{placed, words_of, page_count, displacement, moved, with_image_rights}

-- ---- what the file holds

abbrev pub read_image : Result Fields PeFault → Result Fields LoadRefusal
read_image (Ok image) = Ok image
read_image (Err fault) = Err (refusals.Pe fault)

abbrev pub read_sites : Result (List Site) RelocFault → Result (List Site) LoadRefusal
read_sites (Ok sites) = Ok sites
read_sites (Err fault) = Err (refusals.Reloc fault)

-- an image, its bytes in whole pages where it is linked for, and the sites that move with it
pub record FileImage : Type 0 where
  pub image : Fields
  pub bytes : List ℕ
  pub sites : List Site

unfoldable pub read_file : List ℕ → Result FileImage LoadRefusal
read_file file = do
  image ← read_image (image_of file)
  sites ← read_sites (sites_in image (placed image file))
  Ok (record { image = image; bytes = placed image file; sites = sites })

-- ---- where it lies

-- An image whose relocations are stripped lies at its ImageBase alone, and any other at the highest pages that fit.
abbrev pub kind_for : Bool → ℕ
kind_for stripped = if stripped then 2 else 0

abbrev pub lacks_pages : Bool → LoadRefusal
lacks_pages stripped = if stripped then refusals.Placed else refusals.NoPages

abbrev pub base_by : Fields → Result ℕ PageRefusal → Result ℕ LoadRefusal
base_by image (Ok base) = Ok base
base_by image (Err refusal) = Err (lacks_pages image.stripped)

-- the address of the image's first page
unfoldable pub base_for : PageList → Fields → Result ℕ LoadRefusal
base_for pages image = base_by image (allocation pages (kind_for image.stripped) (code_type image.subsystem) (page_count image) image.image_base)

-- the page map with the image's pages given
abbrev pub with_image_pages : PageList → Fields → ℕ → PageList
with_image_pages pages image base = after_allocation (Ok base) pages owners.Image (code_type image.subsystem) (page_count image)

-- where an image and its block lie, the page that the pool took for the block, and the map and the pool behind that
pub record Place : Type 0 where
  pub base : ℕ
  pub block : ℕ
  pub new : Option PageSpan
  pub pages : PageList
  pub pool : List BlockPage

abbrev pub placed_by : ℕ → Option PageSpan → Result Done PoolRefusal → Result Place LoadRefusal
placed_by base new (Ok done) = Ok (record { base = base; block = done.answer; new = new; pages = done.pages; pool = done.pool })
placed_by base new (Err refusal) = Err refusals.NoPages

abbrev pub block_behind : List BlockPage → PageList → ℕ → Result Place LoadRefusal
block_behind pool pages base = placed_by base (pages_allocated pool pages block_type block_size) (pool_allocation pool pages block_type block_size)

-- The image's pages are given, and then its block.
unfoldable pub place_for : PageList → List BlockPage → Fields → Result Place LoadRefusal
place_for pages pool image = base_for pages image >>= λ base. block_behind pool (with_image_pages pages image base) base

-- ---- the memory behind

-- A page that the pool took for the block is zeros, with all rights.
abbrev pub with_new_page : Pages → Option PageSpan → Pages
with_new_page m None = m
with_new_page m (Some span) = with_rights (zeroed m span.start (4096 * span.count)) (page_of m span.start) span.count all_rights

-- All pages of the image and the block's page are touched.
abbrev pub touched_for : Pages → Place → Fields → Pages
touched_for m place image = reserved (reserved m (page_of m place.block) 1) (page_of m place.base) (page_count image)

-- They are touched; then the image's pages hold its bytes and have its rights, and the block its fields.
unfoldable pub loaded_memory : Pages → Place → Fields → List ℕ → List ℕ → Pages
loaded_memory m place image bytes block =
    let first = page_of m place.base in
    put_part (with_image_rights (written_pages (with_new_page (touched_for m place image) place.new) first bytes) first image) place.block block

-- ---- the load

abbrev pub loaded_image : Place → Fields → List ℕ → List Site → ℕ → Loaded
loaded_image place image bytes sites handle = record {
  handle = handle;
  base = place.base;
  pages = page_count image;
  subsystem = image.subsystem;
  entry = place.base + image.entry;
  block = place.block;
  started = false;
  sites = sites;
  words = words_of bytes sites;
}

-- marks of pages, with those of some pages besides, each by its number from the base
unfoldable pub also_marked : List Bool → List ℕ → List Bool
also_marked marks [] = marks
also_marked marks (page ∷ pages) = also_marked (slice_set marks page true) pages

-- Only so many pages are touched in all, those counted that are touched next.
abbrev pub lacks_also : Pages → List ℕ → Bool
lacks_also m also = nat_lt frame_limit (count_true (also_marked m.touched also))

abbrev pub lacks_frames : Pages → Place → Fields → List ℕ → Bool
lacks_frames m place image also = lacks_also (touched_for m place image) also

-- a load: the image's handle with the events that are to be signalled, in order, and the store behind
pub record Load : Type 0 where
  pub answer : Installation
  pub after : Store

abbrev pub with_loaded : Layout → Store → ℕ → Fields → Place → List ℕ → List Site → ProtocolsDone Installation → Load
with_loaded layout s parent image place bytes sites done = record {
  answer = done.answer;
  after = record {
    images = s.images ++ loaded_image place image bytes sites done.answer.handle ∷ [];
    memory = loaded_memory s.memory place image bytes (block_bytes parent layout.system place.base image.size image.subsystem);
    pages = place.pages;
    pool = place.pool;
    protocols = done.after;
  };
}

abbrev pub stored_by : Layout → Store → ℕ → List ℕ → Fields → Place → List ℕ → List Site → Result (ProtocolsDone Installation) ProtocolRefusal → Result Load LoadRefusal
stored_by layout s parent also image place bytes sites (Ok done) = if lacks_frames s.memory place image also then Err refusals.Frames else Ok (with_loaded layout s parent image place bytes sites done)
stored_by layout s parent also image place bytes sites (Err refusal) = Err refusals.Full

-- The image's handle is a new one, on which the loaded image protocol is installed; the interface is the block's address.
-- That is refused only where there are no more handles.
unfoldable pub stored : Layout → Store → ℕ → List ℕ → Fields → Place → List ℕ → List Site → Result Load LoadRefusal
stored layout s parent also image place bytes sites = stored_by layout s parent also image place bytes sites (installation s.protocols None loaded_image_protocol place.block)

unfoldable pub loaded_file : Layout → Store → ℕ → List ℕ → FileImage → Result Load LoadRefusal
loaded_file layout s parent also file = do
  place ← place_for s.pages s.pool file.image
  bytes ← moved file.bytes file.sites (displacement file.image.image_base place.base)
  stored layout s parent also file.image place bytes file.sites

-- A file is loaded for a parent, or refused, and then nothing changes. Pages that its caller touches next, as those of an
-- output, are counted with the load's own.
unfoldable pub load_counting : Layout → Store → List ℕ → ℕ → List ℕ → Result Load LoadRefusal
load_counting layout s file parent also =
    if nat_lt (length s.images) most_images then read_file file >>= loaded_file layout s parent also else Err refusals.TooMany

-- the same with no other pages
abbrev pub load_of : Layout → Store → List ℕ → ℕ → Result Load LoadRefusal
load_of layout s file parent = load_counting layout s file parent []
