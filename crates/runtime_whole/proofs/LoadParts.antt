-- What a load that succeeds has found, placed and written.
use Rattle.std.proofs.Common.{◌≡◌, ℕ, ◌<◌, Bool, true, false, List, [], ◌∷◌, ◌++◌, length, refl, ap, subst, arith}
use Rattle.std.specs.Prelude.{nat_lt, Option, None, Result, Ok, Err, if◌then◌else◌}
use Rattle.std.proofs.lemmas.Bool.Decides.{nat_tests}
use Rattle.uh_base.specs.Answers.{◌>>=◌}
use Rattle.page_alloc.specs.declared.layout.Layout.{Layout}
use Rattle.page_alloc.specs.declared.page.PageRefusal.{PageRefusal}
use Rattle.page_alloc.specs.Pages.{PageList}
use Rattle.page_alloc.specs.Calls.{allocation}
use Rattle.pool_alloc.specs.declared.refusal.PoolRefusal.{PoolRefusal}
use Rattle.pool_alloc.specs.declared.span.PageSpan.{PageSpan}
use Rattle.pool_alloc.specs.Pool.{BlockPage}
use Rattle.pool_alloc.specs.Calls.{Done, pool_allocation, pages_allocated}
use Rattle.protocol_db.specs.declared.refusal.ProtocolRefusal.{ProtocolRefusal}
use Rattle.protocol_db.specs.Calls.{Done as ProtocolsDone, Installation, installation}
use Rattle.pe_image.specs.declared.fault.PeFault.{PeFault}
use Rattle.pe_image.specs.ImageOf.{Fields, image_of}
use Rattle.base_reloc.specs.declared.fault.RelocFault.{RelocFault}
use Rattle.base_reloc.specs.declared.site.Site.{Site}
use Rattle.base_reloc.specs.Kept.{sites_in}
use Rattle.image_services.specs.declared.refusal.LoadRefusal.TheVariants as refusals
use Rattle.image_services.specs.Blocks.{loaded_image_protocol, block_size, block_type, code_type, block_bytes}
use Rattle.image_services.specs.Images.{most_images}
use Rattle.image_services.specs.Stores.{Store}
use Rattle.image_services.specs.Placing.{placed, page_count, displacement, moved}
use Rattle.image_services.specs.Loads.{read_image, read_sites, FileImage, read_file, kind_for, base_by, base_for, with_image_pages, Place, placed_by, block_behind, place_for, loaded_memory, loaded_image, lacks_frames, Load, with_loaded, stored_by, stored, loaded_file, load_counting}

-- ---- what an image's place is

pub record Lies (m : PageList) (pool : List BlockPage) (image : Fields) (place : Place) : Type 0 where
  pub given : allocation m (kind_for image.stripped) (code_type image.subsystem) (page_count image) image.image_base ≡ Ok place.base
  pub done : Done
  pub block : pool_allocation pool (with_image_pages m image place.base) block_type block_size ≡ Ok done
  pub pages : place.pages ≡ done.pages

-- ---- what a load is

pub record HasLoaded (s : Store) (file : List ℕ) (load : Load) : Type 0 where
  pub image : Fields
  pub sites : List Site
  pub place : Place
  pub by : ℕ
  pub bytes : List ℕ
  pub block : List ℕ
  pub handle : ℕ
  pub is_image : image_of file ≡ Ok image
  pub are_sites : sites_in image (placed image file) ≡ Ok sites
  pub lies : Lies s.pages s.pool image place
  pub moves : moved (placed image file) sites by ≡ Ok bytes
  pub few : length s.images < 16
  pub images : load.after.images ≡ s.images ++ loaded_image place image bytes sites handle ∷ []
  pub memory : load.after.memory ≡ loaded_memory s.memory place image bytes block
  pub pages : load.after.pages ≡ place.pages

-- ---- steps

bound : {E A B : Type 0} (r : Result A E) (f : A → Result B E) (b : B) (P : Type 0) → (r >>= f) ≡ Ok b → ((a : A) → r ≡ Ok a → f a ≡ Ok b → P) → P
bound (Ok a) f b P e k = k a refl e
bound (Err x) f b P e k = let bad : ⊥ = cc in absurd bad

image_read : (judged : Result Fields PeFault) (image : Fields) → read_image judged ≡ Ok image → judged ≡ Ok image
image_read (Ok other) image e = let same : other ≡ image = cc in ap Ok same
image_read (Err fault) image e = let bad : ⊥ = cc in absurd bad

sites_read : (judged : Result (List Site) RelocFault) (sites : List Site) → read_sites judged ≡ Ok sites → judged ≡ Ok sites
sites_read (Ok other) sites e = let same : other ≡ sites = cc in ap Ok same
sites_read (Err fault) sites e = let bad : ⊥ = cc in absurd bad

record HasRead (file : List ℕ) (f : FileImage) : Type 0 where
  image : image_of file ≡ Ok f.image
  sites : sites_in f.image f.bytes ≡ Ok f.sites
  bytes : f.bytes ≡ placed f.image file

file_read : (file : List ℕ) (f : FileImage) → read_file file ≡ Ok f → HasRead file f
unfolding read_file
file_read file f e =
    bound (read_image (image_of file)) _ f (HasRead file f) e
    (λ image h rest. bound (read_sites (sites_in image (placed image file))) _ f (HasRead file f) rest
    (λ sites k last.
    let is : record { image = image; bytes = placed image file; sites = sites } ≡ f = cc in
    subst (HasRead file) is (record { image = image_read (image_of file) image h; sites = sites_read (sites_in image (placed image file)) sites k; bytes = refl })))

base_found : (image : Fields) (r : Result ℕ PageRefusal) (base : ℕ) → base_by image r ≡ Ok base → r ≡ Ok base
base_found image (Ok other) base e = let same : other ≡ base = cc in ap Ok same
base_found image (Err refusal) base e = let bad : ⊥ = cc in absurd bad

block_lies : (m : PageList) (pool : List BlockPage) (image : Fields) (base : ℕ) (new : Option PageSpan) (r : Result Done PoolRefusal) (place : Place)
    → allocation m (kind_for image.stripped) (code_type image.subsystem) (page_count image) image.image_base ≡ Ok base
    → pool_allocation pool (with_image_pages m image base) block_type block_size ≡ r → placed_by base new r ≡ Ok place → Lies m pool image place
block_lies m pool image base new (Ok done) place given block e =
    let is : record { base = base; block = done.answer; new = new; pages = done.pages; pool = done.pool } ≡ place = cc in
    subst (Lies m pool image) is (record { given = given; done = done; block = block; pages = refl })
block_lies m pool image base new (Err refusal) place given block e = let bad : ⊥ = cc in absurd bad

place_lies : (m : PageList) (pool : List BlockPage) (image : Fields) (place : Place) → place_for m pool image ≡ Ok place → Lies m pool image place
unfolding place_for base_for
place_lies m pool image place e =
    bound (base_for m image) (λ base. block_behind pool (with_image_pages m image base) base) place (Lies m pool image place) e
    (λ base h rest. block_lies m pool image base
    (pages_allocated pool (with_image_pages m image base) block_type block_size)
    (pool_allocation pool (with_image_pages m image base) block_type block_size) place
    (base_found image (allocation m (kind_for image.stripped) (code_type image.subsystem) (page_count image) image.image_base) base h) refl rest)

-- ---- the whole

module _ (layout : Layout) (s : Store) (parent : ℕ) (also file : List ℕ) (f : FileImage) (place : Place) (bytes : List ℕ) (load : Load) (few : length s.images < 16) (read : HasRead file f) (lies : Lies s.pages s.pool f.image place)
    (by : ℕ) (moves : moved f.bytes f.sites by ≡ Ok bytes) where
  put : (done : ProtocolsDone Installation) → with_loaded layout s parent f.image place bytes f.sites done ≡ load → HasLoaded s file load
  put done is =
      subst (HasLoaded s file) is (record {
        image = f.image;
        sites = f.sites;
        place = place;
        by = by;
        bytes = bytes;
        block = block_bytes parent layout.system place.base f.image.size f.image.subsystem;
        handle = done.answer.handle;
        is_image = read.image;
        are_sites = subst (λ (b : List ℕ). sites_in f.image b ≡ Ok f.sites) read.bytes read.sites;
        lies = lies;
        moves = subst (λ (b : List ℕ). moved b f.sites by ≡ Ok bytes) read.bytes moves;
        few = few;
        images = refl;
        memory = refl;
        pages = refl;
      })

  put_by : (r : Result (ProtocolsDone Installation) ProtocolRefusal) → stored_by layout s parent also f.image place bytes f.sites r ≡ Ok load → HasLoaded s file load
  put_by (Ok done) e = held (lacks_frames s.memory place f.image also) e
    where
      held : (lacks : Bool) → (if lacks then Err refusals.Frames else Ok (with_loaded layout s parent f.image place bytes f.sites done)) ≡ Ok load → HasLoaded s file load
      held true h = let bad : ⊥ = cc in absurd bad
      held false h = let is : with_loaded layout s parent f.image place bytes f.sites done ≡ load = cc in put done is
  put_by (Err refusal) e = let bad : ⊥ = cc in absurd bad

  put_all : stored layout s parent also f.image place bytes f.sites ≡ Ok load → HasLoaded s file load
  unfolding stored
  put_all e = put_by (installation s.protocols None loaded_image_protocol place.block) e

file_loaded : (layout : Layout) (s : Store) (parent : ℕ) (also file : List ℕ) (f : FileImage) (load : Load) → length s.images < 16 → HasRead file f → loaded_file layout s parent also f ≡ Ok load → HasLoaded s file load
unfolding loaded_file
file_loaded layout s parent also file f load few read e =
    bound (place_for s.pages s.pool f.image) _ load (HasLoaded s file load) e
    (λ place h rest. bound (moved f.bytes f.sites (displacement f.image.image_base place.base)) _ load (HasLoaded s file load) rest
    (λ bytes k last. put_all layout s parent also file f place bytes load few read (place_lies s.pages s.pool f.image place h) (displacement f.image.image_base place.base) k last))

pub has_loaded : (layout : Layout) (s : Store) (file : List ℕ) (parent : ℕ) (also : List ℕ) (load : Load) → load_counting layout s file parent also ≡ Ok load → HasLoaded s file load
unfolding load_counting
has_loaded layout s file parent also load e = by (nat_lt (length s.images) most_images) refl e
  where
    by : (room : Bool) → nat_lt (length s.images) most_images ≡ room → (if room then read_file file >>= loaded_file layout s parent also else Err refusals.TooMany) ≡ Ok load → HasLoaded s file load
    by true d h = bound (read_file file) (loaded_file layout s parent also) load (HasLoaded s file load) h (λ f k rest. file_loaded layout s parent also file f load (grind (arith, nat_tests)) (file_read file f k) rest)
    by false d h = let bad : ⊥ = cc in absurd bad
