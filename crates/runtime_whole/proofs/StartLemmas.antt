-- An image is started.
use Rattle.std.proofs.Common.{◌≡◌, ℕ, ◌<◌, Bool, true, false, List, length, get_or, refl, arith}
use Rattle.std.specs.Prelude.{if◌then◌else◌}
use Rattle.std.proofs.lemmas.List.{get_or-map, length-map}
use Rattle.std.proofs.lemmas.List.Elements.{All-map}
use Rattle.virtual_map.specs.States.{Runtime}
use Rattle.image_services.specs.Images.{Loaded, has_handle, started_at, with_started}
use Rattle.image_services.specs.Laws.{OrderStays}
use Rattle.runtime_whole.specs.Boots.{IsPlaced, ShareNone}
use Rattle.runtime_whole.specs.Laws.{StartsKeep}

as_placed : (r : Runtime) (image : Loaded) → IsPlaced r image → IsPlaced r (record image { started = true })
as_placed r image p = record { on_page = p.on_page; low = p.low; high = p.high; pages = p.pages; sites = record { sites = p.sites.sites; words = p.sites.words; marks = p.sites.marks; touched = p.sites.touched } }

placed : (r : Runtime) (handle : ℕ) (image : Loaded) → IsPlaced r image → IsPlaced r (started_at handle image)
placed r handle image p = by (has_handle handle image)
  where
    by : (b : Bool) → IsPlaced r (if b then record image { started = true } else image)
    by true = as_placed r image p
    by false = p

-- an image is where it was
same_base : (handle : ℕ) (image : Loaded) → (started_at handle image).base ≡ image.base
same_base handle image = by (has_handle handle image)
  where
    by : (b : Bool) → (if b then record image { started = true } else image).base ≡ image.base
    by true = refl
    by false = refl

same_pages : (handle : ℕ) (image : Loaded) → (started_at handle image).pages ≡ image.pages
same_pages handle image = by (has_handle handle image)
  where
    by : (b : Bool) → (if b then record image { started = true } else image).pages ≡ image.pages
    by true = refl
    by false = refl

share : (handle : ℕ) (a b : Loaded) → ShareNone a b → ShareNone (started_at handle a) (started_at handle b)
share handle a b h = rw (same_base handle a, same_pages handle a, same_base handle b, same_pages handle b) h

image_at : (handle : ℕ) (images : List Loaded) (i : ℕ) (d : Loaded) → i < length images → get_or (with_started images handle) i d ≡ started_at handle (get_or images i d)
image_at handle images i d l = get_or-map (started_at handle) images i d d l

pub starts : OrderStays → StartsKeep
starts law r images made handle b =
    let long : length (with_started images handle) ≡ length images = length-map images (started_at handle) in
    record {
      ram = b.ram;
      places = b.places;
      view = b.view;
      gone = b.gone;
      mapped = b.mapped;
      placed = All-map (IsPlaced r) (started_at handle) images (λ k d l. placed r handle (get_or images k d) (b.placed k d l));
      apart = λ i j d before inside. (
          let last : j < length images = omega (arith, long, inside) in
          rw (image_at handle images i d (omega (arith, before, last)), image_at handle images j d last) (share handle (get_or images i d) (get_or images j d) (b.apart i j d before last)));
      few = let few = b.few in omega (arith, long, few);
      order = law.start images made handle b.order;
      arguments = b.arguments;
    }
