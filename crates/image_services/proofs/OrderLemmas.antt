-- The handles of loaded images.
use Rattle.std.proofs.Common.{◌≡◌, ◌∙◌, ◌<◌, ◌≤◌, ◌+◌, ◌*◌, ℕ, zero, suc, Bool, true, false, List, [], ◌∷◌, ◌++◌, length, get_or, refl, sym, ap, subst, arith}
use Rattle.std.specs.Prelude.{◌==◌, nat_lt, not, map, find, Option, Some, None, Result, Ok, Err, if◌then◌else◌}
use Rattle.std.specs.List.{All, AllPairs, list_any}
use Rattle.std.specs.Option.{is_some}
use Rattle.std.proofs.lemmas.Bool.Decides.{nat_tests}
use Rattle.std.proofs.lemmas.List.{length-map}
use Rattle.std.proofs.lemmas.List.Elements.{All-map, All-push, All-filter}
use Rattle.std.proofs.lemmas.List.Kept.{AllPairs-filter}
use Rattle.std.proofs.lemmas.List.Quantifiers.{all_pairs_push}
use Rattle.uh_base.specs.declared.guid.Guid.{Guid}
use Rattle.uh_base.specs.Answers.{◌>>=◌}
use Rattle.page_alloc.specs.declared.layout.Layout.{Layout}
use Rattle.pe_image.specs.ImageOf.{Fields}
use Rattle.base_reloc.specs.declared.site.Site.{Site}
use Rattle.handle_db.specs.declared.refusal.HandleRefusal.TheVariants as handle
use Rattle.handle_db.specs.Database.{Protocol, Handle, Database, has_guid, handle_in, protocol_in, all_but, left_with, shown}
use Rattle.handle_db.specs.Calls.{is_full, with_handle, installation as handle_installation, discarded as handle_discarded, discarded_on}
use Rattle.protocol_db.specs.Registrations.{Protocols}
use Rattle.protocol_db.specs.Calls.{Done, Installation, announced, installed, installation, withdrawn, discarded as protocol_discarded}
use Rattle.image_services.specs.declared.refusal.LoadRefusal.{LoadRefusal}
use Rattle.image_services.specs.declared.refusal.LoadRefusal.TheVariants as refusals
use Rattle.image_services.specs.Blocks.{loaded_image_protocol}
use Rattle.image_services.specs.Images.{Loaded, has_handle, find_image, without_image, started_at, with_started, most_images}
use Rattle.image_services.specs.Stores.{Store}
use Rattle.image_services.specs.Placing.{moved, displacement}
use Rattle.image_services.specs.Loads.{FileImage, Place, Load, place_for, lacks_frames, loaded_image, with_loaded, read_file, stored_by, stored, loaded_file, load_counting}
use Rattle.image_services.specs.Unloads.{without_loaded, discarded}
use Rattle.image_services.specs.Laws.{AreInOrder, IsInOrder, OrderStays}

-- ---- lists

more : (images : List Loaded) (count later : ℕ) → AreInOrder images count → count ≤ later → AreInOrder images later
more images count later all l = record { rise = all.rise; made = λ k d i. (let m = all.made k d i in omega (arith, m, l)) }

below : (images : List Loaded) (x : Loaded) (count : ℕ) → AreInOrder images count → x.handle ≡ 16 * (count + 1) → All (λ (image : Loaded). image.handle < x.handle) images
below images x count all is = λ k d i. (let m = all.made k d i in omega (arith, m, is))

one_more : (images : List Loaded) (x : Loaded) (count : ℕ) → AreInOrder images count → x.handle ≡ 16 * (count + 1) → AreInOrder (images ++ x ∷ []) (count + 1)
one_more images x count all is = record {
  rise = all_pairs_push (λ (a b : Loaded). a.handle < b.handle) images x all.rise (below images x count all is);
  made = All-push (λ (image : Loaded). image.handle ≤ 16 * (count + 1)) images x (more images count (count + 1) all (omega arith)).made (omega (arith, is));
}

itself : (n : ℕ) → (n == n) ≡ true
itself n = grind (arith, nat_tests)

other : (a b : ℕ) → a < b → (a == b) ≡ false
other a b l = grind (arith, nat_tests)

last_found : (images : List Loaded) (x : Loaded) → All (λ (image : Loaded). image.handle < x.handle) images → find (has_handle x.handle) (images ++ x ∷ []) ≡ Some x
last_found [] x all = rw (itself x.handle) refl
last_found (image ∷ images) x all = rw (other image.handle x.handle (all 0 image (omega arith))) (last_found images x (λ k d i. all (suc k) d (omega (arith, i))))

kept : (h : ℕ) (image : Loaded) → (started_at h image).handle ≡ image.handle
kept h image = by (has_handle h image)
  where
    by : (b : Bool) → (if b then record image { started = true } else image).handle ≡ image.handle
    by true = refl
    by false = refl

started_all : (P : ℕ → Type 0) (h : ℕ) (images : List Loaded) → All (λ (image : Loaded). P image.handle) images → All (λ (image : Loaded). P image.handle) (with_started images h)
started_all P h images all = All-map (λ (image : Loaded). P image.handle) (started_at h) images (λ k d i. subst P (sym (kept h (get_or images k d))) (all k d i))

started_at_index : (h : ℕ) (images : List Loaded) (i : ℕ) (d : Loaded) → i < length images → (get_or (with_started images h) i d).handle ≡ (get_or images i d).handle
started_at_index h [] i d l = absurd (omega arith)
started_at_index h (image ∷ images) zero d l = kept h image
started_at_index h (image ∷ images) (suc i) d l = started_at_index h images i d (omega arith)

started_rise : (h : ℕ) (images : List Loaded) → AllPairs (λ (a b : Loaded). a.handle < b.handle) images → AllPairs (λ (a b : Loaded). a.handle < b.handle) (with_started images h)
started_rise h images all = λ i j d l k.
    let long = length-map images (started_at h) in
    let in' : j < length images = omega (arith, long, k) in
    rw (started_at_index h images i d (omega (arith, l, in'))) (rw (started_at_index h images j d in') (all i j d l in'))

start : (images : List Loaded) (count h : ℕ) → AreInOrder images count → AreInOrder (with_started images h) count
start images count h all = record { rise = started_rise h images all.rise; made = started_all (λ n. n ≤ 16 * count) h images all.made }

-- ---- a discard

made_left : (d : Database) (n : ℕ) (ps : List Protocol) → (left_with d n ps).made ≡ d.made
made_left d n [] = refl
made_left d n (p ∷ ps) = refl

made_on : (d : Database) (n : ℕ) (guid : Guid) (o : Option Handle) → (discarded_on d n guid o).made ≡ d.made
made_on d n guid None = refl
made_on d n guid (Some h) = by (list_any (has_guid guid) h.protocols)
  where
    by : (b : Bool) → (if b then left_with d n (all_but guid h.protocols) else d).made ≡ d.made
    by true = made_left d n (all_but guid h.protocols)
    by false = refl

made_stays : (p : Protocols) (n : ℕ) (guid : Guid) → (protocol_discarded p n guid).handles.made ≡ p.handles.made
unfolding protocol_discarded handle_discarded
made_stays p n guid = by (is_some (protocol_in p.handles n guid))
  where
    by : (b : Bool) → (if b then withdrawn p (handle_discarded p.handles n guid) n guid else p).handles.made ≡ p.handles.made
    by true = made_on p.handles n guid (handle_in p.handles n)
    by false = refl

without : (s : Store) (found : Option Loaded) → IsInOrder s → IsInOrder (without_loaded s found)
without s None all = all
without s (Some image) all = subst (λ (count : ℕ). AreInOrder (without_image s.images image.handle) count) (sym (made_stays s.protocols image.handle loaded_image_protocol)) (record {
  rise = AllPairs-filter (λ (a b : Loaded). a.handle < b.handle) (λ i. not (has_handle image.handle i)) s.images all.rise;
  made = All-filter (λ i. not (has_handle image.handle i)) (λ (i : Loaded). i.handle ≤ 16 * s.protocols.handles.made) s.images all.made;
})

discard : (s : Store) (h : ℕ) → IsInOrder s → IsInOrder (discarded s h)
unfolding discarded
discard s h all = without s (find_image s.images h) all

-- ---- a load

record Goes (load : Load) : Type 0 where
  order : IsInOrder load.after
  found : is_some (find_image load.after.images load.answer.handle) ≡ true

bound : {E A B : Type 0} (r : Result A E) (f : A → Result B E) (b : B) (P : Type 0) → (r >>= f) ≡ Ok b → ((a : A) → f a ≡ Ok b → P) → P
bound (Ok a) f b P e k = k a e
bound (Err x) f b P e k = let bad : ⊥ = cc in absurd bad

goes : (layout : Layout) (s : Store) (parent : ℕ) (also : List ℕ) (image : Fields) (place : Place) (bytes : List ℕ) (sites : List Site) (load : Load) → IsInOrder s → stored layout s parent also image place bytes sites ≡ Ok load → Goes load
unfolding stored installation handle_installation
goes layout s parent also image place bytes sites load all e = by (is_full s.protocols.handles) e
  where
    done : Done Installation
    done = announced s.protocols (with_handle s.protocols.handles loaded_image_protocol place.block) (shown (s.protocols.handles.made + 1)) loaded_image_protocol

    new : Loaded
    new = loaded_image place image bytes sites done.answer.handle

    held : (lacks : Bool) → (if lacks then Err refusals.Frames else Ok (with_loaded layout s parent image place bytes sites done)) ≡ Ok load → Goes load
    held true h = let bad : ⊥ = cc in absurd bad
    held false h =
        let is : with_loaded layout s parent image place bytes sites done ≡ load = cc in
        subst Goes is (record {
          order = one_more s.images new s.protocols.handles.made all refl;
          found = ap is_some (last_found s.images new (below s.images new s.protocols.handles.made all refl));
        })

    by : (full : Bool) → stored_by layout s parent also image place bytes sites (installed s.protocols loaded_image_protocol (if full then Err handle.Full else Ok (record { handle = shown (s.protocols.handles.made + 1); database = with_handle s.protocols.handles loaded_image_protocol place.block }))) ≡ Ok load → Goes load
    by true h = let bad : ⊥ = cc in absurd bad
    by false h = held (lacks_frames s.memory place image also) h

file_goes : (layout : Layout) (s : Store) (parent : ℕ) (also : List ℕ) (file : FileImage) (load : Load) → IsInOrder s → loaded_file layout s parent also file ≡ Ok load → Goes load
unfolding loaded_file
file_goes layout s parent also file load all e =
    bound (place_for s.pages s.pool file.image) _ load (Goes load) e
    (λ place h. bound (moved file.bytes file.sites (displacement file.image.image_base place.base)) _ load (Goes load) h (λ bytes h'. goes layout s parent also file.image place bytes file.sites load all h'))

load_goes : (layout : Layout) (s : Store) (file : List ℕ) (parent : ℕ) (also : List ℕ) (load : Load) → IsInOrder s → load_counting layout s file parent also ≡ Ok load → Goes load
unfolding load_counting
load_goes layout s file parent also load all e = by (nat_lt (length s.images) most_images) e
  where
    by : (room : Bool) → (if room then read_file file >>= loaded_file layout s parent also else Err refusals.TooMany) ≡ Ok load → Goes load
    by true h = bound (read_file file) (loaded_file layout s parent also) load (Goes load) h (λ image h'. file_goes layout s parent also image load all h')
    by false h = let bad : ⊥ = cc in absurd bad

pub order_stays : OrderStays
order_stays = record {
  first = λ count. record { rise = λ i j d l k. absurd (omega (arith, k)); made = λ k d i. absurd (omega (arith, i)) };
  more = more;
  load = λ layout s file parent also load all e. (load_goes layout s file parent also load all e).order;
  found = λ layout s file parent also load all e. (load_goes layout s file parent also load all e).found;
  start = start;
  discard = discard;
}
