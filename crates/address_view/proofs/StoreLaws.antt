-- What a store changes of what is seen.
use Rattle.guest_memory.specs.Runs.{with_bytes}
use Rattle.std.proofs.Common.{◌≡◌, ℕ, ◌*◌, ◌-◌, ◌/◌, ◌%◌, Bool, true, false, List, refl, sym, ◌∙◌, ap, arith, cond, [], ◌∷◌, zero, suc, length, length-set}
use Rattle.std.specs.Prelude.{Option, Some, None, Result, Ok, Err, OnOk, OnErr}
use Rattle.uh_base.specs.Bytes.{next, first_refused, with_byte, with_number}
use Rattle.uh_base.specs.LittleEndian.{low_bytes}
use Rattle.rv_step.specs.declared.bus.Access.{Access}
use Rattle.rv_step.specs.declared.bus.Access.TheVariants.{Load, Store, Fetch}
use Rattle.rv_step.specs.declared.bus.BusEnd.{BusEnd}
use Rattle.rv_step.specs.Stores.{StoreEnds, StoredIn}
use Rattle.guest_memory.specs.Pages.{Pages, Whole, bytes_of, rights_at, holds}
use Rattle.guest_memory.specs.Changes.{put_to, TouchedBesides}
use Rattle.guest_memory.specs.declared.rights.Rights.{Rights}
use Rattle.address_view.specs.Windows.{AreWindows, ShowsOnce, see, at_place, seen_bytes}
use Rattle.address_view.specs.Seen.{may, view_allows, is_seen, all_pass}
use Rattle.address_view.specs.Stored.{put_seen, stored, store_seen, AllSeen}
use Rattle.address_view.proofs.MemoryLemmas.{rights_put}
use Rattle.address_view.proofs.MemoryLemmas.{same_bytes, same_rights}
use Rattle.guest_memory.specs.declared.rights.PutEnd.{PutEnd}
use Rattle.guest_memory.specs.declared.rights.PutEnd.TheVariants as ends
use Rattle.address_view.specs.Stored.{StoreGives}
use Rattle.address_view.proofs.ViewLemmas.{seen_byte, one_address}
use Rattle.address_view.specs.declared.view.Window.{Window}
use Rattle.guest_memory.specs.Laws.{BytesArePut}
use Rattle.std.specs.Prelude.{is_none}
use Rattle.address_view.proofs.PageRun.{held}

pub unrefused : (b : Bool) (at : ℕ) (rest : Option ℕ) → cond b rest (Some at) ≡ None → (b ≡ true) × (rest ≡ None)
unrefused true at rest e = (refl, e)
unrefused false at rest e = grind arith

-- a test that finds none
pub none_is : (o : Option ℕ) → is_none o ≡ true → o ≡ None
none_is None e = refl
none_is (Some x) e = grind arith

pub is_none_of : (o : Option ℕ) → o ≡ None → is_none o ≡ true
is_none_of o e = rw e refl

pub once : (ws : List Window) → AreWindows ws → ShowsOnce (see ws)
once ws are = λ a b place e f. one_address ws a b place are e f

-- an address that shows memory shows a place in it
pub seen_place : (m : Pages) (o : Option ℕ) → at_place false (holds m) o ≡ true → (place : ℕ) × (o ≡ Some place) × (holds m place ≡ true)
seen_place m None e = grind arith
seen_place m (Some place) e = (place, refl, e)

has_rights : (kind : Access) (o : Option Rights) → may kind o ≡ true → (r : Rights) × (o ≡ Some r)
has_rights Load None e = grind arith
has_rights Store None e = grind arith
has_rights Fetch None e = grind arith
has_rights kind (Some r) e = (r, refl)

-- what allows an access shows memory
pub place_allows : (m : Pages) (kind : Access) (o : Option ℕ) → may kind (at_place None (rights_at m) o) ≡ true → at_place false (holds m) o ≡ true
place_allows m Load None e = grind arith
place_allows m Store None e = grind arith
place_allows m Fetch None e = grind arith
place_allows m kind (Some place) e = let r = has_rights kind (rights_at m place) e in held m place r.0 r.1

pub seen_if_allowed : (see : ℕ → Option ℕ) (m : Pages) (kind : Access) (at n : ℕ) → first_refused (view_allows see (rights_at m) kind) at n ≡ None → AllSeen see m at n
unfolding first_refused view_allows
seen_if_allowed see m kind at zero ok = refl
seen_if_allowed see m kind at (suc n) ok =
    let u = unrefused (may kind (at_place None (rights_at m) (see at))) at (first_refused (view_allows see (rights_at m) kind) (next at) n) ok in
    let h : at_place false (holds m) (see at) ≡ true = place_allows m kind (see at) u.0 in
    rw h (seen_if_allowed see m kind (next at) n u.1)

-- a store changes what is seen at its own addresses and nowhere else
pub seen_store : (see : ℕ → Option ℕ) (m : Pages) (at : ℕ) (bytes : List ℕ) → BytesArePut → ShowsOnce see → length m.bytes ≡ 4096 * m.pages → AllSeen see m at (length bytes)
    → seen_bytes see (bytes_of (stored see m at bytes)) ≡ with_bytes (seen_bytes see (bytes_of m)) at bytes
unfolding stored with_bytes first_refused
seen_store see m at [] put once long ok = refl
seen_store see m at (byte ∷ bytes) put once long ok =
    let u = unrefused (is_seen see m at) at (first_refused (is_seen see m) (next at) (length bytes)) ok in
    let p = seen_place m (see at) u.0 in
    let m2 : Pages = put_to m p.0 byte in
    let long2 : length m2.bytes ≡ 4096 * m2.pages = length-set m.bytes (p.0 - m.base) byte ∙ long in
    let b : seen_bytes see (bytes_of m2) ≡ with_byte (seen_bytes see (bytes_of m)) at byte =
    ap (seen_bytes see) (put m p.0 byte long p.2) ∙ seen_byte see (bytes_of m) at p.0 byte once p.1 in
    let later = seen_store see m2 (next at) bytes put once long2 u.1 in
    rw p.1 (later ∙ ap (λ f. with_bytes f (next at) bytes) b)

-- a number is stored as its bytes
pub number_as_bytes : (bytes : ℕ → ℕ) (at n value : ℕ) → with_bytes bytes at (low_bytes n value) ≡ with_number bytes at n value
unfolding with_bytes low_bytes with_number
number_as_bytes bytes at zero value = refl
number_as_bytes bytes at (suc n) value = number_as_bytes (with_byte bytes at (value % 256)) (next at) n (value / 256)

pub length_low : (n v : ℕ) → length (low_bytes n v) ≡ n
unfolding low_bytes
length_low zero v = refl
length_low (suc n) v = ap suc (length_low n (v / 256))

-- a store sets no rights
rights_put_seen : (m : Pages) (byte : ℕ) (o : Option ℕ) → rights_at (put_seen m byte o) ≡ rights_at m
rights_put_seen m byte None = refl
rights_put_seen m byte (Some place) = rights_put m (put_to m place byte) place byte refl

pub rights_store : (see : ℕ → Option ℕ) (m : Pages) (at : ℕ) (bytes : List ℕ) → rights_at (stored see m at bytes) ≡ rights_at m
unfolding stored
rights_store see m at [] = refl
rights_store see m at (byte ∷ bytes) = rights_store see (put_seen m byte (see at)) (next at) bytes ∙ rights_put_seen m byte (see at)

-- what `store` says follows from the new content
pub bytes_stored : {X : Type 0} (r : Result X BusEnd) (ws : List Window) (old new : Pages) (at width value : ℕ) (lacking sure : Bool) → BytesArePut → AreWindows ws → Whole old
    → StoreEnds r (first_refused (view_allows (see ws) (rights_at old) Store) at width) lacking sure → StoredIn TouchedBesides r old (store_seen (see ws) old at width value) new
    → OnOk r (seen_bytes (see ws) (bytes_of new) ≡ with_number (seen_bytes (see ws) (bytes_of old)) at width value)
bytes_stored (Ok x) ws old new at width value lacking sure put are whole ends kept =
    let seen = seen_if_allowed (see ws) old Store at width ends.0 in
    ap (λ m. seen_bytes (see ws) (bytes_of m)) kept
    ∙ seen_store (see ws) old at (low_bytes width value) put (once ws are) whole.bytes_long (ap (λ n. first_refused (is_seen (see ws) old) at n) (length_low width value) ∙ seen)
    ∙ number_as_bytes (seen_bytes (see ws) (bytes_of old)) at width value
bytes_stored (Err e) ws old new at width value lacking sure put are whole ends kept = tt

pub rights_stored : {X : Type 0} (r : Result X BusEnd) (see : ℕ → Option ℕ) (old new : Pages) → rights_at new ≡ rights_at old → view_allows see (rights_at new) ≡ view_allows see (rights_at old)
rights_stored r see old new e = ap (view_allows see) e

pub bytes_kept : {X : Type 0} (r : Result X BusEnd) (see : ℕ → Option ℕ) (old new : Pages) → OnErr r (bytes_of new ≡ bytes_of old) → OnErr r (seen_bytes see (bytes_of new) ≡ seen_bytes see (bytes_of old))
bytes_kept (Ok x) see old new e = tt
bytes_kept (Err x) see old new e = ap (seen_bytes see) e

pub rights_of_stored : {X : Type 0} (r : Result X BusEnd) (see : ℕ → Option ℕ) (old new : Pages) (at width value : ℕ) → StoredIn TouchedBesides r old (store_seen see old at width value) new → OnErr r (new ≡ old) → rights_at new ≡ rights_at old
rights_of_stored (Ok x) see old new at width value kept same = ap rights_at kept ∙ rights_store see old at (low_bytes width value)
rights_of_stored (Err e) see old new at width value kept same = ap rights_at same

-- what a store of bytes leaves
pub bytes_of_stored : {X : Type 0} (r : Result X PutEnd) (ws : List Window) (old new : Pages) (at : ℕ) (bytes : List ℕ) → BytesArePut → AreWindows ws → Whole old → all_pass (is_seen (see ws) old) at (length bytes) ≡ true
    → StoreGives r (see ws) old new at bytes (length bytes) → OnOk r (seen_bytes (see ws) (bytes_of new) ≡ with_bytes (seen_bytes (see ws) (bytes_of old)) at bytes)
bytes_of_stored (Ok x) ws old new at bytes put are whole ok gives =
    ap (λ m. seen_bytes (see ws) (bytes_of m)) gives.1 ∙ seen_store (see ws) old at bytes put (once ws are) whole.bytes_long (none_is (first_refused (is_seen (see ws) old) at (length bytes)) ok)
bytes_of_stored (Err e) ws old new at bytes put are whole ok gives = tt

pub bytes_of_kept : {X : Type 0} (r : Result X PutEnd) (see : ℕ → Option ℕ) (old new : Pages) (at : ℕ) (bytes : List ℕ) (n : ℕ) → StoreGives r see old new at bytes n → OnErr r (bytes_of new ≡ bytes_of old)
bytes_of_kept (Ok x) see old new at bytes n gives = tt
bytes_of_kept (Err ends.Outside) see old new at bytes n gives = absurd gives
bytes_of_kept (Err ends.Frames) see old new at bytes n gives = ap bytes_of gives.1
bytes_of_kept (Err ends.Memory) see old new at bytes n gives = same_bytes old new gives.2.rest

pub rights_of_kept : {X : Type 0} (r : Result X PutEnd) (see : ℕ → Option ℕ) (old new : Pages) (at : ℕ) (bytes : List ℕ) (n : ℕ) → StoreGives r see old new at bytes n → rights_at new ≡ rights_at old
rights_of_kept (Ok x) see old new at bytes n gives = ap rights_at gives.1 ∙ rights_store see old at bytes
rights_of_kept (Err ends.Outside) see old new at bytes n gives = absurd gives
rights_of_kept (Err ends.Frames) see old new at bytes n gives = ap rights_at gives.1
rights_of_kept (Err ends.Memory) see old new at bytes n gives = same_rights old new gives.2.rest

-- the first address of a store, and the rest
pub first_allows : (see : ℕ → Option ℕ) (m : Pages) (at n rest : ℕ) → n ≡ suc rest → AllSeen see m at n → (is_seen see m at ≡ true) × AllSeen see m (next at) rest
unfolding first_refused
first_allows see m at n rest e ok =
    unrefused (is_seen see m at) at (first_refused (is_seen see m) (next at) rest)
    (ap (λ k. first_refused (is_seen see m) at k) (sym e) ∙ ok)

pub all_seen : (see : ℕ → Option ℕ) (m : Pages) (at n : ℕ) → all_pass (is_seen see m) at n ≡ true → AllSeen see m at n
all_seen see m at n h = none_is (first_refused (is_seen see m) at n) h

pub seen_of_allowed : (see : ℕ → Option ℕ) (m : Pages) (kind : Access) (at n : ℕ) → all_pass (view_allows see (rights_at m) kind) at n ≡ true → all_pass (is_seen see m) at n ≡ true
seen_of_allowed see m kind at n h = is_none_of (first_refused (is_seen see m) at n) (seen_if_allowed see m kind at n (none_is (first_refused (view_allows see (rights_at m) kind) at n) h))
