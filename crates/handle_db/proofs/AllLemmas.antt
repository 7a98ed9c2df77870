-- What an install of many pairs comes to.
use Rattle.std.proofs.Common.{◌≡◌, ◌∙◌, ℕ, ◌+◌, ◌*◌, ◌-◌, ◌<◌, ◌≤◌, ◌^◌, List, [], ◌∷◌, ◌++◌, length, get_or, set, drop, refl, sym, ap, subst, arith, Bool, true, false}
use Rattle.std.specs.Prelude.{map, slice_get, nat_le, Some, None, Result, Ok, Err, if◌then◌else◌, ◌==◌, ◌||◌}
use Rattle.std.specs.List.{find, filter, fold, position, list_any}
use Rattle.std.specs.Option.{option_map}
use Rattle.std.proofs.lemmas.Bool.Decides.{nat_tests}
use Rattle.std.proofs.lemmas.Bool.{ne_eqb}
use Rattle.std.proofs.lemmas.List.{at_drop_more}
use Rattle.std.proofs.lemmas.List.Folds.{list_any_none}
use Rattle.uh_base.specs.declared.guid.Guid.{Guid}
use Rattle.handle_db.specs.declared.refusal.HandleRefusal.{HandleRefusal}
use Rattle.handle_db.specs.declared.refusal.HandleRefusal.TheVariants.{Invalid, NotFound, Full, Memory}
use Rattle.handle_db.specs.Database.{Protocol, Handle, Database, has_number, has_guid, handle_in, at_first, with_protocols, fresh, supports}
use Rattle.handle_db.specs.Calls.{AllDone, is_full, with_handle, one_more, installed_next, installation, installation_of_all, added, AllGives, AddGives, handles_with, first_with}
use Rattle.handle_db.specs.Whole.{IsHandle, IsDatabase}
use Rattle.handle_db.proofs.ListLemmas.{change_found}
use Rattle.handle_db.proofs.LawLemmas.{last_found, protocols_found}
use Rattle.handle_db.proofs.DatabaseLemmas.{added_is, first_is, new_handle_is, read_some, write_is, protocols_write, protocols_view}

-- after a refusal nothing more is installed
pub refused_all : (e : HandleRefusal) (pairs : List (Guid × ℕ)) → fold installed_next (Err e) pairs ≡ Err e
refused_all e [] = refl
refused_all e (pair ∷ pairs) = refused_all e pairs

pub refused_more : (e : HandleRefusal) (pairs : List (Guid × ℕ)) → fold added (Err e) pairs ≡ Err e
refused_more e [] = refl
refused_more e (pair ∷ pairs) = refused_more e pairs

-- the second of two changes of a handle counts
at_twice : {X : Type 0} (test : X → Bool) (f g : X → X) (xs : List X) → ((x : X) → test (g x) ≡ test x) → ((x : X) → f (g x) ≡ f x) → at_first test f (at_first test g xs) ≡ at_first test f xs
unfolding at_first
at_twice test f g [] same over = refl
at_twice test f g (x ∷ xs) same over = by (test x) refl (at_twice test f g xs same over)
  where
    by : (b : Bool) → test x ≡ b → at_first test f (at_first test g xs) ≡ at_first test f xs → at_first test f (if b then g x ∷ xs else x ∷ at_first test g xs) ≡ (if b then f x ∷ xs else x ∷ at_first test f xs)
    by true t more = rw (same x) (rw t (ap (λ y. y ∷ xs) (over x)))
    by false t more = rw t (ap (λ ys. x ∷ ys) more)

at_same : {X : Type 0} (test : X → Bool) (xs : List X) → at_first test (λ x. x) xs ≡ xs
unfolding at_first
at_same test [] = refl
at_same test (x ∷ xs) = by (test x) (at_same test xs)
  where
    by : (b : Bool) → at_first test (λ y. y) xs ≡ xs → (if b then x ∷ xs else x ∷ at_first test (λ y. y) xs) ≡ x ∷ xs
    by true more = refl
    by false more = ap (λ ys. x ∷ ys) more

with_twice : (d : Database) (n : ℕ) (ps qs : List Protocol) → with_protocols (with_protocols d n ps) n qs ≡ with_protocols d n qs
with_twice d n ps qs = ap (λ hs. record d { live = hs }) (at_twice (has_number n) (λ h. record h { protocols = qs }) (λ h. record h { protocols = ps }) d.live (λ h. refl) (λ h. refl))

with_own : (d : Database) (n : ℕ) (h : Handle) → handle_in d n ≡ Some h → with_protocols d n h.protocols ≡ d
unfolding handle_in
with_own d n h e =
    ap (λ hs. record d { live = hs }) (change_found (has_number n) (λ g. record g { protocols = h.protocols }) (λ g. g) d.live h e refl ∙ at_same (has_number n) d.live)

-- pairs that are installed on a handle
abbrev pub on_done : Database → ℕ → Result (List Protocol) HandleRefusal → Result AllDone HandleRefusal
on_done d n (Ok protocols) = Ok (record { handle = Some n; database = with_protocols d n protocols })
on_done d n (Err refusal) = Err refusal

pub on_all : (d : Database) (n : ℕ) (h : Handle) (ps : List Protocol) (pairs : List (Guid × ℕ)) → handle_in d n ≡ Some h
    → fold installed_next (Ok (record { handle = Some n; database = with_protocols d n ps })) pairs ≡ on_done d n (fold added (Ok ps) pairs)
unfolding installation
on_all d n h ps [] e = refl
on_all d n h ps (pair ∷ pairs) e = rw (protocols_found d n h ps e) (by (list_any (has_guid pair.0) ps) (on_all d n h (ps ++ fresh pair.0 pair.1 ∷ []) pairs e))
  where
    by : (b : Bool) → fold installed_next (Ok (record { handle = Some n; database = with_protocols d n (ps ++ fresh pair.0 pair.1 ∷ []) })) pairs ≡ on_done d n (fold added (Ok (ps ++ fresh pair.0 pair.1 ∷ [])) pairs)
        → fold installed_next (one_more (if b then Err Invalid else Ok (record { handle = n; database = with_protocols (with_protocols d n ps) n (ps ++ fresh pair.0 pair.1 ∷ []) }))) pairs
        ≡ on_done d n (fold added (if b then Err Invalid else Ok (ps ++ fresh pair.0 pair.1 ∷ [])) pairs)
    by true more = refused_all Invalid pairs ∙ sym (ap (λ r. on_done d n r) (refused_more Invalid pairs))
    by false more = rw (with_twice d n ps (ps ++ fresh pair.0 pair.1 ∷ [])) more

pub on_it : (d : Database) (n : ℕ) (h : Handle) (pairs : List (Guid × ℕ)) → handle_in d n ≡ Some h → installation_of_all d (Some n) pairs ≡ on_done d n (fold added (Ok h.protocols) pairs)
unfolding installation_of_all
on_it d n h pairs e = ap (λ (it : Database). fold installed_next (Ok (record { handle = Some n; database = it })) pairs) (sym (with_own d n h e)) ∙ on_all d n h h.protocols pairs e

-- where there is no such handle, the first pair is refused
pub on_none : (d : Database) (n : ℕ) (pairs : List (Guid × ℕ)) → handle_in d n ≡ None → 0 < length pairs → installation_of_all d (Some n) pairs ≡ Err Invalid
unfolding installation_of_all installation
on_none d n [] e l = absurd (omega arith)
on_none d n (pair ∷ pairs) e l = rw e (refused_all Invalid pairs)

-- pairs that are installed on a new handle
at_last : {X : Type 0} (test : X → Bool) (f : X → X) (xs : List X) (x : X) → list_any test xs ≡ false → test x ≡ true → at_first test f (xs ++ x ∷ []) ≡ xs ++ f x ∷ []
unfolding at_first
at_last test f [] x none t = rw t refl
at_last test f (y ∷ ys) x none t = by (test y) none (λ h. at_last test f ys x h t)
  where
    by : (b : Bool) → (b || list_any test ys) ≡ false → (list_any test ys ≡ false → at_first test f (ys ++ x ∷ []) ≡ ys ++ f x ∷ []) → (if b then f y ∷ (ys ++ x ∷ []) else y ∷ at_first test f (ys ++ x ∷ [])) ≡ y ∷ (ys ++ f x ∷ [])
    by true h more = absurd (cc)
    by false h more = ap (λ zs. y ∷ zs) (more h)

none_so_late : (d : Database) → IsDatabase d → list_any (has_number (16 * (d.made + 1))) d.live ≡ false
none_so_late d all = list_any_none (has_number (16 * (d.made + 1))) d.live (λ k h in'. (let to = (all.handles k h in').to in ne_eqb (get_or d.live k h).number (16 * (d.made + 1)) (λ same. omega (arith, to, same))))

itself : (n : ℕ) → (n == n) ≡ true
itself n = grind (arith, nat_tests)

abbrev pub new_done : Database → Result (List Protocol) HandleRefusal → Result AllDone HandleRefusal
new_done d (Ok protocols) = Ok (record { handle = Some (16 * (d.made + 1)); database = record { live = d.live ++ record { number = 16 * (d.made + 1); protocols = protocols } ∷ []; made = d.made + 1 } })
new_done d (Err refusal) = Err refusal

new_same : (d : Database) (guid : Guid) (interface : ℕ) (r : Result (List Protocol) HandleRefusal) → IsDatabase d → on_done (with_handle d guid interface) (16 * (d.made + 1)) r ≡ new_done d r
new_same d guid interface (Err refusal) all = refl
new_same d guid interface (Ok ps) all =
    ap (λ hs. Ok (record { handle = Some (16 * (d.made + 1)); database = record { live = hs; made = d.made + 1 } }))
    (at_last (has_number (16 * (d.made + 1))) (λ h. record h { protocols = ps }) d.live (record { number = 16 * (d.made + 1); protocols = fresh guid interface ∷ [] }) (none_so_late d all) (itself (16 * (d.made + 1))))

pub new_all : (d : Database) (pairs : List (Guid × ℕ)) → IsDatabase d → is_full d ≡ false → 0 < length pairs → installation_of_all d None pairs ≡ new_done d (fold added (Ok []) pairs)
unfolding installation_of_all installation handle_in
new_all d [] all room l = absurd (omega arith)
new_all d (pair ∷ pairs) all room l =
    rw room (
    let there : handle_in (with_handle d pair.0 pair.1) (16 * (d.made + 1)) ≡ Some (record { number = 16 * (d.made + 1); protocols = fresh pair.0 pair.1 ∷ [] }) =
    last_found (has_number (16 * (d.made + 1))) d.live (record { number = 16 * (d.made + 1); protocols = fresh pair.0 pair.1 ∷ [] }) (none_so_late d all) (itself (16 * (d.made + 1))) in
    on_it (with_handle d pair.0 pair.1) (16 * (d.made + 1)) (record { number = 16 * (d.made + 1); protocols = fresh pair.0 pair.1 ∷ [] }) pairs there
    ∙ new_same d pair.0 pair.1 (fold added (Ok (fresh pair.0 pair.1 ∷ [])) pairs) all)

pub new_full : (d : Database) (pairs : List (Guid × ℕ)) → is_full d ≡ true → 0 < length pairs → installation_of_all d None pairs ≡ Err Full
unfolding installation_of_all installation
new_full d [] full l = absurd (omega arith)
new_full d (pair ∷ pairs) full l = rw full (refused_all Full pairs)

-- what they leave so of a handle
pub all_added_is : (made : ℕ) (h : Handle) (pairs : List (Guid × ℕ)) (qs : List Protocol) → IsHandle made h → fold added (Ok h.protocols) pairs ≡ Ok qs → IsHandle made (record h { protocols = qs })
all_added_is made h [] qs all e = let same : h.protocols ≡ qs = cc in subst (λ ps. IsHandle made (record h { protocols = ps })) same all
all_added_is made h (pair ∷ pairs) qs all e = by (list_any (has_guid pair.0) h.protocols) refl e (λ more k. all_added_is made (record h { protocols = h.protocols ++ fresh pair.0 pair.1 ∷ [] }) pairs qs more k)
  where
    by : (b : Bool) → list_any (has_guid pair.0) h.protocols ≡ b → fold added (if b then Err Invalid else Ok (h.protocols ++ fresh pair.0 pair.1 ∷ [])) pairs ≡ Ok qs
        → (IsHandle made (record h { protocols = h.protocols ++ fresh pair.0 pair.1 ∷ [] }) → fold added (Ok (h.protocols ++ fresh pair.0 pair.1 ∷ [])) pairs ≡ Ok qs → IsHandle made (record h { protocols = qs })) → IsHandle made (record h { protocols = qs })
    by true t k more = absurd (let no = refused_more Invalid pairs in cc)
    by false t k more = more (added_is made h pair.0 pair.1 all t) k

pub all_new_is : (d : Database) (pairs : List (Guid × ℕ)) (qs : List Protocol) → IsDatabase d → length d.live < 1024 → d.made < 2 ^ 60 - 1 → 0 < length pairs → fold added (Ok []) pairs ≡ Ok qs
    → IsDatabase (record { live = d.live ++ record { number = 16 * (d.made + 1); protocols = qs } ∷ []; made = d.made + 1 })
all_new_is d [] qs all few made l e = absurd (omega arith)
all_new_is d (pair ∷ pairs) qs all few made l e =
    new_handle_is d (record { number = 16 * (d.made + 1); protocols = qs }) all few made
    (all_added_is (d.made + 1) (record { number = 16 * (d.made + 1); protocols = fresh pair.0 pair.1 ∷ [] }) pairs qs (first_is d.made pair.0 pair.1) e) refl

-- the first of those that pass
first_passes : {X : Type 0} (f : X → ℕ) (test : X → Bool) (xs : List X) → option_map f (find test xs) ≡ slice_get (map f (filter test xs)) 0
first_passes f test [] = refl
first_passes f test (x ∷ xs) = by (test x) (first_passes f test xs)
  where
    by : (b : Bool) → option_map f (find test xs) ≡ slice_get (map f (filter test xs)) 0 → option_map f (if b then Some x else find test xs) ≡ slice_get (map f (if b then x ∷ filter test xs else filter test xs)) 0
    by true more = refl
    by false more = more

pub first_there : (d : Database) (guid : Guid) → option_map (λ (h : Handle). h.number) (find (supports (Some guid)) d.live) ≡ first_with d guid
unfolding first_with handles_with
first_there d guid = first_passes (λ (h : Handle). h.number) (supports (Some guid)) d.live

-- a pair that is refused after those before it
pub each_refused : (ps : List Protocol) (pairs : List (Guid × ℕ)) (i : ℕ) (d : Guid × ℕ) (wanted : Result (List Protocol) HandleRefusal) → i < length pairs → list_any (has_guid (get_or pairs i d).0) ps ≡ true
    → fold added (Ok ps) (drop i pairs) ≡ wanted → wanted ≡ Err Invalid
each_refused ps pairs i d wanted l has gives =
    sym gives ∙ at_drop_more (λ rest. fold added (Ok ps) rest) pairs i d l
    ∙ ap (λ c. fold added (if c then Err Invalid else Ok (ps ++ fresh (get_or pairs i d).0 (get_or pairs i d).1 ∷ [])) (drop (i + 1) pairs)) has
    ∙ refused_more Invalid (drop (i + 1) pairs)

-- whether there is room for a new handle
or_right : (a b : Bool) → b ≡ true → (a || b) ≡ true
or_right true b h = refl
or_right false b h = h

pub full_live : (d : Database) (live : List Handle) (made n : ℕ) → record { live = live; made = made } ≡ d → n ≡ length live → 1024 ≤ n → is_full d ≡ true
full_live d live made n e len h =
    let same : length live ≡ length d.live = ap (λ (b : Database). length b.live) e in
    let full : nat_le 1024 (length d.live) ≡ true = grind (arith, nat_tests) in
    rw full refl

pub full_made : (d : Database) (live : List Handle) (made : ℕ) → record { live = live; made = made } ≡ d → 2 ^ 60 - 1 ≤ made → is_full d ≡ true
full_made d live made e h =
    let same : made ≡ d.made = ap (λ (b : Database). b.made) e in
    or_right (nat_le 1024 (length d.live)) (nat_le (2 ^ 60 - 1) d.made) (grind (arith, nat_tests))

has_room : (live : List Handle) (made : ℕ) → length live < 1024 → made < 2 ^ 60 - 1 → is_full (record { live = live; made = made }) ≡ false
has_room live made few less =
    let some : nat_le 1024 (length live) ≡ false = grind (arith, nat_tests) in
    let more : nat_le (2 ^ 60 - 1) made ≡ false = grind (arith, nat_tests) in
    rw some more

-- what an install of pairs writes, on a new handle
pub new_written : (d : Database) (pairs : List (Guid × ℕ)) (live reserved after : List Handle) (made : ℕ) (first h : Handle) → record { live = live; made = made } ≡ d → IsDatabase (record { live = live; made = made }) → length live < 1024 → made < 2 ^ 60 - 1 → 0 < length pairs
    → reserved ≡ live → after ≡ reserved ++ h ∷ [] → first ≡ record { number = 16 * (made + 1); protocols = [] } → h.number ≡ first.number → fold added (Ok first.protocols) pairs ≡ Ok h.protocols
    → (installation_of_all d None pairs ≡ Ok (record { handle = Some (16 * (made + 1)); database = record { live = after; made = made + 1 } })) × IsDatabase (record { live = after; made = made + 1 })
new_written d pairs live reserved after made first h e all few less l same more is number gives =
    let n : h.number ≡ 16 * (made + 1) = number ∙ ap (λ (g : Handle). g.number) is in
    let adds : fold added (Ok []) pairs ≡ Ok h.protocols = ap (λ (g : Handle). fold added (Ok g.protocols) pairs) (sym is) ∙ gives in
    let written : record { live = after; made = made + 1 } ≡ record { live = live ++ record { number = 16 * (made + 1); protocols = h.protocols } ∷ []; made = made + 1 } =
    rw more (rw same (ap (λ k. record { live = live ++ record { number = k; protocols = h.protocols } ∷ []; made = made + 1 }) n)) in (
      ap (λ (b : Database). installation_of_all b None pairs) (sym e) ∙ new_all (record { live = live; made = made }) pairs all (has_room live made few less) l ∙ ap (λ r. new_done (record { live = live; made = made }) r) adds
          ∙ ap (λ (b : Database). Ok (record { handle = Some (16 * (made + 1)); database = b })) (sym written),
      subst IsDatabase (sym written) (all_new_is (record { live = live; made = made }) pairs h.protocols all few less l adds),
    )

pub new_refused : (d : Database) (pairs : List (Guid × ℕ)) (live reserved : List Handle) (made : ℕ) (first h : Handle) (refusal : HandleRefusal) → record { live = live; made = made } ≡ d → IsDatabase (record { live = live; made = made }) → length live < 1024 → made < 2 ^ 60 - 1 → 0 < length pairs
    → reserved ≡ live → first ≡ record { number = 16 * (made + 1); protocols = [] } → AddGives (Err refusal) (fold added (Ok first.protocols) pairs) h.protocols
    → AllGives (Err refusal) (installation_of_all d None pairs) d (record { live = reserved; made = made })
new_refused d pairs live reserved made first h refusal e all few less l same is gives = by refusal gives
  where
    kept : record { live = reserved; made = made } ≡ d
    kept = ap (λ hs. record { live = hs; made = made }) same ∙ e

    answer : (r : Result (List Protocol) HandleRefusal) → fold added (Ok first.protocols) pairs ≡ r → installation_of_all d None pairs ≡ new_done (record { live = live; made = made }) r
    answer r k =
        ap (λ (b : Database). installation_of_all b None pairs) (sym e) ∙ new_all (record { live = live; made = made }) pairs all (has_room live made few less) l
        ∙ ap (λ x. new_done (record { live = live; made = made }) x) (ap (λ (g : Handle). fold added (Ok g.protocols) pairs) (sym is) ∙ k)

    by : (refusal : HandleRefusal) → AddGives (Err refusal) (fold added (Ok first.protocols) pairs) h.protocols → AllGives (Err refusal) (installation_of_all d None pairs) d (record { live = reserved; made = made })
    by Memory k = kept
    by Invalid k = (answer (Err Invalid) k, kept)
    by NotFound k = (answer (Err NotFound) k, kept)
    by Full k = (answer (Err Full) k, kept)

-- and on a handle that is live
alike : (x y : Handle) → y.number ≡ x.number → y ≡ record x { protocols = y.protocols }
alike x y number = ap (λ n. record y { number = n }) number

pub on_written : (d : Database) (n i : ℕ) (pairs : List (Guid × ℕ)) (live : List Handle) (made : ℕ) (x y : Handle) → record { live = live; made = made } ≡ d → position (has_number n) d.live ≡ Some i → x ≡ get_or live i x → y.number ≡ x.number
    → fold added (Ok x.protocols) pairs ≡ Ok y.protocols → installation_of_all d (Some n) pairs ≡ Ok (record { handle = Some n; database = record { live = set live i y; made = made } })
on_written d n i pairs live made x y e p is number gives =
    on_it d n x pairs (read_some d n i live made x e p is) ∙ ap (λ r. on_done d n r) gives
    ∙ ap (λ (b : Database). Ok (record { handle = Some n; database = b })) (sym (protocols_view (λ ps. y.protocols) d n i live made x y e p is (alike x y number) x))

pub on_written_is : (d : Database) (n i : ℕ) (pairs : List (Guid × ℕ)) (live : List Handle) (made : ℕ) (x y : Handle) → record { live = live; made = made } ≡ d → position (has_number n) d.live ≡ Some i → x ≡ get_or live i x → y.number ≡ x.number
    → fold added (Ok x.protocols) pairs ≡ Ok y.protocols → IsDatabase (record { live = live; made = made }) → IsDatabase (record { live = set live i y; made = made })
on_written_is d n i pairs live made x y e p is number gives all =
    protocols_write (λ ps. y.protocols) d n i live made x y e p is (alike x y number) (subst IsDatabase e all) (λ k. all_added_is d.made x pairs y.protocols k gives)

pub on_kept : (d : Database) (n i : ℕ) (live : List Handle) (made : ℕ) (x y : Handle) → record { live = live; made = made } ≡ d → position (has_number n) d.live ≡ Some i → x ≡ get_or live i x → y.number ≡ x.number → y.protocols ≡ x.protocols → record { live = set live i y; made = made } ≡ d
on_kept d n i live made x y e p is number protocols =
    write_is d n i (λ h. h) live made x y e p is (alike x y number ∙ ap (λ ps. record x { protocols = ps }) protocols) ∙ ap (λ hs. record d { live = hs }) (at_same (has_number n) d.live)

pub on_kept_is : (d : Database) (n i : ℕ) (live : List Handle) (made : ℕ) (x y : Handle) → record { live = live; made = made } ≡ d → position (has_number n) d.live ≡ Some i → x ≡ get_or live i x → y.number ≡ x.number → y.protocols ≡ x.protocols
    → IsDatabase (record { live = live; made = made }) → IsDatabase (record { live = set live i y; made = made })
on_kept_is d n i live made x y e p is number protocols all = subst IsDatabase (sym (on_kept d n i live made x y e p is number protocols)) (subst IsDatabase e all)

pub on_refused : (d : Database) (n i : ℕ) (pairs : List (Guid × ℕ)) (live : List Handle) (made : ℕ) (x y : Handle) (refusal : HandleRefusal) → record { live = live; made = made } ≡ d → position (has_number n) d.live ≡ Some i → x ≡ get_or live i x → y.number ≡ x.number → y.protocols ≡ x.protocols
    → AddGives (Err refusal) (fold added (Ok x.protocols) pairs) y.protocols → AllGives (Err refusal) (installation_of_all d (Some n) pairs) d (record { live = set live i y; made = made })
on_refused d n i pairs live made x y refusal e p is number protocols gives = by refusal gives
  where
    kept : record { live = set live i y; made = made } ≡ d
    kept = on_kept d n i live made x y e p is number protocols

    answer : (r : Result (List Protocol) HandleRefusal) → fold added (Ok x.protocols) pairs ≡ r → installation_of_all d (Some n) pairs ≡ on_done d n r
    answer r k = on_it d n x pairs (read_some d n i live made x e p is) ∙ ap (λ s. on_done d n s) k

    by : (refusal : HandleRefusal) → AddGives (Err refusal) (fold added (Ok x.protocols) pairs) y.protocols → AllGives (Err refusal) (installation_of_all d (Some n) pairs) d (record { live = set live i y; made = made })
    by Memory k = kept
    by Invalid k = (answer (Err Invalid) k, kept)
    by NotFound k = (answer (Err NotFound) k, kept)
    by Full k = (answer (Err Full) k, kept)
