-- What the registrations are once a handle is pending.
use Rattle.std.proofs.Common.{◌≡◌, ◌∙◌, ℕ, ◌+◌, ◌<◌, List, [], ◌∷◌, ◌++◌, length, get_or, set, take, drop, refl, sym, ap, arith, Bool, true, false}
use Rattle.std.specs.Prelude.{map, cond, if◌then◌else◌, not, ◌==◌, ◌&&◌}
use Rattle.std.specs.List.{filter, list_any}
use Rattle.std.proofs.lemmas.List.{length-map, map-append, append-nil, length-take-le, get_or-append-add, get_or-drop, set-get_or, drop_more}
use Rattle.std.proofs.lemmas.List.Edits.{map_over_more}
use Rattle.std.proofs.lemmas.List.Elements.{filter_more}
use Rattle.uh_base.specs.declared.guid.Guid.{Guid}
use Rattle.protocol_db.specs.Registrations.{Registration, is_for_any, notified, lacks, with_last}

unconcerned : (pairs : List (Guid × ℕ)) (n : ℕ) (r : Registration) → lacks pairs n r ≡ false → notified (is_for_any pairs) n r ≡ r
unconcerned pairs n r e = by (is_for_any pairs r) (list_any (λ h. h == n) r.pending) e
  where
    by : (a b : Bool) → (a && not b) ≡ false → (if a then record r { pending = if b then r.pending else r.pending ++ n ∷ [] } else r) ≡ r
    by false b e = refl
    by true true e = refl
    by true false e = absurd (cc)

concerned : (pairs : List (Guid × ℕ)) (n : ℕ) (r : Registration) → lacks pairs n r ≡ true → notified (is_for_any pairs) n r ≡ with_last n r
concerned pairs n r e = by (is_for_any pairs r) (list_any (λ h. h == n) r.pending) e
  where
    by : (a b : Bool) → (a && not b) ≡ true → (if a then record r { pending = if b then r.pending else r.pending ++ n ∷ [] } else r) ≡ record r { pending = r.pending ++ n ∷ [] }
    by false b e = absurd (cc)
    by true true e = absurd (cc)
    by true false e = refl

-- what the loop comes to is still as it was
at_index : (f : Registration → Registration) (xs ys : List Registration) (i : ℕ) (x : Registration) → i < length xs → ys ≡ map f (take i xs) ++ drop i xs → x ≡ get_or ys i x → get_or xs i x ≡ x
at_index f xs ys i x l put read =
    let many = length-map (take i xs) f in
    let taken = length-take-le i xs (omega (arith, l)) in
    let from : length (map f (take i xs)) + 0 ≡ i = omega (arith, many, taken) in
    let none : i + 0 ≡ i = omega arith in
    sym (
    read ∙ ap (λ zs. get_or zs i x) put ∙ ap (λ k. get_or (map f (take i xs) ++ drop i xs) k x) (sym from) ∙ get_or-append-add (map f (take i xs)) (drop i xs) 0 x ∙ get_or-drop i xs 0 x
    ∙ ap (λ k. get_or xs k x) none
    )

left_at : (pairs : List (Guid × ℕ)) (n : ℕ) (xs : List Registration) (i : ℕ) (x : Registration) (b : Bool) → i < length xs → get_or xs i x ≡ x → lacks pairs n x ≡ b
    → map (with_last n) (filter (lacks pairs n) (drop i xs)) ≡ map (with_last n) (if b then x ∷ filter (lacks pairs n) (drop (i + 1) xs) else filter (lacks pairs n) (drop (i + 1) xs))
left_at pairs n xs i x b l is e =
    ap (λ rs. map (with_last n) (filter (lacks pairs n) rs)) (drop_more xs i x l ∙ ap (λ y. y ∷ drop (i + 1) xs) is)
    ∙ ap (λ c. map (with_last n) (if c then x ∷ filter (lacks pairs n) (drop (i + 1) xs) else filter (lacks pairs n) (drop (i + 1) xs))) e

pub skipped_put : (pairs : List (Guid × ℕ)) (n : ℕ) (xs ys : List Registration) (i : ℕ) (x : Registration) (b : Bool) → i < length xs → ys ≡ map (notified (is_for_any pairs) n) (take i xs) ++ drop i xs → x ≡ get_or ys i x → b ≡ lacks pairs n x → b ≡ false
    → ys ≡ map (notified (is_for_any pairs) n) (take (i + 1) xs) ++ drop (i + 1) xs
skipped_put pairs n xs ys i x b l put read is f =
    let same : set ys i (notified (is_for_any pairs) n x) ≡ ys = ap (λ y. set ys i y) (unconcerned pairs n x (sym is ∙ f) ∙ read) ∙ set-get_or ys i x in
    sym same ∙ map_over_more (notified (is_for_any pairs) n) xs ys i x l put read

pub skipped_left : (pairs : List (Guid × ℕ)) (n : ℕ) (xs ys changed : List Registration) (i : ℕ) (x : Registration) (b : Bool) → i < length xs → ys ≡ map (notified (is_for_any pairs) n) (take i xs) ++ drop i xs → x ≡ get_or ys i x → b ≡ lacks pairs n x → b ≡ false
    → changed ≡ map (with_last n) (filter (lacks pairs n) (drop i xs)) → changed ≡ map (with_last n) (filter (lacks pairs n) (drop (i + 1) xs))
skipped_left pairs n xs ys changed i x b l put read is f left = left ∙ left_at pairs n xs i x false l (at_index (notified (is_for_any pairs) n) xs ys i x l put read) (sym is ∙ f)

there : (pairs : List (Guid × ℕ)) (n : ℕ) (xs ys changed : List Registration) (i : ℕ) (x : Registration) (b : Bool) → i < length xs → ys ≡ map (notified (is_for_any pairs) n) (take i xs) ++ drop i xs → x ≡ get_or ys i x → b ≡ lacks pairs n x → b ≡ true
    → changed ≡ map (with_last n) (filter (lacks pairs n) (drop i xs)) → changed ≡ with_last n x ∷ map (with_last n) (filter (lacks pairs n) (drop (i + 1) xs))
there pairs n xs ys changed i x b l put read is t left = left ∙ left_at pairs n xs i x true l (at_index (notified (is_for_any pairs) n) xs ys i x l put read) (sym is ∙ t)

first_of_two : (x y : Registration) (xs ys : List Registration) → x ∷ xs ≡ y ∷ ys → (x ≡ y) × (xs ≡ ys)
first_of_two x y xs ys e = (cc, cc)

pub put_next : (pairs : List (Guid × ℕ)) (n : ℕ) (xs ys changed rest : List Registration) (i : ℕ) (x next : Registration) (b : Bool) → i < length xs → ys ≡ map (notified (is_for_any pairs) n) (take i xs) ++ drop i xs → x ≡ get_or ys i x → b ≡ lacks pairs n x → b ≡ true
    → changed ≡ map (with_last n) (filter (lacks pairs n) (drop i xs)) → changed ≡ next ∷ rest
    → (set ys i next ≡ map (notified (is_for_any pairs) n) (take (i + 1) xs) ++ drop (i + 1) xs) × (rest ≡ map (with_last n) (filter (lacks pairs n) (drop (i + 1) xs)))
put_next pairs n xs ys changed rest i x next b l put read is t left popped =
    let both = first_of_two next (with_last n x) rest (map (with_last n) (filter (lacks pairs n) (drop (i + 1) xs))) (sym popped ∙ there pairs n xs ys changed i x b l put read is t left) in
    (ap (λ y. set ys i y) (both.0 ∙ sym (concerned pairs n x (sym is ∙ t))) ∙ map_over_more (notified (is_for_any pairs) n) xs ys i x l put read, both.1)

pub one_is_left : (pairs : List (Guid × ℕ)) (n : ℕ) (xs ys changed : List Registration) (i : ℕ) (x : Registration) (b : Bool) → i < length xs → ys ≡ map (notified (is_for_any pairs) n) (take i xs) ++ drop i xs → x ≡ get_or ys i x → b ≡ lacks pairs n x → b ≡ true
    → changed ≡ map (with_last n) (filter (lacks pairs n) (drop i xs)) → 0 < length changed
one_is_left pairs n xs ys changed i x b l put read is t left = rw (there pairs n xs ys changed i x b l put read is t left) (omega arith)

-- what is collected
collected : (pairs : List (Guid × ℕ)) (n : ℕ) (xs changed : List Registration) (i : ℕ) (x : Registration) (b : Bool) → i < length xs → x ≡ get_or xs i x → b ≡ lacks pairs n x → changed ≡ map (with_last n) (filter (lacks pairs n) (take i xs))
    → changed ++ map (with_last n) (cond b (x ∷ []) []) ≡ map (with_last n) (filter (lacks pairs n) (take (i + 1) xs))
collected pairs n xs changed i x b l read is so =
    ap (λ rs. rs ++ map (with_last n) (cond b (x ∷ []) [])) so ∙ sym (map-append (with_last n) (filter (lacks pairs n) (take i xs)) (cond b (x ∷ []) []))
    ∙ ap (λ rs. map (with_last n) (filter (lacks pairs n) (take i xs) ++ rs)) (ap (λ c. cond c (x ∷ []) []) is ∙ ap (λ y. cond (lacks pairs n y) (y ∷ []) []) read)
    ∙ sym (ap (map (with_last n)) (filter_more (lacks pairs n) xs i x l))

pub collects : (pairs : List (Guid × ℕ)) (n : ℕ) (xs changed after : List Registration) (i : ℕ) (x y : Registration) (b : Bool) → i < length xs → x ≡ get_or xs i x → b ≡ lacks pairs n x → b ≡ true → changed ≡ map (with_last n) (filter (lacks pairs n) (take i xs))
    → y ≡ with_last n x → after ≡ changed ++ y ∷ [] → after ≡ map (with_last n) (filter (lacks pairs n) (take (i + 1) xs))
collects pairs n xs changed after i x y b l read is t so last more =
    more ∙ ap (λ z. changed ++ z ∷ []) last ∙ collected pairs n xs changed i x true l read (sym t ∙ is) so

pub passes_by : (pairs : List (Guid × ℕ)) (n : ℕ) (xs changed after : List Registration) (i : ℕ) (x : Registration) (b : Bool) → i < length xs → x ≡ get_or xs i x → b ≡ lacks pairs n x → b ≡ false → changed ≡ map (with_last n) (filter (lacks pairs n) (take i xs))
    → after ≡ changed → after ≡ map (with_last n) (filter (lacks pairs n) (take (i + 1) xs))
passes_by pairs n xs changed after i x b l read is f so same =
    same ∙ sym (append-nil changed) ∙ collected pairs n xs changed i x false l read (sym f ∙ is) so
