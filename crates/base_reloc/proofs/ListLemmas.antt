-- Lists with a part written over, and two tests at once.
use Rattle.std.proofs.Common.{◌≡◌, ℕ, ◌+◌, ◌-◌, ◌<◌, ◌≤◌, ◌&&◌, List, length, get_or, Bool, true, false, refl, ap, ◌∙◌, arith, rules}
use Rattle.std.proofs.lemmas.List.{places}
use borrow.Rule.Slice.PartMut.{put_mid}

-- a list with a part written over, before the part, in it and behind it
pub get_or-before : {X : Type 0} (a n : ℕ) (xs ys : List X) (i : ℕ) (d : X) → i < a → a ≤ length xs → get_or (put_mid a n xs ys) i d ≡ get_or xs i d
get_or-before a n xs ys i d before fits = search (rules, places)

pub get_or-in : {X : Type 0} (a n : ℕ) (xs ys : List X) (i : ℕ) (d : X) → length ys ≡ n → a + n ≤ length xs → a ≤ i → i < a + n → get_or (put_mid a n xs ys) i d ≡ get_or ys (i - a) d
get_or-in a n xs ys i d long fits behind before = search (rules, places)

pub get_or-behind : {X : Type 0} (a n : ℕ) (xs ys : List X) (i : ℕ) (d : X) → length ys ≡ n → a + n ≤ length xs → a + n ≤ i → get_or (put_mid a n xs ys) i d ≡ get_or xs i d
get_or-behind a n xs ys i d long fits behind =
    let same : a + (n + (i - a - n)) ≡ i = omega arith in
    let e : get_or (put_mid a n xs ys) i d ≡ get_or xs (a + (n + (i - a - n))) d = search (rules, places) in
    e ∙ ap (λ (k : ℕ). get_or xs k d) same

pub both_true : (a b : Bool) → (a && b) ≡ true → (a ≡ true) × (b ≡ true)
both_true true true h = (refl, refl)
both_true true false h = absurd (let e : false ≡ true = h in cc)
both_true false b h = absurd (let e : false ≡ true = h in cc)
