-- Blocks that are taken from the pool.
use Rattle.std.proofs.Common.{◌≡◌, ℕ, zero, suc, ◌+◌, ◌<◌, ◌≤◌, List, [], ◌∷◌, ◌++◌, length, take, drop, get_or, refl, sym, ap, ◌∙◌, arith, Bool, true, false, subst}
use Rattle.std.specs.Prelude.{nat_lt, Option, Some, None, if◌then◌else◌, slice_get}
use Rattle.std.specs.List.{find, position, position_or_len}
use Rattle.std.proofs.lemmas.Bool.Decides.{nat_tests}
use Rattle.std.proofs.lemmas.List.{at_drop_more, at_drop_all, take_more, append_assoc, get_or_default}
use Rattle.std.proofs.lemmas.List.Folds.{find_at}
use Rattle.std.proofs.lemmas.List.Quantifiers.{position-Some}
use Rattle.pool_alloc.specs.Pool.{BlockPage, Taken, behind, take_on, take_first, begins_at}

-- searches by place
past : {X : Type 0} (xs : List X) (n : ℕ) → length xs ≤ n → slice_get xs n ≡ None
past [] n h = refl
past (x ∷ xs) zero h = absurd (omega arith)
past (x ∷ xs) (suc n) h = past xs n (omega arith)

pub find_none : {X : Type 0} (test : X → Bool) (xs : List X) → position test xs ≡ None → find test xs ≡ None
find_none {X} test xs e = by (nat_lt (position_or_len test xs) (length xs)) refl e
  where
    by : (b : Bool) → nat_lt (position_or_len test xs) (length xs) ≡ b → (if b then Some (position_or_len test xs) else None) ≡ None → find test xs ≡ None
    by true t h = absurd (cc)
    by false t h = let over : length xs ≤ position_or_len test xs = grind (arith, nat_tests) in find_at test xs ∙ past xs (position_or_len test xs) over

find_there : {X : Type 0} (test : X → Bool) (xs : List X) (i : ℕ) (d : X) → i < length xs → test (get_or xs i d) ≡ true → ((k : ℕ) → k < i → test (get_or xs k d) ≡ false) → find test xs ≡ Some (get_or xs i d)
find_there test [] i d h t none = absurd (omega arith)
find_there test (x ∷ xs) zero d h t none = rw t refl
find_there test (x ∷ xs) (suc i) d h t none = let first : test x ≡ false = none 0 (omega arith) in rw first (find_there test xs i d (omega arith) t (λ k l. none (suc k) (omega arith)))

pub find_some : {X : Type 0} (test : X → Bool) (xs : List X) (i : ℕ) (d : X) → position test xs ≡ Some i → find test xs ≡ Some (get_or xs i d)
find_some test xs i d e = let p = position-Some test xs i d e in find_there test xs i d p.0 p.1 p.2

pub place_inside : {X : Type 0} (test : X → Bool) (xs : List X) (i : ℕ) (d : X) → position test xs ≡ Some i → i < length xs
place_inside test xs i d e = (position-Some test xs i d e).0

-- what stands before the pages that are searched
pub behind_none : (o : Option Taken) → behind [] o ≡ o
behind_none None = refl
behind_none (Some taken) = refl

over_page : (before : List BlockPage) (page : BlockPage) (pages : List BlockPage) (at : ℕ) (o : Option Taken) → behind before (take_on page pages at None o) ≡ behind (before ++ page ∷ []) o
over_page before page pages at None = refl
over_page before page pages at (Some taken) = ap (λ ps. Some (record { size = taken.size; pages = ps; freed = taken.freed })) (sym (append_assoc before (page ∷ []) taken.pages))

pub behind_more : (pool : List BlockPage) (i at : ℕ) (x : BlockPage) → i < length pool → x ≡ get_or pool i x → position (begins_at x at) x.blocks ≡ None
    → behind (take i pool) (take_first (drop i pool) at) ≡ take_first pool at → behind (take (i + 1) pool) (take_first (drop (i + 1) pool) at) ≡ take_first pool at
unfolding take_first
behind_more pool i at x h is none so_far =
    let missing : find (begins_at (get_or pool i x) at) (get_or pool i x).blocks ≡ None = ap (λ (p : BlockPage). find (begins_at p at) p.blocks) (sym is) ∙ find_none (begins_at x at) x.blocks none in
    sym (ap (λ o. behind (take i pool) o) (at_drop_more (λ ps. take_first ps at) pool i x h ∙ ap (λ o. take_on (get_or pool i x) (drop (i + 1) pool) at o (take_first (drop (i + 1) pool) at)) missing)
    ∙ over_page (take i pool) (get_or pool i x) (drop (i + 1) pool) at (take_first (drop (i + 1) pool) at)
    ∙ ap (λ before. behind before (take_first (drop (i + 1) pool) at)) (sym (take_more pool i x h)))
    ∙ so_far

pub behind_over : (s pool : List BlockPage) (i at : ℕ) → s ≡ pool → length s ≤ i → behind (take i s) (take_first (drop i s) at) ≡ take_first s at → take_first pool at ≡ None
unfolding take_first
behind_over s pool i at e h so_far = ap (λ ps. take_first ps at) (sym e) ∙ sym so_far ∙ ap (λ o. behind (take i s) o) (at_drop_all (λ ps. take_first ps at) s i h)

pub behind_there : (s pool : List BlockPage) (i at place : ℕ) (x d : BlockPage) → s ≡ pool → i < length s → x ≡ get_or s i x → position (begins_at x at) x.blocks ≡ Some place
    → position (begins_at (get_or pool i d) at) (get_or pool i d).blocks ≡ Some place
behind_there s pool i at place x d e h is found = subst (λ (p : BlockPage). position (begins_at p at) p.blocks ≡ Some place) (is ∙ get_or_default s i x d h ∙ ap (λ ps. get_or ps i d) e) found
