-- How many turns are left.
use Rattle.std.proofs.Common.{◌≡◌, ℕ, zero, suc, ◌<◌, ◌≤◌, ◌+◌, arith, Bool, true, false, refl, ◌∙◌, ap, subst, List, [], ◌∷◌}
use Rattle.std.specs.Prelude.{◌==◌, ◌≢◌, ◌||◌, if◌then◌else◌, slice_index_or}
use Rattle.std.specs.List.{Contains, list_any}
use Rattle.std.proofs.lemmas.Bool.Decides.{nat_tests}
use Rattle.prov_cert.specs.Cert.{Node}
use Rattle.provenance_check.specs.Judged.{NoneFailsJudges}
use Rattle.provenance_check.specs.Reached.{Reached, begins, goes_on, next_of}
use Rattle.provenance_check.specs.Rules.{is_marked}
use Rattle.prov_laws.specs.Functions.{LastConverts, cells_left, marked_from}
use Rattle.prov_laws.proofs.EdgeLemmas.{SameCells, bound}

pub fewer_behind : (marks : List Bool) (n : ℕ) → marked_from marks n ≤ marked_from marks 0
fewer_behind [] n = omega arith
fewer_behind (m ∷ marks) zero = omega arith
fewer_behind (m ∷ marks) (suc n) = let l = fewer_behind marks n in omega (arith, l)

-- one is marked there
pub some_left : (marks : List Bool) (n : ℕ) → is_marked marks n ≡ true → 0 < marked_from marks n
some_left [] n e = absurd cc
some_left (true ∷ marks) zero e = omega arith
some_left (false ∷ marks) zero e = absurd cc
some_left (m ∷ marks) (suc n) e = some_left marks n e

-- behind a marked number there are fewer
pub marks_fall : (marks : List Bool) (n m : ℕ) → is_marked marks n ≡ true → n < m → suc (marked_from marks m) ≤ marked_from marks n
marks_fall [] n m e h = absurd cc
marks_fall (true ∷ marks) zero zero e h = absurd (omega (arith, h))
marks_fall (true ∷ marks) zero (suc m) e h = let l = fewer_behind marks m in omega (arith, l)
marks_fall (false ∷ marks) zero m e h = absurd cc
marks_fall (x ∷ marks) (suc n) zero e h = absurd (omega (arith, h))
marks_fall (x ∷ marks) (suc n) (suc m) e h = marks_fall marks n m e (omega (arith, h))

pub same_left : (n : ℕ) (xs ys : List ℕ) → SameCells xs ys → cells_left n xs ≡ cells_left n ys
same_left zero xs ys h = refl
same_left (suc n) xs ys h = ap (λ t. (if t then 0 else 1) + cells_left n xs) (h n) ∙ ap (λ k. (if list_any (λ c. c == n) ys then 0 else 1) + k) (same_left n xs ys h)

-- none is converted, and there are no more than all
pub all_left : (n : ℕ) → cells_left n [] ≡ n
all_left zero = refl
all_left (suc n) = let l = all_left n in omega (arith, l)

pub fewer_cells : (n : ℕ) (done : List ℕ) → cells_left n done ≤ n
fewer_cells zero done = omega arith
fewer_cells (suc n) done = by (fewer_cells n done) (list_any (λ c. c == n) done)
  where
    by : cells_left n done ≤ n → (t : Bool) → (if t then 0 else 1) + cells_left n done ≤ suc n
    by l true = omega (arith, l)
    by l false = omega (arith, l)

-- a cell that is converted leaves no more,
no_more : (n : ℕ) (cell : ℕ) (done : List ℕ) → cells_left n (cell ∷ done) ≤ cells_left n done
no_more zero cell done = omega arith
no_more (suc n) cell done = by (no_more n cell done) (cell == n) (list_any (λ c. c == n) done)
  where
    by : cells_left n (cell ∷ done) ≤ cells_left n done → (a b : Bool) → (if a || b then 0 else 1) + cells_left n (cell ∷ done) ≤ (if b then 0 else 1) + cells_left n done
    by l true true = omega (arith, l)
    by l true false = omega (arith, l)
    by l false true = omega (arith, l)
    by l false false = omega (arith, l)

-- and fewer where it wasn't.
pub cells_fall : (n : ℕ) (cell : ℕ) (done : List ℕ) → cell < n → list_any (λ c. c == cell) done ≡ false → suc (cells_left n (cell ∷ done)) ≤ cells_left n done
cells_fall zero cell done h e = absurd (omega (arith, h))
cells_fall (suc n) cell done h e = by (λ small. cells_fall n cell done small e) (cell == n) refl
  where
    on : (b : Bool) → suc (cells_left n (cell ∷ done)) ≤ cells_left n done → suc ((if b then 0 else 1) + cells_left n (cell ∷ done)) ≤ (if b then 0 else 1) + cells_left n done
    on true l = omega (arith, l)
    on false l = omega (arith, l)

    by : (cell < n → suc (cells_left n (cell ∷ done)) ≤ cells_left n done) → (a : Bool) → (cell == n) ≡ a → suc ((if a || list_any (λ c. c == n) done then 0 else 1) + cells_left n (cell ∷ done)) ≤ (if list_any (λ c. c == n) done then 0 else 1) + cells_left n done
    by less true f =
        let same : cell ≡ n = grind (arith, nat_tests) in
        let l = no_more n cell done in
        let z : list_any (λ c. c == n) done ≡ false = subst (λ m. list_any (λ c. c == m) done ≡ false) same e in
        rw z (omega (arith, l))
    by less false f =
        let other : cell ≢ n = λ k. absurd (grind (arith, nat_tests)) in
        let small : cell < n = grind (arith, other, h) in
        on (list_any (λ c. c == n) done) (less small)

-- what is reached from a node that another one leads to is reached from that one
pub reached_from : (nodes : List Node) (n m x : ℕ) → Contains (next_of nodes n) m → Reached nodes (m ∷ []) x → Reached nodes (n ∷ []) x
reached_from nodes n m x named (begins k c) =
    let few = c.1 in
    let zeroth : c.0 ≡ 0 = omega (arith, few) in
    let same : m ≡ k = subst (λ i. slice_index_or (m ∷ []) i k ≡ k) zeroth c.2 in
    subst (Reached nodes (n ∷ [])) same (goes_on n m (begins n (0, omega arith, refl)) named)
reached_from nodes n m x named (goes_on k l from c) = goes_on k l (reached_from nodes n m k named from) c

pub last_converts : NoneFailsJudges → LastConverts
last_converts none_fails g old new allows b number most end from cell formed marks none small =
    let marked : is_marked g.last from.exit ≡ true = (marks.1 from.exit (bound g.nodes from.exit from.node from.listed)).1 from.reaches in
    (none_fails g allows from.exit from.node formed (none from.exit from.node from.listed)).converted marked from.last cell small
