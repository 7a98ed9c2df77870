-- No two rows of the table hold of one word.
use Rattle.std.proofs.Common.{◌≡◌, ℕ, zero, suc, Bool, true, false, not, ◌&&◌, List, [], ◌∷◌, Some, refl, sym, ◌∙◌, ap, bit_and, ◌⊎◌, inl, inr, map}
use Rattle.std.specs.Prelude.{◌==◌, ◌||◌, slice_get, cond}
use Rattle.std.proofs.lemmas.Nat.{and_comm, and_assoc}
use Rattle.std.proofs.lemmas.Bool.{eqb-true, eq-eqb}
use Rattle.rv_decode.specs.Rows.{Row, Pattern, rows, holds, holds_none, holds_row, reads, word_of}
use Rattle.rv_decode.specs.Means.{Means, first, decoded}
use Rattle.rv_decode.specs.Views.{row_of}
use Rattle.rv_decode.specs.declared.table.TheConstants.{ROWS}
use Rattle.rv_decode.specs.declared.insn.Insn.{Insn}

pub rows-are : map row_of ROWS ≡ rows
unfolding rows
rows-are = refl

-- a bit that both patterns ask for has different values in them
abbrev pub conflict : Pattern → Pattern → Bool
conflict p q = not (bit_and p.value q.mask == bit_and q.value p.mask)

-- a word with the pattern p has the pattern e
abbrev pub implies : Pattern → Pattern → Bool
implies p e = (bit_and p.mask e.mask == e.mask) && (bit_and p.value e.mask == e.value)

abbrev pub implies_any : Pattern → List Pattern → Bool
implies_any p [] = false
implies_any p (e ∷ es) = implies p e || implies_any p es

abbrev pub apart : Row → Row → Bool
apart a b = conflict a.is b.is || (implies_any a.is b.but || implies_any b.is a.but)

abbrev pub apart_from : Row → List Row → Bool
apart_from a [] = true
apart_from a (b ∷ bs) = apart a b && apart_from a bs

abbrev pub all_apart : List Row → Bool
all_apart [] = true
all_apart (a ∷ more) = apart_from a more && all_apart more

pub rows-apart : all_apart rows ≡ true
unfolding rows
rows-apart = refl

pub and_split : (a b : Bool) → (a && b) ≡ true → (a ≡ true) × (b ≡ true)
and_split true b h = (refl, h)
and_split false b h = cc

or_split : (a b : Bool) → (a || b) ≡ true → (a ≡ true) ⊎ (b ≡ true)
or_split true b h = inl refl
or_split false b h = inr h

not_true : (a : Bool) → not a ≡ true → a ≡ true → ⊥
not_true true h e = cc
not_true false h e = cc

pub conflict_apart : (p q : Pattern) (w : ℕ) → conflict p q ≡ true → holds p w ≡ true → holds q w ≡ true → ⊥
conflict_apart p q w c hp hq =
    let ep : bit_and w p.mask ≡ p.value = eqb-true _ _ hp in
    let eq : bit_and w q.mask ≡ q.value = eqb-true _ _ hq in
    let e : bit_and p.value q.mask ≡ bit_and q.value p.mask =
    ap (λ x. bit_and x q.mask) (sym ep) ∙ and_assoc q.mask w p.mask ∙ ap (bit_and w) (and_comm p.mask q.mask) ∙ sym (and_assoc p.mask w q.mask) ∙ ap (λ x. bit_and x p.mask) eq in
    not_true _ c (eq-eqb _ _ e)

pub implies_holds : (p e : Pattern) (w : ℕ) → implies p e ≡ true → holds p w ≡ true → holds e w ≡ true
implies_holds p e w i h =
    let s = and_split _ _ i in
    let ep : bit_and w p.mask ≡ p.value = eqb-true _ _ h in
    let m : bit_and p.mask e.mask ≡ e.mask = eqb-true _ _ s.0 in
    let v : bit_and p.value e.mask ≡ e.value = eqb-true _ _ s.1 in
    eq-eqb _ _ (ap (bit_and w) (sym m) ∙ sym (and_assoc e.mask w p.mask) ∙ ap (λ x. bit_and x e.mask) ep ∙ v)

pub implies_any_apart : (p : Pattern) (es : List Pattern) (w : ℕ) → implies_any p es ≡ true → holds p w ≡ true → holds_none es w ≡ true → ⊥
implies_any_apart p [] w i h n = cc
implies_any_apart p (e ∷ es) w i h n =
    let s = and_split _ _ n in
    elim (or_split _ _ i) [ inl one ↦ not_true _ s.0 (implies_holds p e w one h) | inr more ↦ implies_any_apart p es w more h s.1 ]

pub apart_rows : (a b : Row) (w : ℕ) → apart a b ≡ true → holds_row a w ≡ true → holds_row b w ≡ true → ⊥
apart_rows a b w x ha hb =
    let sa = and_split _ _ ha in
    let sb = and_split _ _ hb in
    elim (or_split _ _ x) [
      | inl c ↦ conflict_apart a.is b.is w c sa.0 sb.0
      | inr y ↦ elim (or_split _ _ y) [
        | inl i ↦ implies_any_apart a.is b.but w i sa.0 sb.1
        | inr i ↦ implies_any_apart b.is a.but w i sb.0 sa.1
      ]
    ]

-- none of the rows that a row is apart from holds where it holds
pub apart_from_rows : (a : Row) (rs : List Row) (w : ℕ) (j : ℕ) (b : Row) → apart_from a rs ≡ true → slice_get rs j ≡ Some b → holds_row a w ≡ true → holds_row b w ≡ true → ⊥
apart_from_rows a [] w j b x g ha hb = cc
apart_from_rows a (r ∷ rs) w zero b x g ha hb =
    let e : r ≡ b = cc in
    let s = and_split _ _ x in apart_rows a r w s.0 ha (ap (λ y. holds_row y w) e ∙ hb)
apart_from_rows a (r ∷ rs) w (suc j) b x g ha hb = let s = and_split _ _ x in apart_from_rows a rs w j b s.1 g ha hb

-- the row that holds is the first one
pub first_found : (rs : List Row) (w : ℕ) (j : ℕ) (b : Row) → all_apart rs ≡ true → slice_get rs j ≡ Some b → holds_row b w ≡ true → first rs w ≡ Some (reads b w, b.length)
first_found [] w j b x g h = cc
first_found (r ∷ rs) w zero b x g h =
    let e : r ≡ b = cc in
    rw (ap (λ y. holds_row y w) e ∙ h) (ap (λ (y : Row). Some (reads y w, y.length)) e)
first_found (r ∷ rs) w (suc j) b x g h =
    let s = and_split _ _ x in
    let no : holds_row r w ≡ false = elim (holds_row r w) as (λ v. holds_row r w ≡ v → holds_row r w ≡ false) [ true ↦ λ (t : holds_row r w ≡ true). absurd (apart_from_rows r rs w j b s.0 g t h) | false ↦ λ f. f ] refl in
    rw no (first_found rs w j b s.1 g h)

-- a row that is found first is listed and holds
pub first_means : (rs : List Row) (w : ℕ) (insn : Insn) (len : ℕ) → first rs w ≡ Some (insn, len) → (i : ℕ) × (row : Row) × (slice_get rs i ≡ Some row) × (holds_row row w ≡ true) × (insn ≡ reads row w) × (len ≡ row.length)
first_means [] w insn len h = cc
first_means (r ∷ rs) w insn len h =
    elim (holds_row r w) as (λ v. holds_row r w ≡ v → cond v (Some (reads r w, r.length)) (first rs w) ≡ Some (insn, len) → (i : ℕ) × (row : Row) × (slice_get (r ∷ rs) i ≡ Some row) × (holds_row row w ≡ true) × (insn ≡ reads row w) × (len ≡ row.length)) [
      | true ↦ λ t e. (let p : (reads r w, r.length) ≡ (insn, len) = cc in (0, r, refl, t, sym (ap (λ (x : Insn × ℕ). x.0) p), sym (ap (λ (x : Insn × ℕ). x.1) p)))
      | false ↦ λ t e. let x = first_means rs w insn len e in (suc x.0, x.1, x.2, x.3, x.4, x.5)
    ] refl h

pub decoded_means : (half0 half1 : ℕ) (insn : Insn) (len : ℕ) → decoded half0 half1 ≡ Some (insn, len) → Means half0 half1 insn len
unfolding decoded
decoded_means half0 half1 insn len h =
    let x = first_means rows (word_of half0 half1) insn len h in
    (x.0, x.1, record { listed = x.2; holds = x.3; fields = x.4; length = x.5 })

pub means_decoded : (half0 half1 : ℕ) (insn : Insn) (len : ℕ) → Means half0 half1 insn len → decoded half0 half1 ≡ Some (insn, len)
unfolding decoded
means_decoded half0 half1 insn len m =
    let x = m.2 in
    first_found rows (word_of half0 half1) m.0 m.1 rows-apart x.listed x.holds ∙ (let e1 = x.fields in let e2 = x.length in cc)

pub one_row : (rs : List Row) (w : ℕ) (i j : ℕ) (a b : Row) → all_apart rs ≡ true → slice_get rs i ≡ Some a → slice_get rs j ≡ Some b → holds_row a w ≡ true → holds_row b w ≡ true → i ≡ j
one_row [] w i j a b x gi gj ha hb = cc
one_row (r ∷ rs) w zero zero a b x gi gj ha hb = refl
one_row (r ∷ rs) w zero (suc j) a b x gi gj ha hb =
    let e : r ≡ a = cc in
    let s = and_split _ _ x in absurd (apart_from_rows r rs w j b s.0 gj (ap (λ y. holds_row y w) e ∙ ha) hb)
one_row (r ∷ rs) w (suc i) zero a b x gi gj ha hb =
    let e : r ≡ b = cc in
    let s = and_split _ _ x in absurd (apart_from_rows r rs w i a s.0 gi (ap (λ y. holds_row y w) e ∙ hb) ha)
one_row (r ∷ rs) w (suc i) (suc j) a b x gi gj ha hb = let s = and_split _ _ x in ap suc (one_row rs w i j a b s.1 gi gj ha hb)

pub one_row_holds : (half0 half1 i j : ℕ) (a b : Row) → slice_get rows i ≡ Some a → slice_get rows j ≡ Some b → holds_row a (word_of half0 half1) ≡ true → holds_row b (word_of half0 half1) ≡ true → i ≡ j
one_row_holds half0 half1 i j a b = one_row rows (word_of half0 half1) i j a b rows-apart
