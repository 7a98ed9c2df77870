-- Parts of a stack: no two meet where, in the order of their places, no two neighbours do.
use Rattle.std.proofs.Common.{◌≡◌, ℕ, zero, suc, ◌+◌, ◌<◌, ◌≤◌, Bool, true, false, not, ◌&&◌, ◌||◌, nat_le, List, [], ◌∷◌, ◌++◌, length, get_or, Option, Some, None, ⊎_elim, refl, sym, ap, ◌∙◌, arith, subst}
use Rattle.std.specs.List as std_list
use Rattle.std.specs.List.{All, list_any}
use Rattle.std.specs.List.Sorted.{IsPermutation, IsNonDecreasingBy}
use Rattle.std.proofs.lemmas.Bool.{and_parts, and_from, cases_eq, leb-true, le-leb, cases_Bool, or_left, or_cases}
use Rattle.std.proofs.lemmas.Bool.Decides.{nat_tests}
use Rattle.std.proofs.lemmas.List.Elements.{All-head, All-tail, All-push, All-nil}
use Rattle.std.proofs.lemmas.List.Edits.{length-swap, Swapped, swapped_from_swap}
use Rattle.std.proofs.lemmas.List.Sorted.{IsPermutation-keeps, IsPermutation-sym, All-permutation}
use Rattle.prov_cert.specs.declared.cert.StackPart.{StackPart}
use Rattle.prov_cert.specs.Words.{◌>>=◌, where_true}
use Rattle.prov_cert.specs.Forms.{is_width, is_apart, meets_none, stack_part, new_part, stack_of}
use Rattle.prov_cert.specs.Apart.{parts_of, are_apart, rises}
use Rattle.prov_cert.proofs.KeptLemmas.{part_kept}

-- ---- two parts

abbrev Apart : StackPart → StackPart → Type 0
Apart p q = is_apart p.at p.width q ≡ true

or_turned : (a b : Bool) → (a || b) ≡ (b || a)
or_turned true true = refl
or_turned true false = refl
or_turned false true = refl
or_turned false false = refl

turned : (p q : StackPart) → is_apart p.at p.width q ≡ is_apart q.at q.width p
turned p q = or_turned (nat_le (p.at + p.width) q.at) (nat_le (q.at + q.width) p.at)

Apart-turned : (p q : StackPart) → Apart p q → Apart q p
Apart-turned p q h = turned q p ∙ h

-- ---- one more at the front or at the end

not_either : (a b : Bool) → not (not a || b) ≡ (a && not b)
not_either true true = refl
not_either true false = refl
not_either false true = refl
not_either false false = refl

meets_none-cons : (p q : StackPart) (parts : List StackPart) → meets_none (q ∷ parts) p.at p.width ≡ (is_apart p.at p.width q && meets_none parts p.at p.width)
meets_none-cons p q parts = not_either (is_apart p.at p.width q) (list_any (λ r. not (is_apart p.at p.width r)) parts)

and_grouped : (a b c : Bool) → (a && (b && c)) ≡ ((a && b) && c)
and_grouped true b c = refl
and_grouped false b c = refl

meets_none-push : (p q : StackPart) (parts : List StackPart) → meets_none (parts ++ q ∷ []) p.at p.width ≡ (meets_none parts p.at p.width && is_apart p.at p.width q)
meets_none-push p q [] = one (is_apart p.at p.width q) where
  one : (a : Bool) → not (not a || false) ≡ (true && a)
  one true = refl
  one false = refl
meets_none-push p q (r ∷ parts) =
    meets_none-cons p r (parts ++ q ∷ []) ∙ ap (λ b. is_apart p.at p.width r && b) (meets_none-push p q parts)
    ∙ and_grouped (is_apart p.at p.width r) (meets_none parts p.at p.width) (is_apart p.at p.width q)
    ∙ ap (λ b. b && is_apart p.at p.width q) (sym (meets_none-cons p r parts))

regrouped : (a b c d : Bool) → ((a && b) && (c && d)) ≡ ((a && c) && (b && d))
regrouped true true true d = refl
regrouped true true false d = refl
regrouped true false true d = refl
regrouped true false false d = refl
regrouped false b c d = refl

are_apart-push : (q : StackPart) (parts : List StackPart) → are_apart (parts ++ q ∷ []) ≡ (are_apart parts && meets_none parts q.at q.width)
are_apart-push q [] = refl
are_apart-push q (p ∷ parts) =
    ap (λ b. b && are_apart (parts ++ q ∷ [])) (meets_none-push p q parts)
    ∙ ap (λ b. (meets_none parts p.at p.width && is_apart p.at p.width q) && b) (are_apart-push q parts)
    ∙ regrouped (meets_none parts p.at p.width) (is_apart p.at p.width q) (are_apart parts) (meets_none parts q.at q.width)
    ∙ ap (λ b. (meets_none parts p.at p.width && are_apart parts) && b) (ap (λ b. b && meets_none parts q.at q.width) (turned p q) ∙ sym (meets_none-cons q p parts))

-- ---- reading parts one by one, and all before any two are compared

abbrev Whole : ℕ → List StackPart → List (List ℕ) → Option (List StackPart)
Whole regions before texts = parts_of regions before texts >>= λ parts. where_true (are_apart parts) parts

no_more : (regions : ℕ) (before : List StackPart) (texts : List (List ℕ)) → are_apart before ≡ false → Whole regions before texts ≡ None
unfolding parts_of
no_more regions before [] h = rw h refl
no_more regions before (text ∷ texts) h = next (stack_part regions text) (λ p. no_more regions (before ++ p ∷ []) texts (are_apart-push p before ∙ ap (λ b. b && meets_none before p.at p.width) h)) where
  next : (o : Option StackPart) → ((p : StackPart) → Whole regions (before ++ p ∷ []) texts ≡ None) → ((o >>= λ p. parts_of regions (before ++ p ∷ []) texts) >>= λ parts. where_true (are_apart parts) parts) ≡ None
  next None rest = refl
  next (Some p) rest = rest p

stack_is : (regions : ℕ) (before : List StackPart) (texts : List (List ℕ)) → are_apart before ≡ true → stack_of regions before texts ≡ Whole regions before texts
unfolding parts_of stack_of
stack_is regions before [] h = rw h refl
stack_is regions before (text ∷ texts) h = next (stack_part regions text) (λ p. stack_is regions (before ++ p ∷ []) texts) where
  next : (o : Option StackPart) → ((p : StackPart) → are_apart (before ++ p ∷ []) ≡ true → stack_of regions (before ++ p ∷ []) texts ≡ Whole regions (before ++ p ∷ []) texts)
      → ((o >>= new_part before) >>= λ p. stack_of regions (before ++ p ∷ []) texts) ≡ ((o >>= λ p. parts_of regions (before ++ p ∷ []) texts) >>= λ parts. where_true (are_apart parts) parts)
  next None rest = refl
  next (Some p) rest =
      ⊎_elim
      (λ fits. rw fits (rest p (are_apart-push p before ∙ rw (h, fits) refl)))
      (λ meets. rw meets (sym (no_more regions (before ++ p ∷ []) texts (are_apart-push p before ∙ rw (h, meets) refl))))
      (cases_Bool (meets_none before p.at p.width))

pub stack_none : (regions : ℕ) (texts : List (List ℕ)) → None ≡ parts_of regions [] texts → None ≡ stack_of regions [] texts
stack_none regions texts h = sym (stack_is regions [] texts refl ∙ rw (← h) refl)

pub stack_some : (regions : ℕ) (texts : List (List ℕ)) (parts : List StackPart) (apart : Bool) → Some parts ≡ parts_of regions [] texts → apart ≡ are_apart parts → where_true apart parts ≡ stack_of regions [] texts
stack_some regions texts parts apart h e = sym (stack_is regions [] texts refl ∙ rw (← h, e) refl)

-- ---- no part is empty

abbrev Wide : StackPart → Type 0
Wide p = 0 < p.width

wide_from : (n : ℕ) → is_width n ≡ true → 0 < n
wide_from n h = grind (arith, nat_tests, h)

wide_behind : (regions : ℕ) (before : List StackPart) (texts : List (List ℕ)) (parts : List StackPart) → All Wide before → parts_of regions before texts ≡ Some parts → All Wide parts
unfolding parts_of
wide_behind regions before [] parts all h = let e : before ≡ parts = cc in subst (All Wide) e all
wide_behind regions before (text ∷ texts) parts all h = next (stack_part regions text) refl h (λ p. wide_behind regions (before ++ p ∷ []) texts parts) where
  next : (o : Option StackPart) → stack_part regions text ≡ o → (o >>= λ p. parts_of regions (before ++ p ∷ []) texts) ≡ Some parts
      → ((p : StackPart) → All Wide (before ++ p ∷ []) → parts_of regions (before ++ p ∷ []) texts ≡ Some parts → All Wide parts) → All Wide parts
  next None e t rest = cc
  next (Some p) e t rest = rest p (All-push Wide before p all (wide_from p.width (part_kept regions text p e).width)) t

pub all_wide : (regions : ℕ) (texts : List (List ℕ)) (parts : List StackPart) → Some parts ≡ parts_of regions [] texts → All Wide parts
all_wide regions texts parts h = wide_behind regions [] texts parts (All-nil Wide) (sym h)

-- ---- any two parts, in any order

abbrev AnyTwo : List StackPart → Type 0
AnyTwo parts = (i j : ℕ) (d : StackPart) → (i ≡ j → ⊥) → i < length parts → j < length parts → Apart (get_or parts i d) (get_or parts j d)

none_from : (p : StackPart) (parts : List StackPart) → All (Apart p) parts → meets_none parts p.at p.width ≡ true
none_from p [] h = refl
none_from p (q ∷ parts) h = meets_none-cons p q parts ∙ and_from _ _ (All-head (Apart p) q parts h) (none_from p parts (All-tail (Apart p) q parts h))

each_from : (p : StackPart) (parts : List StackPart) → meets_none parts p.at p.width ≡ true → All (Apart p) parts
each_from p [] h k d below = absurd (omega arith)
each_from p (q ∷ parts) h zero d below = (and_parts _ _ (sym (meets_none-cons p q parts) ∙ h)).0
each_from p (q ∷ parts) h (suc k) d below = each_from p parts (and_parts _ _ (sym (meets_none-cons p q parts) ∙ h)).1 k d (omega arith)

from_any_two : (parts : List StackPart) → AnyTwo parts → are_apart parts ≡ true
from_any_two [] h = refl
from_any_two (p ∷ parts) h =
    and_from _ _
    (none_from p parts (λ k d below. h zero (suc k) d (λ e. omega arith) (omega arith) (omega arith)))
    (from_any_two parts (λ i j d ne li lj. h (suc i) (suc j) d (λ e. ne (omega arith)) (omega arith) (omega arith)))

any_two : (parts : List StackPart) → are_apart parts ≡ true → AnyTwo parts
any_two [] h i j d ne li lj = absurd (omega arith)
any_two (p ∷ parts) h zero zero d ne li lj = absurd (ne refl)
any_two (p ∷ parts) h zero (suc j) d ne li lj = each_from p parts (and_parts _ _ h).0 j d (omega arith)
any_two (p ∷ parts) h (suc i) zero d ne li lj = Apart-turned p (get_or parts i d) (each_from p parts (and_parts _ _ h).0 i d (omega arith))
any_two (p ∷ parts) h (suc i) (suc j) d ne li lj = any_two parts (and_parts _ _ h).1 i j d (λ e. ne (omega arith)) (omega arith) (omega arith)

-- where the part at a place comes from
record Source (f g : ℕ → StackPart) (a b i n : ℕ) : Type 0 where
  from : ℕ
  below : from < n
  is : g i ≡ f from
  at_a : i ≡ a → from ≡ b
  at_b : i ≡ b → from ≡ a
  other : (i ≡ a → ⊥) → (i ≡ b → ⊥) → from ≡ i

source : (f g : ℕ → StackPart) (a b i n : ℕ) → Swapped f g a b → a < n → b < n → i < n → Source f g a b i n
source f g a b i n s la lb li =
    ⊎_elim
    (λ e. record { from = b; below = lb; is = ap g e ∙ s.0; at_a = λ _. refl; at_b = λ k. omega arith; other = λ k _. absurd (k e) })
    (λ na. ⊎_elim
    (λ e. record { from = a; below = la; is = ap g e ∙ s.1; at_a = λ k. absurd (na k); at_b = λ _. refl; other = λ _ k. absurd (k e) })
    (λ nb. record { from = i; below = li; is = s.2 i na nb; at_a = λ k. absurd (na k); at_b = λ k. absurd (nb k); other = λ _ _. refl })
    (cases_eq i b))
    (cases_eq i a)

unlike : (f g : ℕ → StackPart) (a b i j n : ℕ) (x : Source f g a b i n) (y : Source f g a b j n) → (i ≡ j → ⊥) → x.from ≡ y.from → ⊥
unlike f g a b i j n x y ne same =
    ⊎_elim
    (λ ia. ⊎_elim (λ ja. ne (ia ∙ sym ja)) (λ na. ⊎_elim (λ jb. let p = x.at_a ia in let q = y.at_b jb in ne (omega arith)) (λ nb. let p = x.at_a ia in let q = y.other na nb in nb (omega arith)) (cases_eq j b)) (cases_eq j a))
    (λ nia. ⊎_elim
    (λ ib. ⊎_elim (λ ja. let p = x.at_b ib in let q = y.at_a ja in ne (omega arith)) (λ na. ⊎_elim (λ jb. ne (ib ∙ sym jb)) (λ nb. let p = x.at_b ib in let q = y.other na nb in na (omega arith)) (cases_eq j b)) (cases_eq j a))
    (λ nib. ⊎_elim (λ ja. let p = x.other nia nib in let q = y.at_a ja in nib (omega arith)) (λ na. ⊎_elim (λ jb. let p = x.other nia nib in let q = y.at_b jb in nia (omega arith)) (λ nb. let p = x.other nia nib in let q = y.other na nb in ne (omega arith)) (cases_eq j b)) (cases_eq j a))
    (cases_eq i b))
    (cases_eq i a)

swapped : (parts : List StackPart) (a b : ℕ) → a < length parts → b < length parts → AnyTwo parts → AnyTwo (std_list.swap parts a b)
swapped parts a b la lb h i j d ne li lj =
    let long = length-swap parts a b in
    let s = swapped_from_swap parts (std_list.swap parts a b) a b d la lb refl in
    let f : ℕ → StackPart = λ k. get_or parts k d in
    let g : ℕ → StackPart = λ k. get_or (std_list.swap parts a b) k d in
    let x = source f g a b i (length parts) s la lb (omega arith) in
    let y = source f g a b j (length parts) s la lb (omega arith) in
    rw (x.is, y.is) (h x.from y.from d (unlike f g a b i j (length parts) x y ne) x.below y.below)

moved : (xs ys : List StackPart) → IsPermutation xs ys → are_apart xs ≡ true → are_apart ys ≡ true
moved xs ys p h = from_any_two ys (IsPermutation-keeps xs AnyTwo (any_two xs h) (λ l a b la lb k. swapped l a b la lb k) ys p)

-- ---- neighbours

behind_all : (from : ℕ) (p : StackPart) (parts : List StackPart) → p.at + p.width ≤ from → rises from parts ≡ true → meets_none parts p.at p.width ≡ true
behind_all from p [] le h = refl
behind_all from p (q ∷ parts) le h =
    let both = and_parts (nat_le from q.at) (rises (q.at + q.width) parts) h in
    let first = leb-true from q.at both.0 in
    meets_none-cons p q parts ∙ and_from _ _ (or_left _ _ (le-leb (p.at + p.width) q.at (omega arith))) (behind_all (q.at + q.width) p parts (omega arith) both.1)

pub apart_from_rising : (from : ℕ) (parts : List StackPart) → rises from parts ≡ true → are_apart parts ≡ true
apart_from_rising from [] h = refl
apart_from_rising from (p ∷ parts) h =
    let both = and_parts (nat_le from p.at) (rises (p.at + p.width) parts) h in
    and_from _ _ (behind_all (p.at + p.width) p parts (omega arith) both.1) (apart_from_rising (p.at + p.width) parts both.1)

abbrev Sorted : List StackPart → Type 0
Sorted parts = IsNonDecreasingBy (λ p. p.at) parts

rising : (from : ℕ) (parts : List StackPart) → All Wide parts → Sorted parts → ((d : StackPart) → 0 < length parts → from ≤ (get_or parts 0 d).at) → are_apart parts ≡ true → rises from parts ≡ true
rising from [] wide up first h = refl
rising from (p ∷ parts) wide up first h =
    let both = and_parts (meets_none parts p.at p.width) (are_apart parts) h in
    let apart = each_from p parts both.0 in
    and_from _ _ (le-leb from p.at (first p (omega arith)))
    (rising (p.at + p.width) parts (All-tail Wide p parts wide) (λ i j d le below. up (suc i) (suc j) d (omega arith) (omega arith))
    (λ d some. behind p (get_or parts 0 d) (apart 0 d some) (All-tail Wide p parts wide 0 d some) (up zero (suc zero) d (omega arith) (omega arith)))
    both.1) where
      behind : (p q : StackPart) → Apart p q → Wide q → p.at ≤ q.at → p.at + p.width ≤ q.at
      behind p q a w le = ⊎_elim (λ k. leb-true (p.at + p.width) q.at k) (λ k. let t = leb-true (q.at + q.width) p.at k in absurd (omega arith)) (or_cases _ _ a)

same_tests : (a b : Bool) → (a ≡ true → b ≡ true) → (b ≡ true → a ≡ true) → a ≡ b
same_tests true true f g = refl
same_tests true false f g = sym (f refl)
same_tests false true f g = g refl
same_tests false false f g = refl

pub neighbours_suffice : (parts ordered : List StackPart) → All Wide parts → IsPermutation parts ordered → Sorted ordered → rises 0 ordered ≡ are_apart parts
neighbours_suffice parts ordered wide p up =
    same_tests (rises 0 ordered) (are_apart parts)
    (λ h. moved ordered parts (IsPermutation-sym parts ordered p) (apart_from_rising 0 ordered h))
    (λ h. rising 0 ordered (All-permutation Wide parts ordered p wide) up (λ d k. omega arith) (moved parts ordered p h))
