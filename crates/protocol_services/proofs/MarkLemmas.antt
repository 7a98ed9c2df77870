-- Marks of touched pages.
use Rattle.std.proofs.Common.{◌≡◌, ℕ, ◌+◌, ◌-◌, ◌*◌, ◌/◌, ◌%◌, ◌^◌, ◌<◌, ◌≤◌, Bool, true, false, List, [], ◌∷◌, ◌++◌, zero, suc, length, take, drop, replicate, refl, sym, ap, ◌∙◌, arith}
use borrow.Rule.Slice.PartMut.{put_mid}
use Rattle.std.specs.Prelude.{Option, Some, None, is_none, slice_set, nat_lt, if◌then◌else◌}
use Rattle.std.proofs.lemmas.Bool.Decides.{nat_tests}
use Rattle.uh_base.specs.Bytes.{next, first_refused}
use Rattle.uh_base.specs.Limits.{frame_limit}
use Rattle.guest_memory.specs.Lists.{count_true, filled}
use Rattle.guest_memory.specs.Pages.{Pages}
use Rattle.guest_memory.specs.Changes.{cleared}
use Rattle.address_view.specs.Seen.{all_pass, is_seen}
use Rattle.address_view.specs.Stored.{put_seen, stored, mark_seen, marked, lacks_seen}

-- ---- marks that are taken off

pub part_filled : (xs part : List Bool) (i last n k : ℕ) → last ≡ i + n → k ≡ n → part ≡ replicate k false → put_mid i (last - i) xs part ≡ filled xs i n false
part_filled xs part i last n k l m e = let d : last - i ≡ n = omega arith in rw (d, e, m) refl

count_append : (xs ys : List Bool) → count_true (xs ++ ys) ≡ count_true xs + count_true ys
unfolding count_true
count_append [] ys = let z : count_true [] ≡ 0 = refl in omega (arith, z)
count_append (true ∷ xs) ys = let h = count_append xs ys in let a : count_true (true ∷ xs) ≡ suc (count_true xs) = refl in let b : count_true (true ∷ (xs ++ ys)) ≡ suc (count_true (xs ++ ys)) = refl in omega (arith, h, a, b)
count_append (false ∷ xs) ys = count_append xs ys

count_no : (n : ℕ) → count_true (replicate n false) ≡ 0
unfolding count_true
count_no zero = refl
count_no (suc n) = count_no n

count_drop : (n : ℕ) (xs : List Bool) → count_true (drop n xs) ≤ count_true xs
unfolding count_true
count_drop zero xs = omega arith
count_drop (suc n) [] = omega arith
count_drop (suc n) (true ∷ xs) = let h = count_drop n xs in omega (arith, h)
count_drop (suc n) (false ∷ xs) = count_drop n xs

count_parts : (n : ℕ) (xs : List Bool) → count_true (take n xs) + count_true (drop n xs) ≡ count_true xs
unfolding count_true
count_parts zero xs = let z : count_true [] ≡ 0 = refl in omega (arith, z)
count_parts (suc n) [] = let z : count_true [] ≡ 0 = refl in omega (arith, z)
count_parts (suc n) (true ∷ xs) = let h = count_parts n xs in let a : count_true (true ∷ xs) ≡ suc (count_true xs) = refl in let b : count_true (true ∷ take n xs) ≡ suc (count_true (take n xs)) = refl in omega (arith, h, a, b)
count_parts (suc n) (false ∷ xs) = count_parts n xs

-- clearing touches nothing
pub fewer : (xs : List Bool) (p c : ℕ) → count_true (filled xs p c false) ≤ count_true xs
fewer xs p c =
    let a = count_append (take p xs) (replicate c false ++ drop c (drop p xs)) in
    let b = count_append (replicate c false) (drop c (drop p xs)) in
    let n = count_no c in
    let d = count_drop c (drop p xs) in
    let e = count_parts p xs in
    omega (arith, a, b, n, d, e)

-- ---- marks that are set

count_less : (marks : List Bool) (i : ℕ) → count_true marks ≤ count_true (slice_set marks i true)
unfolding count_true
count_less [] i = omega arith
count_less (true ∷ marks) zero = omega arith
count_less (false ∷ marks) zero = omega arith
count_less (true ∷ marks) (suc i) = let h = count_less marks i in omega arith
count_less (false ∷ marks) (suc i) = count_less marks i

count_one : (marks : List Bool) (i : ℕ) → count_true (slice_set marks i true) ≤ count_true marks + 1
unfolding count_true
count_one [] i = omega arith
count_one (true ∷ marks) zero = omega arith
count_one (false ∷ marks) zero = omega arith
count_one (true ∷ marks) (suc i) = let h = count_one marks i in omega arith
count_one (false ∷ marks) (suc i) = count_one marks i

seen_less : (base : ℕ) (marks : List Bool) (o : Option ℕ) → count_true marks ≤ count_true (mark_seen base marks o)
seen_less base marks None = omega arith
seen_less base marks (Some place) = count_less marks ((place - base) / 4096)

seen_one : (base : ℕ) (marks : List Bool) (o : Option ℕ) → count_true (mark_seen base marks o) ≤ count_true marks + 1
seen_one base marks None = omega arith
seen_one base marks (Some place) = count_one marks ((place - base) / 4096)

pub marked_less : (see : ℕ → Option ℕ) (base : ℕ) (marks : List Bool) (at n : ℕ) → count_true marks ≤ count_true (marked see base marks at n)
unfolding marked
marked_less see base marks at zero = omega arith
marked_less see base marks at (suc n) =
    let a = seen_less base marks (see at) in let b = marked_less see base (mark_seen base marks (see at)) (next at) n in omega arith

pub marked_most : (see : ℕ → Option ℕ) (base : ℕ) (marks : List Bool) (at n : ℕ) → count_true (marked see base marks at n) ≤ count_true marks + n
unfolding marked
marked_most see base marks at zero = omega arith
marked_most see base marks at (suc n) =
    let a = seen_one base marks (see at) in let b = marked_most see base (mark_seen base marks (see at)) (next at) n in omega arith

-- ---- marks behind stores

base_put : (m : Pages) (byte : ℕ) (o : Option ℕ) → (put_seen m byte o).base ≡ m.base
base_put m byte None = refl
base_put m byte (Some place) = refl

touched_put : (m : Pages) (byte : ℕ) (o : Option ℕ) → (put_seen m byte o).touched ≡ mark_seen m.base m.touched o
touched_put m byte None = refl
touched_put m byte (Some place) = refl

pub base_stored : (see : ℕ → Option ℕ) (m : Pages) (at : ℕ) (bytes : List ℕ) → (stored see m at bytes).base ≡ m.base
unfolding stored
base_stored see m at [] = refl
base_stored see m at (byte ∷ bytes) = base_stored see (put_seen m byte (see at)) (next at) bytes ∙ base_put m byte (see at)

pub touched_stored : (see : ℕ → Option ℕ) (m : Pages) (at : ℕ) (bytes : List ℕ) → (stored see m at bytes).touched ≡ marked see m.base m.touched at (length bytes)
unfolding stored marked
touched_stored see m at [] = refl
touched_stored see m at (byte ∷ bytes) =
    touched_stored see (put_seen m byte (see at)) (next at) bytes
    ∙ ap (λ (k : ℕ). marked see k (put_seen m byte (see at)).touched (next at) (length bytes)) (base_put m byte (see at))
    ∙ ap (λ (k : List Bool). marked see m.base k (next at) (length bytes)) (touched_put m byte (see at))

-- ---- while pages are marked

unrefused : (b : Bool) (at : ℕ) (rest : Option ℕ) → is_none (if b then rest else Some at) ≡ true → (b ≡ true) × (is_none rest ≡ true)
unrefused true at rest e = (refl, e)
unrefused false at rest e = grind arith

-- marks are set so far; these addresses are left
pub record Marking (see : ℕ → Option ℕ) (m : Pages) (first : List Bool) (at len : ℕ) (marks : List Bool) (here left : ℕ) : Type 0 where
  pub rest : marked see m.base marks here left ≡ marked see m.base first at len
  pub seen : all_pass (is_seen see m) here left ≡ true
  pub long : length marks ≡ m.pages

pub marking_asks : (see : ℕ → Option ℕ) (m : Pages) (first : List Bool) (at len : ℕ) (marks : List Bool) (here left n : ℕ) → left ≡ suc n → Marking see m first at len marks here left → is_seen see m here ≡ true
unfolding first_refused
marking_asks see m first at len marks here left n e is =
    (unrefused (is_seen see m here) here (first_refused (is_seen see m) (next here) n) (ap (λ (k : ℕ). all_pass (is_seen see m) here k) (sym e) ∙ is.seen)).0

pub marking_next : (see : ℕ → Option ℕ) (m : Pages) (first : List Bool) (at len : ℕ) (marks more : List Bool) (here there left n : ℕ) → left ≡ suc n → there ≡ next here → Marking see m first at len marks here left
    → more ≡ mark_seen m.base marks (see here) → length more ≡ m.pages → Marking see m first at len more there n
unfolding first_refused marked
marking_next see m first at len marks more here there left n e t is made long = record {
  rest = ap (λ (k : List Bool). marked see m.base k there n) made ∙ ap (λ (k : ℕ). marked see m.base (mark_seen m.base marks (see here)) k n) t ∙ ap (λ (k : ℕ). marked see m.base marks here k) (sym e) ∙ is.rest;
  seen = ap (λ (k : ℕ). all_pass (is_seen see m) k n) t
      ∙ (unrefused (is_seen see m here) here (first_refused (is_seen see m) (next here) n) (ap (λ (k : ℕ). all_pass (is_seen see m) here k) (sym e) ∙ is.seen)).1;
  long = long;
}

pub marking_over : (see : ℕ → Option ℕ) (m : Pages) (first : List Bool) (at len : ℕ) (marks : List Bool) (here left : ℕ) → left ≡ zero → Marking see m first at len marks here left → marks ≡ marked see m.base first at len
unfolding marked
marking_over see m first at len marks here left e is = ap (λ (k : ℕ). marked see m.base marks here k) (sym e) ∙ is.rest
