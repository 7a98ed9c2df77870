-- The frames that stores into several ranges take together.
use Rattle.std.proofs.Common.{◌≡◌, ℕ, ◌+◌, ◌-◌, ◌<◌, ◌≤◌, Bool, true, false, List, [], ◌∷◌, ◌++◌, zero, suc, length, take, drop, replicate, get_or, refl, sym, ap, ◌∙◌, arith}
use borrow.Rule.Slice.PartMut.{put_mid}
use Rattle.std.specs.Prelude.{Option, nat_lt}
use Rattle.std.proofs.lemmas.Bool.Decides.{nat_tests}
use Rattle.std.proofs.lemmas.List.{drop_more}
use Rattle.uh_base.specs.Limits.{frame_limit}
use Rattle.guest_memory.specs.Lists.{count_true, filled}
use Rattle.guest_memory.specs.Changes.{cleared}
use Rattle.guest_memory.specs.Pages.{Pages}
use Rattle.address_view.specs.declared.frames.ByteRange.{ByteRange}
use Rattle.address_view.specs.Stored.{stored, marked, lacks_seen}
use Rattle.address_view.specs.Ranges.{marked_ranges, lacks_ranges, total_length}
use Rattle.address_view.specs.Laws.{RangesSuffice}
use Rattle.address_view.proofs.MarkedLemmas.{marked_less, marked_most}
use Rattle.address_view.proofs.TouchLaws.{marks_stored}
use Rattle.address_view.proofs.BaseLemmas.{base_stored}

ranges_less : (see : ℕ → Option ℕ) (base : ℕ) (marks : List Bool) (ranges : List ByteRange) → count_true marks ≤ count_true (marked_ranges see base marks ranges)
unfolding marked_ranges
ranges_less see base marks [] = omega arith
ranges_less see base marks (range ∷ ranges) =
    let a = marked_less see base marks range.at range.len in let b = ranges_less see base (marked see base marks range.at range.len) ranges in omega (arith, a, b)

ranges_most : (see : ℕ → Option ℕ) (base : ℕ) (marks : List Bool) (ranges : List ByteRange) → count_true (marked_ranges see base marks ranges) ≤ count_true marks + total_length ranges
unfolding marked_ranges total_length
ranges_most see base marks [] = omega arith
ranges_most see base marks (range ∷ ranges) =
    let a = marked_most see base marks range.at range.len in let b = ranges_most see base (marked see base marks range.at range.len) ranges in omega (arith, a, b)

-- so few bytes that their pages have frames
pub few_ranges : (see : ℕ → Option ℕ) (m : Pages) (ranges : List ByteRange) → count_true m.touched + total_length ranges ≤ frame_limit → lacks_ranges see m ranges ≡ false
few_ranges see m ranges h = let a = ranges_most see m.base m.touched ranges in grind (arith, nat_tests)

-- a range more is marked
pub ranges_next : (see : ℕ → Option ℕ) (base : ℕ) (marks marks2 : List Bool) (ranges : List ByteRange) (d : ByteRange) (i : ℕ) → i < length ranges
    → marks2 ≡ marked see base marks (get_or ranges i d).at (get_or ranges i d).len → marked_ranges see base marks2 (drop (i + 1) ranges) ≡ marked_ranges see base marks (drop i ranges)
unfolding marked_ranges
ranges_next see base marks marks2 ranges d i h e = rw (drop_more ranges i d h, e) refl

-- so many bytes are left
pub few_more : (ranges : List ByteRange) (d : ByteRange) (i left : ℕ) → i < length ranges → total_length (drop (i + 1) ranges) ≤ left - (get_or ranges i d).len → (get_or ranges i d).len ≤ left → total_length (drop i ranges) ≤ left
unfolding total_length
few_more ranges d i left h behind fits = rw (drop_more ranges i d h) (omega (arith, behind, fits))

marked_later : (see : ℕ → Option ℕ) (base : ℕ) (marks : List Bool) (range : ByteRange) (ranges : List ByteRange) → marked_ranges see base marks (range ∷ ranges) ≡ marked_ranges see base (marked see base marks range.at range.len) ranges
unfolding marked_ranges
marked_later see base marks range ranges = refl

pub ranges_suffice : RangesSuffice
ranges_suffice see m range ranges h =
    let later = marked_later see m.base m.touched range ranges in
    let rest : nat_lt frame_limit (count_true (marked_ranges see m.base (marked see m.base m.touched range.at range.len) ranges)) ≡ false = ap (λ marks. nat_lt frame_limit (count_true marks)) (sym later) ∙ h in
    let less = ranges_less see m.base (marked see m.base m.touched range.at range.len) ranges in
    record {
      first = grind (arith, nat_tests);
      touched = rest;
      stored = λ bytes n.
          ap (λ marks. nat_lt frame_limit (count_true (marked_ranges see (stored see m range.at bytes).base marks ranges))) (marks_stored see m range.at bytes ∙ ap (λ k. marked see m.base m.touched range.at k) n)
          ∙ ap (λ base. nat_lt frame_limit (count_true (marked_ranges see base (marked see m.base m.touched range.at range.len) ranges))) (base_stored see m range.at bytes)
          ∙ rest;
    }

-- ---- pages are cleared first

count_append : (xs ys : List Bool) → count_true (xs ++ ys) ≡ count_true xs + count_true ys
unfolding count_true
count_append [] ys = let z : count_true [] ≡ 0 = refl in omega (arith, z)
count_append (true ∷ xs) ys = let h = count_append xs ys in let a : count_true (true ∷ xs) ≡ suc (count_true xs) = refl in let b : count_true (true ∷ (xs ++ ys)) ≡ suc (count_true (xs ++ ys)) = refl in omega (arith, h, a, b)
count_append (false ∷ xs) ys = count_append xs ys

pub part_filled : (xs part : List Bool) (i last n k : ℕ) → last ≡ i + n → k ≡ n → part ≡ replicate k false → put_mid i (last - i) xs part ≡ filled xs i n false
part_filled xs part i last n k l m e = let d : last - i ≡ n = omega arith in rw (d, e, m) refl

count_no : (n : ℕ) → count_true (replicate n false) ≡ 0
unfolding count_true
count_no zero = refl
count_no (suc n) = count_no n

count_drop : (n : ℕ) (xs : List Bool) → count_true (drop n xs) ≤ count_true xs
unfolding count_true
count_drop zero xs = omega arith
count_drop (suc n) [] = omega arith
count_drop (suc n) (true ∷ xs) = let h = count_drop n xs in omega (arith, h)
count_drop (suc n) (false ∷ xs) = count_drop n xs

count_parts : (n : ℕ) (xs : List Bool) → count_true (take n xs) + count_true (drop n xs) ≡ count_true xs
unfolding count_true
count_parts zero xs = let z : count_true [] ≡ 0 = refl in omega (arith, z)
count_parts (suc n) [] = let z : count_true [] ≡ 0 = refl in omega (arith, z)
count_parts (suc n) (true ∷ xs) = let h = count_parts n xs in let a : count_true (true ∷ xs) ≡ suc (count_true xs) = refl in let b : count_true (true ∷ take n xs) ≡ suc (count_true (take n xs)) = refl in omega (arith, h, a, b)
count_parts (suc n) (false ∷ xs) = count_parts n xs

-- clearing touches nothing
fewer : (xs : List Bool) (p c : ℕ) → count_true (filled xs p c false) ≤ count_true xs
fewer xs p c =
    let a = count_append (take p xs) (replicate c false ++ drop c (drop p xs)) in
    let b = count_append (replicate c false) (drop c (drop p xs)) in
    let n = count_no c in
    let d = count_drop c (drop p xs) in
    let e = count_parts p xs in
    omega (arith, a, b, n, d, e)

pub room_cleared : (see : ℕ → Option ℕ) (m : Pages) (page count at len : ℕ) → count_true m.touched ≤ 65536 → len ≤ 65536 - count_true m.touched → lacks_seen see (cleared m page count) at len ≡ false
room_cleared see m page count at len few h =
    let a = marked_most see m.base (cleared m page count).touched at len in
    let b = fewer m.touched page count in
    grind (arith, nat_tests)
