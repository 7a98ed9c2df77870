-- Moving a word twice, and by nothing.
use Rattle.std.proofs.Common.{◌≡◌, ℕ, suc, ◌+◌, ◌-◌, ◌*◌, ◌/◌, ◌%◌, ◌^◌, ◌<◌, ◌≤◌, ◌⊎◌, List, [], length, Bool, true, false, cond, leb, ltb, Option, Some, None, refl, ap, ◌∙◌, arith, inl, inr}
use Rattle.std.specs.Int.{cast_signed, cast_unsigned, w32, w64}
use Rattle.std.proofs.lemmas.Bool.{cases_lt, cases_Bool}
use borrow.Author.Tests.{leb-true, leb-false, lt-ltb, le-ltb, le-leb}
use Rattle.base_reloc.proofs.ListLemmas.{both_true}
use Rattle.base_reloc.specs.declared.site.SiteKind.{SiteKind}
use Rattle.base_reloc.specs.declared.site.SiteKind.TheVariants.{Dir64, Highlow, High20}
use Rattle.base_reloc.specs.Sites.{width_of}
use Rattle.base_reloc.specs.Blocks.{parts_from, with_block}
use Rattle.base_reloc.specs.Moved.{sum, upper_of, fits_upper, with_upper, moved_word}
use Rattle.base_reloc.proofs.BlockLemmas.{parts_next, parts_end}

pub blocks_follow : (table : List ℕ) (at block : ℕ) → parts_from table at block ≡ cond (leb (length table) at) [] (with_block table at block (parts_from table))
blocks_follow table at block =
    elim (cases_Bool (leb (length table) at)) [
      | inl over ↦ rw over (parts_end table at block (leb-true (length table) at over))
      | inr under ↦ rw under (parts_next table at block (leb-false (length table) at under))
    ]

some_if : {X : Type 0} (b : Bool) (x y : X) → cond b (Some x) None ≡ Some y → (b ≡ true) × (x ≡ y)
some_if true x y h = (refl, cc)
some_if {X} false x y h = absurd (let e : ◌≡◌ {A = Option X} None (Some y) = h in cc)

sums_add : (a b c : ℕ) → sum (sum a b) c ≡ sum a (sum b c)
sums_add a b c = omega arith

-- ---- bits 31 to 12

-- 32 bits, sign-extended to 64
abbrev extended : ℕ → ℕ
extended n = cast_unsigned w64 (cast_signed w32 n)

low_extended : (n : ℕ) → n < 2 ^ 31 → extended n ≡ n
low_extended n low = let test : ltb n (2 ^ 31) ≡ true = lt-ltb n (2 ^ 31) low in rw test refl

high_extended : (n : ℕ) → 2 ^ 31 ≤ n → n < 2 ^ 32 → extended n ≡ n + (2 ^ 64 - 2 ^ 32)
high_extended n low high = let test : ltb n (2 ^ 31) ≡ false = le-ltb n (2 ^ 31) low in rw test (omega arith)

fits_cases : (n : ℕ) → n < 2 ^ 64 → fits_upper (cast_signed w64 n) ≡ true → (n ≤ 2 ^ 31 - 4096) ⊎ (2 ^ 64 - 2 ^ 31 ≤ n)
fits_cases n small h =
    elim (cases_lt n (2 ^ 63)) [
      | inl low ↦
          let test : ltb n (2 ^ 63) ≡ true = lt-ltb n (2 ^ 63) low in
          let fits = rw test at h in
          inl (leb-true n 2147479552 fits)
      | inr high ↦
          let test : ltb n (2 ^ 63) ≡ false = le-ltb n (2 ^ 63) high in
          let fits = rw test at h in
          inr (let end : 18446744073709551616 - suc n ≤ 2147483647 = leb-true (18446744073709551616 - suc n) 2147483647 (both_true (leb (18446744073709551616 - suc n) 2147483647) true fits).0 in omega arith)
    ]

low_fits : (n : ℕ) → n ≤ 2 ^ 31 - 4096 → fits_upper (cast_signed w64 n) ≡ true
low_fits n low = let test : ltb n (2 ^ 63) ≡ true = lt-ltb n (2 ^ 63) (omega arith) in rw test (le-leb n 2147479552 low)

high_fits : (n : ℕ) → 2 ^ 64 - 2 ^ 31 ≤ n → n < 2 ^ 64 → fits_upper (cast_signed w64 n) ≡ true
high_fits n low high = let test : ltb n (2 ^ 63) ≡ false = le-ltb n (2 ^ 63) (omega arith) in rw test (let end : leb (18446744073709551616 - suc n) 2147483647 ≡ true = le-leb (18446744073709551616 - suc n) 2147483647 (omega arith) in rw end refl)

-- bits 31 to 12 of a word, sign-extended
upper_cases : (word : ℕ) → word < 2 ^ 32 → ((word / 2 ^ 12 * 2 ^ 12 < 2 ^ 31) × (upper_of word ≡ word / 2 ^ 12 * 2 ^ 12)) ⊎ ((2 ^ 31 ≤ word / 2 ^ 12 * 2 ^ 12) × (upper_of word ≡ word / 2 ^ 12 * 2 ^ 12 + (2 ^ 64 - 2 ^ 32)))
upper_cases word small =
    elim (cases_lt (word / 2 ^ 12 * 2 ^ 12) (2 ^ 31)) [
      | inl low ↦ inl (low, low_extended (word / 2 ^ 12 * 2 ^ 12) low)
      | inr high ↦ inr (high, high_extended (word / 2 ^ 12 * 2 ^ 12) high (omega arith))
    ]

upper_page : (word displacement : ℕ) → word < 2 ^ 32 → displacement % 4096 ≡ 0 → sum (upper_of word) displacement % 4096 ≡ 0
upper_page word displacement small page =
    elim (upper_cases word small) [
      | inl low ↦ rw low.1 (omega arith)
      | inr high ↦ rw high.1 (omega arith)
    ]

-- what a moved address is read from again
upper_again : (word moved : ℕ) → moved < 2 ^ 64 → moved % 4096 ≡ 0 → fits_upper (cast_signed w64 moved) ≡ true → upper_of (with_upper word moved) ≡ moved
upper_again word moved small page fits =
    elim (fits_cases moved small fits) [
      | inl low ↦
          let field : with_upper word moved / 2 ^ 12 * 2 ^ 12 ≡ moved = omega arith in
          rw field (low_extended moved (omega arith))
      | inr high ↦
          let field : with_upper word moved / 2 ^ 12 * 2 ^ 12 ≡ moved - (2 ^ 64 - 2 ^ 32) = omega arith in
          rw field (high_extended (moved - (2 ^ 64 - 2 ^ 32)) (omega arith) (omega arith) ∙ omega arith)
    ]

-- ---- the laws

low_kept : (word n m : ℕ) → with_upper (with_upper word n) m ≡ with_upper word m
low_kept word n m = let low : with_upper word n % 2 ^ 12 ≡ word % 2 ^ 12 = omega arith in rw low refl

pub moved_twice : (kind : SiteKind) (word one other moved twice : ℕ) → word < 2 ^ (8 * width_of kind) → one % 4096 ≡ 0 → moved_word kind word one ≡ Some moved → moved_word kind moved other ≡ Some twice → moved_word kind word (sum one other) ≡ Some twice
unfolding moved_word
moved_twice Dir64 word one other moved twice small page first second =
    let is : sum word one ≡ moved = cc in
    rw (← sums_add word one other, is) second
moved_twice Highlow word one other moved twice small page first second =
    let is : sum word one ≡ moved = (some_if (ltb (sum word one) (2 ^ 32)) (sum word one) moved first).1 in
    rw (← sums_add word one other, is) second
moved_twice High20 word one other moved twice small page first second =
    let there : ℕ = sum (upper_of word) one in
    let parts = some_if (fits_upper (cast_signed w64 there)) (with_upper word there) moved first in
    let again : upper_of (with_upper word there) ≡ there = upper_again word there (omega arith) (upper_page word one small page) parts.0 in
    rw (← sums_add (upper_of word) one other) (rw (again, low_kept word there) at (rw (← parts.1) at second))

pub moved_by_none : (kind : SiteKind) (word : ℕ) → word < 2 ^ (8 * width_of kind) → moved_word kind word 0 ≡ Some word
unfolding moved_word
moved_by_none Dir64 word small = ap (λ (n : ℕ). Some n) (omega arith)
moved_by_none Highlow word small =
    let same : sum word 0 ≡ word = omega arith in
    let fits : ltb word (2 ^ 32) ≡ true = lt-ltb word (2 ^ 32) small in
    rw (same, fits) refl
moved_by_none High20 word small =
    elim (upper_cases word small) [
      | inl low ↦
          let same : sum (upper_of word) 0 ≡ upper_of word = omega (arith, low.1) in
          let fits : fits_upper (cast_signed w64 (upper_of word)) ≡ true = low_fits (upper_of word) (omega (arith, low.0, low.1)) in
          let whole : with_upper word (upper_of word) ≡ word = omega (arith, low.0, low.1) in
          rw (same, fits, whole) refl
      | inr high ↦
          let same : sum (upper_of word) 0 ≡ upper_of word = omega (arith, high.1) in
          let fits : fits_upper (cast_signed w64 (upper_of word)) ≡ true = high_fits (upper_of word) (omega (arith, high.0, high.1)) (omega (arith, high.1)) in
          let whole : with_upper word (upper_of word) ≡ word = omega (arith, high.0, high.1) in
          rw (same, fits, whole) refl
    ]
