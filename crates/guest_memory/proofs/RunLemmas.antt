-- Runs of pages.
use Rattle.std.proofs.Common.{◌≡◌, ℕ, ◌+◌, ◌*◌, ◌-◌, ◌/◌, ◌<◌, ◌≤◌, Bool, true, false, List, length, get_or, refl, sym, ◌∙◌, ap, arith, cond, replicate, [], ◌∷◌, ◌++◌, take, drop, zero, suc, length-append, length-drop}
use Rattle.std.specs.Prelude.{◌&&◌, nat_le, nat_lt, slice_index, slice_get, if◌then◌else◌, Some, None, Result, Ok, Err}
use Rattle.std.proofs.lemmas.Bool.Decides.{nat_tests}
use Rattle.std.proofs.lemmas.List.{length-replicate, length-take, take_at, take-append-drop, places}
use Rattle.std.proofs.lemmas.Option.{slice_get-get_or}
use Rattle.std.proofs.Math.Path.{fun_ext}
use Rattle.uh_base.specs.Limits.{frame_limit}
use Rattle.guest_memory.specs.declared.rights.Rights.{Rights}
use borrow.Rule.Slice.PartMut.{put_mid}
use Rattle.guest_memory.specs.Lists.{count_true, filled}
use Rattle.guest_memory.specs.Pages.{Pages, Whole, all_rights, holds, page_of, bytes_of, rights_at}
use Rattle.guest_memory.specs.Changes.{ReserveGives, reserved, has_pages, cleared, with_rights, in_run, in_range, zeroed}
use Rattle.guest_memory.specs.declared.rights.PutEnd.{PutEnd}
use Rattle.guest_memory.specs.declared.rights.PutEnd.TheVariants.{Outside, Frames, Memory}

-- what a vector holds after a part of its slice was written
pub spliced : {X : Type 0} (items slice part : List X) (i last n len : ℕ) → slice ≡ items → len ≡ length items → length part ≡ n → last ≡ i + n → i + n ≤ length items
    → take len (put_mid i (last - i) slice part ++ drop (length (put_mid i (last - i) slice part)) items) ≡ take i items ++ (part ++ drop n (drop i items))
spliced items slice part i last n len s l p e h =
    let k : last - i ≡ n = omega arith in
    let whole : put_mid i (last - i) slice part ≡ take i items ++ (part ++ drop n (drop i items)) = rw (k, s) refl in
    let long : length (take i items ++ (part ++ drop n (drop i items))) ≡ len = simp (length-append, length-take, length-drop) (omega arith) in
    rw whole (take_at (take i items ++ (part ++ drop n (drop i items))) _ len long)

-- a reserve changes no byte and no right
pub same_bytes : (old new : Pages) → new ≡ record old { touched = new.touched } → bytes_of new ≡ bytes_of old
unfolding bytes_of
same_bytes old new e = rw e refl

pub same_rights : (old new : Pages) → new ≡ record old { touched = new.touched } → rights_at new ≡ rights_at old
unfolding rights_at
same_rights old new e = rw e refl

only_marks : {X : Type 0} (r : Result X PutEnd) (old new : Pages) (page count : ℕ) → ReserveGives r old new page count → new ≡ record old { touched = new.touched }
only_marks (Ok x) old new page count gives = gives.2 ∙ ap (λ m. record old { touched = m.touched }) (sym gives.2)
only_marks (Err Outside) old new page count gives = gives.1 ∙ ap (λ m. record old { touched = m.touched }) (sym gives.1)
only_marks (Err Frames) old new page count gives = gives.2 ∙ ap (λ m. record old { touched = m.touched }) (sym gives.2)
only_marks (Err Memory) old new page count gives = gives.3.rest

pub bytes_reserved : {X : Type 0} (r : Result X PutEnd) (old new : Pages) (page count : ℕ) → ReserveGives r old new page count → bytes_of new ≡ bytes_of old
bytes_reserved r old new page count gives = same_bytes old new (only_marks r old new page count gives)

pub rights_reserved : {X : Type 0} (r : Result X PutEnd) (old new : Pages) (page count : ℕ) → ReserveGives r old new page count → rights_at new ≡ rights_at old
rights_reserved r old new page count gives = same_rights old new (only_marks r old new page count gives)

count_append : (xs ys : List Bool) → count_true (xs ++ ys) ≡ count_true xs + count_true ys
unfolding count_true
count_append [] ys = omega arith
count_append (true ∷ xs) ys = let h = count_append xs ys in omega arith
count_append (false ∷ xs) ys = count_append xs ys

count_all : (n : ℕ) → count_true (replicate n true) ≡ n
unfolding count_true
count_all zero = refl
count_all (suc n) = let h = count_all n in omega arith

count_no : (n : ℕ) → count_true (replicate n false) ≡ 0
unfolding count_true
count_no zero = refl
count_no (suc n) = count_no n

-- the marks before a part, in it and behind it
count_parts : (marks : List Bool) (i n : ℕ) → count_true marks ≡ count_true (take i marks) + (count_true (take n (drop i marks)) + count_true (drop n (drop i marks)))
count_parts marks i n =
    ap count_true (sym (take-append-drop i marks)) ∙ count_append (take i marks) (drop i marks)
    ∙ ap (λ k. count_true (take i marks) + k) (ap count_true (sym (take-append-drop n (drop i marks))) ∙ count_append (take n (drop i marks)) (drop n (drop i marks)))

count_over : (marks part : List Bool) (i n : ℕ) → count_true (take i marks ++ (part ++ drop n (drop i marks))) ≡ count_true (take i marks) + (count_true part + count_true (drop n (drop i marks)))
count_over marks part i n = count_append (take i marks) (part ++ drop n (drop i marks)) ∙ ap (λ k. count_true (take i marks) + k) (count_append part (drop n (drop i marks)))

pub count_filled : (marks : List Bool) (i n : ℕ) → count_true (filled marks i n true) + count_true (take n (drop i marks)) ≡ count_true marks + n
count_filled marks i n = let a = count_parts marks i n in let b = count_over marks (replicate n true) i n in let c = count_all n in omega arith

pub count_emptied : (marks : List Bool) (i n : ℕ) → count_true (filled marks i n false) + count_true (take n (drop i marks)) ≡ count_true marks
count_emptied marks i n = let a = count_parts marks i n in let b = count_over marks (replicate n false) i n in let c = count_no n in omega arith

pub length_filled : {X : Type 0} (xs : List X) (i n : ℕ) (x : X) → i + n ≤ length xs → length (filled xs i n x) ≡ length xs
length_filled xs i n x h = simp (length-append, length-take, length-drop, length-replicate) (omega arith)

-- an element of a list with one value at some places
pub at_filled : {X : Type 0} (xs : List X) (i n k : ℕ) (x d : X) → i + n ≤ length xs → get_or (filled xs i n x) k d ≡ cond (nat_le i k && nat_lt k (i + n)) x (get_or xs k d)
at_filled xs i n k x d h = grind (arith, places, nat_tests)

-- at an address of memory the test by places is that by addresses
same_test : (base pages page count a : ℕ) → page + count ≤ pages → (nat_le base a && nat_lt a (base + 4096 * pages)) ≡ true
    → (nat_le (4096 * page) (a - base) && nat_lt (a - base) (4096 * page + 4096 * count)) ≡ (nat_le (base + 4096 * page) a && nat_lt a (base + 4096 * (page + count)))
same_test base pages page count a inside h = grind (arith, nat_tests)

cleared_by : (h t u : Bool) (x : ℕ) → (h ≡ true → t ≡ u) → cond h (cond t 0 x) 0 ≡ cond u 0 (cond h x 0)
cleared_by true t u x same = rw (same refl) refl
cleared_by false t true x same = refl
cleared_by false t false x same = refl

pub bytes_cleared : (old new : Pages) (page count : ℕ) → Whole old → page + count ≤ old.pages → new ≡ cleared old page count
    → bytes_of new ≡ (λ at. if in_run old page count at then 0 else bytes_of old at)
unfolding bytes_of
bytes_cleared old new page count whole inside e =
    let long = whole.bytes_long in
    let room : 4096 * page + 4096 * count ≤ length old.bytes = omega arith in
    rw e (fun_ext (λ a.
    ap (λ x. cond (holds old a) x 0) (at_filled old.bytes (4096 * page) (4096 * count) (a - old.base) 0 0 room)
    ∙ cleared_by (holds old a) (nat_le (4096 * page) (a - old.base) && nat_lt (a - old.base) (4096 * page + 4096 * count)) (in_run old page count a)
    (slice_index old.bytes (a - old.base)) (same_test old.base old.pages page count a inside)))

pub same_page_test : (base pages page count a : ℕ) → page + count ≤ pages → (nat_le base a && nat_lt a (base + 4096 * pages)) ≡ true
    → (nat_le page ((a - base) / 4096) && nat_lt ((a - base) / 4096) (page + count)) ≡ (nat_le (base + 4096 * page) a && nat_lt a (base + 4096 * (page + count)))
same_page_test base pages page count a inside h = grind (arith, nat_tests)

pub outside_run : (base pages page count a : ℕ) → page + count ≤ pages → (nat_le base a && nat_lt a (base + 4096 * pages)) ≡ false
    → (nat_le (base + 4096 * page) a && nat_lt a (base + 4096 * (page + count))) ≡ false
outside_run base pages page count a inside h = grind (arith, nat_tests)

some_cond : (t : Bool) (r s : Rights) → Some (cond t r s) ≡ cond t (Some r) (Some s)
some_cond true r s = refl
some_cond false r s = refl

pub page_held : (m : Pages) (a : ℕ) → holds m a ≡ true → page_of m a < m.pages
page_held m a h = grind (arith, nat_tests)

filled_at : (m : Pages) (page count a : ℕ) (r : Rights) → Whole m → page + count ≤ m.pages → (h : Bool) → holds m a ≡ h
    → cond h (slice_get (filled m.rights page count r) (page_of m a)) None ≡ cond (in_run m page count a) (Some r) (cond h (slice_get m.rights (page_of m a)) None)
filled_at m page count a r whole inside true h =
    let long = whole.rights_long in
    let low : page_of m a < m.pages = page_held m a h in
    let room : page + count ≤ length m.rights = omega arith in
    slice_get-get_or (filled m.rights page count r) (page_of m a) r (omega (arith, length_filled m.rights page count r room))
    ∙ ap Some (at_filled m.rights page count (page_of m a) r r room)
    ∙ some_cond (nat_le page (page_of m a) && nat_lt (page_of m a) (page + count)) r (get_or m.rights (page_of m a) r)
    ∙ ap (λ t. cond t (Some r) (Some (get_or m.rights (page_of m a) r))) (same_page_test m.base m.pages page count a inside h)
    ∙ ap (λ o. cond (in_run m page count a) (Some r) o) (sym (slice_get-get_or m.rights (page_of m a) r (omega arith)))
filled_at m page count a r whole inside false h = rw (outside_run m.base m.pages page count a inside h) refl

pub rights_filled : (old new : Pages) (page count : ℕ) (r : Rights) → Whole old → page + count ≤ old.pages → new.base ≡ old.base → new.pages ≡ old.pages → new.rights ≡ filled old.rights page count r
    → rights_at new ≡ (λ at. if in_run old page count at then Some r else rights_at old at)
unfolding rights_at
rights_filled old new page count r whole inside b p e =
    rw (b, p, e) (fun_ext (λ a. filled_at old page count a r whole inside (holds old a) refl))

pub rights_cleared : (old new : Pages) (page count : ℕ) → Whole old → page + count ≤ old.pages → new ≡ cleared old page count
    → rights_at new ≡ (λ at. if in_run old page count at then Some all_rights else rights_at old at)
rights_cleared old new page count whole inside e = rights_filled old new page count all_rights whole inside (ap (λ m. m.base) e) (ap (λ m. m.pages) e) (ap (λ m. m.rights) e)

pub rights_right : (old new : Pages) (page count : ℕ) (r : Rights) → Whole old → page + count ≤ old.pages → new ≡ with_rights old page count r
    → rights_at new ≡ (λ at. if in_run old page count at then Some r else rights_at old at)
rights_right old new page count r whole inside e = rights_filled old new page count r whole inside (ap (λ m. m.base) e) (ap (λ m. m.pages) e) (ap (λ m. m.rights) e)

pub bytes_right : (old new : Pages) (page count : ℕ) (r : Rights) → new ≡ with_rights old page count r → bytes_of new ≡ bytes_of old
unfolding bytes_of
bytes_right old new page count r e = rw e refl

-- the touched pages of a part are some of all
pub count_in : (marks : List Bool) (i n : ℕ) → count_true (take n (drop i marks)) ≤ count_true marks
count_in marks i n = let a = count_parts marks i n in omega arith

pub are_there : (m : Pages) (page count : ℕ) → page + count ≤ m.pages → has_pages m page count ≡ true
are_there m page count h = grind (arith, nat_tests)

-- new lists as long as the old ones
pub whole_parts : (m : Pages) (bytes : List ℕ) (rights : List Rights) (marks : List Bool) → Whole m → length bytes ≡ length m.bytes → length rights ≡ length m.rights → length marks ≡ length m.touched
    → count_true marks ≤ frame_limit → Whole (record m { bytes = bytes; rights = rights; touched = marks })
whole_parts m bytes rights marks whole b r t few =
    record {
      base_low = whole.base_low;
      base_even = whole.base_even;
      pages_low = whole.pages_low;
      pages_high = whole.pages_high;
      end = whole.end;
      bytes_long = b ∙ whole.bytes_long;
      rights_long = r ∙ whole.rights_long;
      touched_long = t ∙ whole.touched_long;
      touched_few = few;
    }

pub reserved_is : (m now : Pages) (marks : List Bool) (page count : ℕ) → m ≡ now → marks ≡ filled m.touched page count true → record m { touched = marks } ≡ reserved now page count
reserved_is m now marks page count same e = ap (λ ms. record m { touched = ms }) e ∙ ap (λ k. reserved k page count) same

pub base_reserved : {X : Type 0} (r : Result X PutEnd) (old new : Pages) (page count : ℕ) → ReserveGives r old new page count → new.base ≡ old.base
base_reserved r old new page count gives = ap (λ (m : Pages). m.base) (only_marks r old new page count gives)

pub pages_reserved : {X : Type 0} (r : Result X PutEnd) (old new : Pages) (page count : ℕ) → ReserveGives r old new page count → new.pages ≡ old.pages
pages_reserved r old new page count gives = ap (λ (m : Pages). m.pages) (only_marks r old new page count gives)

-- zeros at a part
zero_test : (base at len a : ℕ) → base ≤ at → base ≤ a → (nat_le (at - base) (a - base) && nat_lt (a - base) (at - base + len)) ≡ (nat_le at a && nat_lt a (at + len))
zero_test base at len a low here = grind (arith, nat_tests)

outside_zeros : (m : Pages) (at len a : ℕ) → m.base ≤ at → at + len ≤ m.base + 4096 * m.pages → holds m a ≡ false → in_range at len a ≡ false
outside_zeros m at len a low high h = grind (arith, nat_tests)

zero_by : (m : Pages) (at len a : ℕ) → Whole m → m.base ≤ at → at + len ≤ m.base + 4096 * m.pages → (h : Bool) → holds m a ≡ h
    → cond h (slice_index (filled m.bytes (at - m.base) len 0) (a - m.base)) 0 ≡ cond (in_range at len a) 0 (cond h (slice_index m.bytes (a - m.base)) 0)
zero_by m at len a whole low high true h =
    let long = whole.bytes_long in
    let here : m.base ≤ a = grind (arith, nat_tests) in
    at_filled m.bytes (at - m.base) len (a - m.base) 0 0 (omega arith)
    ∙ ap (λ t. cond t 0 (slice_index m.bytes (a - m.base))) (zero_test m.base at len a low here)
zero_by m at len a whole low high false h = rw (outside_zeros m at len a low high h) refl

pub bytes_zeroed : (old new : Pages) (at len : ℕ) → Whole old → old.base ≤ at → at + len ≤ old.base + 4096 * old.pages → new ≡ zeroed old at len
    → bytes_of new ≡ (λ here. if in_range at len here then 0 else bytes_of old here)
unfolding bytes_of
bytes_zeroed old new at len whole low high e = rw e (fun_ext (λ a. zero_by old at len a whole low high (holds old a) refl))

pub rights_zeroed : (old new : Pages) (at len : ℕ) → new ≡ zeroed old at len → rights_at new ≡ rights_at old
unfolding rights_at
rights_zeroed old new at len e = rw e refl
