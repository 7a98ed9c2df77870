-- Marks of pages.
use Rattle.std.proofs.Common.{◌≡◌, ℕ, zero, suc, ◌+◌, ◌-◌, ◌<◌, ◌≤◌, Bool, true, false, cond, List, [], ◌∷◌, ◌++◌, length, get_or, take, drop, replicate, refl, sym, ap, ◌∙◌, arith, length-append, length-drop}
use Rattle.std.specs.Prelude.{◌&&◌, nat_le, nat_lt, slice_get, slice_set}
use Rattle.std.proofs.lemmas.Bool.Decides.{nat_tests}
use Rattle.std.proofs.lemmas.List.{length-replicate, length-take, take-append-drop, places}
use borrow.Rule.Slice.PartMut.{put_mid}
use Rattle.guest_memory.specs.Lists.{count_true, filled}
use Rattle.guest_memory.specs.Pages.{Pages, Whole, is_touched, or_false}
use Rattle.guest_memory.specs.Changes.{TouchedBesides, reserved}
use Rattle.image_services.specs.Loads.{also_marked}

pub part_filled : (xs part : List Bool) (i last n k : ℕ) → last ≡ i + n → k ≡ n → part ≡ replicate k true → put_mid i (last - i) xs part ≡ filled xs i n true
part_filled xs part i last n k l m e = let d : last - i ≡ n = omega arith in rw (d, e, m) refl

-- ---- counts

count_append : (xs ys : List Bool) → count_true (xs ++ ys) ≡ count_true xs + count_true ys
unfolding count_true
count_append [] ys = omega arith
count_append (true ∷ xs) ys = let h = count_append xs ys in omega arith
count_append (false ∷ xs) ys = count_append xs ys

count_all : (n : ℕ) → count_true (replicate n true) ≡ n
unfolding count_true
count_all zero = refl
count_all (suc n) = let h = count_all n in omega arith

count_few : (n : ℕ) (xs : List Bool) → count_true (take n xs) ≤ n
unfolding count_true
count_few zero xs = omega arith
count_few (suc n) [] = omega arith
count_few (suc n) (true ∷ xs) = let h = count_few n xs in omega arith
count_few (suc n) (false ∷ xs) = let h = count_few n xs in omega arith

count_parts : (marks : List Bool) (i n : ℕ) → count_true marks ≡ count_true (take i marks) + (count_true (take n (drop i marks)) + count_true (drop n (drop i marks)))
count_parts marks i n =
    ap count_true (sym (take-append-drop i marks)) ∙ count_append (take i marks) (drop i marks)
    ∙ ap (λ k. count_true (take i marks) + k) (ap count_true (sym (take-append-drop n (drop i marks))) ∙ count_append (take n (drop i marks)) (drop n (drop i marks)))

count_over : (marks part : List Bool) (i n : ℕ) → count_true (take i marks ++ (part ++ drop n (drop i marks))) ≡ count_true (take i marks) + (count_true part + count_true (drop n (drop i marks)))
count_over marks part i n = count_append (take i marks) (part ++ drop n (drop i marks)) ∙ ap (λ k. count_true (take i marks) + k) (count_append part (drop n (drop i marks)))

-- no fewer are true once some are set
pub count_more : (marks : List Bool) (i n : ℕ) → count_true marks ≤ count_true (filled marks i n true)
count_more marks i n = let a = count_parts marks i n in let b = count_over marks (replicate n true) i n in let c = count_all n in let d = count_few n (drop i marks) in omega arith

-- ---- one mark

at_filled : (xs : List Bool) (i n k : ℕ) → i + n ≤ length xs → get_or (filled xs i n true) k false ≡ cond (nat_le i k && nat_lt k (i + n)) true (get_or xs k false)
at_filled xs i n k h = grind (arith, places, nat_tests)

read : (xs : List Bool) (k : ℕ) → or_false (slice_get xs k) ≡ get_or xs k false
read [] k = refl
read (x ∷ xs) zero = refl
read (x ∷ xs) (suc k) = read xs k

stays_true : (t b : Bool) → b ≡ true → cond t true b ≡ true
stays_true true b h = refl
stays_true false b h = h

kept_filled : (xs : List Bool) (i n k : ℕ) → i + n ≤ length xs → or_false (slice_get xs k) ≡ true → or_false (slice_get (filled xs i n true) k) ≡ true
kept_filled xs i n k h e = read (filled xs i n true) k ∙ at_filled xs i n k h ∙ stays_true (nat_le i k && nat_lt k (i + n)) (get_or xs k false) (sym (read xs k) ∙ e)

in_filled : (xs : List Bool) (i n k : ℕ) → i + n ≤ length xs → i ≤ k → k < i + n → or_false (slice_get (filled xs i n true) k) ≡ true
in_filled xs i n k h low high =
    let t : (nat_le i k && nat_lt k (i + n)) ≡ true = grind (arith, nat_tests) in
    read (filled xs i n true) k ∙ at_filled xs i n k h ∙ ap (λ t. cond t true (get_or xs k false)) t

pub length_filled : (xs : List Bool) (i n : ℕ) → i + n ≤ length xs → length (filled xs i n true) ≡ length xs
length_filled xs i n h = simp (length-append, length-take, length-drop, length-replicate) (omega arith)

-- ---- marks that are set already

behind_all : (n : ℕ) (xs : List Bool) → drop n (replicate n true ++ xs) ≡ xs
behind_all zero xs = refl
behind_all (suc n) xs = behind_all n xs

pub filled_twice : (xs : List Bool) (i n : ℕ) → i + n ≤ length xs → filled (filled xs i n true) i n true ≡ filled xs i n true
filled_twice xs zero n h = ap (λ ys. replicate n true ++ ys) (behind_all n (drop n xs))
filled_twice [] (suc i) n h = absurd (omega arith)
filled_twice (x ∷ xs) (suc i) n h = ap (λ ys. x ∷ ys) (filled_twice xs i n (omega arith))

-- ---- memory

-- what touched pages besides, behind a reserve, touched pages besides
pub besides : (old mid new : Pages) (page count : ℕ) → Whole old → page + count ≤ old.pages → mid ≡ reserved old page count → TouchedBesides mid new → TouchedBesides old new
besides old mid new page count whole inside e h =
    let long = whole.touched_long in record {
      rest = h.rest ∙ ap (λ (m : Pages). record m { touched = new.touched }) e;
      kept = λ k t. h.kept k (ap (λ (m : Pages). is_touched m k) e ∙ kept_filled old.touched page count k (omega arith) t);
    }

-- and so did a reserve alone
pub reserved_besides : (old new : Pages) (page count : ℕ) → Whole old → page + count ≤ old.pages → new ≡ reserved old page count → TouchedBesides old new
reserved_besides old new page count whole inside e = besides old new new page count whole inside e (record { rest = refl; kept = λ k t. t })

-- ---- the marks of a block's page and of an image's pages

-- once they are set, an image's marks are set already
pub all_marked : (old marks : List Bool) (block first count n : ℕ) → marks ≡ filled (filled old block 1 true) first count true → n ≡ count → block + 1 ≤ length old → first + count ≤ length old
    → filled marks first n true ≡ marks
all_marked old marks block first count n e same b f =
    let one = length_filled old block 1 b in
    rw (e, same) (filled_twice (filled old block 1 true) first count (omega arith))

-- and so is that of the block's page, also behind a write of the image's pages
pub block_marked : (old touched written marks : List Bool) (block first count n page : ℕ) → touched ≡ filled (filled old block 1 true) first count true → written ≡ filled touched first n true → marks ≡ written → n ≡ count → page ≡ block
    → block + 1 ≤ length old → first + count ≤ length old → or_false (slice_get marks page) ≡ true
block_marked old touched written marks block first count n page e w m same at b f =
    let one = length_filled old block 1 b in
    let set : or_false (slice_get (filled (filled old block 1 true) first count true) block) ≡ true =
    kept_filled (filled old block 1 true) first count block (omega arith) (in_filled old block 1 block b (omega arith) (omega arith)) in
    let all : marks ≡ filled (filled old block 1 true) first count true = m ∙ w ∙ all_marked old touched block first count n e same b f ∙ e in
    rw (all, at) set

-- ---- marks of some pages besides

pub set_more : (marks : List Bool) (i : ℕ) → count_true marks ≤ count_true (slice_set marks i true)
unfolding count_true
set_more [] i = omega arith
set_more (true ∷ marks) zero = omega arith
set_more (false ∷ marks) zero = omega arith
set_more (true ∷ marks) (suc i) = let h = set_more marks i in omega arith
set_more (false ∷ marks) (suc i) = set_more marks i

pub also_more : (marks : List Bool) (also : List ℕ) → count_true marks ≤ count_true (also_marked marks also)
unfolding also_marked
also_more marks [] = omega arith
also_more marks (page ∷ pages) = let a = set_more marks page in let b = also_more (slice_set marks page true) pages in omega arith

-- a mark that is set again
pub set_again : (marks : List Bool) (i : ℕ) → or_false (slice_get marks i) ≡ true → slice_set marks i true ≡ marks
set_again [] i h = refl
set_again (mark ∷ marks) zero h = ap (λ m. m ∷ marks) (sym h)
set_again (mark ∷ marks) (suc i) h = ap (λ ms. mark ∷ ms) (set_again marks i h)
