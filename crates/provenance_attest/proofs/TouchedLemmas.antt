-- Which pages are touched with those of regions.
use Rattle.std.proofs.Common.{◌≡◌, ℕ, zero, suc, ◌≤◌, ◌<◌, ◌+◌, ◌-◌, ◌*◌, arith, Bool, true, false, refl, sym, ap, ◌∙◌, Some, List, [], ◌∷◌, ◌++◌, length, length-append, take, drop, replicate, get_or, inl, inr}
use Rattle.std.specs.Prelude.{◌⊎◌, ◌==◌, nat_le, nat_lt, slice_get}
use Rattle.std.proofs.lemmas.Bool.Decides.{nat_tests}
use Rattle.std.proofs.lemmas.List.{get_or-append_right, get_or-drop, get_or-replicate, get_or-take, get_or_append_left, length-drop, length-replicate, length-take-le}
use Rattle.std.proofs.lemmas.Option.{slice_get-get_or}
use Rattle.guest_memory.specs.Lists.{filled}
use Rattle.guest_memory.specs.Pages.{is_touched, or_false}
use Rattle.provenance_attest.specs.Frames.{AreInRam, IsInRam, page_at, pages_in, with_pages, with_regions}
use Rattle.provenance_attest.specs.Laws.{HasByte, TouchedHaveBytes}

module _ (xs : List Bool) (p c : ℕ) (inside : p + c ≤ length xs) where
  front_long : length (take p xs) ≡ p
  front_long = length-take-le p xs (omega (arith, inside))

  filled_in : (k : ℕ) → p ≤ k → k < p + c → get_or (filled xs p c true) k false ≡ true
  filled_in k l m =
      let long : length (replicate c true) ≡ c = length-replicate c true in
      get_or-append_right (take p xs) (replicate c true ++ drop c (drop p xs)) p k false front_long l
      ∙ get_or_append_left (replicate c true) (drop c (drop p xs)) false (k - p) (omega (arith, l, m, long))
      ∙ get_or-replicate c (k - p) true false (omega (arith, l, m))

  before_filled : (k : ℕ) → k < p → get_or (filled xs p c true) k false ≡ get_or xs k false
  before_filled k l = get_or_append_left (take p xs) (replicate c true ++ drop c (drop p xs)) false k (omega (arith, l, front_long)) ∙ get_or-take p xs k false l

  behind_filled : (k : ℕ) → p + c ≤ k → get_or (filled xs p c true) k false ≡ get_or xs k false
  behind_filled k l =
      let z : p + (c + (k - p - c)) ≡ k = omega (arith, l) in
      get_or-append_right (take p xs) (replicate c true ++ drop c (drop p xs)) p k false front_long (omega (arith, l))
      ∙ get_or-append_right (replicate c true) (drop c (drop p xs)) c (k - p) false (length-replicate c true) (omega (arith, l))
      ∙ get_or-drop c (drop p xs) (k - p - c) false ∙ get_or-drop p xs (c + (k - p - c)) false ∙ ap (λ j. get_or xs j false) z

  filled_long : length (filled xs p c true) ≡ length xs
  filled_long =
      let a : length (drop c (drop p xs)) ≡ length (drop p xs) - c = length-drop c (drop p xs) in
      let b : length (drop p xs) ≡ length xs - p = length-drop p xs in
      let d : length (replicate c true) ≡ c = length-replicate c true in
      let e : length (replicate c true ++ drop c (drop p xs)) ≡ length (replicate c true) + length (drop c (drop p xs)) = length-append (replicate c true) (drop c (drop p xs)) in
      let f : length (filled xs p c true) ≡ length (take p xs) + length (replicate c true ++ drop c (drop p xs)) = length-append (take p xs) (replicate c true ++ drop c (drop p xs)) in
      omega (arith, inside, front_long, a, b, d, e, f)

-- one of so many bytes lies in a page
record OneIn (base at len page : ℕ) : Type 0 where
  offset : ℕ
  inside : offset < len
  there : page_at base (at + offset) ≡ page

module _ (base pages at len : ℕ) (ram : IsInRam base pages at len) where
  count_zero : len ≡ 0 → pages_in base at len ≡ 0
  count_zero e = let z : (len == 0) ≡ true = grind (arith, nat_tests) in rw z refl

  count_some : 0 < len → pages_in base at len ≡ page_at base (at + len - 1) - page_at base at + 1
  count_some l = let z : (len == 0) ≡ false = grind (arith, nat_tests) in rw z refl

  pages_low : page_at base at + pages_in base at len ≤ pages
  pages_low = by len refl
    where
      by : (n : ℕ) → len ≡ n → page_at base at + pages_in base at len ≤ pages
      by zero e = let z = count_zero e in let l = ram.low in let h = ram.high in omega (arith, z, l, h)
      by (suc n) e = let z = count_some (omega (arith, e)) in let l = ram.low in let h = ram.high in omega (arith, z, l, h, e)

  one_in : (page : ℕ) → page_at base at ≤ page → page < page_at base at + pages_in base at len → OneIn base at len page
  one_in page l m = by len refl
    where
      first : (b : Bool) → nat_le (base + 4096 * page) at ≡ b → 0 < len → OneIn base at len page
      first true e s =
          let q : base + 4096 * page ≤ at = grind (arith, nat_tests) in
          let low = ram.low in
          record { offset = 0; inside = s; there = omega (arith, l, q, low) }
      first false e s =
          let q : at < base + 4096 * page = grind (arith, nat_tests) in
          let z = count_some s in
          let low = ram.low in
          record { offset = base + 4096 * page - at; inside = omega (arith, q, z, m, low, s); there = omega (arith, q, low) }

      by : (n : ℕ) → len ≡ n → OneIn base at len page
      by zero e = let z = count_zero e in absurd (omega (arith, z, l, m))
      by (suc n) e = first (nat_le (base + 4096 * page) at) refl (omega (arith, e))

  in_range : (page : ℕ) → OneIn base at len page → (page_at base at ≤ page) × (page < page_at base at + pages_in base at len)
  in_range page o =
      let i = o.inside in
      let t = o.there in
      let z = count_some (omega (arith, i)) in
      let low = ram.low in
      (omega (arith, i, t, low), omega (arith, i, t, low, z))

  -- a mark is set exactly where it was or one of the bytes lies in the page
  module _ (marks : List Bool) (long : length marks ≡ pages) (page : ℕ) where
    marks_inside : page_at base at + pages_in base at len ≤ length marks
    marks_inside = omega (arith, long, pages_low)

    set_then : get_or (with_pages base marks at len) page false ≡ true → (get_or marks page false ≡ true) ⊎ OneIn base at len page
    set_then h = by (nat_lt page (page_at base at)) (nat_lt page (page_at base at + pages_in base at len)) refl refl
      where
        by : (a b : Bool) → nat_lt page (page_at base at) ≡ a → nat_lt page (page_at base at + pages_in base at len) ≡ b → (get_or marks page false ≡ true) ⊎ OneIn base at len page
        by true b e f = inl (sym (before_filled marks (page_at base at) (pages_in base at len) marks_inside page (grind (arith, nat_tests))) ∙ h)
        by false true e f = inr (one_in page (grind (arith, nat_tests)) (grind (arith, nat_tests)))
        by false false e f = inl (sym (behind_filled marks (page_at base at) (pages_in base at len) marks_inside page (grind (arith, nat_tests))) ∙ h)

    stays_set : get_or marks page false ≡ true → get_or (with_pages base marks at len) page false ≡ true
    stays_set h = by (nat_lt page (page_at base at)) (nat_lt page (page_at base at + pages_in base at len)) refl refl
      where
        by : (a b : Bool) → nat_lt page (page_at base at) ≡ a → nat_lt page (page_at base at + pages_in base at len) ≡ b → get_or (with_pages base marks at len) page false ≡ true
        by true b e f = before_filled marks (page_at base at) (pages_in base at len) marks_inside page (grind (arith, nat_tests)) ∙ h
        by false true e f = filled_in marks (page_at base at) (pages_in base at len) marks_inside page (grind (arith, nat_tests)) (grind (arith, nat_tests))
        by false false e f = behind_filled marks (page_at base at) (pages_in base at len) marks_inside page (grind (arith, nat_tests)) ∙ h

    set_by : OneIn base at len page → get_or (with_pages base marks at len) page false ≡ true
    set_by o = let r = in_range page o in filled_in marks (page_at base at) (pages_in base at len) marks_inside page r.0 r.1

    still_long : length (with_pages base marks at len) ≡ pages
    still_long = filled_long marks (page_at base at) (pages_in base at len) marks_inside ∙ long

-- ---- regions

no_region : (base : ℕ) (lens : List ℕ) (page : ℕ) → HasByte base [] lens page → ⊥
no_region base lens page h = let e = h.begins in cc

no_length : (base : ℕ) (starts : List ℕ) (page : ℕ) → HasByte base starts [] page → ⊥
no_length base starts page h = let e = h.long in cc

later : (base start len : ℕ) (starts lens : List ℕ) (page : ℕ) → HasByte base starts lens page → HasByte base (start ∷ starts) (len ∷ lens) page
later base start len starts lens page h = record { region = suc h.region; start = h.start; len = h.len; offset = h.offset; begins = h.begins; long = h.long; inside = h.inside; there = h.there }

first_has : (base start len : ℕ) (starts lens : List ℕ) (page : ℕ) → OneIn base start len page → HasByte base (start ∷ starts) (len ∷ lens) page
first_has base start len starts lens page o = record { region = 0; start = start; len = len; offset = o.offset; begins = refl; long = refl; inside = o.inside; there = o.there }

-- the first region, or a later one
which : (base start len : ℕ) (starts lens : List ℕ) (page : ℕ) → HasByte base (start ∷ starts) (len ∷ lens) page → OneIn base start len page ⊎ HasByte base starts lens page
which base start len starts lens page h = by h.region refl
  where
    by : (n : ℕ) → h.region ≡ n → OneIn base start len page ⊎ HasByte base starts lens page
    by zero e =
        let b : Some start ≡ Some h.start = sym (ap (slice_get (start ∷ starts)) e) ∙ h.begins in
        let l : Some len ≡ Some h.len = sym (ap (slice_get (len ∷ lens)) e) ∙ h.long in
        let s : h.start ≡ start = cc in
        let m : h.len ≡ len = cc in
        let i = h.inside in
        inl (record { offset = h.offset; inside = omega (arith, i, m); there = ap (λ a. page_at base (a + h.offset)) (sym s) ∙ h.there })
    by (suc n) e = inr (record { region = n; start = h.start; len = h.len; offset = h.offset; begins = sym (ap (slice_get (start ∷ starts)) e) ∙ h.begins; long = sym (ap (slice_get (len ∷ lens)) e) ∙ h.long; inside = h.inside; there = h.there })

set_forth : (base pages : ℕ) (starts lens : List ℕ) (marks : List Bool) (page : ℕ) → length marks ≡ pages → AreInRam base pages starts lens → get_or (with_regions base marks starts lens) page false ≡ true → (get_or marks page false ≡ true) ⊎ HasByte base starts lens page
unfolding with_regions
set_forth base pages [] lens marks page l r h = inl h
set_forth base pages (start ∷ starts) [] marks page l r h = inl h
set_forth base pages (start ∷ starts) (len ∷ lens) marks page l r h =
    by (set_forth base pages starts lens (with_pages base marks start len) page (still_long base pages start len r.0 marks l page) r.1 h)
  where
    before : (get_or marks page false ≡ true) ⊎ OneIn base start len page → (get_or marks page false ≡ true) ⊎ HasByte base (start ∷ starts) (len ∷ lens) page
    before (inl e) = inl e
    before (inr o) = inr (first_has base start len starts lens page o)

    by : (get_or (with_pages base marks start len) page false ≡ true) ⊎ HasByte base starts lens page → (get_or marks page false ≡ true) ⊎ HasByte base (start ∷ starts) (len ∷ lens) page
    by (inl e) = before (set_then base pages start len r.0 marks l page e)
    by (inr k) = inr (later base start len starts lens page k)

set_back : (base pages : ℕ) (starts lens : List ℕ) (marks : List Bool) (page : ℕ) → length marks ≡ pages → AreInRam base pages starts lens → (get_or marks page false ≡ true) ⊎ HasByte base starts lens page → get_or (with_regions base marks starts lens) page false ≡ true
unfolding with_regions
set_back base pages [] lens marks page l r (inl e) = e
set_back base pages [] lens marks page l r (inr k) = absurd (no_region base lens page k)
set_back base pages (start ∷ starts) [] marks page l r (inl e) = e
set_back base pages (start ∷ starts) [] marks page l r (inr k) = absurd (no_length base (start ∷ starts) page k)
set_back base pages (start ∷ starts) (len ∷ lens) marks page l r (inl e) =
    set_back base pages starts lens (with_pages base marks start len) page (still_long base pages start len r.0 marks l page) r.1 (inl (stays_set base pages start len r.0 marks l page e))
set_back base pages (start ∷ starts) (len ∷ lens) marks page l r (inr k) =
    set_back base pages starts lens (with_pages base marks start len) page (still_long base pages start len r.0 marks l page) r.1 (by (which base start len starts lens page k))
  where
    by : OneIn base start len page ⊎ HasByte base starts lens page → (get_or (with_pages base marks start len) page false ≡ true) ⊎ HasByte base starts lens page
    by (inl o) = inl (set_by base pages start len r.0 marks l page o)
    by (inr h) = inr h

regions_long : (base pages : ℕ) (starts lens : List ℕ) (marks : List Bool) → length marks ≡ pages → AreInRam base pages starts lens → length (with_regions base marks starts lens) ≡ pages
unfolding with_regions
regions_long base pages [] lens marks l r = l
regions_long base pages (start ∷ starts) [] marks l r = l
regions_long base pages (start ∷ starts) (len ∷ lens) marks l r = regions_long base pages starts lens (with_pages base marks start len) (still_long base pages start len r.0 marks l 0) r.1

is_got : (marks : List Bool) (page : ℕ) → page < length marks → or_false (slice_get marks page) ≡ get_or marks page false
is_got marks page l = ap or_false (slice_get-get_or marks page false l)

pub touched_bytes : TouchedHaveBytes
touched_bytes m starts lens page l r b =
    let all = with_regions m.base m.touched starts lens in
    let long : length all ≡ m.pages = regions_long m.base m.pages starts lens m.touched l r in
    let new : or_false (slice_get all page) ≡ get_or all page false = is_got all page (omega (arith, long, b)) in
    let old : or_false (slice_get m.touched page) ≡ get_or m.touched page false = is_got m.touched page (omega (arith, l, b)) in (
      λ h. to_old old (set_forth m.base m.pages starts lens m.touched page l r (sym new ∙ h)),
      λ h. new ∙ set_back m.base m.pages starts lens m.touched page l r (from_old old h),
    )
  where
    to_old : (or_false (slice_get m.touched page) ≡ get_or m.touched page false) → (get_or m.touched page false ≡ true) ⊎ HasByte m.base starts lens page → (is_touched m page ≡ true) ⊎ HasByte m.base starts lens page
    to_old old (inl e) = inl (old ∙ e)
    to_old old (inr k) = inr k

    from_old : (or_false (slice_get m.touched page) ≡ get_or m.touched page false) → (is_touched m page ≡ true) ⊎ HasByte m.base starts lens page → (get_or m.touched page false ≡ true) ⊎ HasByte m.base starts lens page
    from_old old (inl e) = inl (sym old ∙ e)
    from_old old (inr k) = inr k
