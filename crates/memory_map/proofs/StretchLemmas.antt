-- Runs of one type.
use Rattle.std.proofs.Common.{◌≡◌, ◌≢◌, ℕ, zero, suc, ◌+◌, ◌-◌, ◌*◌, ◌<◌, ◌≤◌, List, [], ◌∷◌, ◌++◌, length, replicate, drop, get_or, refl, sym, ap, ◌∙◌, arith, length-append, length-drop, subst, inl, inr, take, add-zero, Bool, true, false}
use Rattle.std.specs.Prelude.{◌==◌, ◌&&◌, nat_le, nat_lt, Some}
use Rattle.memory_map.specs.declared.descriptor.Descriptor.{Descriptor}
use Rattle.std.proofs.lemmas.Bool.Decides.{leb_tells, nat_tests}
use Rattle.std.proofs.lemmas.List.{append_assoc, length-replicate, length-map, map-append, replicate-append-replicate, drop-drop, take_rest, get_or-drop, get_or_default}
use Rattle.page_alloc.specs.declared.page.Page.{Page}
use Rattle.page_alloc.specs.declared.runs.Run.{Run}
use Rattle.page_alloc.specs.Runs.{all_pages, NoneEmpty}
use Rattle.memory_map.proofs.RunLemmas.{pages_from, pages_end, not_empty, none_drop}
use Rattle.page_alloc.specs.declared.page.Owner.TheVariants.{Free}
use Rattle.memory_map.specs.Map.{types_of, map_from, described, descriptor_of}
use Rattle.memory_map.proofs.MapLemmas.{OtherType, map_first, map_none}

map-replicate : (n : ℕ) (page : Page) → types_of (replicate n page) ≡ replicate n page.memory_type
map-replicate zero page = refl
map-replicate (suc n) page = ap (λ ts. page.memory_type ∷ ts) (map-replicate n page)

-- the types of the pages from a run on
pub types_from : (runs : List Run) (i : ℕ) (d : Run) → i < length runs
    → types_of (all_pages (drop i runs)) ≡ replicate (get_or runs i d).count (get_or runs i d).page.memory_type ++ types_of (all_pages (drop (i + 1) runs))
types_from runs i d h =
    ap types_of (pages_from runs i d h)
    ∙ map-append (λ page. page.memory_type) (replicate (get_or runs i d).count (get_or runs i d).page) (all_pages (drop (i + 1) runs))
    ∙ ap (λ ts. ts ++ types_of (all_pages (drop (i + 1) runs))) (map-replicate (get_or runs i d).count (get_or runs i d).page)

-- what is known of the first runs of one type
pub record Stretch (runs : List Run) (t pages i : ℕ) : Type 0 where
  pub types : types_of (all_pages runs) ≡ replicate pages t ++ types_of (all_pages (drop i runs))
  pub some : 0 < i → 0 < pages

pub stretch_more : (runs : List Run) (t pages i n : ℕ) (d : Run) → NoneEmpty runs → i < length runs → n ≡ (get_or runs i d).count → (get_or runs i d).page.memory_type ≡ t → Stretch runs t pages i → Stretch runs t (pages + n) (i + 1)
stretch_more runs t pages i n d all h e same s =
    let some = not_empty runs i d all h in
    record {
      types = s.types ∙ ap (λ ts. replicate pages t ++ ts) (types_from runs i d h ∙ rw (same, e) refl)
          ∙ sym (append_assoc (replicate pages t) (replicate n t) (types_of (all_pages (drop (i + 1) runs))))
          ∙ ap (λ ts. ts ++ types_of (all_pages (drop (i + 1) runs))) (replicate-append-replicate pages n t);
      some = λ h'. omega (arith, some, e);
    }

pub stretch_fits : (runs : List Run) (t pages i n : ℕ) (d : Run) → i < length runs → n ≡ (get_or runs i d).count → Stretch runs t pages i → pages + n ≤ length (all_pages runs)
stretch_fits runs t pages i n d h e s =
    let l = ap length s.types in
    let m = ap length (types_from runs i d h) in
    omega (
      arith,
      l,
      m,
      e,
      length-map (all_pages runs) (λ (page : Page). page.memory_type),
      length-map (all_pages (drop i runs)) (λ (page : Page). page.memory_type),
      length-append (replicate pages t) (types_of (all_pages (drop i runs))),
      length-replicate pages t,
      length-append (replicate (get_or runs i d).count (get_or runs i d).page.memory_type) (types_of (all_pages (drop (i + 1) runs))),
      length-replicate (get_or runs i d).count (get_or runs i d).page.memory_type,
    )

other_replicate : (t u n : ℕ) (rest : List ℕ) → 0 < n → t ≢ u → OtherType t (replicate n u ++ rest)
other_replicate t u zero rest some h = absurd (omega arith)
other_replicate t u (suc n) rest some h = h

-- any run
abbrev pub blank : Run
blank = record { count = 0; page = record { memory_type = 0; owner = Free } }

-- behind a stretch comes another type, or nothing
other_behind : (s : List Run) (count t : ℕ) (d : Run) → NoneEmpty s → (count < length s → t ≢ (get_or s count d).page.memory_type) → OtherType t (types_of (all_pages (drop count s)))
other_behind s count t d all differ = elim (leb_tells (length s) count) [
  | inl p ↦ (let l : length s ≤ count = p.1 in rw (pages_end s count l) tt)
  | inr p ↦ (let l : count < length s = p.1 in rw (types_from s count d l)
      (other_replicate t (get_or s count d).page.memory_type (get_or s count d).count (types_of (all_pages (drop (count + 1) s))) (not_empty s count d all l) (differ l)))
]

-- the runs behind a stretch, as a slice of all of them
abbrev pub behind : List Run → ℕ → List Run
behind runs count = take (length runs - count) (drop count runs)

-- what a stretch at the front of the runs is in the map
pub record Next (runs : List Run) (at count pages t : ℕ) : Type 0 where
  pub first : map_from at (types_of (all_pages runs)) ≡ described at t pages ∷ map_from (at + 4096 * pages) (types_of (all_pages (behind runs count)))
  pub sizes : length (all_pages runs) ≡ pages + length (all_pages (behind runs count))
  pub none_empty : NoneEmpty (behind runs count)

module _ (runs : List Run) (count pages : ℕ) (all : NoneEmpty runs) (some : 0 < pages)
    (types : (d : Run) → types_of (all_pages runs) ≡ replicate pages (get_or runs 0 d).page.memory_type ++ types_of (all_pages (drop count runs)))
    (differ : (d : Run) → count < length runs → (get_or runs 0 d).page.memory_type ≢ (get_or runs count d).page.memory_type) where
  split : (d : Run) → types_of (all_pages runs) ≡ replicate pages (get_or runs 0 d).page.memory_type ++ types_of (all_pages (behind runs count))
  split d = types d ∙ ap (λ rs. replicate pages (get_or runs 0 d).page.memory_type ++ types_of (all_pages rs)) (sym (take_rest runs count))

  pub next_is : (at : ℕ) (d : Run) → Next runs at count pages (get_or runs 0 d).page.memory_type
  next_is at d =
      let t = (get_or runs 0 d).page.memory_type in
      let other : OtherType (get_or runs 0 d).page.memory_type (types_of (all_pages (behind runs count)))
      = subst (λ rs. OtherType (get_or runs 0 d).page.memory_type (types_of (all_pages rs))) (sym (take_rest runs count)) (other_behind runs count (get_or runs 0 d).page.memory_type d all (differ d)) in
      let l = ap length (split d) in
      record {
        first = ap (λ ts. map_from at ts) (split d) ∙ map_first at (get_or runs 0 d).page.memory_type pages (types_of (all_pages (behind runs count))) some other;
        sizes = omega (
          arith,
          l,
          length-map (all_pages runs) (λ (page : Page). page.memory_type),
          length-map (all_pages (behind runs count)) (λ (page : Page). page.memory_type),
          length-append (replicate pages (get_or runs 0 d).page.memory_type) (types_of (all_pages (behind runs count))),
          length-replicate pages (get_or runs 0 d).page.memory_type,
        );
        none_empty = subst NoneEmpty (sym (take_rest runs count)) (none_drop count runs all);
      }

pub none_next : (runs : List Run) (at : ℕ) (b : Bool) → b ≡ (length runs == 0) → b ≡ true → map_from at (types_of (all_pages runs)) ≡ []
unfolding all_pages
none_next [] at b e h = map_none at
none_next (run ∷ runs) at b e h = absurd (let q : (length (run ∷ runs) == 0) ≡ true = sym e ∙ h in let none : length (run ∷ runs) ≡ 0 = grind (arith, nat_tests) in omega (arith, none))

pub some_next : (runs : List Run) (b : Bool) → b ≡ (length runs == 0) → b ≡ false → 0 < length runs
some_next [] b e h = absurd (let q : true ≡ false = sym e ∙ h in cc)
some_next (run ∷ runs) b e h = omega arith

-- the first descriptor as the code makes it
pub first_is : (runs : List Run) (at count pages : ℕ) (d e : Run) (whole : List Descriptor) (x : Descriptor) → 0 < length runs → map_from at (types_of (all_pages runs)) ≡ whole
    → Next runs at count pages (get_or runs 0 d).page.memory_type → x ≡ described at (get_or runs 0 e).page.memory_type pages
    → whole ≡ x ∷ map_from (at + 4096 * pages) (types_of (all_pages (behind runs count)))
first_is runs at count pages d e whole x some view n same =
    sym view ∙ n.first
    ∙ ap (λ y. y ∷ map_from (at + 4096 * pages) (types_of (all_pages (behind runs count)))) (ap (λ (r : Run). described at r.page.memory_type pages) (get_or_default runs 0 d e some) ∙ sym same)
