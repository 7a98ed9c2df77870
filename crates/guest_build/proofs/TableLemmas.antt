-- The table of base relocations, one site after another.
use Rattle.std.proofs.Common.{◌≡◌, ℕ, ◌+◌, ◌-◌, ◌<◌, ◌≤◌, ◌%◌, ◌*◌, Bool, true, false, not, List, [], ◌∷◌, ◌++◌, Option, Some, None, length, take, drop, get_or, refl, sym, ap, ◌∙◌, append_assoc, length-append, arith}
use Rattle.std.proofs.lemmas.List.{drop_more, drop_all, take_rest}
use Rattle.std.specs.List.{prefix_len}
use Rattle.guest_build.specs.Relocations.{page_of, type_of, is_on, entry_bytes, block_header, padding, table_behind, table_of}
use Rattle.guest_build.specs.declared.relocation.Site.{Site}
use Rattle.uh_base.specs.LittleEndian.{low_bytes}
use Rattle.guest_build.proofs.LowLemmas.{length-low_bytes}

pub behind_on : (page : Option ℕ) (odd : Bool) (site : Site) (others : List Site) → is_on page site ≡ true
    → table_behind page odd (site ∷ others) ≡ entry_bytes site ++ table_behind page (not odd) others
unfolding table_behind
behind_on page odd site others h = rw h refl

pub behind_off : (page : Option ℕ) (odd : Bool) (site : Site) (others : List Site) → is_on page site ≡ false
    → table_behind page odd (site ∷ others) ≡ padding odd ++ (block_header (page_of site) (1 + prefix_len (is_on (Some (page_of site))) others) ++ (entry_bytes site ++ table_behind (Some (page_of site)) true others))
unfolding table_behind
behind_off page odd site others h = rw h refl

pub behind_all : (page : Option ℕ) (odd : Bool) → table_behind page odd [] ≡ padding odd
unfolding table_behind
behind_all page odd = refl

-- ---- how long it is

pub length_on : (page : Option ℕ) (odd : Bool) (site : Site) (others : List Site) → is_on page site ≡ true
    → length (table_behind page odd (site ∷ others)) ≡ 2 + length (table_behind page (not odd) others)
length_on page odd site others h = ap length (behind_on page odd site others h) ∙ length-append (entry_bytes site) (table_behind page (not odd) others) ∙ ap (λ n. n + length (table_behind page (not odd) others)) (length-low_bytes 2 _)

pub length_off : (page : Option ℕ) (odd : Bool) (site : Site) (others : List Site) → is_on page site ≡ false
    → length (table_behind page odd (site ∷ others)) ≡ length (padding odd) + (10 + length (table_behind (Some (page_of site)) true others))
length_off page odd site others h =
    let count = 1 + prefix_len (is_on (Some (page_of site))) others in
    let rest = table_behind (Some (page_of site)) true others in
    let whole = ap length (behind_off page odd site others h) in
    let a = length-append (padding odd) (block_header (page_of site) count ++ (entry_bytes site ++ rest)) in
    let b = length-append (block_header (page_of site) count) (entry_bytes site ++ rest) in
    let d = length-append (entry_bytes site) rest in
    let e = length-append (low_bytes 4 (page_of site * 4096)) (low_bytes 4 (8 + 2 * (count + count % 2))) in
    let f = length-low_bytes 4 (page_of site * 4096) in
    let g = length-low_bytes 4 (8 + 2 * (count + count % 2)) in
    let k = length-low_bytes 2 (type_of site.kind * 4096 + site.at % 4096) in
    omega (arith, whole, a, b, d, e, f, g, k)

pub run_on : (len : ℕ) (page : Option ℕ) (odd : Bool) (site : Site) (others : List Site) → is_on page site ≡ true
    → ((len + 2) % 18446744073709551616 + length (table_behind page (not odd) others)) % 18446744073709551616 ≡ (len + length (table_behind page odd (site ∷ others))) % 18446744073709551616
run_on len page odd site others h = omega (arith, length_on page odd site others h)

pub run_off : (len : ℕ) (page : Option ℕ) (odd : Bool) (site : Site) (others : List Site) → is_on page site ≡ false
    → (((len + length (padding odd)) % 18446744073709551616 + 10) % 18446744073709551616 + length (table_behind (Some (page_of site)) true others)) % 18446744073709551616 ≡ (len + length (table_behind page odd (site ∷ others))) % 18446744073709551616
run_off len page odd site others h = omega (arith, length_off page odd site others h)

-- ---- writing it

pub put_on : (old new : List ℕ) (page : Option ℕ) (odd : Bool) (site : Site) (others : List Site) → is_on page site ≡ true → new ≡ old ++ entry_bytes site
    → new ++ table_behind page (not odd) others ≡ old ++ table_behind page odd (site ∷ others)
put_on old new page odd site others h e =
    ap (λ xs. xs ++ table_behind page (not odd) others) e ∙ append_assoc old (entry_bytes site) (table_behind page (not odd) others) ∙ ap (λ xs. old ++ xs) (sym (behind_on page odd site others h))

pub put_off : (old padded headed new : List ℕ) (page : Option ℕ) (odd : Bool) (site : Site) (others : List Site) (count : ℕ) → is_on page site ≡ false
    → padded ≡ old ++ padding odd → headed ≡ padded ++ block_header (page_of site) (1 + count) → new ≡ headed ++ entry_bytes site → count ≡ prefix_len (is_on (Some (page_of site))) others
    → new ++ table_behind (Some (page_of site)) true others ≡ old ++ table_behind page odd (site ∷ others)
put_off old padded headed new page odd site others count h p q e n =
    rw (behind_off page odd site others h, ← n, e, q, p) (simp append_assoc)

pub table_start : (out : List ℕ) (sites : List Site) → out ≡ [] → out ++ table_behind None false (drop 0 sites) ≡ table_of sites
unfolding table_of
table_start out sites e = rw e refl

pub table_step : (old new : List ℕ) (page next : Option ℕ) (odd even : Bool) (sites : List Site) (i : ℕ) (d : Site) → i < length sites
    → new ++ table_behind next even (take (length sites - (i + 1)) (drop (i + 1) sites)) ≡ old ++ table_behind page odd (get_or sites i d ∷ take (length sites - (i + 1)) (drop (i + 1) sites))
    → old ++ table_behind page odd (drop i sites) ≡ table_of sites
    → new ++ table_behind next even (drop (i + 1) sites) ≡ table_of sites
table_step old new page next odd even sites i d h step so_far =
    let e = rw take_rest at step in
    e ∙ ap (λ xs. old ++ table_behind page odd xs) (sym (drop_more sites i d h)) ∙ so_far

pub table_end : (out : List ℕ) (page : Option ℕ) (odd : Bool) (sites : List Site) (i : ℕ) → length sites ≤ i → out ++ table_behind page odd (drop i sites) ≡ table_of sites
    → out ++ padding odd ≡ table_of sites
table_end out page odd sites i h so_far =
    ap (λ xs. out ++ xs) (sym (behind_all page odd) ∙ ap (table_behind page odd) (sym (drop_all i sites h))) ∙ so_far
