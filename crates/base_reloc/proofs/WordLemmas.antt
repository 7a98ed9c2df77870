-- The words of moved sites.
use Rattle.std.proofs.Common.{◌≡◌, ℕ, zero, suc, ◌+◌, ◌-◌, ◌/◌, ◌%◌, ◌^◌, ◌<◌, ◌≤◌, ◌||◌, List, [], ◌∷◌, length, get_or, Bool, true, false, Some, refl, sym, ◌∙◌, arith, inl, inr}
use Rattle.std.specs.Prelude.{slice_get, find}
use Rattle.std.specs.List.{list_any}
use Rattle.std.specs.Int.{to_le_bytes, w64}
use Rattle.std.proofs.lemmas.Bool.{cases_Bool}
use Rattle.std.proofs.lemmas.Bool.Decides.{nat_tests}
use Rattle.pe_image.specs.Numbers.{u32_at, u64_at}
use Rattle.base_reloc.specs.declared.site.Site.{Site}
use Rattle.base_reloc.specs.declared.site.SiteKind.TheVariants.{Dir64}
use Rattle.base_reloc.specs.Sites.{covers}
use Rattle.base_reloc.specs.Moved.{sum, moved_word, moved_byte}
use Rattle.base_reloc.specs.Laws.{WordsMove, WordsMoveTwice}
use Rattle.base_reloc.proofs.MoveLemmas.{Separate, separate}

either : (a b : Bool) → b ≡ true → (a || b) ≡ true
either true b h = refl
either false b h = h

has_it : (sites : List Site) (i at : ℕ) (site : Site) → slice_get sites i ≡ Some site → covers at site ≡ true → list_any (covers at) sites ≡ true
has_it [] i at site there has = absurd (cc)
has_it (first ∷ sites) zero at site there has = let same : first ≡ site = cc in rw (same, has) refl
has_it (first ∷ sites) (suc i) at site there has = either (covers at first) (list_any (covers at) sites) (has_it sites i at site there has)

-- a site that has a byte is the one that is found there
found : (sites : List Site) (i at : ℕ) (site : Site) → Separate sites → slice_get sites i ≡ Some site → covers at site ≡ true → find (covers at) sites ≡ Some site
found [] i at site apart there has = absurd (cc)
found (first ∷ sites) zero at site apart there has = let same : first ≡ site = cc in rw (same, has) refl
found (first ∷ sites) (suc i) at site apart there has =
    elim (cases_Bool (covers at first)) [
      | inl also ↦ absurd (let e : true ≡ false = sym (has_it sites i at site there has) ∙ apart.0 at also in cc)
      | inr lacks ↦ rw lacks (found sites i at site apart.1 there has)
    ]

get_index : (xs : List ℕ) (i x : ℕ) → slice_get xs i ≡ Some x → get_or xs i 0 ≡ x
get_index [] i x h = absurd (cc)
get_index (y ∷ xs) zero x h = cc
get_index (y ∷ xs) (suc i) x h = get_index xs i x h

get_within : (sites : List Site) (i : ℕ) (site : Site) → slice_get sites i ≡ Some site → (i < length sites) × ((d : Site) → get_or sites i d ≡ site)
get_within [] i site h = absurd (cc)
get_within (first ∷ sites) zero site h = (omega arith, λ d. cc)
get_within (first ∷ sites) (suc i) site h = let rest = get_within sites i site h in (omega (arith, rest.0), rest.1)

-- a number of 64 bits by its bytes
from_bytes : (bytes : List ℕ) (at n : ℕ) → n < 2 ^ 64 → ((k : ℕ) → k < 8 → get_or bytes (at + k) 0 ≡ get_or (to_le_bytes w64 n) k 0) → u64_at bytes at ≡ n
unfolding u64_at u32_at
from_bytes bytes at n small byte =
    let b0 : get_or bytes at 0 ≡ n % 256 = let here : at + 0 ≡ at = omega arith in rw here at (byte 0 (omega arith)) in
    let b1 : get_or bytes (at + 1) 0 ≡ n / 256 % 256 = byte 1 (omega arith) in
    let b2 : get_or bytes (at + 2) 0 ≡ n / 65536 % 256 = byte 2 (omega arith) in
    let b3 : get_or bytes (at + 3) 0 ≡ n / 16777216 % 256 = byte 3 (omega arith) in
    let b4 : get_or bytes (at + 4) 0 ≡ n / 4294967296 % 256 = byte 4 (omega arith) in
    let b5 : get_or bytes (at + 4 + 1) 0 ≡ n / 1099511627776 % 256 = let there : at + 4 + 1 ≡ at + 5 = omega arith in rw there (byte 5 (omega arith)) in
    let b6 : get_or bytes (at + 4 + 2) 0 ≡ n / 281474976710656 % 256 = let there : at + 4 + 2 ≡ at + 6 = omega arith in rw there (byte 6 (omega arith)) in
    let b7 : get_or bytes (at + 4 + 3) 0 ≡ n / 72057594037927936 % 256 = let there : at + 4 + 3 ≡ at + 7 = omega arith in rw there (byte 7 (omega arith)) in
    rw (b0, b1, b2, b3, b4, b5, b6, b7) (omega arith)

pub words_move : WordsMove
unfolding moved_byte moved_word
words_move bytes moved sites displacement at are has to =
    let site : Site = record { at = at; kind = Dir64 } in
    let there = get_within sites has.0 site has.1 in
    let inside : at + 8 ≤ length bytes = rw (there.1 site) at (are.inside has.0 site there.0) in
    from_bytes moved at (sum (u64_at bytes at) displacement) (omega arith) (λ k below.
    let covered : covers (at + k) site ≡ true = grind (arith, nat_tests) in
    let is = found sites has.0 (at + k) site (separate sites are.apart) has.1 covered in
    let byte : get_or moved (at + k) 0 ≡ moved_byte bytes sites displacement (at + k) = get_index moved (at + k) (moved_byte bytes sites displacement (at + k)) (to.1 (at + k) (omega (arith, to.0, inside))) in
    let place : at + k - at ≡ k = omega arith in
    byte ∙ rw (is, place) refl)

pub words_move_twice : WordsMoveTwice
words_move_twice bytes moved again sites one other at are has to more =
    let first : u64_at moved at ≡ (u64_at bytes at + one) % 2 ^ 64 = words_move bytes moved sites one at are has to in
    let second : u64_at again at ≡ (u64_at moved at + other) % 2 ^ 64 = words_move moved again sites other at (rw to.0 are) has more in
    omega (arith, first, second)
