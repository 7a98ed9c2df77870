-- Words that move, one by one.
use Rattle.std.proofs.Common.{◌≡◌, ℕ, zero, suc, ◌+◌, ◌*◌, ◌-◌, ◌/◌, ◌%◌, ◌^◌, ◌≤◌, ◌<◌, Bool, true, false, List, [], ◌∷◌, length, get_or, refl, sym, ap, subst, ◌∙◌, arith, inl, inr, Some, None}
use Rattle.std.specs.Prelude.{nat_lt, find, slice_get, slice_index, Option, if◌then◌else◌}
use Rattle.std.specs.Int.{to_le_bytes, cast_signed, w64}
use Rattle.std.specs.List.{All, AllPairs}
use Rattle.std.proofs.lemmas.Bool.Decides.{nat_tests}
use Rattle.std.proofs.lemmas.Bool.{cases_Bool}
use Rattle.std.proofs.lemmas.List.Elements.{All-head, All-tail}
use Rattle.uh_base.specs.Bytes.{next, number_at}
use Rattle.base_reloc.specs.declared.site.Site.{Site}
use Rattle.base_reloc.specs.declared.site.SiteKind.{SiteKind}
use Rattle.base_reloc.specs.declared.site.SiteKind.TheVariants.{Dir64, Highlow, High20}
use Rattle.base_reloc.specs.Sites.{width_of, end_of, AreApart as SitesApart}
use Rattle.base_reloc.specs.Moved.{moved_word, byte_in, sum, upper_of, with_upper, fits_upper}
use Rattle.memory_map.specs.declared.descriptor.Descriptor.{Descriptor}
use Rattle.guest_memory.specs.Pages.{Pages}
use Rattle.map_faults.specs.Grounds.{Kept}
use Rattle.map_faults.specs.Rules.{behind}
use Rattle.map_transition.specs.Images.{AreApart, HasSites}
use Rattle.map_transition.specs.Fixes.{has_byte, owns, fixed_at, fixed_byte, fixed_by, fixed, displacement_of}
use Rattle.map_transition.specs.Laws.{AreKept, IsSite, word_of, moved_or, WordsMove, OtherBytesStay, WholeStays, InstructionsKeepTouched, FunctionsKeepTouched}
use Rattle.map_transition.proofs.SiteLemmas.{NoneHas, stays_by}
use Rattle.map_transition.proofs.TouchedLemmas.{carried_keeps, function_keeps}
use Rattle.map_transition.proofs.RunLemmas.{keeps_pages}
use Rattle.map_transition.proofs.WholeLemmas.{whole_ran}

some_same : {X : Type 0} (x y : X) → Some x ≡ Some y → x ≡ y
some_same x y h = cc

at_index : {X : Type 0} (xs : List X) (i : ℕ) (x : X) → slice_get xs i ≡ Some x → (i < length xs) × (get_or xs i x ≡ x)
at_index [] i x h = let bad : ⊥ = cc in absurd bad
at_index (y ∷ ys) zero x h = (omega arith, some_same y x h)
at_index (y ∷ ys) (suc i) x h = let r = at_index ys i x h in let l = r.0 in (omega (arith, l), r.1)

-- ---- the image that has a byte

owned_once : (at : ℕ) (a b : Kept) → AreApart a b → owns at b ≡ true → owns at a ≡ false
owned_once at a b h o =
    elim (cases_Bool (owns at a)) [
      | inl both ↦ absurd (h.pages at (grind (arith, nat_tests)) (grind (arith, nat_tests)) (grind (arith, nat_tests)) (grind (arith, nat_tests)))
      | inr free ↦ free
    ]

found : (at : ℕ) (kept : List Kept) (i : ℕ) (image : Kept) → AllPairs AreApart kept → slice_get kept i ≡ Some image → owns at image ≡ true → find (owns at) kept ≡ Some image
found at [] i image apart s o = let bad : ⊥ = cc in absurd bad
found at (k ∷ ks) zero image apart s o =
    let has : owns at k ≡ true = subst (λ (x : Kept). owns at x ≡ true) (sym (some_same k image s)) o in
    rw has s
found at (k ∷ ks) (suc i) image apart s o =
    let r = at_index ks i image s in
    let l = r.0 in
    let a : AreApart k image = subst (λ (x : Kept). AreApart k x) r.1 (apart 0 (suc i) image (omega arith) (omega (arith, l))) in
    let free : owns at k ≡ false = owned_once at k image a o in
    rw free (found at ks i image (λ i j d before below. apart (suc i) (suc j) d (omega arith) (omega arith)) s o)

-- ---- the site that has a byte

had_once : (base at : ℕ) (a b : Site) → SitesApart a b → has_byte base b at ≡ true → has_byte base a at ≡ false
had_once base at a b (inl before) h = grind (arith, nat_tests)
had_once base at a b (inr behind) h = grind (arith, nat_tests)

when_true : (b : Bool) (x y z : ℕ) → b ≡ true → x ≡ z → (if b then x else y) ≡ z
when_true true x y z e h = h
when_true false x y z e h = let bad : ⊥ = cc in absurd bad

at_site : (base by : ℕ) (sites : List Site) (words : List ℕ) (marks : List Bool) (j : ℕ) (site : Site) (load : ℕ) (same : Bool) (at byte : ℕ) → AllPairs SitesApart sites
    → slice_get sites j ≡ Some site → slice_get words j ≡ Some load → slice_get marks j ≡ Some same → has_byte base site at ≡ true
    → fixed_byte base by sites words marks at byte ≡ fixed_at base by site load same at byte
unfolding fixed_byte
at_site base by [] words marks j site load same at byte apart s w f h = let bad : ⊥ = cc in absurd bad
at_site base by (t ∷ ts) [] marks j site load same at byte apart s w f h = let bad : ⊥ = cc in absurd bad
at_site base by (t ∷ ts) (v ∷ vs) [] j site load same at byte apart s w f h = let bad : ⊥ = cc in absurd bad
at_site base by (t ∷ ts) (v ∷ vs) (g ∷ gs) zero site load same at byte apart s w f h =
    let one : t ≡ site = some_same t site s in
    let two : v ≡ load = some_same v load w in
    let three : g ≡ same = some_same g same f in
    let has : has_byte base t at ≡ true = subst (λ (x : Site). has_byte base x at ≡ true) (sym one) h in
    when_true (has_byte base t at) (fixed_at base by t v g at byte) (fixed_byte base by ts vs gs at byte) (fixed_at base by site load same at byte) has (ap (λ (x : Site). fixed_at base by x v g at byte) one ∙ ap (λ (x : ℕ). fixed_at base by site x g at byte) two ∙ ap (λ (x : Bool). fixed_at base by site load x at byte) three)
at_site base by (t ∷ ts) (v ∷ vs) (g ∷ gs) (suc j) site load same at byte apart s w f h =
    let r = at_index ts j site s in
    let l = r.0 in
    let a : SitesApart t site = subst (λ (x : Site). SitesApart t x) r.1 (apart 0 (suc j) site (omega arith) (omega (arith, l))) in
    let free : has_byte base t at ≡ false = had_once base at t site a h in
    rw free (at_site base by ts vs gs j site load same at byte (λ i j d before below. apart (suc i) (suc j) d (omega arith) (omega arith)) s w f h)

-- ---- numbers

same_number : (f g : ℕ → ℕ) (at b n : ℕ) → at + n < 2 ^ 64 → b + n < 2 ^ 64 → ((k : ℕ) → k < n → f (at + k) ≡ g (b + k)) → number_at f at n ≡ number_at g b n
unfolding number_at
same_number f g at b zero l m h = refl
same_number f g at b (suc n) l m h =
    let first : f at ≡ g b = (let x : at + 0 ≡ at = omega arith in let y : b + 0 ≡ b = omega arith in rw (x, y) at (h 0 (omega arith))) in
    let x : next at ≡ at + 1 = grind arith in
    let y : next b ≡ b + 1 = grind arith in
    let rest : number_at f (at + 1) n ≡ number_at g (b + 1) n = same_number f g (at + 1) (b + 1) n (omega arith) (omega arith) (λ k below.
    let p : at + 1 + k ≡ at + suc k = omega arith in let q : b + 1 + k ≡ b + suc k = omega arith in rw (p, q) (h (suc k) (omega arith))) in
    rw (first, x, y, rest) refl

four : (n : ℕ) → n % 256 + 256 * (n / 256 % 256 + 256 * (n / 65536 % 256 + 256 * (n / 16777216 % 256))) ≡ n % 2 ^ 32
four n = omega arith

low_number : (n : ℕ) → n < 2 ^ 32 → number_at (λ k. slice_index (to_le_bytes w64 n) k) 0 4 ≡ n
unfolding number_at
low_number n l = let e = four n in omega (arith, e)

all_number : (n : ℕ) → n < 2 ^ 64 → number_at (λ k. slice_index (to_le_bytes w64 n) k) 0 8 ≡ n
unfolding number_at
all_number n l =
    let e = four n in
    let f = four (n / 2 ^ 32) in
    omega (arith, e, f)

some_if : (b : Bool) (s moved : ℕ) → (if b then Some s else None) ≡ Some moved → (b ≡ true) × (s ≡ moved)
some_if true s moved h = (refl, some_same s moved h)
some_if false s moved h = let bad : ⊥ = cc in absurd bad

upper_low : (word n : ℕ) → with_upper word n < 2 ^ 32
upper_low word n = omega arith

moved_low : (kind : SiteKind) (load by moved : ℕ) → moved_word kind load by ≡ Some moved → moved < 2 ^ (8 * width_of kind)
unfolding moved_word
moved_low Dir64 load by moved h = let e : sum load by ≡ moved = some_same (sum load by) moved h in omega (arith, e)
moved_low Highlow load by moved h = let e = some_if (nat_lt (sum load by) (2 ^ 32)) (sum load by) moved h in let low = e.0 in let same = e.1 in grind (arith, nat_tests)
moved_low High20 load by moved h =
    let e = some_if (fits_upper (cast_signed w64 (sum (upper_of load) by))) (with_upper load (sum (upper_of load) by)) moved h in
    let low = upper_low load (sum (upper_of load) by) in
    let same = e.1 in
    omega (arith, low, same)

abbrev digit : ℕ → ℕ → ℕ
digit moved k = slice_index (to_le_bytes w64 moved) k

digits_are : (kind : SiteKind) (moved : ℕ) → moved < 2 ^ (8 * width_of kind) → number_at (digit moved) 0 (width_of kind) ≡ moved
digits_are Dir64 moved l = all_number moved l
digits_are Highlow moved l = low_number moved l
digits_are High20 moved l = low_number moved l

-- ---- one site

module _ (entries : List Descriptor) (m : Pages) (kept : List Kept) (bytes : ℕ → ℕ) (i : ℕ) (image : Kept) (site : Site) (load : ℕ) (all : AreKept m kept) (here : slice_get kept i ≡ Some image)
    (end : image.base + end_of site < 2 ^ 64) where
  of_image : HasSites m image
  of_image = let r = at_index kept i image here in let l = r.0 in subst (λ (x : Kept). HasSites m x) r.1 (all.sites i image l)

  has : (k : ℕ) → k < width_of site.kind → has_byte image.base site (image.base + site.at + k) ≡ true
  has k l = grind (arith, nat_tests)

  byte_is : (same : Bool) → IsSite image site load same → (k : ℕ) → k < width_of site.kind
      → fixed entries kept bytes (image.base + site.at + k) ≡ fixed_at image.base (displacement_of entries image) site load same (image.base + site.at + k) (bytes (image.base + site.at + k))
  unfolding fixed
  byte_is same one k l =
      let r = at_index image.sites one.at site one.site in
      let below = r.0 in
      let inside : end_of site ≤ 4096 * image.pages = subst (λ (x : Site). end_of x ≤ 4096 * image.pages) r.1 (of_image.sites.inside one.at site below) in
      let owned : owns (image.base + site.at + k) image ≡ true = grind (arith, nat_tests) in
      let f : find (owns (image.base + site.at + k)) kept ≡ Some image = found (image.base + site.at + k) kept i image all.apart here owned in
      ap (λ (o : Option Kept). fixed_by entries o (image.base + site.at + k) (bytes (image.base + site.at + k))) f
      ∙ at_site image.base (displacement_of entries image) image.sites image.words image.same one.at site load same (image.base + site.at + k) (bytes (image.base + site.at + k)) of_image.sites.apart one.site one.word one.same (has k l)

  stays : (same : Bool) → IsSite image site load same → ((k : ℕ) → k < width_of site.kind → fixed_at image.base (displacement_of entries image) site load same (image.base + site.at + k) (bytes (image.base + site.at + k)) ≡ bytes (image.base + site.at + k))
      → word_of (fixed entries kept bytes) image site ≡ word_of bytes image site
  stays same one h = same_number (fixed entries kept bytes) bytes (image.base + site.at) (image.base + site.at) (width_of site.kind) (omega arith) (omega arith) (λ k l. byte_is same one k l ∙ h k l)

  none_byte : (k byte : ℕ) (b : Bool) → (if b then byte_in k None byte else byte) ≡ byte
  none_byte k byte true = refl
  none_byte k byte false = refl

  word_by : (same : Bool) (o : Option ℕ) → moved_word site.kind load (displacement_of entries image) ≡ o → IsSite image site load same → word_of (fixed entries kept bytes) image site ≡ moved_or same o (word_of bytes image site)
  word_by false o e one = stays false one (λ k l. refl)
  word_by true None e one = stays true one (λ k l. rw e (none_byte (image.base + site.at + k - (image.base + site.at)) (bytes (image.base + site.at + k)) (has_byte image.base site (image.base + site.at + k))))
  word_by true (Some moved) e one =
      same_number (fixed entries kept bytes) (digit moved) (image.base + site.at) 0 (width_of site.kind) (omega arith) (omega arith) (λ k l.
      let place : image.base + site.at + k - (image.base + site.at) ≡ k = omega arith in
      let zero_k : 0 + k ≡ k = omega arith in
      let h = has k l in
      byte_is true one k l ∙ rw (e, h, place, zero_k) refl)
      ∙ digits_are site.kind moved (moved_low site.kind load (displacement_of entries image) moved e)

pub words_move : WordsMove
words_move entries m kept bytes i image site load same all here one end = word_by entries m kept bytes i image site load all here end same (moved_word site.kind load (displacement_of entries image)) refl one

-- ---- bytes of no site

none_from : (base at : ℕ) (sites : List Site) → All (λ (site : Site). has_byte base site at ≡ false) sites → NoneHas base at sites
none_from base at [] h = tt
none_from base at (site ∷ sites) h = (All-head (λ (s : Site). has_byte base s at ≡ false) site sites h, none_from base at sites (All-tail (λ (s : Site). has_byte base s at ≡ false) site sites h))

none_in : (entries : List Descriptor) (at byte : ℕ) (kept : List Kept) → All (λ (image : Kept). All (λ (site : Site). has_byte image.base site at ≡ false) image.sites) kept → fixed_by entries (find (owns at) kept) at byte ≡ byte
none_in entries at byte [] h = refl
none_in entries at byte (image ∷ images) h =
    let first = All-head (λ (k : Kept). All (λ (site : Site). has_byte k.base site at ≡ false) k.sites) image images h in
    let rest = All-tail (λ (k : Kept). All (λ (site : Site). has_byte k.base site at ≡ false) k.sites) image images h in
    elim (cases_Bool (owns at image)) [
      | inl owned ↦ rw owned (stays_by image.base (displacement_of entries image) image.sites image.words image.same at byte (none_from image.base at image.sites first))
      | inr free ↦ rw free (none_in entries at byte images rest)
    ]

pub other_bytes_stay : OtherBytesStay
unfolding fixed
other_bytes_stay entries kept bytes at h = none_in entries at (bytes at) kept h

-- ---- while code runs

pub whole_stays : WholeStays
whole_stays old new w h keep = whole_ran old new w h (keeps_pages old.memory new.memory h.base h.count keep)

pub instructions_keep : InstructionsKeepTouched
instructions_keep x pc r page h = carried_keeps x pc r page h

pub functions_keep : FunctionsKeepTouched
functions_keep entries sp notify r page h = function_keeps entries sp notify r page h
