-- The bytes of an image where its parts are copied.
use Rattle.std.proofs.Common.{◌≡◌, ℕ, ◌+◌, ◌-◌, ◌<◌, ◌≤◌, ◌&&◌, List, [], ◌∷◌, ◌++◌, length, get_or, take, drop, replicate, zero, suc, ◌⊎◌, false, cond, leb, ltb, Ok, refl, sym, ap, ◌∙◌, arith, rules, inl, inr}
use Rattle.std.proofs.lemmas.Bool.{cases_lt, cases_Bool}
use Rattle.std.proofs.lemmas.Bool.Decides.{nat_tests}
use Rattle.std.proofs.lemmas.List.{get_or-append_right, get_or_append_left, get_or-take, get_or-drop, length-take-le, length-take, length-drop, places, at_drop_more, at_drop_all}
use Rattle.std.proofs.lemmas.List.Elements.{All-head, All-tail}
use Rattle.std.specs.Prelude.{find, slice_index, slice_get, All, Some}
use Rattle.std.proofs.lemmas.Option.{slice_get-get_or}
use borrow.Author.Tests.{ltb-true}
use Rattle.pe_image.specs.declared.image.Section.{Section}
use Rattle.pe_image.specs.ImageOf.{Fields, image_of}
use Rattle.pe_image.specs.Placed.{in_pages, copies_to, byte_in, placed_byte}
use Rattle.pe_image.proofs.SoundLemmas.{InOrder, sections_in_order, is_image, is_copied}
use borrow.Rule.Slice.PartMut.{put_mid}

-- a list with a part written over, before the part, in it and behind it
pub get_or-before : {X : Type 0} (a n : ℕ) (xs ys : List X) (i : ℕ) (d : X) → i < a → a ≤ length xs → get_or (put_mid a n xs ys) i d ≡ get_or xs i d
get_or-before a n xs ys i d before fits = search (rules, places)

pub get_or-in : {X : Type 0} (a n : ℕ) (xs ys : List X) (i : ℕ) (d : X) → length ys ≡ n → a + n ≤ length xs → a ≤ i → i < a + n → get_or (put_mid a n xs ys) i d ≡ get_or ys (i - a) d
get_or-in a n xs ys i d long fits behind before = search (rules, places)

pub get_or-behind : {X : Type 0} (a n : ℕ) (xs ys : List X) (i : ℕ) (d : X) → length ys ≡ n → a + n ≤ length xs → a + n ≤ i → get_or (put_mid a n xs ys) i d ≡ get_or xs i d
get_or-behind a n xs ys i d long fits behind =
    let same : a + (n + (i - a - n)) ≡ i = omega arith in
    let e : get_or (put_mid a n xs ys) i d ≡ get_or xs (a + (n + (i - a - n))) d = search (rules, places) in
    e ∙ ap (λ (k : ℕ). get_or xs k d) same

-- a list with a part of a file written over it from an offset on
pub get_or-copied : (at copied raw : ℕ) (xs file ys : List ℕ) (i : ℕ) → at + copied ≤ length xs → raw + copied ≤ length file → ys ≡ take (raw + copied - raw) (drop raw file)
    → get_or (put_mid at (at + copied - at) xs ys) i 0 ≡ cond (leb at i && ltb i (at + copied)) (get_or file (raw + (i - at)) 0) (get_or xs i 0)
get_or-copied at copied raw xs file ys i room within is =
    let part : at + copied - at ≡ copied = omega arith in
    let taken : raw + copied - raw ≡ copied = omega arith in
    let ys_is : ys ≡ take copied (drop raw file) = rw taken at is in
    let long : length ys ≡ copied = ap length ys_is ∙ simp (length-take, length-drop) (omega arith) in
    elim (cases_lt i at) [
      | inl before ↦
          let same : get_or (put_mid at copied xs ys) i 0 ≡ get_or xs i 0 = get_or-before at copied xs ys i 0 before (omega arith) in
          rw part (same ∙ grind (arith, nat_tests))
      | inr behind ↦
          elim (cases_lt i (at + copied)) [
            | inl before ↦
                let same : get_or (put_mid at copied xs ys) i 0 ≡ get_or ys (i - at) 0 = get_or-in at copied xs ys i 0 long room behind before in
                let of_file : get_or ys (i - at) 0 ≡ get_or file (raw + (i - at)) 0 = rw ys_is (get_or-take copied (drop raw file) (i - at) 0 (omega arith) ∙ get_or-drop raw file (i - at) 0) in
                rw part (same ∙ of_file ∙ grind (arith, nat_tests))
            | inr after ↦
                let same : get_or (put_mid at copied xs ys) i 0 ≡ get_or xs i 0 = get_or-behind at copied xs ys i 0 long room after in
                rw part (same ∙ grind (arith, nat_tests))
          ]
    ]

-- ---- sections over one another

-- a byte with what sections copy there written over it, the last one last
abbrev pub overlaid : List ℕ → List Section → ℕ → ℕ → ℕ
overlaid file [] at byte = byte
overlaid file (section ∷ sections) at byte = overlaid file sections at (cond (copies_to at section) (slice_index file (section.raw + (at - section.at))) byte)

-- sections in order copy nothing before they begin
overlaid_before : (file : List ℕ) (long alignment size before : ℕ) (sections : List Section) (at byte : ℕ) → at < before → InOrder long alignment size before sections → All (λ (section : Section). section.copied ≤ section.len) sections → overlaid file sections at byte ≡ byte
overlaid_before file long alignment size before [] at byte h order copies = refl
overlaid_before file long alignment size before (section ∷ sections) at byte h order copies =
    let one = order.0 in
    let none : copies_to at section ≡ false = let b = one.behind in grind (arith, nat_tests) in
    rw none (overlaid_before file long alignment size (section.at + section.len) sections at byte (omega (arith, one.behind)) order.1 (All-tail (λ (s : Section). s.copied ≤ s.len) section sections copies))

-- so the first that copies to an offset is the only one
overlaid_find : (file : List ℕ) (long alignment size before : ℕ) (sections : List Section) (at : ℕ) → InOrder long alignment size before sections → All (λ (section : Section). section.copied ≤ section.len) sections → overlaid file sections at 0 ≡ byte_in file at (find (copies_to at) sections)
overlaid_find file long alignment size before [] at order copies = refl
overlaid_find file long alignment size before (section ∷ sections) at order copies =
    let few : section.copied ≤ section.len = All-head (λ (s : Section). s.copied ≤ s.len) section sections copies in
    let rest = All-tail (λ (s : Section). s.copied ≤ s.len) section sections copies in
    elim (cases_Bool (copies_to at section)) [
      | inl holds ↦
          let below : at < section.at + section.len = grind (arith, nat_tests) in
          rw holds (overlaid_before file long alignment size (section.at + section.len) sections at (slice_index file (section.raw + (at - section.at))) below order.1 rest)
      | inr not_there ↦ rw not_there (overlaid_find file long alignment size (section.at + section.len) sections at order.1 rest)
    ]

pub overlaid_all : (file : List ℕ) (image : Fields) (at byte : ℕ) → image_of file ≡ Ok image → byte ≡ cond (ltb at image.headers) (slice_index file at) 0 → overlaid file image.sections at byte ≡ placed_byte image file at
unfolding placed_byte
overlaid_all file image at byte read is =
    let order = sections_in_order file image read in
    let sound = is_image file image read in
    let copies : All (λ (s : Section). s.copied ≤ s.len) image.sections = λ k d h. (sound.inside k d h).copied in
    elim (cases_Bool (ltb at image.headers)) [
      | inl front ↦
          let of_file : byte ≡ slice_index file at = rw front at is in
          rw front (overlaid_before file (length file) image.alignment image.size image.headers image.sections at byte (ltb-true at image.headers front) order copies ∙ of_file)
      | inr behind ↦
          let nothing : byte ≡ 0 = rw behind at is in
          rw (behind, nothing) (overlaid_find file (length file) image.alignment image.size image.headers image.sections at order copies)
    ]

-- ---- the parts lie in what is placed

pub pages_hold : (size : ℕ) → size ≤ in_pages size
pages_hold size = omega arith

module _ (file : List ℕ) (image : Fields) (read : image_of file ≡ Ok image) (i : ℕ) (d : Section) (below : i < length image.sections) where
  pub section_room : (room : ℕ) → image.size ≤ room → (get_or image.sections i d).at + (get_or image.sections i d).copied ≤ room
  section_room room fits = let place = (is_image file image read).inside i d below in omega (arith, place.end, place.copied)

  pub section_bytes : ((get_or image.sections i d).copied ≡ 0) ⊎ ((get_or image.sections i d).raw + (get_or image.sections i d).copied ≤ length file)
  section_bytes = (is_copied file image read).sections i d below

  pub section_over : (at byte new : ℕ) → new ≡ cond (copies_to at (get_or image.sections i d)) (slice_index file ((get_or image.sections i d).raw + (at - (get_or image.sections i d).at))) byte → overlaid file (drop i image.sections) at byte ≡ overlaid file (drop (i + 1) image.sections) at new
  section_over at byte new is = at_drop_more (λ (sections : List Section). overlaid file sections at byte) image.sections i d below ∙ ap (λ (b : ℕ). overlaid file (drop (i + 1) image.sections) at b) (sym is)

zeros_only : (n i : ℕ) → get_or {A = ℕ} (replicate n 0) i 0 ≡ 0
zeros_only zero i = refl
zeros_only (suc n) zero = refl
zeros_only (suc n) (suc i) = zeros_only n i

-- headers in front of zeros
pub get_or-headers : (headers n : ℕ) (file front zeros : List ℕ) (at : ℕ) → headers ≤ length file → front ≡ take headers file → zeros ≡ replicate n 0 → get_or (front ++ drop headers zeros) at 0 ≡ cond (ltb at headers) (slice_index file at) 0
get_or-headers headers n file front zeros at fits front_is zeros_are =
    let long : length front ≡ headers = ap length front_is ∙ length-take-le headers file fits in
    elim (cases_lt at headers) [
      | inl before ↦
          let same : get_or (front ++ drop headers zeros) at 0 ≡ get_or file at 0 = get_or_append_left front (drop headers zeros) 0 at (omega arith) ∙ rw front_is (get_or-take headers file at 0 before) in
          same ∙ grind (arith, nat_tests)
      | inr behind ↦
          let zero_there : get_or (front ++ drop headers zeros) at 0 ≡ 0 = get_or-append_right front (drop headers zeros) headers at 0 long behind ∙ get_or-drop headers zeros (at - headers) 0 ∙ rw zeros_are (zeros_only n (headers + (at - headers))) in
          zero_there ∙ grind (arith, nat_tests)
    ]

-- nothing is left to copy
pub placed_now : (file to : List ℕ) (sections : List Section) (i at placed : ℕ) → length sections ≤ i → at < length to → overlaid file (drop i sections) at (get_or to at 0) ≡ placed → slice_get to at ≡ Some placed
placed_now file to sections i at placed all inside h =
    slice_get-get_or to at 0 inside ∙ ap (λ (b : ℕ). Some b) (sym (at_drop_all (λ (left : List Section). overlaid file left at (get_or to at 0)) sections i all) ∙ h)
