-- Fields in the bytes of a page.
use Rattle.std.proofs.Common.{◌≡◌, ℕ, zero, suc, ◌+◌, ◌*◌, ◌-◌, ◌/◌, ◌≤◌, ◌<◌, Bool, true, false, List, [], ◌∷◌, ◌++◌, length, take, drop, refl, sym, ap, ◌∙◌, arith, add-one, get_or, length-append, length-drop}
use Rattle.std.specs.Prelude.{◌&&◌}
use Rattle.std.proofs.lemmas.List.{length-take}
use Rattle.std.proofs.Math.Seq.{drop-cons}
use Rattle.std.proofs.Math.ListN.{drop_of_length-le}
use borrow.Rule.Slice.PartMut.{put_mid}
use Rattle.std.proofs.lemmas.Bool.{false≢true}
use Rattle.std.proofs.lemmas.Bool.Decides.{nat_tests}
use Rattle.uh_base.specs.LittleEndian.{low_bytes}
use Rattle.system_tables.specs.declared.fields.Field.{Field}
use Rattle.uh_base.specs.Bytes.{plus}
use Rattle.system_tables.specs.Fields.{fits, all_fit, with_field, with_fields, pointer, slot_pointers}

pub long_low : (count n : ℕ) → length (low_bytes count n) ≡ count
unfolding low_bytes
long_low zero n = refl
long_low (suc count) n = let h = long_low count (n / 256) in omega arith

pub both : (a b : Bool) → (a && b) ≡ true → (a ≡ true) × (b ≡ true)
both true b h = (refl, h)
both false b h = absurd (false≢true h)

room_of : (field : Field) → fits field ≡ true → field.offset + field.width ≤ 4096
room_of field h = grind (arith, nat_tests, h)

pub field_spliced : (page part : List ℕ) (field : Field) → length page ≡ 4096 → fits field ≡ true
    → part ≡ low_bytes (length (take (field.offset + field.width - field.offset) (drop field.offset page))) field.value
    → put_mid field.offset (field.offset + field.width - field.offset) page part ≡ with_field page field
unfolding with_field
field_spliced page part field long h p =
    let room = room_of field h in
    let k : field.offset + field.width - field.offset ≡ field.width = omega arith in
    let n : length (take (field.offset + field.width - field.offset) (drop field.offset page)) ≡ field.width = simp (k, length-take, length-drop) (omega arith) in
    let l = long_low field.width field.value in
    let e : part ≡ low_bytes field.width field.value = p ∙ ap (λ count. low_bytes count field.value) n in
    rw (e, k, l) refl

pub long_field : (page : List ℕ) (field : Field) → length page ≡ 4096 → fits field ≡ true → length (with_field page field) ≡ 4096
unfolding with_field
long_field page field long h =
    let l = long_low field.width field.value in
    let room = room_of field h in
    simp (length-append, length-take, length-drop, l) (omega arith)

pub long_fields : (page : List ℕ) (fields : List Field) → length page ≡ 4096 → all_fit fields ≡ true → length (with_fields page fields) ≡ 4096
unfolding with_fields all_fit
long_fields page [] long h = long
long_fields page (field ∷ fields) long h =
    let parts = both (fits field) (all_fit fields) h in
    long_fields (with_field page field) fields (long_field page field long parts.0) parts.1

-- a field more
pub fit_more : (fields : List Field) (i : ℕ) (d : Field) → i < length fields → all_fit (drop i fields) ≡ true
    → (fits (get_or fields i d) ≡ true) × (all_fit (drop (i + 1) fields) ≡ true)
unfolding all_fit
fit_more fields i d h w =
    let next : drop i fields ≡ get_or fields i d ∷ drop (i + 1) fields = drop-cons fields i d h ∙ ap (λ k. get_or fields i d ∷ drop k fields) (sym (add-one i)) in
    both (fits (get_or fields i d)) (all_fit (drop (i + 1) fields)) (ap all_fit (sym next) ∙ w)

pub fields_more : (fields : List Field) (page new whole : List ℕ) (i : ℕ) (d : Field) → i < length fields → new ≡ with_field page (get_or fields i d)
    → with_fields page (drop i fields) ≡ whole → with_fields new (drop (i + 1) fields) ≡ whole
unfolding with_fields
fields_more fields page new whole i d h e w =
    let next : drop i fields ≡ get_or fields i d ∷ drop (i + 1) fields = drop-cons fields i d h ∙ ap (λ k. get_or fields i d ∷ drop k fields) (sym (add-one i)) in
    ap (λ p. with_fields p (drop (i + 1) fields)) e ∙ ap (with_fields page) (sym next) ∙ w

-- a slot more
pub slots_more : (page : List ℕ) (at slots first count : ℕ) → 0 < count
    → with_fields (with_field page (pointer at (plus slots (16 * first)))) (slot_pointers (at + 8) slots (first + 1) (count - 1)) ≡ with_fields page (slot_pointers at slots first count)
unfolding with_fields slot_pointers
slots_more page at slots first zero h = absurd (omega arith)
slots_more page at slots first (suc count) h = let e : suc count - 1 ≡ count = omega arith in rw e refl

pub no_slots : (page : List ℕ) (at slots first count : ℕ) → count ≤ 0 → page ≡ with_fields page (slot_pointers at slots first count)
unfolding with_fields slot_pointers
no_slots page at slots first zero h = refl
no_slots page at slots first (suc count) h = absurd (omega arith)

pub no_fields : (fields : List Field) (page whole : List ℕ) (i : ℕ) → length fields ≤ i → with_fields page (drop i fields) ≡ whole → page ≡ whole
unfolding with_fields
no_fields fields page whole i h w = ap (with_fields page) (sym (drop_of_length-le fields h)) ∙ w

pub fields_append : (page : List ℕ) (fields more : List Field) → with_fields page (fields ++ more) ≡ with_fields (with_fields page fields) more
unfolding with_fields
fields_append page [] more = refl
fields_append page (field ∷ fields) more = fields_append (with_field page field) fields more
