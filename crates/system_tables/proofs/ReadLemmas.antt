-- Fields that were written, and what else stays.
use Rattle.std.proofs.Common.{◌≡◌, ℕ, zero, suc, ◌+◌, ◌*◌, ◌-◌, ◌/◌, ◌^◌, ◌≤◌, ◌<◌, Bool, true, false, List, [], ◌∷◌, ◌++◌, length, take, drop, refl, sym, ap, ◌∙◌, arith, lit≤, get_or}
use Rattle.std.specs.Prelude.{◌&&◌, ◌||◌, nat_le, nat_lt, slice_index}
use Rattle.std.proofs.lemmas.Bool.{false≢true}
use Rattle.std.proofs.lemmas.Bool.Decides.{nat_tests}
use Rattle.std.proofs.lemmas.Grind.{common_steps}
use Rattle.std.proofs.lemmas.List.{places, length-take, drop_at, drop-take, drop-drop, drop-append-le}
use Rattle.guest_memory.specs.Lists.{written_over}
use Rattle.uh_base.specs.LittleEndian.{low_bytes, little_endian}
use Rattle.uh_base.specs.Crc.{crc_of}
use Rattle.system_tables.specs.declared.fields.Field.{Field}
use Rattle.system_tables.specs.Fields.{fits, all_fit, with_field, with_fields, with_crc, crc_field, slot_pointers}
use Rattle.system_tables.specs.Tables.{boot_fields, boot_cleared, moved_fields, moved}
use Rattle.system_tables.specs.Laws.{in_order, HasCrc, HasField, is_in, is_in_some, FieldsReadBack, NumbersReadBack, OthersStay, CrcsAreWrittenAlone, CrcsStayRight}
use Rattle.system_tables.proofs.FieldLemmas.{long_low, long_field, long_fields, both}
use Rattle.system_tables.proofs.LawLemmas.{read_back, low_kept, crc_right, crc_low, crc_still, long_crc}

room_of : (field : Field) → fits field ≡ true → field.offset + field.width ≤ 4096
room_of field h = grind (arith, nat_tests, h)

behind : (from offset : ℕ) (rest : Bool) → (nat_le from offset && rest) ≡ true → (from ≤ offset) × (rest ≡ true)
behind from offset rest h = let p = both (nat_le from offset) rest h in (grind (arith, nat_tests, p.0), p.1)

-- what lies before all fields stays
before_kept : (page : List ℕ) (fields : List Field) (from end m : ℕ) → length page ≡ 4096 → all_fit fields ≡ true → in_order from end fields ≡ true → m ≤ from
    → take m (with_fields page fields) ≡ take m page
unfolding with_fields all_fit in_order
before_kept page [] from end m long fit order low = refl
before_kept page (field ∷ fields) from end m long fit order low =
    let f = both (fits field) (all_fit fields) fit in
    let o = behind from field.offset (in_order (field.offset + field.width) end fields) order in
    let room = room_of field f.0 in
    let here = o.0 in
    before_kept (with_field page field) fields (field.offset + field.width) end m (long_field page field long f.0) f.1 o.1 (omega arith)
    ∙ low_kept page field m long (omega arith) (omega arith)

has_written : (page : List ℕ) (field : Field) → length page ≡ 4096 → fits field ≡ true → HasField (with_field page field) field
unfolding with_field
has_written page field long fit =
    let room = room_of field fit in
    read_back page (low_bytes field.width field.value) field.offset field.width (long_low field.width field.value) (omega arith)

-- a field is there as long as what lies up to its end stays
still_has : (page new : List ℕ) (field : Field) → take (field.offset + field.width) new ≡ take (field.offset + field.width) page → HasField page field → HasField new field
still_has page new field same has =
    sym (drop-take field.offset field.width new) ∙ ap (drop field.offset) same ∙ drop-take field.offset field.width page ∙ has

pub fields_back : FieldsReadBack
unfolding with_fields all_fit in_order
fields_back page [] from end place field long fit order e = grind arith
fields_back page (first ∷ fields) from end zero field long fit order e =
    let f = both (fits first) (all_fit fields) fit in
    let o = behind from first.offset (in_order (first.offset + first.width) end fields) order in
    let same : first ≡ field = cc in
    ap (λ (k : Field). take k.width (drop k.offset (with_fields (with_field page first) fields))) (sym same)
    ∙ still_has (with_field page first) (with_fields (with_field page first) fields) first
    (before_kept (with_field page first) fields (first.offset + first.width) end (first.offset + first.width) (long_field page first long f.0) f.1 o.1 (omega arith))
    (has_written page first long f.0)
    ∙ ap (λ (k : Field). low_bytes k.width k.value) same
fields_back page (first ∷ fields) from end (suc place) field long fit order e =
    let f = both (fits first) (all_fit fields) fit in
    let o = behind from first.offset (in_order (first.offset + first.width) end fields) order in
    fields_back (with_field page first) fields (first.offset + first.width) end place field (long_field page first long f.0) f.1 o.1 e

-- low bytes make the number
number_of_low : (n v : ℕ) → v < 256 ^ n → little_endian (low_bytes n v) ≡ v
unfolding little_endian low_bytes
number_of_low zero v h = omega arith
number_of_low (suc n) v h =
    let power : 256 ^ suc n ≡ 256 * 256 ^ n = grind (arith, common_steps) in
    let rest = number_of_low n (v / 256) (omega arith) in omega arith

pub numbers_back : NumbersReadBack
numbers_back page field small has = ap little_endian has ∙ number_of_low field.width field.value small

-- a byte of no field
kept_by : (xs ys : List ℕ) (at width i : ℕ) → length ys ≡ width → at + width ≤ length xs → (nat_le at i && nat_lt i (at + width)) ≡ false
    → get_or (written_over xs at ys) i 0 ≡ get_or xs i 0
kept_by xs ys at width i long room out = grind (arith, places, nat_tests)

one_stays : (page : List ℕ) (field : Field) (i : ℕ) → length page ≡ 4096 → fits field ≡ true → is_in field i ≡ false → slice_index (with_field page field) i ≡ slice_index page i
unfolding with_field
one_stays page field i long fit out =
    let room = room_of field fit in
    kept_by page (low_bytes field.width field.value) field.offset field.width i (long_low field.width field.value) (omega arith) out

neither : (a b : Bool) → (a || b) ≡ false → (a ≡ false) × (b ≡ false)
neither true b h = absurd (false≢true (sym h))
neither false b h = (refl, h)

pub others_stay : OthersStay
unfolding with_fields all_fit is_in_some
others_stay page [] i long fit out = refl
others_stay page (field ∷ fields) i long fit out =
    let f = both (fits field) (all_fit fields) fit in
    let o = neither (is_in field i) (is_in_some fields i) out in
    others_stay (with_field page field) fields i (long_field page field long f.0) f.1 o.1 ∙ one_stays page field i long f.0 o.0

pub crc_alone : CrcsAreWrittenAlone
unfolding with_crc
crc_alone page at size i long room out =
    let f0 = crc_field at 0 in
    let z : List ℕ = with_field page f0 in
    let fit : fits f0 ≡ true = grind (arith, nat_tests, room) in
    let lz : length z ≡ 4096 = long_field page f0 long fit in
    one_stays z (crc_field at (crc_of (take size (drop at z)))) i lz (grind (arith, nat_tests, room)) out ∙ one_stays page f0 i long fit out

-- a part from an index on
over_high : (q ys : List ℕ) (i k m : ℕ) → i ≡ m + k → i ≤ length q → drop m (written_over q i ys) ≡ written_over (drop m q) k ys
over_high q ys i k m e room =
    let l : length (take i q) ≡ i = simp length-take (omega arith) in
    let t : drop m (take i q) ≡ take k (drop m q) = ap (λ n. drop m (take n q)) e ∙ drop-take m k q in
    let d : drop i q ≡ drop k (drop m q) = ap (λ n. drop n q) e ∙ sym (drop-drop k m q) in
    drop-append-le m (take i q) (ys ++ drop (length ys) (drop i q)) (omega arith)
    ∙ ap (λ xs. xs ++ (ys ++ drop (length ys) (drop i q))) t
    ∙ ap (λ xs. take k (drop m q) ++ (ys ++ drop (length ys) xs)) d

-- a CRC in the high part stays right where that part stays
high_still : (p q : List ℕ) → length p ≡ 4096 → length q ≡ 4096 → drop 256 q ≡ drop 256 p → HasCrc 0x100 136 p → HasCrc 0x100 136 q
unfolding with_field
high_still p q lp lq same h =
    let field : drop 272 q ≡ drop 272 p = sym (drop-drop 16 256 q) ∙ ap (drop 16) same ∙ drop-drop 16 256 p in
    let zq = over_high q (low_bytes 4 0) 272 16 256 (omega arith) (omega arith) in
    let zp = over_high p (low_bytes 4 0) 272 16 256 (omega arith) (omega arith) in
    let zeroed : drop 256 (written_over q 272 (low_bytes 4 0)) ≡ drop 256 (written_over p 272 (low_bytes 4 0)) = zq ∙ ap (λ xs. written_over xs 16 (low_bytes 4 0)) same ∙ sym zp in
    ap (take 4) field ∙ h ∙ ap (λ xs. low_bytes 4 (crc_of (take 136 xs))) (sym zeroed)

-- whether all fields end before an offset
unfoldable all_below : ℕ → List Field → Bool
all_below m [] = true
all_below m (field ∷ fields) = nat_le (field.offset + field.width) m && all_below m fields

high_kept : (page : List ℕ) (field : Field) (m : ℕ) → length page ≡ 4096 → field.offset + field.width ≤ m → m ≤ 4096 → drop m (with_field page field) ≡ drop m page
unfolding with_field
high_kept page field m long below room =
    let ys : List ℕ = low_bytes field.width field.value in
    let l : length ys ≡ field.width = long_low field.width field.value in
    let n : length (take field.offset page) ≡ field.offset = simp length-take (omega arith) in
    let rest : List ℕ = drop (length ys) (drop field.offset page) in
    let k : ℕ = m - field.offset - length ys in
    let j : m ≡ field.offset + (m - field.offset) = omega arith in
    let h : m - field.offset ≡ length ys + k = omega arith in
    let w : field.offset + (length ys + k) ≡ m = omega arith in
    ap (λ x. drop x (written_over page field.offset ys)) j
    ∙ sym (drop-drop (m - field.offset) field.offset (written_over page field.offset ys))
    ∙ ap (drop (m - field.offset)) (drop_at (take field.offset page) (ys ++ rest) field.offset n)
    ∙ ap (λ x. drop x (ys ++ rest)) h ∙ sym (drop-drop k (length ys) (ys ++ rest)) ∙ ap (drop k) (drop_at ys rest (length ys) refl)
    ∙ drop-drop k (length ys) (drop field.offset page) ∙ drop-drop (length ys + k) field.offset page ∙ ap (λ x. drop x page) w

fields_high : (page : List ℕ) (fields : List Field) (m : ℕ) → length page ≡ 4096 → all_fit fields ≡ true → all_below m fields ≡ true → m ≤ 4096 → drop m (with_fields page fields) ≡ drop m page
unfolding with_fields all_fit all_below
fields_high page [] m long fit below room = refl
fields_high page (field ∷ fields) m long fit below room =
    let f = both (fits field) (all_fit fields) fit in
    let o = both (nat_le (field.offset + field.width) m) (all_below m fields) below in
    fields_high (with_field page field) fields m (long_field page field long f.0) f.1 o.1 room
    ∙ high_kept page field m long (grind (arith, nat_tests, o.0)) room

crc_high : (page : List ℕ) (at size m : ℕ) → length page ≡ 4096 → at + 24 ≤ m → m ≤ 4096 → drop m (with_crc page at size) ≡ drop m page
unfolding with_crc
crc_high page at size m long low room =
    let f0 = crc_field at 0 in
    let z : List ℕ = with_field page f0 in
    let lz : length z ≡ 4096 = long_field page f0 long (grind (arith, nat_tests, low, room)) in
    high_kept z (crc_field at (crc_of (take size (drop at z)))) m lz (omega arith) room ∙ high_kept page f0 m long (omega arith) room

boot_fit : all_fit boot_fields ≡ true
unfolding all_fit boot_fields
boot_fit = refl

boot_below : all_below 256 boot_fields ≡ true
unfolding all_below boot_fields
boot_below = refl

moved_fit : (system slots : ℕ) → all_fit (moved_fields system slots) ≡ true
unfolding all_fit moved_fields slot_pointers
moved_fit system slots = refl

pub crcs_after : CrcsStayRight
unfolding boot_cleared moved
crcs_after page long =
    let cleared = with_fields page boot_fields in
    let lc : length cleared ≡ 4096 = long_fields page boot_fields long boot_fit in
    let lb : length (with_crc cleared 0 120) ≡ 4096 = long_crc cleared 0 120 lc (lit≤ tt) in
    record {
      cleared = crc_right cleared 0 120 lc (lit≤ tt);
      runtime = high_still page (with_crc cleared 0 120) long lb (crc_high cleared 0 120 256 lc (lit≤ tt) (lit≤ tt) ∙ fields_high page boot_fields 256 long boot_fit boot_below (lit≤ tt));
      moved_system = λ system slots. system_moved system slots;
      moved_runtime = λ system slots. runtime_moved system slots;
    }
  where
    turned : ℕ → ℕ → List ℕ
    turned system slots = with_fields page (moved_fields system slots)

    long_turned : (system slots : ℕ) → length (with_crc (turned system slots) 0 120) ≡ 4096
    long_turned system slots = long_crc (turned system slots) 0 120 (long_fields page (moved_fields system slots) long (moved_fit system slots)) (lit≤ tt)

    system_moved : (system slots : ℕ) → HasCrc 0 120 (with_crc (with_crc (turned system slots) 0 120) 0x100 136)
    system_moved system slots =
        crc_still (with_crc (turned system slots) 0 120) (with_crc (with_crc (turned system slots) 0 120) 0x100 136) (long_turned system slots)
        (long_crc (with_crc (turned system slots) 0 120) 0x100 136 (long_turned system slots) (lit≤ tt)) (crc_low (with_crc (turned system slots) 0 120) 0x100 136 256 (long_turned system slots) (lit≤ tt) (lit≤ tt))
        (crc_right (turned system slots) 0 120 (long_fields page (moved_fields system slots) long (moved_fit system slots)) (lit≤ tt))

    runtime_moved : (system slots : ℕ) → HasCrc 0x100 136 (with_crc (with_crc (turned system slots) 0 120) 0x100 136)
    runtime_moved system slots = crc_right (with_crc (turned system slots) 0 120) 0x100 136 (long_turned system slots) (lit≤ tt)
