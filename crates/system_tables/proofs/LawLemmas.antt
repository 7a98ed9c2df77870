-- The tables are apart, and their CRCs right.
use Rattle.std.proofs.Common.{◌≡◌, ℕ, ◌+◌, ◌≤◌, true, List, ◌++◌, length, take, drop, refl, sym, ap, ◌∙◌, arith, lit≤, append_assoc, length-append, length-drop}
use Rattle.std.proofs.lemmas.Bool.Decides.{nat_tests}
use Rattle.std.proofs.lemmas.List.{length-take, length-replicate, take_at, drop_at, drop-take, take-take, take-append-le, take-append-drop, drop-append-le}
use Rattle.page_alloc.specs.declared.layout.Layout.{Layout}
use Rattle.guest_memory.specs.Lists.{written_over}
use Rattle.uh_base.specs.LittleEndian.{low_bytes}
use Rattle.uh_base.specs.Crc.{crc_of}
use Rattle.system_tables.specs.declared.fields.Field.{Field}
use Rattle.system_tables.specs.Fields.{all_fit, with_field, with_fields, with_crc, crc_field, slot_pointers}
use Rattle.system_tables.specs.Tables.{system_table, runtime_table, vendor_text, units_from, boot_table, console, mode, zeros, system_page, boot_page}
use Rattle.system_tables.specs.Laws.{in_order, spare_crc, TablesAreApart, HasCrc, CrcsAreRight}
use Rattle.system_tables.proofs.FieldLemmas.{long_low, long_field, long_fields}

pub tables_apart : TablesAreApart
unfolding in_order spare_crc system_table runtime_table units_from boot_table console mode slot_pointers
tables_apart layout = record {
  system = record { in_order = refl; spare_crc = refl };
  runtime = record { in_order = refl; spare_crc = refl };
  vendor = refl;
  boot = record { in_order = refl; spare_crc = refl };
  console = refl;
  mode = refl;
}

-- what is written over a part is there, and a second time it is as if the first had not been
pub read_back : (xs ys : List ℕ) (i n : ℕ) → length ys ≡ n → i ≤ length xs → take n (drop i (written_over xs i ys)) ≡ ys
read_back xs ys i n l h =
    let first : drop i (written_over xs i ys) ≡ ys ++ drop (length ys) (drop i xs) = drop_at (take i xs) (ys ++ drop (length ys) (drop i xs)) i (simp length-take (omega arith)) in
    rw first (take_at ys (drop (length ys) (drop i xs)) n l)

pub over_twice : (xs ys zs : List ℕ) (i : ℕ) → length ys ≡ length zs → i ≤ length xs → written_over (written_over xs i ys) i zs ≡ written_over xs i zs
over_twice xs ys zs i l h =
    let long : length (take i xs) ≡ i = simp length-take (omega arith) in
    let low : take i (written_over xs i ys) ≡ take i xs = take_at (take i xs) (ys ++ drop (length ys) (drop i xs)) i long in
    let high : drop i (written_over xs i ys) ≡ ys ++ drop (length ys) (drop i xs) = drop_at (take i xs) (ys ++ drop (length ys) (drop i xs)) i long in
    let rest : drop (length zs) (ys ++ drop (length ys) (drop i xs)) ≡ drop (length ys) (drop i xs) = drop_at ys (drop (length ys) (drop i xs)) (length zs) l in
    rw (low, high, rest) (ap (λ n. take i xs ++ (zs ++ drop n (drop i xs))) l)

-- a CRC that was written is right
pub crc_right : (page : List ℕ) (at size : ℕ) → length page ≡ 4096 → at + 24 ≤ 4096 → HasCrc at size (with_crc page at size)
unfolding with_crc with_field
crc_right page at size long room =
    let f0 = crc_field at 0 in
    let z : List ℕ = with_field page f0 in
    let crc = crc_of (take size (drop at z)) in
    let l0 = long_low 4 0 in
    let lc = long_low 4 crc in
    let lz : length z ≡ 4096 = long_field page f0 long (grind (arith, nat_tests, room)) in
    let again : with_field (with_field z (crc_field at crc)) f0 ≡ z =
    over_twice z (low_bytes 4 crc) (low_bytes 4 0) (at + 16) (lc ∙ sym l0) (omega arith)
    ∙ over_twice page (low_bytes 4 0) (low_bytes 4 0) (at + 16) refl (omega arith) in
    read_back z (low_bytes 4 crc) (at + 16) 4 lc (omega arith)
    ∙ ap (λ p. low_bytes 4 (crc_of (take size (drop at p)))) (sym again)

pub long_crc : (page : List ℕ) (at size : ℕ) → length page ≡ 4096 → at + 24 ≤ 4096 → length (with_crc page at size) ≡ 4096
unfolding with_crc
long_crc page at size long room =
    let f0 = crc_field at 0 in
    let z : List ℕ = with_field page f0 in
    let lz : length z ≡ 4096 = long_field page f0 long (grind (arith, nat_tests, room)) in
    long_field z (crc_field at (crc_of (take size (drop at z)))) lz (grind (arith, nat_tests, room))

-- what lies before a field stays
pub low_kept : (page : List ℕ) (field : Field) (m : ℕ) → length page ≡ 4096 → m ≤ field.offset → field.offset ≤ 4096 → take m (with_field page field) ≡ take m page
unfolding with_field
low_kept page field m long before room =
    let l : length (take field.offset page) ≡ field.offset = simp length-take (omega arith) in
    take-append-le m (take field.offset page) _ (omega arith) ∙ take-take m field.offset page before

pub crc_low : (page : List ℕ) (at size m : ℕ) → length page ≡ 4096 → at + 24 ≤ 4096 → m ≤ at → take m (with_crc page at size) ≡ take m page
unfolding with_crc
crc_low page at size m long room before =
    let f0 = crc_field at 0 in
    let z : List ℕ = with_field page f0 in
    let lz : length z ≡ 4096 = long_field page f0 long (grind (arith, nat_tests, room)) in
    low_kept z (crc_field at (crc_of (take size (drop at z)))) m lz (omega arith) (omega arith) ∙ low_kept page f0 m long (omega arith) (omega arith)

pub over_front : (a b ys : List ℕ) (i : ℕ) → i + length ys ≤ length a → written_over (a ++ b) i ys ≡ written_over a i ys ++ b
over_front a b ys i room =
    let t : take i (a ++ b) ≡ take i a = take-append-le i a b (omega arith) in
    let d : drop i (a ++ b) ≡ drop i a ++ b = drop-append-le i a b (omega arith) in
    let e : drop (length ys) (drop i a ++ b) ≡ drop (length ys) (drop i a) ++ b = drop-append-le (length ys) (drop i a) b (simp length-drop (omega arith)) in
    rw (t, d, e) (ap (λ xs. take i a ++ xs) (sym (append_assoc ys (drop (length ys) (drop i a)) b)) ∙ sym (append_assoc (take i a) (ys ++ drop (length ys) (drop i a)) b))

pub over_low : (q ys : List ℕ) (i m : ℕ) → i + length ys ≤ m → m ≤ length q → take m (written_over q i ys) ≡ written_over (take m q) i ys
over_low q ys i m room long =
    let l : length (take m q) ≡ m = simp length-take (omega arith) in
    let lw : length (written_over (take m q) i ys) ≡ m = simp (length-append, length-take, length-drop) (omega arith) in
    ap (λ xs. take m (written_over xs i ys)) (sym (take-append-drop m q))
    ∙ ap (take m) (over_front (take m q) (drop m q) ys i (omega arith))
    ∙ take_at (written_over (take m q) i ys) (drop m q) m lw

-- a CRC in the low part stays right where that part stays
pub crc_still : (p q : List ℕ) → length p ≡ 4096 → length q ≡ 4096 → take 256 q ≡ take 256 p → HasCrc 0 120 p → HasCrc 0 120 q
unfolding with_field
crc_still p q lp lq same h =
    let few : take 20 q ≡ take 20 p = sym (take-take 20 256 q (lit≤ tt)) ∙ ap (take 20) same ∙ take-take 20 256 p (lit≤ tt) in
    let all : take 120 q ≡ take 120 p = sym (take-take 120 256 q (lit≤ tt)) ∙ ap (take 120) same ∙ take-take 120 256 p (lit≤ tt) in
    let l0 = long_low 4 0 in
    let zq = over_low q (low_bytes 4 0) 16 120 (omega arith) (omega arith) in
    let zp = over_low p (low_bytes 4 0) 16 120 (omega arith) (omega arith) in
    let zeroed : take 120 (written_over q 16 (low_bytes 4 0)) ≡ take 120 (written_over p 16 (low_bytes 4 0)) = zq ∙ ap (λ xs. written_over xs 16 (low_bytes 4 0)) all ∙ sym zp in
    sym (drop-take 16 4 q) ∙ ap (drop 16) few ∙ drop-take 16 4 p ∙ h ∙ ap (λ xs. low_bytes 4 (crc_of xs)) (sym zeroed)

long_zeros : length zeros ≡ 4096
unfolding zeros
long_zeros = length-replicate {A = ℕ} 4096 0

system_fit : (layout : Layout) → all_fit (system_table layout ++ (runtime_table layout.slots ++ vendor_text)) ≡ true
unfolding all_fit system_table runtime_table units_from slot_pointers
system_fit layout = refl

boot_fit : (layout : Layout) → all_fit (boot_table layout.slots ++ (console layout ++ mode)) ≡ true
unfolding all_fit boot_table console mode slot_pointers
boot_fit layout = refl

pub crcs_right : CrcsAreRight
unfolding system_page boot_page
crcs_right layout =
    let system = with_fields zeros (system_table layout ++ (runtime_table layout.slots ++ vendor_text)) in
    let boot = with_fields zeros (boot_table layout.slots ++ (console layout ++ mode)) in
    let ls : length system ≡ 4096 = long_fields zeros (system_table layout ++ (runtime_table layout.slots ++ vendor_text)) long_zeros (system_fit layout) in
    let lb : length boot ≡ 4096 = long_fields zeros (boot_table layout.slots ++ (console layout ++ mode)) long_zeros (boot_fit layout) in
    let first = with_crc system 0 120 in
    let lf : length first ≡ 4096 = long_crc system 0 120 ls (lit≤ tt) in
    record {
      system = crc_still first (with_crc first 0x100 136) lf (long_crc first 0x100 136 lf (lit≤ tt)) (crc_low first 0x100 136 256 lf (lit≤ tt) (lit≤ tt)) (crc_right system 0 120 ls (lit≤ tt));
      runtime = crc_right first 0x100 136 lf (lit≤ tt);
      boot = crc_right boot 0 376 lb (lit≤ tt);
    }
