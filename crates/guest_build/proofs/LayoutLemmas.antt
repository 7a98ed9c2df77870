-- The layout of an image: no sum passes 2^64, and each part stands behind the one before it.
use Rattle.std.proofs.Common.{◌≡◌, ◌≤◌, ◌<◌, ◌⊎◌, ℕ, ◌+◌, ◌-◌, ◌*◌, ◌%◌, ◌^◌, List, ◌++◌, length, Option, Some, None, refl, inl, inr, Bool, true, false, length-append, arith}
use Rattle.std.proofs.lemmas.Bool.{cases_Bool}
use Rattle.std.proofs.lemmas.List.{length-replicate}
use Rattle.std.specs.Prelude.{◌==◌, not}
use Rattle.guest_build.specs.Image.{headers_of, padded, zeros, raw_size, file_of, image_of}
use Rattle.guest_build.specs.Layout.{Sections, Layout, layout_of, has_sites}
use Rattle.guest_build.specs.Places.{sum, round_up, file_alignment, chosen, counted, section_count, headers_size, text_at, data_at}
use Rattle.guest_build.proofs.Sound.{filled, IsLaidOut}

-- ---- the file has all bytes of the sections

length_parts : (a b c d : List ℕ) → length (a ++ b ++ c ++ d) ≡ length a + length b + length c + length d
length_parts a b c d = omega (arith, length-append (a ++ b ++ c) d, length-append (a ++ b) c, length-append a b)

padded_holds : (size : ℕ) (bytes : List ℕ) → (length bytes ≤ length (padded size bytes)) × (size ≤ length (padded size bytes))
padded_holds size bytes =
    let long = length-append bytes (zeros (size - length bytes)) in
    let more : length (zeros (size - length bytes)) ≡ size - length bytes = length-replicate (size - length bytes) 0 in
    (omega arith, omega arith)

-- a file with its parts, which are as long as it is said
module _ (headers text cells table : List ℕ) (a b c d : ℕ) where
  abbrev file : List ℕ
  file = padded a headers ++ padded b text ++ padded c cells ++ padded d table

  parts_hold : (length text + length cells + length table ≤ length file) × (a + b + c + d ≤ length file)
  parts_hold =
      let whole = length_parts (padded a headers) (padded b text) (padded c cells) (padded d table) in
      let one = padded_holds a headers in
      let two = padded_holds b text in
      let three = padded_holds c cells in
      let four = padded_holds d table in
      (omega arith, omega arith)

file_holds : (entry : ℕ) (l : Layout) (all : Sections) → (length all.in_text.bytes + length all.in_data.bytes + length l.table ≤ length (file_of entry l all)) × (l.headers + raw_size l all.in_text.bytes + raw_size l all.in_data.bytes + raw_size l l.table ≤ length (file_of entry l all))
unfolding file_of
file_holds entry l all = parts_hold (headers_of entry l all) all.in_text.bytes all.in_data.bytes l.table l.headers (raw_size l all.in_text.bytes) (raw_size l all.in_data.bytes) (raw_size l l.table)

pub filled_in : (entry : ℕ) (all : Sections) → length (image_of entry all) < 2 ^ 63 → filled all < 2 ^ 63
unfolding image_of
filled_in entry all h = let parts = (file_holds entry (layout_of all) all).0 in omega arith

pub file_reaches : (entry : ℕ) (l : Layout) (all : Sections) → l.headers + raw_size l all.in_text.bytes + raw_size l all.in_data.bytes + raw_size l l.table ≤ length (file_of entry l all)
file_reaches entry l all = (file_holds entry l all).1

-- ---- the next multiple

pub record IsNext (unit n next : ℕ) : Type 0 where
  pub behind : n ≤ next
  pub near : next < n + 4096
  pub whole : next % unit ≡ 0

next_32 : (n : ℕ) → n < 2 ^ 63 + 2 ^ 62 → IsNext 32 n (round_up 32 n)
next_32 n h = record { behind = omega arith; near = omega arith; whole = omega arith }

next_512 : (n : ℕ) → n < 2 ^ 63 + 2 ^ 62 → IsNext 512 n (round_up 512 n)
next_512 n h = record { behind = omega arith; near = omega arith; whole = omega arith }

next_4096 : (n : ℕ) → n < 2 ^ 63 + 2 ^ 62 → IsNext 4096 n (round_up 4096 n)
next_4096 n h = record { behind = omega arith; near = omega arith; whole = omega arith }

next_of : (unit n : ℕ) → (unit ≡ 32) ⊎ (unit ≡ 4096) → n < 2 ^ 63 + 2 ^ 62 → IsNext unit n (round_up unit n)
next_of unit n (inl e) h = rw e (next_32 n h)
next_of unit n (inr e) h = rw e (next_4096 n h)

next_sum : (unit a b : ℕ) → (unit ≡ 32) ⊎ (unit ≡ 4096) → a + b < 2 ^ 63 + 2 ^ 62 → IsNext unit (a + b) (round_up unit (sum a b))
next_sum unit a b is h = let e : sum a b ≡ a + b = omega arith in rw e (next_of unit (a + b) is h)

pub next_in_file : (unit n : ℕ) → (unit ≡ 32) ⊎ (unit ≡ 4096) → n < 2 ^ 63 + 2 ^ 62 → IsNext (file_alignment unit) n (round_up (file_alignment unit) n)
next_in_file unit n (inl e) h = rw e (next_32 n h)
next_in_file unit n (inr e) h = rw e (next_512 n h)

-- where the parts stand, one behind another
record AreNext (unit headers_end text_len data_len table_len headers text_from data_from reloc_from size : ℕ) : Type 0 where
  pub headers_next : IsNext (file_alignment unit) headers_end headers
  pub text_next : IsNext unit headers text_from
  pub data_next : IsNext unit (text_from + text_len) data_from
  pub reloc_next : IsNext unit (data_from + data_len) reloc_from
  pub end_next : IsNext unit (reloc_from + table_len) size

are_next : (unit headers_end text_len data_len table_len headers text_from data_from reloc_from size : ℕ) → (unit ≡ 32) ⊎ (unit ≡ 4096) → headers_end ≤ 2 ^ 20 → text_len + data_len + table_len < 2 ^ 63
    → headers ≡ round_up (file_alignment unit) headers_end → text_from ≡ round_up unit headers → data_from ≡ round_up unit (sum text_from text_len) → reloc_from ≡ round_up unit (sum data_from data_len) → size ≡ round_up unit (sum reloc_from table_len)
    → AreNext unit headers_end text_len data_len table_len headers text_from data_from reloc_from size
are_next unit headers_end text_len data_len table_len headers text_from data_from reloc_from size is few fits e f g h i =
    let one : IsNext (file_alignment unit) headers_end headers = rw e (next_in_file unit headers_end is (omega arith)) in
    let two : IsNext unit headers text_from = rw f (next_of unit headers is (omega arith)) in
    let three : IsNext unit (text_from + text_len) data_from = rw g (next_sum unit text_from text_len is (omega arith)) in
    let four : IsNext unit (data_from + data_len) reloc_from = rw h (next_sum unit data_from data_len is (omega arith)) in
    let five : IsNext unit (reloc_from + table_len) size = rw i (next_sum unit reloc_from table_len is (omega arith)) in
    record { headers_next = one; text_next = two; data_next = three; reloc_next = four; end_next = five }

-- ---- the layout

unit_is : (wanted : Option ℕ) → (chosen wanted ≡ 32) ⊎ (chosen wanted ≡ 4096)
unit_is None = inr refl
unit_is (Some n) =
    elim (cases_Bool (n == 32)) [
      | inl e ↦ inl (rw e refl)
      | inr e ↦ inr (rw e refl)
    ]

pub few_sections : (data_len : ℕ) (moved : Bool) → section_count data_len moved ≤ 3
few_sections data_len moved = by (not (data_len == 0)) moved
  where
    by : (cells moved : Bool) → 1 + counted cells + counted moved ≤ 3
    by true true = omega arith
    by true false = omega arith
    by false true = omega arith
    by false false = omega arith

abbrev headers_end : Sections → ℕ
headers_end all = 0x148 + 40 * section_count (length all.in_data.bytes) (has_sites all)

is_unit : (all : Sections) → ((layout_of all).alignment ≡ 32) ⊎ ((layout_of all).alignment ≡ 4096)
unfolding layout_of
is_unit all = unit_is all.settings.alignment

next_parts : (all : Sections) → filled all < 2 ^ 63 → (let l = layout_of all in AreNext l.alignment (headers_end all) (length all.in_text.bytes) (length all.in_data.bytes) (length l.table) l.headers l.text_from l.data_from l.reloc_from l.size)
unfolding layout_of headers_size text_at data_at
next_parts all fits =
    let few = few_sections (length all.in_data.bytes) (has_sites all) in
    are_next _ (headers_end all) (length all.in_text.bytes) (length all.in_data.bytes) _ _ _ _ _ _ (unit_is all.settings.alignment) (omega arith) fits refl refl refl refl refl

pub laid_out : (all : Sections) → filled all < 2 ^ 63 → (layout_of all).size ≤ 2 ^ 20 → IsLaidOut all
laid_out all fits small =
    let l : Layout = layout_of all in
    let next = next_parts all fits in
    let text = next_in_file l.alignment (length all.in_text.bytes) (is_unit all) (omega arith) in
    let cells = next_in_file l.alignment (length all.in_data.bytes) (is_unit all) (omega arith) in
    let table = next_in_file l.alignment (length l.table) (is_unit all) (omega arith) in
    record {
      unit = is_unit all;
      size = small;
      headers = omega arith;
      text_behind = omega arith;
      data_behind = omega arith;
      reloc_behind = omega arith;
      end = omega arith;
      text_aligned = next.text_next.whole;
      data_aligned = next.data_next.whole;
      reloc_aligned = next.reloc_next.whole;
      text_fits = text.behind;
      data_fits = cells.behind;
      table_fits = table.behind;
      data_raw_is = omega arith;
      reloc_raw_is = omega arith;
    }
