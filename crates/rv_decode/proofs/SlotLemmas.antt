-- Only the rows of a word's slot can hold of it.
use Rattle.std.proofs.Common.{◌≡◌, ℕ, zero, suc, ◌+◌, ◌*◌, ◌/◌, ◌%◌, ◌^◌, ◌-◌, ◌<◌, ◌≤◌, Bool, true, false, ◌&&◌, List, [], ◌∷◌, Some, None, refl, sym, ◌∙◌, ap, arith, bit_and, map, take, drop, get_or, length}
use Rattle.std.specs.Prelude.{nat_le, nat_lt, cond}
use Rattle.std.proofs.lemmas.Nat.{and_mask, and_block}
use Rattle.std.proofs.lemmas.List.{take-map, drop-map, drop-drop}
use Rattle.std.proofs.lemmas.Bool.{eq-eqb}
use Rattle.std.proofs.lemmas.Bool.Decides.{nat_tests}
use Rattle.rv_decode.specs.Rows.{Row, Pattern, rows, holds, holds_row, reads}
use Rattle.rv_decode.specs.Slots.{slot_pattern}
use Rattle.rv_decode.specs.Means.{first}
use Rattle.rv_decode.specs.Views.{row_of}
use Rattle.rv_decode.specs.declared.table.TheConstants.{ROWS, FROM, TO}
use Rattle.rv_decode.proofs.RowLemmas.{conflict, conflict_apart, rows-are, and_split}

-- none of these rows can hold of a word with the pattern
abbrev pub all_conflict : Pattern → List Row → Bool
all_conflict p [] = true
all_conflict p (r ∷ rs) = conflict p r.is && all_conflict p rs

-- a slot's part of the table is in order, and no row before or behind it can hold
abbrev pub slot_is_right : List Row → ℕ → ℕ → ℕ → Bool
slot_is_right rs slot low high =
    nat_le low high && (nat_le high 97 && (all_conflict (slot_pattern slot) (take low rs) && all_conflict (slot_pattern slot) (drop high rs)))

abbrev pub slots_are_right : List Row → ℕ → List ℕ → List ℕ → Bool
slots_are_right rs slot [] [] = true
slots_are_right rs slot [] (high ∷ highs) = false
slots_are_right rs slot (low ∷ lows) [] = false
slots_are_right rs slot (low ∷ lows) (high ∷ highs) = slot_is_right rs slot low high && slots_are_right rs (slot + 1) lows highs

pub slots-are-right : slots_are_right rows 0 FROM TO ≡ true
unfolding rows
slots-are-right = refl

-- what the test says of one slot
slot_right_at : (rs : List Row) (slot k at : ℕ) (lows highs : List ℕ) → at ≡ slot + k → slots_are_right rs slot lows highs ≡ true → k < length lows → slot_is_right rs at (get_or lows k 0) (get_or highs k 0) ≡ true
slot_right_at rs slot k at [] highs e h below = absurd (omega arith)
slot_right_at rs slot k at (low ∷ lows) [] e h below = cc
slot_right_at rs slot zero at (low ∷ lows) (high ∷ highs) e h below =
    let same : at ≡ slot = omega arith in
    let parts = and_split (slot_is_right rs slot low high) _ h in ap (λ s. slot_is_right rs s low high) same ∙ parts.0
slot_right_at rs slot (suc k) at (low ∷ lows) (high ∷ highs) e h below =
    let parts = and_split (slot_is_right rs slot low high) _ h in slot_right_at rs (slot + 1) k at lows highs (omega arith) parts.1 (omega arith)

right_at : (slot : ℕ) → slot < 280 → slot_is_right rows slot (get_or FROM slot 0) (get_or TO slot 0) ≡ true
right_at slot below = slot_right_at rows 0 slot slot FROM TO (omega arith) slots-are-right below

-- a row in conflict with what a word has doesn't hold of it
no_row : (p : Pattern) (r : Row) (w : ℕ) → conflict p r.is ≡ true → holds p w ≡ true → holds_row r w ≡ false
no_row p r w c h = elim (holds r.is w) as (λ v. holds r.is w ≡ v → holds_row r w ≡ false) [
  | true ↦ λ t. absurd (conflict_apart p r.is w c h t)
  | false ↦ λ f. rw f refl
] refl

none_first : (p : Pattern) (rs : List Row) (w : ℕ) → all_conflict p rs ≡ true → holds p w ≡ true → first rs w ≡ None
none_first p [] w c h = refl
none_first p (r ∷ rs) w c h =
    let s = and_split _ _ c in rw (no_row p r w s.0 h) (none_first p rs w s.1 h)

-- rows in conflict can be left out at the front and at the end
front_out : (p : Pattern) (n : ℕ) (rs : List Row) (w : ℕ) → all_conflict p (take n rs) ≡ true → holds p w ≡ true → first rs w ≡ first (drop n rs) w
front_out p zero rs w c h = refl
front_out p (suc n) [] w c h = refl
front_out p (suc n) (r ∷ rs) w c h =
    let s = and_split _ _ c in rw (no_row p r w s.0 h) (front_out p n rs w s.1 h)

end_out : (p : Pattern) (n : ℕ) (rs : List Row) (w : ℕ) → all_conflict p (drop n rs) ≡ true → holds p w ≡ true → first (take n rs) w ≡ first rs w
end_out p zero rs w c h = sym (none_first p rs w c h)
end_out p (suc n) [] w c h = refl
end_out p (suc n) (r ∷ rs) w c h = ap (cond (holds_row r w) (Some (reads r w, r.length))) (end_out p n rs w c h)

-- the part of a slot as numbers of the index
pub part_bounds : (slot : ℕ) → slot < 280 → (get_or FROM slot 0 ≤ get_or TO slot 0) × (get_or TO slot 0 ≤ 97)
part_bounds slot below =
    let a = and_split (nat_le (get_or FROM slot 0) (get_or TO slot 0)) _ (right_at slot below) in
    let b = and_split (nat_le (get_or TO slot 0) 97) _ a.1 in
    let first : nat_le (get_or FROM slot 0) (get_or TO slot 0) ≡ true = a.0 in
    let second : nat_le (get_or TO slot 0) 97 ≡ true = b.0 in
    (grind (arith, nat_tests), grind (arith, nat_tests))

pub part_first : (slot w : ℕ) → slot < 280 → holds (slot_pattern slot) w ≡ true
    → first (map row_of (take (get_or TO slot 0 - get_or FROM slot 0) (drop (get_or FROM slot 0) ROWS))) w ≡ first rows w
part_first slot w below h =
    let low = get_or FROM slot 0 in
    let high = get_or TO slot 0 in
    let right : slot_is_right rows slot low high ≡ true = right_at slot below in
    let bounds = part_bounds slot below in
    let a = and_split (nat_le low high) _ right in
    let b = and_split (nat_le high 97) _ a.1 in
    let c = and_split (all_conflict (slot_pattern slot) (take low rows)) _ b.1 in
    let n : low + (high - low) ≡ high = omega (arith, bounds.0) in
    let part : map row_of (take (high - low) (drop low ROWS)) ≡ take (high - low) (drop low rows) =
    sym (take-map row_of (high - low) (drop low ROWS)) ∙ ap (take (high - low)) (sym (drop-map row_of low ROWS) ∙ ap (drop low) rows-are) in
    let rest : drop (high - low) (drop low rows) ≡ drop high rows = drop-drop (high - low) low rows ∙ ap (λ k. drop k rows) n in
    let behind : all_conflict (slot_pattern slot) (drop (high - low) (drop low rows)) ≡ true = ap (all_conflict (slot_pattern slot)) rest ∙ c.1 in
    ap (λ rs. first rs w) part ∙ end_out (slot_pattern slot) (high - low) (drop low rows) w behind h ∙ sym (front_out (slot_pattern slot) low rows w c.0 h)

-- the bits of an opcode and of bits 14 to 12
pub long_mask : (w : ℕ) → bit_and w 28799 ≡ w / 4096 % 8 * 4096 + w % 128
long_mask w =
    let e : w ≡ w / 4096 * 2 ^ 12 + w % 4096 = omega arith in
    let block : bit_and w 28799 ≡ bit_and (w / 4096) 7 * 2 ^ 12 + bit_and (w % 4096) 127 =
    ap (λ x. bit_and x 28799) e ∙ and_block 12 (w / 4096) 7 (w % 4096) 127 (omega arith) (omega arith) in
    let high : bit_and (w / 4096) 7 ≡ w / 4096 % 2 ^ 3 = and_mask (w / 4096) 3 in
    let low : bit_and (w % 4096) 127 ≡ w % 4096 % 2 ^ 7 = and_mask (w % 4096) 7 in
    omega arith

-- the lowest two bits and bits 15 to 13
half_mask : (w : ℕ) → bit_and w 57347 ≡ w / 8192 % 8 * 8192 + w % 4
half_mask w =
    let e : w ≡ w / 8192 * 2 ^ 13 + w % 8192 = omega arith in
    let block : bit_and w 57347 ≡ bit_and (w / 8192) 7 * 2 ^ 13 + bit_and (w % 8192) 3 =
    ap (λ x. bit_and x 57347) e ∙ and_block 13 (w / 8192) 7 (w % 8192) 3 (omega arith) (omega arith) in
    let high : bit_and (w / 8192) 7 ≡ w / 8192 % 2 ^ 3 = and_mask (w / 8192) 3 in
    let low : bit_and (w % 8192) 3 ≡ w % 8192 % 2 ^ 2 = and_mask (w % 8192) 2 in
    omega arith

pub long_slot : (w slot : ℕ) → slot ≡ w / 4 % 32 * 8 + w / 4096 % 8 → w % 4 ≡ 3 → holds (slot_pattern slot) w ≡ true
long_slot w slot e long =
    let below : nat_lt slot 256 ≡ true = grind (arith, nat_tests) in
    let mask = long_mask w in rw below (eq-eqb _ _ (omega arith))

pub half_slot : (w slot : ℕ) → slot ≡ 256 + w % 4 * 8 + w / 8192 % 8 → holds (slot_pattern slot) w ≡ true
half_slot w slot e =
    let above : nat_lt slot 256 ≡ false = grind (arith, nat_tests) in
    let mask = half_mask w in rw above (eq-eqb _ _ (omega arith))
