-- A part of the flat memory as one number.
use Rattle.std.proofs.Common.{◌≡◌, ℕ, ◌+◌, ◌-◌, ◌*◌, ◌/◌, ◌%◌, ◌<◌, ◌≤◌, Bool, true, false, List, length, get_or, refl, sym, ◌∙◌, ap, arith, take, drop, ◌++◌, [], ◌∷◌, zero, suc, Some, None, append_assoc, length-append, length-drop}
use Rattle.std.proofs.Math.ListN.{set, length-set}
use Rattle.std.proofs.Math.Seq.{take-suc-set}
use Rattle.std.proofs.lemmas.List.{length-take, drop-set-lt, drop-drop, take_at}
use borrow.Rule.Slice.PartMut.{put_mid}
use Rattle.std.proofs.lemmas.Grind.{common_steps}
use Rattle.std.proofs.lemmas.Bool.Decides.{nat_tests}
use Rattle.uh_base.specs.Bytes.{with_byte, next, number_at, with_number, first_refused}
use Rattle.uh_base.specs.LittleEndian.{little_endian, low_bytes}
use Rattle.host_engine.specs.FlatMemories.{base, size, flat_bytes, is_inside, AreInside}
use Rattle.host_engine.proofs.ByteLemmas.{set_byte}

is_in : (at : ℕ) → base ≤ at → at < base + size → is_inside at ≡ true
is_in at low high = grind (arith, nat_tests)

pub none_refused : (at w : ℕ) → base ≤ at → at + w ≤ base + size → first_refused is_inside at w ≡ None
unfolding first_refused
none_refused at zero low high = refl
none_refused at (suc w) low high =
    let ins : is_inside at ≡ true = is_in at low (omega arith) in
    let e : next at ≡ at + 1 = omega arith in
    rw ins (ap (λ a. first_refused is_inside a w) e ∙ none_refused (at + 1) w (omega arith) (omega arith))

pub refused_none : (at w : ℕ) → base ≤ at → at ≤ base + size - w → w ≤ 8 → first_refused is_inside at w ≡ None
refused_none at w low high few = none_refused at w low (omega arith)

inside_bounds : (at : ℕ) → is_inside at ≡ true → (base ≤ at) × (at < base + size)
inside_bounds at h = grind (arith, nat_tests)

-- at an address that isn't inside it is the first refused
inside_first : (at w : ℕ) (b : Bool) → is_inside at ≡ b → first_refused is_inside at (suc w) ≡ None → (is_inside at ≡ true) × (first_refused is_inside (next at) w ≡ None)
unfolding first_refused
inside_first at w true e h = (e, rw e at h)
inside_first at w false e h = absurd (let z : Some at ≡ None = rw e at h in let bad : ⊥ = cc in bad)

pub none_inside : (w at : ℕ) → first_refused is_inside at (suc w) ≡ None → AreInside at (suc w)
none_inside zero at h =
    let one = inside_first at 0 (is_inside at) refl h in
    let bounds = inside_bounds at one.0 in record { low = bounds.0; high = omega (arith, bounds.1) }
none_inside (suc w) at h =
    let one = inside_first at (suc w) (is_inside at) refl h in
    let bounds = inside_bounds at one.0 in
    let e : next at ≡ at + 1 = omega (arith, bounds.1) in
    let rest = none_inside w (at + 1) (ap (λ a. first_refused is_inside a (suc w)) (sym e) ∙ one.1) in
    record { low = bounds.0; high = omega (arith, rest.high) }

-- the first byte of a number, and the rest
first_byte : (bytes : List ℕ) (start : ℕ) → little_endian (take 0 (drop start bytes)) ≡ 0
unfolding little_endian
first_byte bytes start = refl

one_more : (bytes : List ℕ) (start w : ℕ) → start < length bytes → little_endian (take (suc w) (drop start bytes)) ≡ get_or bytes start 0 + 256 * little_endian (take w (drop (suc start) bytes))
unfolding little_endian
one_more [] start w h = absurd (omega arith)
one_more (byte ∷ bytes) zero w h = refl
one_more (byte ∷ bytes) (suc start) w h = one_more bytes start w (omega arith)

pub number_part : (w at start : ℕ) (bytes : List ℕ) → at ≡ base + start → start + w ≤ size → length bytes ≡ size → number_at (flat_bytes bytes) at w ≡ little_endian (take w (drop start bytes))
unfolding number_at flat_bytes
number_part zero at start bytes e below len = sym (first_byte bytes start)
number_part (suc w) at start bytes e below len =
    let ins : is_inside at ≡ true = is_in at (omega arith) (omega arith) in
    let index : at - base ≡ start = omega arith in
    let more : next at ≡ at + 1 = omega arith in
    let s : start + 1 ≡ suc start = omega arith in
    rw (ins, index, more) (ap (λ n. get_or bytes start 0 + 256 * n) (number_part w (at + 1) (start + 1) bytes (omega arith) (omega arith) len ∙ ap (λ k. little_endian (take w (drop k bytes))) s)
    ∙ sym (one_more bytes start w (omega arith)))

-- the list with so many bytes written from an index on
pasted : ℕ → ℕ → List ℕ → List ℕ → List ℕ
pasted i w xs ys = take i xs ++ (ys ++ drop w (drop i xs))

take_all : (xs : List ℕ) (i : ℕ) → take i xs ++ drop i xs ≡ xs
take_all xs i = grind (arith, common_steps)

-- the first byte first
pasted_step : (xs ys : List ℕ) (i w b : ℕ) → i < length xs → pasted i (suc w) xs (b ∷ ys) ≡ pasted (i + 1) w (set xs i b) ys
unfolding pasted
pasted_step xs ys i w b below =
    let n : i + 1 ≡ suc i = omega arith in
    let t : take (i + 1) (set xs i b) ≡ take i xs ++ (b ∷ []) = ap (λ k. take k (set xs i b)) n ∙ take-suc-set xs i b below in
    let less : i < i + 1 = omega arith in
    let m : i + 1 + w ≡ i + suc w = omega arith in
    let d : drop w (drop (i + 1) (set xs i b)) ≡ drop (suc w) (drop i xs) =
    ap (drop w) (drop-set-lt (i + 1) xs i b less) ∙ drop-drop w (i + 1) xs ∙ ap (λ k. drop k xs) m ∙ sym (drop-drop (suc w) i xs) in
    rw (t, d) (sym (append_assoc (take i xs) (b ∷ []) (ys ++ drop (suc w) (drop i xs))))

pasted_none : (i : ℕ) (xs : List ℕ) → pasted i 0 xs [] ≡ xs
unfolding pasted
pasted_none i xs = take_all xs i

pasted_number : (w i at v : ℕ) (xs : List ℕ) → at ≡ base + i → i + w ≤ size → length xs ≡ size → flat_bytes (pasted i w xs (low_bytes w v)) ≡ with_number (flat_bytes xs) at w v
unfolding with_number low_bytes
pasted_number zero i at v xs e below len = ap flat_bytes (pasted_none i xs)
pasted_number (suc w) i at v xs e below len =
    let more : next at ≡ at + 1 = omega arith in
    let index : at - base ≡ i = omega arith in
    let one : flat_bytes (set xs i (v % 256)) ≡ with_byte (flat_bytes xs) at (v % 256) = ap (λ k. flat_bytes (set xs k (v % 256))) (sym index) ∙ set_byte xs at (v % 256) len (is_in at (omega arith) (omega arith)) in
    ap flat_bytes (pasted_step xs (low_bytes w (v / 256)) i w (v % 256) (omega arith))
    ∙ pasted_number w (i + 1) (at + 1) (v / 256) (set xs i (v % 256)) (omega arith) (omega arith) (length-set xs i (v % 256) ∙ len)
    ∙ ap (λ f. with_number f (at + 1) w (v / 256)) one
    ∙ ap (λ a. with_number (with_byte (flat_bytes xs) at (v % 256)) a w (v / 256)) (sym more)

length_low : (w v : ℕ) → length (low_bytes w v) ≡ w
unfolding low_bytes
length_low zero v = refl
length_low (suc w) v = ap suc (length_low w (v / 256))

-- what a vector holds after a part of its slice was written
pub stored : (w i at v len : ℕ) (items slice part : List ℕ) → slice ≡ items → length items ≡ size → len ≡ size → part ≡ low_bytes w v → i ≡ at - base → AreInside at w
    → flat_bytes (take len (put_mid i (i + w - i) slice part ++ drop (length (put_mid i (i + w - i) slice part)) items)) ≡ with_number (flat_bytes items) at w v
unfolding pasted
stored w i at v len items slice part s l n p e h =
    let low = h.low in
    let high = h.high in
    let k : i + w - i ≡ w = omega arith in
    let whole : put_mid i (i + w - i) slice part ≡ pasted i w items (low_bytes w v) = rw (k, s, p) refl in
    let lp2 : length (low_bytes w v) ≡ w = length_low w v in
    let len_whole : length (pasted i w items (low_bytes w v)) ≡ size = simp (length-append, length-take, length-drop) (omega arith) in
    rw whole (ap flat_bytes (take_at (pasted i w items (low_bytes w v)) _ len (len_whole ∙ sym n)) ∙ pasted_number w i at v items (omega arith) (omega arith) l)

-- the number of a part of a vector's slice
pub part_number : (w at : ℕ) (items slice : List ℕ) → slice ≡ items → length items ≡ size → AreInside at w
    → little_endian (take (at - base + w - (at - base)) (drop (at - base) slice)) ≡ number_at (flat_bytes items) at w
part_number w at items slice s len h =
    let low = h.low in
    let high = h.high in
    let k : at - base + w - (at - base) ≡ w = omega arith in
    rw (k, s) (sym (number_part w at (at - base) items (omega arith) (omega arith) len))

-- how long the part is that was written
pub part_length : (w i : ℕ) (items slice : List ℕ) → slice ≡ items → i + w ≤ length items → length (take (i + w - i) (drop i slice)) ≡ w
part_length w i items slice s h = rw s (simp (length-take, length-drop) (omega arith))
