-- Numbers of several bytes in one page.
use Rattle.std.proofs.Common.{◌≡◌, ℕ, ◌+◌, ◌*◌, ◌-◌, ◌/◌, ◌%◌, ◌^◌, ◌<◌, ◌≤◌, true, false, List, length, get_or, refl, sym, ◌∙◌, ap, arith, slice_set, take, drop, [], ◌∷◌, ◌++◌, zero, suc, append_assoc, subst}
use Rattle.std.specs.Prelude.{IsTrue, Result, Ok, Err, OnOk}
use Rattle.std.proofs.Math.ListN.{set, length-set}
use Rattle.std.proofs.Math.Seq.{take-suc-set}
use Rattle.std.proofs.lemmas.List.{drop_more, drop-set-lt, drop-drop, take-append-drop}
use Rattle.std.proofs.lemmas.Grind.{common_steps}
use Rattle.std.proofs.lemmas.Bool.Decides.{nat_tests}
use Rattle.uh_base.specs.Bytes.{next, is_width, number_at, with_byte, with_number}
use Rattle.uh_base.specs.LittleEndian.{little_endian, low_bytes}
use Rattle.guest_memory.specs.Lists.{written_over}
use Rattle.guest_memory.specs.Pages.{Pages, Whole, InPage, holds, page_of, bytes_of, rights_at, is_touched}
use Rattle.guest_memory.specs.Changes.{touch, lacks, put_to, put_number, NumberGives}
use Rattle.guest_memory.specs.declared.rights.PutEnd.{PutEnd}
use Rattle.guest_memory.specs.declared.rights.PutEnd.TheVariants.{Outside, Frames, Memory}
use Rattle.guest_memory.proofs.MarkLemmas.{set_again, set_twice}
use Rattle.guest_memory.proofs.PageLemmas.{bytes_put_long, rights_put}

pub is_held : (m : Pages) (at : ℕ) → m.base ≤ at → at < m.base + 4096 * m.pages → holds m at ≡ true
is_held m at low high = grind (arith, nat_tests)

-- so many bytes from an index on make the number at the address
read : (m : Pages) (n at i : ℕ) → at ≡ m.base + i → i + n ≤ length m.bytes → length m.bytes ≡ 4096 * m.pages → at + n < 2 ^ 64
    → little_endian (take n (drop i m.bytes)) ≡ number_at (bytes_of m) at n
unfolding little_endian number_at bytes_of
read m zero at i e inside long small = refl
read m (suc n) at i e inside long small =
    let ins : holds m at ≡ true = is_held m at (omega arith) (omega arith) in
    let index : at - m.base ≡ i = omega arith in
    let more : next at ≡ at + 1 = omega arith in
    let first : drop i m.bytes ≡ get_or m.bytes i 0 ∷ drop (i + 1) m.bytes = drop_more m.bytes i 0 (omega arith) in
    ap (λ xs. little_endian (take (suc n) xs)) first
    ∙ ap (λ k. get_or m.bytes i 0 + 256 * k) (read m n (at + 1) (i + 1) (omega arith) (omega arith) long (omega arith))
    ∙ rw (ins, index, more) refl

-- the same of a copy of the bytes
pub read_part : (m : Pages) (xs : List ℕ) (base at width last : ℕ) → Whole m → xs ≡ m.bytes → base ≡ m.base → InPage m at width → last ≡ at - base + width
    → little_endian (take (last - (at - base)) (drop (at - base) xs)) ≡ number_at (bytes_of m) at width
read_part m xs base at width last whole x b inside e =
    let end = whole.end in let low = inside.low in let high = inside.high in let long = whole.bytes_long in
    let n : last - (at - base) ≡ width = omega arith in
    rw (n, x, b) (read m width at (at - m.base) (omega arith) (omega arith) long (omega arith))

-- bytes make a number below a power of 256
pub below : (xs : List ℕ) → ((k : ℕ) → k < length xs → get_or xs k 0 < 256) → little_endian xs < 256 ^ length xs
unfolding little_endian
below [] each = omega arith
below (x ∷ xs) each =
    let first : x < 256 = each 0 (omega arith) in
    let rest : little_endian xs < 256 ^ length xs = below xs (λ k h. each (suc k) (omega arith)) in
    let power : 256 ^ suc (length xs) ≡ 256 * 256 ^ length xs = grind (arith, common_steps) in
    omega arith

-- the list with so many bytes of a number written from an index on
pasted : ℕ → ℕ → List ℕ → List ℕ → List ℕ
pasted i w xs ys = take i xs ++ (ys ++ drop w (drop i xs))

-- the first byte first
pasted_step : (xs ys : List ℕ) (i w b : ℕ) → i < length xs → pasted i (suc w) xs (b ∷ ys) ≡ pasted (i + 1) w (set xs i b) ys
unfolding pasted
pasted_step xs ys i w b below =
    let n : i + 1 ≡ suc i = omega arith in
    let t : take (i + 1) (set xs i b) ≡ take i xs ++ (b ∷ []) = ap (λ k. take k (set xs i b)) n ∙ take-suc-set xs i b below in
    let less : i < i + 1 = omega arith in
    let m : i + 1 + w ≡ i + suc w = omega arith in
    let d : drop w (drop (i + 1) (set xs i b)) ≡ drop (suc w) (drop i xs) =
    ap (drop w) (drop-set-lt (i + 1) xs i b less) ∙ drop-drop w (i + 1) xs ∙ ap (λ k. drop k xs) m ∙ sym (drop-drop (suc w) i xs) in
    rw (t, d) (sym (append_assoc (take i xs) (b ∷ []) (ys ++ drop (suc w) (drop i xs))))

pasted_none : (i : ℕ) (xs : List ℕ) → pasted i 0 xs [] ≡ xs
unfolding pasted
pasted_none i xs = take-append-drop i xs

-- bytes written at once in the page p, which is touched, are bytes put one by one
pasted_put : (w i at v p : ℕ) (m : Pages) → at ≡ m.base + i → at + w < 2 ^ 64 → i + w ≤ length m.bytes → 4096 * p ≤ i → i + w ≤ 4096 * p + 4096
    → slice_set m.touched p true ≡ m.touched → record m { bytes = pasted i w m.bytes (low_bytes w v) } ≡ put_number m at w v
unfolding put_number low_bytes
pasted_put zero i at v p m e small in_bytes low high marks = ap (λ xs. record m { bytes = xs }) (pasted_none i m.bytes)
pasted_put (suc w) i at v p m e small in_bytes low high marks =
    let index : i ≡ at - m.base = omega arith in
    let page : p ≡ page_of m at = omega arith in
    let more : at + 1 ≡ next at = omega arith in
    let m2 : Pages = record m { bytes = set m.bytes i (v % 256); touched = slice_set m.touched p true } in
    ap (λ xs. record m { bytes = xs }) (pasted_step m.bytes (low_bytes w (v / 256)) i w (v % 256) (omega arith))
    ∙ ap (λ marks. record m { bytes = pasted (i + 1) w (set m.bytes i (v % 256)) (low_bytes w (v / 256)); touched = marks }) (sym marks)
    ∙ pasted_put w (i + 1) (at + 1) (v / 256) p m2 (omega arith) (omega arith) (omega (arith, length-set m.bytes i (v % 256))) (omega arith) (omega arith) (set_twice m.touched p)
    ∙ ap (λ k. put_number (record m { bytes = set m.bytes k (v % 256); touched = slice_set m.touched p true }) (at + 1) w (v / 256)) index
    ∙ ap (λ k. put_number (record m { bytes = set m.bytes (at - m.base) (v % 256); touched = slice_set m.touched k true }) (at + 1) w (v / 256)) page
    ∙ ap (λ k. put_number (put_to m at (v % 256)) k w (v / 256)) more

length_low : (n v : ℕ) → length (low_bytes n v) ≡ n
unfolding low_bytes
length_low zero v = refl
length_low (suc n) v = ap suc (length_low n (v / 256))

over_is_pasted : (xs : List ℕ) (i w v : ℕ) → written_over xs i (low_bytes w v) ≡ pasted i w xs (low_bytes w v)
unfolding pasted
over_is_pasted xs i w v = ap (λ k. take i xs ++ (low_bytes w v ++ drop k (drop i xs))) (length_low w v)

pub wrote : (m now : Pages) (bytes : List ℕ) (at width v : ℕ) → Whole m → m ≡ now → InPage now at width → is_touched now (page_of now at) ≡ true → IsTrue (is_width width)
    → bytes ≡ written_over m.bytes (at - m.base) (low_bytes width v) → record m { bytes = bytes } ≡ put_number now at width v
wrote m now bytes at width v whole same inside touched w e =
    let some : 1 ≤ width = grind (arith, nat_tests) in
    let p : InPage m at width = subst (λ (k : Pages). InPage k at width) (sym same) inside in
    let t : is_touched m (page_of m at) ≡ true = subst (λ (k : Pages). is_touched k (page_of k at) ≡ true) (sym same) touched in
    let end = whole.end in let even = whole.base_even in let long = whole.bytes_long in
    let low = p.low in let high = p.high in let one = p.one in
    ap (λ xs. record m { bytes = xs }) (e ∙ over_is_pasted m.bytes (at - m.base) width v)
    ∙ pasted_put width (at - m.base) at v (page_of m at) m (omega arith) (omega arith) (omega arith) (omega arith) (omega arith) (set_again m.touched (page_of m at) t)
    ∙ ap (λ k. put_number k at width v) same

-- a touch before a put adds nothing
pub touch_first : (m : Pages) (at width value : ℕ) → 1 ≤ width → put_number (touch m (page_of m at)) at width value ≡ put_number m at width value
unfolding put_number
touch_first m at zero value some = absurd (omega arith)
touch_first m at (suc n) value some =
    ap (λ marks. put_number (record m { bytes = slice_set m.bytes (at - m.base) (value % 256); touched = marks }) (next at) n (value / 256)) (set_twice m.touched (page_of m at))

pub stored : (old mid new : Pages) (base at width value : ℕ) → base ≡ old.base → IsTrue (is_width width)
    → (lacks old ((at - base) / 4096) ≡ false) × (mid ≡ touch old ((at - base) / 4096)) → new ≡ put_number mid at width value
    → (lacks old (page_of old at) ≡ false) × (new ≡ put_number old at width value)
stored old mid new base at width value b w t e =
    let some : 1 ≤ width = grind (arith, nat_tests) in
    let s = rw b at t in
    (s.0, e ∙ ap (λ m. put_number m at width value) s.1 ∙ touch_first old at width value some)

-- a number put is seen at its own addresses
pub bytes_number : (m : Pages) (at n v : ℕ) → length m.bytes ≡ 4096 * m.pages → m.base ≤ at → at + n ≤ m.base + 4096 * m.pages → m.base + 4096 * m.pages < 2 ^ 64
    → bytes_of (put_number m at n v) ≡ with_number (bytes_of m) at n v
unfolding put_number with_number
bytes_number m at zero v long low high end = refl
bytes_number m at (suc n) v long low high end =
    let m2 : Pages = put_to m at (v % 256) in
    let more : next at ≡ at + 1 = omega arith in
    let b : bytes_of m2 ≡ with_byte (bytes_of m) at (v % 256) = bytes_put_long m at (v % 256) long (is_held m at low (omega arith)) in
    ap (λ k. bytes_of (put_number m2 k n (v / 256))) more
    ∙ bytes_number m2 (at + 1) n (v / 256) (length-set m.bytes (at - m.base) (v % 256) ∙ long) (omega arith) (omega arith) end
    ∙ ap (λ f. with_number f (at + 1) n (v / 256)) b
    ∙ ap (λ k. with_number (with_byte (bytes_of m) at (v % 256)) k n (v / 256)) (sym more)

pub rights_number : (m : Pages) (at n v : ℕ) → rights_at (put_number m at n v) ≡ rights_at m
unfolding put_number
rights_number m at zero v = refl
rights_number m at (suc n) v = rights_number (put_to m at (v % 256)) (next at) n (v / 256) ∙ rights_put m (put_to m at (v % 256)) at (v % 256) refl

pub bytes_numbered : {X : Type 0} (r : Result X PutEnd) (old new : Pages) (at width value : ℕ) → Whole old → InPage old at width → NumberGives r old new at width value
    → OnOk r (bytes_of new ≡ with_number (bytes_of old) at width value)
bytes_numbered (Ok x) old new at width value whole inside gives =
    let end = whole.end in ap bytes_of gives.1 ∙ bytes_number old at width value whole.bytes_long inside.low inside.high (omega arith)
bytes_numbered (Err e) old new at width value whole inside gives = tt

pub rights_numbered : {X : Type 0} (r : Result X PutEnd) (old new : Pages) (at width value : ℕ) → NumberGives r old new at width value → rights_at new ≡ rights_at old
rights_numbered (Ok x) old new at width value gives = ap rights_at gives.1 ∙ rights_number old at width value
rights_numbered (Err Outside) old new at width value gives = absurd gives
rights_numbered (Err Frames) old new at width value gives = ap rights_at gives.1
rights_numbered (Err Memory) old new at width value gives = ap rights_at gives.2

pub base_number : (m : Pages) (at n v : ℕ) → (put_number m at n v).base ≡ m.base
unfolding put_number
base_number m at zero v = refl
base_number m at (suc n) v = base_number (put_to m at (v % 256)) (next at) n (v / 256)

pub base_numbered : {X : Type 0} (r : Result X PutEnd) (old new : Pages) (at width value : ℕ) → NumberGives r old new at width value → new.base ≡ old.base
base_numbered (Ok x) old new at width value gives = ap (λ (m : Pages). m.base) gives.1 ∙ base_number old at width value
base_numbered (Err Outside) old new at width value gives = absurd gives
base_numbered (Err Frames) old new at width value gives = ap (λ (m : Pages). m.base) gives.1
base_numbered (Err Memory) old new at width value gives = ap (λ (m : Pages). m.base) gives.2

pub pages_number : (m : Pages) (at n v : ℕ) → (put_number m at n v).pages ≡ m.pages
unfolding put_number
pages_number m at zero v = refl
pages_number m at (suc n) v = pages_number (put_to m at (v % 256)) (next at) n (v / 256)

pub pages_numbered : {X : Type 0} (r : Result X PutEnd) (old new : Pages) (at width value : ℕ) → NumberGives r old new at width value → new.pages ≡ old.pages
pages_numbered (Ok x) old new at width value gives = ap (λ (m : Pages). m.pages) gives.1 ∙ pages_number old at width value
pages_numbered (Err Outside) old new at width value gives = absurd gives
pages_numbered (Err Frames) old new at width value gives = ap (λ (m : Pages). m.pages) gives.1
pages_numbered (Err Memory) old new at width value gives = ap (λ (m : Pages). m.pages) gives.2
