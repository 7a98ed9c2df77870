-- Parts of a page.
use Rattle.std.proofs.Common.{◌≡◌, ℕ, ◌+◌, ◌*◌, ◌-◌, ◌^◌, ◌<◌, ◌≤◌, true, List, length, get_or, refl, sym, ◌∙◌, ap, arith, take, drop, [], ◌∷◌, ◌++◌, zero, suc, append_assoc}
use Rattle.std.specs.Prelude.{Result, Ok, Err, OnOk, OnErr}
use Rattle.std.proofs.Math.ListN.{set, length-set}
use Rattle.std.proofs.Math.Seq.{take-suc-set}
use Rattle.std.proofs.lemmas.List.{drop_more, drop-set-lt, drop-drop, take-append-drop}
use Rattle.uh_base.specs.Bytes.{next, with_byte}
use Rattle.guest_memory.specs.Lists.{written_over}
use Rattle.guest_memory.specs.Runs.{bytes_from, with_bytes}
use Rattle.guest_memory.specs.Pages.{Pages, Whole, InPage, holds, bytes_of, rights_at}
use Rattle.guest_memory.specs.Changes.{put_to, put_part, written_pages, PartGives, PagesGive}
use Rattle.guest_memory.specs.declared.rights.PutEnd.{PutEnd}
use Rattle.guest_memory.specs.declared.rights.PutEnd.TheVariants.{Outside, Frames, Memory}
use Rattle.guest_memory.proofs.PageLemmas.{bytes_put_long}
use Rattle.guest_memory.proofs.NumberLemmas.{is_held}
use Rattle.guest_memory.proofs.RunLemmas.{same_bytes, same_rights}

-- so many bytes from an index on are those from the address on
read : (m : Pages) (n at i : ℕ) → at ≡ m.base + i → i + n ≤ length m.bytes → length m.bytes ≡ 4096 * m.pages → at + n < 2 ^ 64 → take n (drop i m.bytes) ≡ bytes_from (bytes_of m) at n
unfolding bytes_from bytes_of
read m zero at i e inside long small = refl
read m (suc n) at i e inside long small =
    let ins : holds m at ≡ true = is_held m at (omega arith) (omega arith) in
    let index : at - m.base ≡ i = omega arith in
    let more : next at ≡ at + 1 = omega arith in
    ap (λ xs. take (suc n) xs) (drop_more m.bytes i 0 (omega arith))
    ∙ ap (λ ys. get_or m.bytes i 0 ∷ ys) (read m n (at + 1) (i + 1) (omega arith) (omega arith) long (omega arith))
    ∙ rw (ins, index, more) refl

pub read_out : (m : Pages) (xs : List ℕ) (base at n last : ℕ) → Whole m → xs ≡ m.bytes → base ≡ m.base → InPage m at n → last ≡ at - base + n
    → take (last - (at - base)) (drop (at - base) xs) ≡ bytes_from (bytes_of m) at n
read_out m xs base at n last whole x b inside e =
    let end = whole.end in let low = inside.low in let high = inside.high in let long = whole.bytes_long in
    let k : last - (at - base) ≡ n = omega arith in
    rw (k, x, b) (read m n at (at - m.base) (omega arith) (omega arith) long (omega arith))

pub over_step : (xs ys : List ℕ) (i b : ℕ) → i < length xs → written_over xs i (b ∷ ys) ≡ written_over (set xs i b) (i + 1) ys
over_step xs ys i b below =
    let n : i + 1 ≡ suc i = omega arith in
    let t : take (i + 1) (set xs i b) ≡ take i xs ++ (b ∷ []) = ap (λ k. take k (set xs i b)) n ∙ take-suc-set xs i b below in
    let less : i < i + 1 = omega arith in
    let m : i + 1 + length ys ≡ i + suc (length ys) = omega arith in
    let d : drop (length ys) (drop (i + 1) (set xs i b)) ≡ drop (suc (length ys)) (drop i xs) =
    ap (drop (length ys)) (drop-set-lt (i + 1) xs i b less) ∙ drop-drop (length ys) (i + 1) xs ∙ ap (λ k. drop k xs) m ∙ sym (drop-drop (suc (length ys)) i xs) in
    rw (t, d) (sym (append_assoc (take i xs) (b ∷ []) (ys ++ drop (suc (length ys)) (drop i xs))))

-- bytes written over a part are seen at its addresses
over_seen : (m : Pages) (at i : ℕ) (ys : List ℕ) → at ≡ m.base + i → i + length ys ≤ length m.bytes → length m.bytes ≡ 4096 * m.pages → at + length ys < 2 ^ 64
    → bytes_of (record m { bytes = written_over m.bytes i ys }) ≡ with_bytes (bytes_of m) at ys
unfolding with_bytes
over_seen m at i [] e inside long small = ap (λ xs. bytes_of (record m { bytes = xs })) (take-append-drop i m.bytes)
over_seen m at i (b ∷ ys) e inside long small =
    let index : at - m.base ≡ i = omega arith in
    let more : next at ≡ at + 1 = omega arith in
    let m2 : Pages = record m { bytes = set m.bytes i b } in
    let one : bytes_of m2 ≡ with_byte (bytes_of m) at b =
    ap (λ k. bytes_of (record m { bytes = set m.bytes k b })) (sym index) ∙ sym (same_bytes (record m { bytes = set m.bytes (at - m.base) b }) (put_to m at b) refl)
    ∙ bytes_put_long m at b long (is_held m at (omega arith) (omega arith)) in
    ap (λ xs. bytes_of (record m { bytes = xs })) (over_step m.bytes ys i b (omega arith))
    ∙ over_seen m2 (at + 1) (i + 1) ys (omega arith) (omega (arith, length-set m.bytes i b)) (length-set m.bytes i b ∙ long) (omega arith)
    ∙ ap (λ f. with_bytes f (at + 1) ys) one
    ∙ ap (λ k. with_bytes (with_byte (bytes_of m) at b) k ys) (sym more)

pub bytes_part : (m : Pages) (at : ℕ) (ys : List ℕ) → Whole m → InPage m at (length ys) → bytes_of (put_part m at ys) ≡ with_bytes (bytes_of m) at ys
bytes_part m at ys whole inside =
    let end = whole.end in let low = inside.low in let high = inside.high in let long = whole.bytes_long in
    same_bytes (record m { bytes = written_over m.bytes (at - m.base) ys }) (put_part m at ys) refl
    ∙ over_seen m at (at - m.base) ys (omega arith) (omega arith) long (omega arith)

pub bytes_parted : {X : Type 0} (r : Result X PutEnd) (old new : Pages) (at : ℕ) (ys : List ℕ) → Whole old → InPage old at (length ys) → PartGives r old new at ys → OnOk r (bytes_of new ≡ with_bytes (bytes_of old) at ys)
bytes_parted (Ok x) old new at ys whole inside gives = ap bytes_of gives.1 ∙ bytes_part old at ys whole inside
bytes_parted (Err e) old new at ys whole inside gives = tt

rights_part : (m : Pages) (at : ℕ) (ys : List ℕ) → rights_at (put_part m at ys) ≡ rights_at m
unfolding rights_at
rights_part m at ys = refl

pub rights_parted : {X : Type 0} (r : Result X PutEnd) (old new : Pages) (at : ℕ) (ys : List ℕ) → PartGives r old new at ys → rights_at new ≡ rights_at old
rights_parted (Ok x) old new at ys gives = ap rights_at gives.1 ∙ rights_part old at ys
rights_parted (Err Outside) old new at ys gives = absurd gives
rights_parted (Err Frames) old new at ys gives = ap rights_at gives.1
rights_parted (Err Memory) old new at ys gives = ap rights_at gives.2

pub base_parted : {X : Type 0} (r : Result X PutEnd) (old new : Pages) (at : ℕ) (ys : List ℕ) → PartGives r old new at ys → new.base ≡ old.base
base_parted (Ok x) old new at ys gives = ap (λ (m : Pages). m.base) gives.1
base_parted (Err Outside) old new at ys gives = absurd gives
base_parted (Err Frames) old new at ys gives = ap (λ (m : Pages). m.base) gives.1
base_parted (Err Memory) old new at ys gives = ap (λ (m : Pages). m.base) gives.2

pub pages_parted : {X : Type 0} (r : Result X PutEnd) (old new : Pages) (at : ℕ) (ys : List ℕ) → PartGives r old new at ys → new.pages ≡ old.pages
pages_parted (Ok x) old new at ys gives = ap (λ (m : Pages). m.pages) gives.1
pages_parted (Err Outside) old new at ys gives = absurd gives
pages_parted (Err Frames) old new at ys gives = ap (λ (m : Pages). m.pages) gives.1
pages_parted (Err Memory) old new at ys gives = ap (λ (m : Pages). m.pages) gives.2

-- whole pages written
pub bytes_written : {X : Type 0} (r : Result X PutEnd) (old new : Pages) (page : ℕ) (ys : List ℕ) → Whole old → 4096 * page + length ys ≤ 4096 * old.pages → PagesGive r old new page ys
    → OnOk r (bytes_of new ≡ with_bytes (bytes_of old) (old.base + 4096 * page) ys)
bytes_written (Ok x) old new page ys whole inside gives =
    let long = whole.bytes_long in let end = whole.end in
    ap bytes_of gives.1 ∙ same_bytes (record old { bytes = written_over old.bytes (4096 * page) ys }) (written_pages old page ys) refl
    ∙ over_seen old (old.base + 4096 * page) (4096 * page) ys refl (omega arith) long (omega arith)
bytes_written (Err e) old new page ys whole inside gives = tt

pub bytes_unwritten : {X : Type 0} (r : Result X PutEnd) (old new : Pages) (page : ℕ) (ys : List ℕ) → PagesGive r old new page ys → OnErr r (bytes_of new ≡ bytes_of old)
bytes_unwritten (Ok x) old new page ys gives = tt
bytes_unwritten (Err Outside) old new page ys gives = absurd gives
bytes_unwritten (Err Frames) old new page ys gives = ap bytes_of gives.1
bytes_unwritten (Err Memory) old new page ys gives = same_bytes old new gives.2.rest

rights_over : (m : Pages) (page : ℕ) (ys : List ℕ) → rights_at (written_pages m page ys) ≡ rights_at m
unfolding rights_at
rights_over m page ys = refl

pub rights_written : {X : Type 0} (r : Result X PutEnd) (old new : Pages) (page : ℕ) (ys : List ℕ) → PagesGive r old new page ys → rights_at new ≡ rights_at old
rights_written (Ok x) old new page ys gives = ap rights_at gives.1 ∙ rights_over old page ys
rights_written (Err Outside) old new page ys gives = absurd gives
rights_written (Err Frames) old new page ys gives = ap rights_at gives.1
rights_written (Err Memory) old new page ys gives = same_rights old new gives.2.rest

pub base_written : {X : Type 0} (r : Result X PutEnd) (old new : Pages) (page : ℕ) (ys : List ℕ) → PagesGive r old new page ys → new.base ≡ old.base
base_written (Ok x) old new page ys gives = ap (λ (m : Pages). m.base) gives.1
base_written (Err Outside) old new page ys gives = absurd gives
base_written (Err Frames) old new page ys gives = ap (λ (m : Pages). m.base) gives.1
base_written (Err Memory) old new page ys gives = ap (λ (m : Pages). m.base) gives.2.rest

pub pages_written : {X : Type 0} (r : Result X PutEnd) (old new : Pages) (page : ℕ) (ys : List ℕ) → PagesGive r old new page ys → new.pages ≡ old.pages
pages_written (Ok x) old new page ys gives = ap (λ (m : Pages). m.pages) gives.1
pages_written (Err Outside) old new page ys gives = absurd gives
pages_written (Err Frames) old new page ys gives = ap (λ (m : Pages). m.pages) gives.1
pages_written (Err Memory) old new page ys gives = ap (λ (m : Pages). m.pages) gives.2.rest
