-- The lines of code, one after the other.
use Rattle.std.proofs.Common.{◌≡◌, ℕ, zero, suc, ◌+◌, ◌-◌, ◌<◌, ◌≤◌, List, [], ◌∷◌, ◌++◌, length, drop, refl, sym, ap, ◌∙◌, arith, add-zero, length-drop}
use Rattle.std.proofs.lemmas.List.{drop-drop}
use Rattle.record_text.specs.declared.image_line.ImageLine.{ImageLine}
use Rattle.image_dump.specs.Code.{front, lines_from, listing}
use Rattle.image_dump.specs.Reports.{line_bytes, bytes_of}
use Rattle.image_dump.proofs.LineLemmas.{one_more}

-- bytes that belong to the line before are passed
pub passed : (at more : ℕ) (bytes : List ℕ) → more ≤ length bytes → lines_from at more bytes ≡ lines_from (at + more) 0 (drop more bytes)
unfolding lines_from
passed at zero bytes h = ap (λ k. lines_from k 0 bytes) (sym (add-zero at))
passed at (suc more) [] h = absurd (omega (arith, h))
passed at (suc more) (byte ∷ bytes) h =
    let same : at + 1 + more ≡ at + suc more = omega arith in
    passed (at + 1) more bytes (omega (arith, h)) ∙ ap (λ k. lines_from k 0 (drop more bytes)) same

behind_line : (at n : ℕ) (line : ImageLine) (byte : ℕ) (bytes : List ℕ) → 0 < n → n ≤ length (byte ∷ bytes)
    → line ∷ lines_from (at + 1) (n - 1) bytes ≡ line ∷ lines_from (at + n) 0 (drop n (byte ∷ bytes))
behind_line at zero line byte bytes some within = absurd (omega (arith, some))
behind_line at (suc m) line byte bytes some within =
    let e : suc m - 1 ≡ m = omega arith in
    let same : at + 1 + m ≡ at + suc m = omega arith in
    ap (λ k. line ∷ lines_from (at + 1) k bytes) e ∙ ap (λ (ls : List ImageLine). line ∷ ls) (passed (at + 1) m bytes (omega (arith, within)) ∙ ap (λ k. lines_from k 0 (drop m bytes)) same)

-- the first line of code, and the others
pub first_line : (at : ℕ) (bytes : List ℕ) → 0 < (front at bytes).len → (front at bytes).len ≤ length bytes
    → lines_from at 0 bytes ≡ (front at bytes).line ∷ lines_from (at + (front at bytes).len) 0 (drop (front at bytes).len bytes)
unfolding lines_from
first_line at [] some within = absurd (omega (arith, some, within))
first_line at (byte ∷ bytes) some within = behind_line at (front at (byte ∷ bytes)).len (front at (byte ∷ bytes)).line byte bytes some within

listed_first : (at len : ℕ) (bytes : List ℕ) → len ≡ (front at bytes).len → 0 < len → len ≤ length bytes
    → listing at bytes ≡ line_bytes (front at bytes).line ++ listing (at + len) (drop len bytes)
listed_first at len bytes same some within =
    let s : 0 < (front at bytes).len = omega (arith, same, some) in
    let w : (front at bytes).len ≤ length bytes = omega (arith, same, within) in
    ap (λ (ls : List ImageLine). bytes_of ls) (first_line at bytes s w) ∙ ap (λ k. line_bytes (front at bytes).line ++ listing (at + k) (drop k bytes)) (sym same)

pub code_on : (all now new : List ℕ) (at count len : ℕ) (code rest : List ℕ) → rest ≡ drop count code → len ≡ (front (at + count) rest).len → 0 < len → len ≤ length rest
    → all ≡ now ++ listing (at + count) (drop count code) → new ≡ now ++ line_bytes (front (at + count) rest).line → all ≡ new ++ listing (at + (count + len)) (drop (count + len) code)
code_on all now new at count len code rest is same some within h e =
    let line = line_bytes (front (at + count) rest).line in
    let next : listing (at + count) rest ≡ line ++ listing (at + count + len) (drop len rest) = listed_first (at + count) len rest same some within in
    let behind : drop len rest ≡ drop (count + len) code = ap (drop len) is ∙ drop-drop len count code in
    let at_same : at + count + len ≡ at + (count + len) = omega arith in
    one_more all now line (listing (at + (count + len)) (drop (count + len) code)) new
    (h ∙ ap (λ (l : List ℕ). now ++ listing (at + count) l) (sym is) ∙ ap (λ (t : List ℕ). now ++ t) (next ∙ ap (λ (l : List ℕ). line ++ listing (at + count + len) l) behind ∙ ap (λ k. line ++ listing k (drop (count + len) code)) at_same))
    e

pub no_code : (at : ℕ) (code : List ℕ) → length code ≡ 0 → listing at code ≡ []
unfolding lines_from
no_code at [] h = refl
no_code at (byte ∷ code) h = absurd (omega (arith, h))

pub within_drop : (count len : ℕ) (code rest : List ℕ) → rest ≡ drop count code → count ≤ length code → len ≤ length rest → count + len ≤ length code
within_drop count len code rest is low h =
    let long : length rest ≡ length code - count = ap length is ∙ length-drop count code in
    omega (arith, long)
