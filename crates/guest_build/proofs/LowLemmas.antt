-- Bytes of numbers.
use Rattle.std.proofs.Common.{◌≡◌, ℕ, zero, suc, ◌-◌, ◌<◌, ◌/◌, ◌%◌, List, [], ◌∷◌, ◌++◌, length, refl, sym, ap, ◌∙◌, append_assoc, arith}
use Rattle.uh_base.specs.LittleEndian.{low_bytes}

pub low_more : (width n : ℕ) → 0 < width → low_bytes width n ≡ n % 256 ∷ low_bytes (width - 1) (n / 256)
unfolding low_bytes
low_more zero n h = absurd (omega arith)
low_more (suc width) n h = let e : suc width - 1 ≡ width = omega arith in rw e refl

pub low_put : (old pushed new : List ℕ) (width n : ℕ) → 0 < width → pushed ≡ old ++ n % 256 ∷ [] → new ≡ pushed ++ low_bytes (width - 1) (n / 256)
    → new ≡ old ++ low_bytes width n
low_put old pushed new width n h p q = q ∙ ap (λ xs. xs ++ low_bytes (width - 1) (n / 256)) p ∙ append_assoc old (n % 256 ∷ []) (low_bytes (width - 1) (n / 256)) ∙ ap (λ xs. old ++ xs) (sym (low_more width n h))

pub length-low_bytes : (width n : ℕ) → length (low_bytes width n) ≡ width
unfolding low_bytes
length-low_bytes zero n = refl
length-low_bytes (suc width) n = ap suc (length-low_bytes width (n / 256))
