-- Entries of lists that are set, and frames of zeros.
use Rattle.std.proofs.Common.{◌≡◌, ◌≢◌, ℕ, zero, suc, ◌<◌, List, [], ◌∷◌, length, refl, sym, ap, arith, slice_set, replicate, Some}
use Rattle.std.specs.Prelude.{slice_get, slice_index}
use Rattle.std.proofs.lemmas.List.{length-replicate}
use Rattle.frame_arena.specs.Frames.{IsFrame, zeros}

pub other_get : {X : Type 0} (xs : List X) (i other : ℕ) (x : X) → other ≢ i → slice_get (slice_set xs i x) other ≡ slice_get xs other
other_get [] i other x n = refl
other_get (y ∷ xs) zero zero x n = absurd (n refl)
other_get (y ∷ xs) zero (suc other) x n = refl
other_get (y ∷ xs) (suc i) zero x n = refl
other_get (y ∷ xs) (suc i) (suc other) x n = other_get xs i other x (λ e. n (ap suc e))

pub same_get : {X : Type 0} (xs : List X) (i : ℕ) (x : X) → i < length xs → slice_get (slice_set xs i x) i ≡ Some x
same_get [] i x h = absurd (omega arith)
same_get (y ∷ xs) zero x h = refl
same_get (y ∷ xs) (suc i) x h = same_get xs i x (omega arith)

pub set_got : {X : Type 0} (xs : List X) (i : ℕ) (x : X) → slice_get xs i ≡ Some x → slice_set xs i x ≡ xs
set_got [] i x e = refl
set_got (y ∷ xs) zero x e = let s : y ≡ x = cc in ap (λ z. z ∷ xs) (sym s)
set_got (y ∷ xs) (suc i) x e = ap (λ zs. y ∷ zs) (set_got xs i x e)

pub got_inside : {X : Type 0} (xs : List X) (i : ℕ) (x : X) → slice_get xs i ≡ Some x → i < length xs
got_inside [] i x e = grind arith
got_inside (y ∷ xs) zero x e = omega arith
got_inside (y ∷ xs) (suc i) x e = let h = got_inside xs i x e in omega arith

low_zeros : (n i : ℕ) → slice_index (replicate n 0) i < 256
low_zeros zero i = omega arith
low_zeros (suc n) zero = omega arith
low_zeros (suc n) (suc i) = low_zeros n i

pub zeros_frame : IsFrame zeros
zeros_frame = record { long = length-replicate {A = ℕ} 4096 0; fit = low_zeros 4096 }
