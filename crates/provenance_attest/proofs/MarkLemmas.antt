-- Marks of pages.
use Rattle.std.proofs.Common.{◌≡◌, ℕ, ◌<◌, ◌+◌, ◌-◌, arith, Bool, true, refl, List, [], ◌∷◌, length, suc}
use Rattle.std.specs.Prelude.{replicate, slice_index}
use borrow.Rule.Slice.PartMut.{put_mid}
use Rattle.guest_memory.specs.Lists.{filled}
use Rattle.provenance_attest.specs.Frames.{AreInRam, IsInRam, with_regions}

pub part_filled : (xs part : List Bool) (i last n k : ℕ) → last ≡ i + n → k ≡ n → part ≡ replicate k true → put_mid i (last - i) xs part ≡ filled xs i n true
part_filled xs part i last n k l m e = let d : last - i ≡ n = omega arith in rw (d, e, m) refl

-- where no length is left no region is
pub no_region_left : (base : ℕ) (marks : List Bool) (starts rest : List ℕ) (total : List Bool) → length rest ≡ 0 → with_regions base marks starts rest ≡ total → marks ≡ total
unfolding with_regions
no_region_left base marks [] rest total e h = h
no_region_left base marks (start ∷ starts) [] total e h = h
no_region_left base marks (start ∷ starts) (len ∷ rest) total e h = absurd (omega (arith, e))

-- all regions are in RAM where each is
pub all_in_ram : (base pages : ℕ) (starts lens : List ℕ) → ((n : ℕ) → n < length starts → IsInRam base pages (slice_index starts n) (slice_index lens n)) → AreInRam base pages starts lens
all_in_ram base pages [] lens h = tt
all_in_ram base pages (start ∷ starts) [] h = tt
all_in_ram base pages (start ∷ starts) (len ∷ lens) h = (h 0 (omega arith), all_in_ram base pages starts lens (λ n l. h (suc n) (omega (arith, l))))
