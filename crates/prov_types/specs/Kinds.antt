-- What a kind says of one value in two runs. A region is a stretch of memory that begins at one address in the first run and
-- at another in the second; a pointer into it has one offset in both.
use Rattle.std.specs.Prelude.{ℕ, ◌≡◌, ◌+◌, ◌<◌, ◌≤◌, ◌^◌, List, slice_index}
use Rattle.prov_types.specs.declared.kinds.Span.{Span}
use Rattle.prov_types.specs.declared.kinds.Kind.{Kind}
use Rattle.prov_types.specs.declared.kinds.Kind.TheVariants.{Any, Num, Ptr, Opt}
use Rattle.prov_types.specs.Spans.{IsProper, InSpan}

-- each span of a kind is one
abbrev pub IsProperKind : Kind → Type 0
IsProperKind Any = Unit
IsProperKind (Num s) = IsProper s
IsProperKind (Ptr r s) = IsProper s
IsProperKind (Opt r s) = IsProper s

-- the numbers of a kind are of 64 bits
abbrev pub EndsIn64Bits : Kind → Type 0
EndsIn64Bits Any = Unit
EndsIn64Bits (Num s) = s.hi < 2 ^ 64
EndsIn64Bits (Ptr r s) = s.hi < 2 ^ 64
EndsIn64Bits (Opt r s) = s.hi < 2 ^ 64

-- the length of a region; one that isn't listed has length 0
abbrev pub length_of : List ℕ → ℕ → ℕ
length_of lens r = slice_index lens r

-- where each region begins in the two runs, and how long it is
pub record Regions : Type 0 where
  pub old : ℕ → ℕ
  pub new : ℕ → ℕ
  pub lens : List ℕ

-- each region begins above 0 and ends below 2^64
pub record AreApart (regions : Regions) : Type 0 where
  pub old_begins : (r : ℕ) → 0 < regions.old r
  pub new_begins : (r : ℕ) → 0 < regions.new r
  pub old_ends : (r : ℕ) → regions.old r + length_of regions.lens r < 2 ^ 64
  pub new_ends : (r : ℕ) → regions.new r + length_of regions.lens r < 2 ^ 64

-- one number of the span in both runs
pub record HoldsNum (s : Span) (v w : ℕ) : Type 0 where
  pub same : v ≡ w
  pub within : InSpan s v

-- one offset in both runs, in the span and at most the region's length
pub record HoldsPtr (regions : Regions) (r : ℕ) (s : Span) (v w : ℕ) : Type 0 where
  pub offset : ℕ
  pub old : v ≡ regions.old r + offset
  pub new : w ≡ regions.new r + offset
  pub within : InSpan s offset
  pub inside : offset ≤ length_of regions.lens r

-- 0 in both runs, or a pointer
pub data HoldsOpt (regions : Regions) (r : ℕ) (s : Span) (v w : ℕ) : Type 0 where
  nought : v ≡ 0 → w ≡ 0 → HoldsOpt regions r s v w
  pointed : HoldsPtr regions r s v w → HoldsOpt regions r s v w

-- the value v of the first run and the value w of the second are of a kind
abbrev pub Holds : Regions → Kind → (v w : ℕ) → Type 0
Holds regions Any v w = Unit
Holds regions (Num s) v w = HoldsNum s v w
Holds regions (Ptr r s) v w = HoldsPtr regions r s v w
Holds regions (Opt r s) v w = HoldsOpt regions r s v w

-- regions by three lists
abbrev pub regions_of : (old new lens : List ℕ) → Regions
regions_of old new lens = record { old = slice_index old; new = slice_index new; lens = lens }
