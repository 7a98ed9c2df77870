-- Bytes of two memories that the same regions lie in, at other addresses.
use Rattle.std.specs.Prelude.{ℕ, ◌≡◌, ◌+◌, ◌<◌, List}
use Rattle.uh_base.specs.Bytes.{number_at}
use Rattle.prov_types.specs.declared.kinds.Kind.{Kind}
use Rattle.prov_types.specs.Kinds.{Regions, Holds, length_of}

abbrev pub AreBytes : (ℕ → ℕ) → Type 0
AreBytes b = (at : ℕ) → b at < 256

-- no two regions have an address in common
abbrev pub NoneMeet : (start : ℕ → ℕ) → (lens : List ℕ) → Type 0
NoneMeet start lens = (r q o x : ℕ) → o < length_of lens r → x < length_of lens q → start r + o ≡ start q + x → r ≡ q

-- in neither run
pub record AreDisjoint (g : Regions) : Type 0 where
  pub old : NoneMeet g.old g.lens
  pub new : NoneMeet g.new g.lens

-- the byte at an offset of a region is the same in both runs
abbrev pub SameByte : Regions → (r o : ℕ) → (b c : ℕ → ℕ) → Type 0
SameByte g r o b c = b (g.old r + o) ≡ c (g.new r + o)

-- the numbers of so many bytes at an offset of a region are of a kind
abbrev pub NumberHolds : Regions → (r o width : ℕ) → Kind → (b c : ℕ → ℕ) → Type 0
NumberHolds g r o width kind b c = Holds g kind (number_at b (g.old r + o) width) (number_at c (g.new r + o) width)
