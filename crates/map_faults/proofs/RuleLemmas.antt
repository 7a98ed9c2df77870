-- How many descriptors there are.
use Rattle.std.proofs.Common.{◌≡◌, ℕ, ◌+◌, ◌*◌, ◌<◌, ◌≤◌, List, [], ◌∷◌, length, arith}
use Rattle.std.specs.Prelude.{◌^◌, Option, None}
use Rattle.memory_map.specs.declared.descriptor.Descriptor.{Descriptor}
use Rattle.memory_map.specs.Map.{Covers}
use Rattle.base_reloc.specs.declared.site.Site.{Site}
use Rattle.map_faults.specs.Faults.{leaving}
use Rattle.map_faults.specs.Grounds.{Ground, IsGround}

covered : (from to : ℕ) (ds : List Descriptor) → Covers from to ds → from + 4096 * length ds ≤ to
covered from to [] h = omega (arith, h)
covered from to (d ∷ ds) h =
    let later = covered (from + 4096 * d.pages) to ds h.2 in
    let some = h.1 in
    omega (arith, later, some)

pub few_descriptors : (g : Ground) → IsGround g → length g.descriptors < 2 ^ 32
few_descriptors g h =
    let all = covered g.layout.base (g.layout.base + 4096 * g.layout.pages) g.descriptors h.covers in
    let most = h.layout.ram.most in
    omega (arith, all, most)

-- without a word no site leaves its range
pub none_left : (by number : ℕ) (sites : List Site) (rest : List ℕ) (found : Option ℕ) → length rest ≡ 0 → leaving by number sites rest ≡ found → None ≡ found
unfolding leaving
none_left by number [] rest found e h = h
none_left by number (site ∷ sites) [] found e h = h
none_left by number (site ∷ sites) (word ∷ rest) found e h = absurd (omega (arith, e))
