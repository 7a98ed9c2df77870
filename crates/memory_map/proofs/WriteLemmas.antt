-- Bytes of descriptors one behind another.
use Rattle.std.proofs.Common.{◌≡◌, ◌*◌, List, [], ◌∷◌, length, refl, arith, length-append}
use Rattle.memory_map.specs.declared.descriptor.Descriptor.{Descriptor}
use Rattle.memory_map.specs.Bytes.{bytes_of, all_bytes}

pub forty : (d : Descriptor) → length (bytes_of d) ≡ 40
unfolding bytes_of
forty d = refl

pub forties : (list : List Descriptor) → length (all_bytes list) ≡ 40 * length list
forties [] = refl
forties (d ∷ list) = let more = forties list in omega (arith, more, forty d, length-append (bytes_of d) (all_bytes list))
