-- Lists of values beside the items that they stand for.
use Rattle.std.proofs.Common.{◌≡◌, List, [], ◌∷◌, length, refl, arith, sym}
use Rattle.toml.specs.View.{items_view}
use Rattle.toml.specs.declared.value.Value.{Value}
use Rattle.prov_cert.specs.Reading.{items_len}

items_len-view : (vs : List Value) → items_len (items_view vs) ≡ length vs
items_len-view [] = refl
items_len-view (v ∷ vs) = omega (arith, items_len-view vs)

pub length_as_items : (vs : List Value) → length vs ≡ items_len (items_view vs)
length_as_items vs = sym (items_len-view vs)
