-- Taking a label in.
use Rattle.std.proofs.Common.{◌≡◌, ℕ, Bool, true, false, List, Option, Some, None, refl, sym, ap, ◌∙◌, String}
use Rattle.std.specs.Prelude.{if◌then◌else◌, is_some}
use Rattle.std.proofs.lemmas.Map.Text.{btree_map_updates_text}
use Rattle.std.proofs.lemmas.Slice.Eq.{bytes_eq-Decides}
use Rattle.std.specs.BTreeMap.{BTreeMap, get_by_text, UpdatesBy}
use Rattle.std.specs.Cmp.Lexicographic.{slice_cmp}
use Rattle.std.specs.Ordering.{nat_cmp}
use Rattle.std.specs.Str.{bytes_eq}
use Rattle.std.specs.String.{string_cmp, string_bytes}
use Rattle.guest_build.specs.Views.{or_else, one_label}
use Rattle.guest_build.specs.declared.places.Place.{Place}

pub or_else-none : {A : Type 0} (o : Option A) → or_else o None ≡ o
or_else-none None = refl
or_else-none (Some x) = refl

joined : (old : Option Place) (same : Bool) (place : Place) → (same ≡ true → is_some old ≡ false) → (if same then Some place else old) ≡ or_else old (if same then Some place else None)
joined None true place h = refl
joined (Some x) true place h = cc (h refl)
joined None false place h = refl
joined (Some x) false place h = refl

module _ {Y : Type 0} (m n : BTreeMap (String Y) Place) (name bs : List ℕ) (place : Place) where
  pub added : bs ≡ name → is_some (get_by_text m name) ≡ false → UpdatesBy string_cmp (λ k. slice_cmp nat_cmp bs (string_bytes k)) m n (Some place)
      → (cs : List ℕ) → get_by_text n cs ≡ or_else (get_by_text m cs) (one_label name place cs)
  added e none updates cs =
      let after = rw e at (btree_map_updates_text bs m n (Some place) updates cs) in
      after ∙ joined (get_by_text m cs) (bytes_eq name cs) place (λ same. ap (λ q. is_some (get_by_text m q)) (sym ((bytes_eq-Decides name cs).0 same)) ∙ none)
