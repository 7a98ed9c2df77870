-- The places of a script's images.
use Rattle.std.proofs.Common.{◌≡◌, ℕ, zero, suc, List, [], ◌∷◌, Bool, true, false, Option, length, get_or, drop, map, ◌<◌, ◌≤◌, ◌+◌, refl, sym, ap, subst, ◌∙◌, arith}
use Rattle.std.proofs.lemmas.List.{drop_more, drop_all, length-map}
use Rattle.std.specs.Str.{bytes_eq}
use Rattle.host_script.specs.Forms.{IsStep, AreSteps}
use Rattle.host_script.specs.Script.{has_image}
use Rattle.host_script.specs.declared.script.ImageSpec.{ImageSpec}
use Rattle.host_script.specs.declared.script.Step.{Step}
use Rattle.host_engine.specs.Inputs.{Inputs}
use Rattle.host_engine.specs.ScriptRuns.{place_of}

pub place_in : (images : List ImageSpec) (name : List ℕ) → has_image images name ≡ true → place_of images name < length images
place_in [] name h = absurd (let bad : ⊥ = cc in bad)
place_in (image ∷ images) name h = by (bytes_eq image.name name) refl (λ rest. place_in images name rest)
  where
    by : (same : Bool) → bytes_eq image.name name ≡ same → (has_image images name ≡ true → place_of images name < length images) → place_of (image ∷ images) name < length (image ∷ images)
    by true e below = rw e (omega arith)
    by false e below = let rest : has_image images name ≡ true = rw e at h in let less = below rest in rw e (omega (arith, less))

place_here : (image : ImageSpec) (images : List ImageSpec) (name : List ℕ) → bytes_eq image.name name ≡ true → place_of (image ∷ images) name ≡ 0
place_here image images name e = rw e refl

place_past : (image : ImageSpec) (images : List ImageSpec) (name : List ℕ) → bytes_eq image.name name ≡ false → place_of (image ∷ images) name ≡ 1 + place_of images name
place_past image images name e = rw e refl

module _ (images : List ImageSpec) (name : List ℕ) (i : ℕ) (image : ImageSpec) (below : i < length images) (is : image ≡ get_or images i image) (so_far : i + place_of (drop i images) name ≡ place_of images name) where
  cut : drop i images ≡ image ∷ drop (i + 1) images
  cut = subst (λ (x : ImageSpec). drop i images ≡ x ∷ drop (i + 1) images) (sym is) (drop_more images i image below)

  pub found : bytes_eq image.name name ≡ true → i ≡ place_of images name
  found e =
      let none : place_of (drop i images) name ≡ 0 = ap (λ (l : List ImageSpec). place_of l name) cut ∙ place_here image (drop (i + 1) images) name e in
      omega (arith, so_far, none)

  pub not_here : bytes_eq image.name name ≡ false → i + 1 + place_of (drop (i + 1) images) name ≡ place_of images name
  not_here e =
      let one : place_of (drop i images) name ≡ 1 + place_of (drop (i + 1) images) name = ap (λ (l : List ImageSpec). place_of l name) cut ∙ place_past image (drop (i + 1) images) name e in
      omega (arith, so_far, one)

pub nowhere : (images : List ImageSpec) (name : List ℕ) (i : ℕ) → length images ≤ i → i + place_of (drop i images) name ≡ place_of images name → i ≡ place_of images name
nowhere images name i past so_far =
    let none : place_of (drop i images) name ≡ 0 = ap (λ (l : List ImageSpec). place_of l name) (drop_all i images past) in
    omega (arith, so_far, none)

pub step_at : (images : List ImageSpec) (steps : List Step) (i : ℕ) (step : Step) → AreSteps images steps → i < length steps → step ≡ get_or steps i step → IsStep images step
step_at images [] i step keep below is = absurd (omega arith)
step_at images (first ∷ steps) zero step keep below is = subst (IsStep images) (sym is) keep.0
step_at images (first ∷ steps) (suc i) step keep below is = step_at images steps i step keep.1 (omega arith) is

-- the place of a known image is one of the inputs
pub is_handed : {V : Type 0} (view : V → List ℕ) (images other : List ImageSpec) (name : List ℕ) (place : ℕ) (files slice : List V) (store : Option (List ℕ)) (inputs : Inputs) → has_image other name ≡ true → place ≡ place_of images name → images ≡ other
    → slice ≡ files → record { images = map view files; store = store } ≡ inputs → length inputs.images ≡ length other → place < length slice
is_handed view images other name place files slice store inputs has is same whole viewed many =
    let below : place_of other name < length other = place_in other name has in
    let at : place ≡ place_of other name = is ∙ ap (λ (l : List ImageSpec). place_of l name) same in
    let a : length slice ≡ length files = ap length whole in
    let b : length (map view files) ≡ length files = length-map files view in
    let e : length (map view files) ≡ length inputs.images = ap (λ (i : Inputs). length i.images) viewed in
    omega (arith, below, at, a, b, e, many)

-- the place of a known image is below how many there are
pub place_below : (images other : List ImageSpec) (name : List ℕ) (place n : ℕ) → has_image other name ≡ true → place ≡ place_of images name → images ≡ other → n ≡ length other → place < n
place_below images other name place n has is same many =
    let below : place_of other name < length other = place_in other name has in
    let at : place ≡ place_of other name = is ∙ ap (λ (l : List ImageSpec). place_of l name) same in
    omega (arith, below, at, many)
