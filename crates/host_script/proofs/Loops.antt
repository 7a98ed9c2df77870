-- One turn of a loop over the values of a list.
use Rattle.std.proofs.Common.{◌≡◌, ℕ, ◌+◌, ◌<◌, ◌≤◌, List, [], ◌∷◌, ◌++◌, length, get_or, drop, Option, Result, Ok, refl, sym, subst, ◌∙◌}
use Rattle.toml.proofs.Views.{items_view-drop}
use Rattle.toml.specs.View.{view, items_view}
use Rattle.toml.specs.declared.value.Value.{Value}
use Rattle.std.proofs.lemmas.List.{drop_all}
use Rattle.host_script.specs.declared.fault.ScriptKind.{ScriptKind}
use Rattle.host_script.specs.declared.fault.Fault.{Fault}
use Rattle.host_script.specs.declared.fault.Fault.TheVariants as faults
use Rattle.host_script.specs.declared.script.ImageSpec.{ImageSpec}
use Rattle.host_script.specs.declared.script.Step.{Step}
use Rattle.host_script.specs.Faults.{◌>>=◌, Fails, Place, placed, fault_at, Stops}
use Rattle.host_script.specs.Lists.{form_at, forms_of}
use Rattle.host_script.specs.Script.{image_at, images_of, step_at, steps_of}

-- a failed first part fails the whole
pub Fails-bind : {A B : Type 0} (e : Fault) (r : Result A ScriptKind) (f : A → Result B ScriptKind) (whole : Result B ScriptKind) → Fails e r → (r >>= f) ≡ whole → Fails e whole
Fails-bind faults.Memory r f whole h same = tt
Fails-bind (faults.Kind k) r f whole h same = sym same ∙ rw h refl

pub Stops-placed : {A B : Type 0} (n : ℕ) (e : Fault) (r : Result A ScriptKind) (f : A → Result B Place) (whole : Result B Place) → Fails e r → placed n r f ≡ whole → Stops (fault_at n e) whole
Stops-placed n faults.Memory r f whole h same = tt
Stops-placed n (faults.Kind k) r f whole h same = sym same ∙ rw h refl

pub images_of-next : (before : List ImageSpec) (vs : List Value) (i : ℕ) (d : Value) → i < length vs
    → (image_at before (view (get_or vs i d)) >>= λ x. images_of (before ++ x ∷ []) (items_view (drop (i + 1) vs))) ≡ images_of before (items_view (drop i vs))
unfolding images_of
images_of-next before vs i d h = rw (items_view-drop vs i d h) refl

pub images_of-end : (before : List ImageSpec) (vs : List Value) (i : ℕ) → length vs ≤ i → images_of before (items_view (drop i vs)) ≡ Ok before
unfolding images_of
images_of-end before vs i h = rw (drop_all i vs h) refl

pub steps_of-next : (images : List ImageSpec) (before : List Step) (vs : List Value) (i : ℕ) (d : Value) → i < length vs
    → placed (length before + 1) (step_at images (view (get_or vs i d))) (λ s. steps_of images (before ++ s ∷ []) (items_view (drop (i + 1) vs))) ≡ steps_of images before (items_view (drop i vs))
unfolding steps_of
steps_of-next images before vs i d h = rw (items_view-drop vs i d h) refl

pub steps_of-end : (images : List ImageSpec) (before : List Step) (vs : List Value) (i : ℕ) → length vs ≤ i → steps_of images before (items_view (drop i vs)) ≡ Ok before
unfolding steps_of
steps_of-end images before vs i h = rw (drop_all i vs h) refl

-- ---- the same, as the two loops need it

module _ (before : List ImageSpec) (vs : List Value) (i : ℕ) (v : Value) (whole : Result (List ImageSpec) ScriptKind) (below : i < length vs) (is : v ≡ get_or vs i v) (so_far : images_of before (items_view (drop i vs)) ≡ whole) where
  images_of-turn : (image_at before (view v) >>= λ x. images_of (before ++ x ∷ []) (items_view (drop (i + 1) vs))) ≡ whole
  images_of-turn = subst (λ (w : Value). (image_at before (view w) >>= λ x. images_of (before ++ x ∷ []) (items_view (drop (i + 1) vs))) ≡ whole) (sym is) (images_of-next before vs i v below ∙ so_far)

  pub images_of-goes_on : (x : ImageSpec) → image_at before (view v) ≡ Ok x → images_of (before ++ x ∷ []) (items_view (drop (i + 1) vs)) ≡ whole
  images_of-goes_on x h = rw h at images_of-turn

  pub images_of-fails : (e : Fault) → Fails e (image_at before (view v)) → Fails e whole
  images_of-fails e h = Fails-bind e (image_at before (view v)) _ whole h images_of-turn

module _ (images : List ImageSpec) (before : List Step) (vs : List Value) (i : ℕ) (v : Value) (whole : Result (List Step) Place) (below : i < length vs) (is : v ≡ get_or vs i v) (so_far : steps_of images before (items_view (drop i vs)) ≡ whole) where
  steps_of-turn : placed (length before + 1) (step_at images (view v)) (λ s. steps_of images (before ++ s ∷ []) (items_view (drop (i + 1) vs))) ≡ whole
  steps_of-turn = subst (λ (w : Value). placed (length before + 1) (step_at images (view w)) (λ s. steps_of images (before ++ s ∷ []) (items_view (drop (i + 1) vs))) ≡ whole) (sym is) (steps_of-next images before vs i v below ∙ so_far)

  pub steps_of-goes_on : (x : Step) → step_at images (view v) ≡ Ok x → steps_of images (before ++ x ∷ []) (items_view (drop (i + 1) vs)) ≡ whole
  steps_of-goes_on x h = rw h at steps_of-turn

  pub steps_of-fails : (e : Fault) → Fails e (step_at images (view v)) → Stops (fault_at (length before + 1) e) whole
  steps_of-fails e h = Stops-placed (length before + 1) e (step_at images (view v)) _ whole h steps_of-turn

module _ {A : Type 0} (form : List ℕ → Option A) (before : List A) (vs : List Value) (i : ℕ) where
  forms_of-next : (d : Value) → i < length vs → (form_at form (view (get_or vs i d)) >>= λ x. forms_of form (before ++ x ∷ []) (items_view (drop (i + 1) vs))) ≡ forms_of form before (items_view (drop i vs))
  unfolding forms_of
  forms_of-next d h = rw (items_view-drop vs i d h) refl

  pub forms_of-end : length vs ≤ i → forms_of form before (items_view (drop i vs)) ≡ Ok before
  unfolding forms_of
  forms_of-end h = rw (drop_all i vs h) refl

module _ {A : Type 0} (form : List ℕ → Option A) (before : List A) (vs : List Value) (i : ℕ) (v : Value) (whole : Result (List A) ScriptKind) (below : i < length vs) (is : v ≡ get_or vs i v) (so_far : forms_of form before (items_view (drop i vs)) ≡ whole) where
  forms_of-turn : (form_at form (view v) >>= λ x. forms_of form (before ++ x ∷ []) (items_view (drop (i + 1) vs))) ≡ whole
  forms_of-turn = subst (λ (w : Value). (form_at form (view w) >>= λ x. forms_of form (before ++ x ∷ []) (items_view (drop (i + 1) vs))) ≡ whole) (sym is) (forms_of-next form before vs i v below ∙ so_far)

  pub forms_of-goes_on : (x : A) → form_at form (view v) ≡ Ok x → forms_of form (before ++ x ∷ []) (items_view (drop (i + 1) vs)) ≡ whole
  forms_of-goes_on x h = rw h at forms_of-turn

  pub forms_of-fails : (e : Fault) → Fails e (form_at form (view v)) → Fails e whole
  forms_of-fails e h = Fails-bind e (form_at form (view v)) _ whole h forms_of-turn
