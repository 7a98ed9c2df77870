-- One turn of a loop over the parts of a text.
use Rattle.std.proofs.Common.{◌≡◌, ℕ, ◌+◌, ◌<◌, ◌≤◌, true, false, List, [], ◌∷◌, ◌++◌, length, get_or, drop, Bor, Option, Some, None, refl, sym, ◌∙◌, ap}
use Rattle.std.specs.Prelude.{◌==◌}
use Rattle.std.proofs.lemmas.List.{drop_all, drop_more}
use Rattle.uh_base.specs.Numbers.{number_of}
use Rattle.prov_cert.specs.declared.cert.RegKind.{RegKind}
use Rattle.prov_cert.specs.declared.cert.StackPart.{StackPart}
use Rattle.prov_cert.specs.Forms.{next_register, registers_of, stack_part, index_below, indices_of}
use Rattle.prov_cert.specs.Apart.{parts_of}
use Rattle.prov_cert.specs.Seen.{texts_of}

pub texts-drop : (parts : List (Bor (List ℕ))) (i : ℕ) (p : Bor (List ℕ)) → i < length parts → texts_of (drop i parts) ≡ (get_or parts i p).now ∷ texts_of (drop (i + 1) parts)
texts-drop parts i p h = rw (drop_more parts i p h) refl

pub texts-end : (parts : List (Bor (List ℕ))) (i : ℕ) → length parts ≤ i → texts_of (drop i parts) ≡ []
texts-end parts i h = rw (drop_all i parts h) refl

module _ (regions : ℕ) (before : List RegKind) (parts : List (Bor (List ℕ))) (i : ℕ) (p : Bor (List ℕ)) (whole : Option (List RegKind)) (below : i < length parts) (so_far : registers_of regions before (texts_of (drop i parts)) ≡ whole) where
  register_turn : registers_of regions before ((get_or parts i p).now ∷ texts_of (drop (i + 1) parts)) ≡ whole
  register_turn = sym (ap (registers_of regions before) (texts-drop parts i p below)) ∙ so_far

  pub register_goes : (k : RegKind) → Some k ≡ next_register regions before (get_or parts i p).now → registers_of regions (before ++ k ∷ []) (texts_of (drop (i + 1) parts)) ≡ whole
  unfolding registers_of
  register_goes k h = rw (← h) at register_turn

  pub register_fails : None ≡ next_register regions before (get_or parts i p).now → whole ≡ None
  unfolding registers_of
  register_fails h = sym register_turn ∙ rw (← h) refl

module _ (regions : ℕ) (before : List StackPart) (parts : List (Bor (List ℕ))) (i : ℕ) (p : Bor (List ℕ)) (whole : Option (List StackPart)) (below : i < length parts) (so_far : parts_of regions before (texts_of (drop i parts)) ≡ whole) where
  part_turn : parts_of regions before ((get_or parts i p).now ∷ texts_of (drop (i + 1) parts)) ≡ whole
  part_turn = sym (ap (parts_of regions before) (texts-drop parts i p below)) ∙ so_far

  pub part_goes : (k : StackPart) → Some k ≡ stack_part regions (get_or parts i p).now → parts_of regions (before ++ k ∷ []) (texts_of (drop (i + 1) parts)) ≡ whole
  unfolding parts_of
  part_goes k h = rw (← h) at part_turn

  pub part_fails : None ≡ stack_part regions (get_or parts i p).now → whole ≡ None
  unfolding parts_of
  part_fails h = sym part_turn ∙ rw (← h) refl

module _ (bound : ℕ) (before : List ℕ) (parts : List (Bor (List ℕ))) (i : ℕ) (p : Bor (List ℕ)) (whole : Option (List ℕ)) (below : i < length parts) (so_far : indices_of bound before (texts_of (drop i parts)) ≡ whole) where
  index_turn : indices_of bound before ((get_or parts i p).now ∷ texts_of (drop (i + 1) parts)) ≡ whole
  index_turn = sym (ap (indices_of bound before) (texts-drop parts i p below)) ∙ so_far

  pub index_passes : (length (get_or parts i p).now == 0) ≡ true → indices_of bound before (texts_of (drop (i + 1) parts)) ≡ whole
  unfolding indices_of
  index_passes e = rw e at index_turn

  pub index_goes : (n : ℕ) → (length (get_or parts i p).now == 0) ≡ false → Some n ≡ index_below bound (number_of (get_or parts i p).now) → indices_of bound (before ++ n ∷ []) (texts_of (drop (i + 1) parts)) ≡ whole
  unfolding indices_of
  index_goes n e h = rw (e, ← h) at index_turn

  pub index_fails : (length (get_or parts i p).now == 0) ≡ false → None ≡ index_below bound (number_of (get_or parts i p).now) → whole ≡ None
  unfolding indices_of
  index_fails e h = sym index_turn ∙ rw (e, ← h) refl

pub registers_end : (regions : ℕ) (before : List RegKind) (parts : List (Bor (List ℕ))) (i : ℕ) → length parts ≤ i → registers_of regions before (texts_of (drop i parts)) ≡ Some before
unfolding registers_of
registers_end regions before parts i h = rw (texts-end parts i h) refl

pub parts_end : (regions : ℕ) (before : List StackPart) (parts : List (Bor (List ℕ))) (i : ℕ) → length parts ≤ i → parts_of regions before (texts_of (drop i parts)) ≡ Some before
unfolding parts_of
parts_end regions before parts i h = rw (texts-end parts i h) refl

pub indices_end : (bound : ℕ) (before : List ℕ) (parts : List (Bor (List ℕ))) (i : ℕ) → length parts ≤ i → indices_of bound before (texts_of (drop i parts)) ≡ Some before
unfolding indices_of
indices_end bound before parts i h = rw (texts-end parts i h) refl
