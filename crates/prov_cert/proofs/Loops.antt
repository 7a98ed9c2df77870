-- One turn of a loop over the values of a list.
use Rattle.std.proofs.Common.{◌≡◌, ℕ, ◌+◌, ◌<◌, ◌≤◌, List, [], ◌∷◌, ◌++◌, length, get_or, drop, Option, Some, None, Result, Ok, Err, refl, sym, subst, ap, ◌∙◌}
use Rattle.toml.proofs.Views.{items_view-drop}
use Rattle.toml.specs.Data.{Data}
use Rattle.toml.specs.View.{view, items_view}
use Rattle.toml.specs.declared.value.Value.{Value}
use Rattle.std.proofs.lemmas.List.{drop_all}
use Rattle.prov_cert.specs.declared.fault.Part.{Part}
use Rattle.prov_cert.specs.Faults.{Place, placed}
use Rattle.prov_cert.specs.Reading.{items_of, region_in, region_at, span_at, entry_at, node_number, notify_at, node_at}
use Rattle.prov_cert.specs.Forms.{Counts}
use Rattle.prov_cert.specs.Cert.{Entry, Node}
use Rattle.prov_cert.specs.declared.cert.OwnRegion.{OwnRegion}
use Rattle.prov_cert.specs.declared.cert.CertSpan.{CertSpan}

module _ {A : Type 0} (part : Part) (form : List A → Data → Option A) where
  next : (before : List A) (vs : List Value) (i : ℕ) (d : Value) → i < length vs
      → placed (part, length before) (form before (view (get_or vs i d))) (λ x. items_of part form (before ++ x ∷ []) (items_view (drop (i + 1) vs))) ≡ items_of part form before (items_view (drop i vs))
  unfolding items_of
  next before vs i d h = rw (items_view-drop vs i d h) refl

  pub ended : (before : List A) (vs : List Value) (i : ℕ) → length vs ≤ i → items_of part form before (items_view (drop i vs)) ≡ Ok before
  unfolding items_of
  ended before vs i h = rw (drop_all i vs h) refl

  -- the same, as a loop needs it
  module _ (before : List A) (vs : List Value) (i : ℕ) (v : Value) (whole : Result (List A) Place) (below : i < length vs) (is : v ≡ get_or vs i v) (so_far : items_of part form before (items_view (drop i vs)) ≡ whole) where
    turn : placed (part, length before) (form before (view v)) (λ x. items_of part form (before ++ x ∷ []) (items_view (drop (i + 1) vs))) ≡ whole
    turn = subst (λ (w : Value). placed (part, length before) (form before (view w)) (λ x. items_of part form (before ++ x ∷ []) (items_view (drop (i + 1) vs))) ≡ whole) (sym is) (next before vs i v below ∙ so_far)

    pub goes_on : (x : A) → form before (view v) ≡ Some x → items_of part form (before ++ x ∷ []) (items_view (drop (i + 1) vs)) ≡ whole
    goes_on x h = rw h at turn

    pub fails : form before (view v) ≡ None → whole ≡ Err (part, length before)
    fails h = sym turn ∙ rw h refl

-- ---- what the program's calls say of an item beside those before it

pub region_is : (before : List OwnRegion) (n : ℕ) (d : Data) (o : Option OwnRegion) → n ≡ length before → o ≡ region_in (6 + n) d → region_at before d ≡ o
unfolding region_at
region_is before n d o e h = sym (h ∙ ap (λ k. region_in (6 + k) d) e)

pub span_is : (regions : ℕ) (before : List CertSpan) (d : Data) (o : Option CertSpan) → o ≡ span_at regions [] d → span_at regions before d ≡ o
unfolding span_at
span_is regions before d o h = sym h

pub entry_is : (counts : Counts) (before : List Entry) (d : Data) (o : Option Entry) → o ≡ entry_at counts [] d → entry_at counts before d ≡ o
unfolding entry_at
entry_is counts before d o h = sym h

pub notify_is : (nodes : ℕ) (before : List ℕ) (d : Data) (o : Option ℕ) → o ≡ node_number nodes d → notify_at nodes before d ≡ o
unfolding notify_at
notify_is nodes before d o h = sym h

pub node_is : (counts : Counts) (before : List Node) (d : Data) (o : Option Node) → o ≡ node_at counts [] d → node_at counts before d ≡ o
unfolding node_at
node_is counts before d o h = sym h
