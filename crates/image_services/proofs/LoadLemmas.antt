-- Reading image files.
use Rattle.std.proofs.Common.{◌≡◌, ℕ, suc, ◌+◌, ◌<◌, List, [], ◌∷◌, length, Option, Some, None, Result, Ok, Err, refl, sym, ap, ◌∙◌, arith, add-zero, zero-add}
use Rattle.std.specs.Prelude.{slice_get}
use Rattle.std.proofs.Common.{◌++◌, take, drop, append-nil}
use Rattle.std.proofs.lemmas.Grind.{common_steps}
use Rattle.base_reloc.specs.declared.fault.RelocFault.{RelocFault}
use Rattle.base_reloc.specs.declared.fault.RelocFault.TheVariants as reloc
use Rattle.base_reloc.specs.declared.site.Site.{Site}
use Rattle.base_reloc.specs.Kept as kept
use Rattle.base_reloc.specs.Moved.{moved_byte, first_leaving, all_or_range}
use Rattle.pe_image.specs.declared.fault.PeFault.{PeFault}
use Rattle.pe_image.specs.declared.fault.PeFault.TheVariants as pe
use Rattle.pe_image.specs.ImageOf.{Fields}
use Rattle.pe_image.specs.Checks as checks
use Rattle.image_services.specs.declared.refusal.LoadRefusal.TheVariants as refusals
use Rattle.image_services.specs.Placing.{values_from, moved}
use Rattle.image_services.specs.Loads.{read_image, read_sites}
use Rattle.image_services.specs.Views.{Stops, pe_refusal, reloc_refusal}

pub judged_image : (fault : PeFault) (judged : Result Fields PeFault) → checks.Stops fault judged → Stops (pe_refusal fault) (read_image judged)
judged_image pe.Memory judged h = tt
judged_image fault judged h = ap read_image h

pub judged_sites : (fault : RelocFault) (judged : Result (List Site) RelocFault) → kept.Stops fault judged → Stops (reloc_refusal fault) (read_sites judged)
judged_sites reloc.Memory judged h = tt
judged_sites fault judged h = ap read_sites h

some_same : (x y : ℕ) → Some x ≡ Some y → x ≡ y
some_same x y h = cc

one_on : (at i : ℕ) → at + suc i ≡ at + 1 + i
one_on at i = omega arith

cons_same : (x y : ℕ) (xs ys : List ℕ) → x ≡ y → xs ≡ ys → x ∷ xs ≡ y ∷ ys
cons_same x y xs ys h t = cc

-- a list that has a function's value at each index
module _ (f : ℕ → ℕ) where
  from_each : (xs : List ℕ) (at : ℕ) → ((i : ℕ) → i < length xs → slice_get xs i ≡ Some (f (at + i))) → xs ≡ values_from f at (length xs)
  unfolding values_from
  from_each [] at h = refl
  from_each (x ∷ xs) at h =
      let first : x ≡ f at = some_same x (f at) (h 0 (omega arith) ∙ ap (λ k. Some (f k)) (add-zero at)) in
      let rest = from_each xs (at + 1) (λ i below. h (suc i) (omega arith) ∙ ap (λ k. Some (f k)) (one_on at i)) in
      cons_same x (f at) xs (values_from f (at + 1) (length xs)) first rest

pub each_value : (f : ℕ → ℕ) (xs : List ℕ) (n : ℕ) → length xs ≡ n → ((i : ℕ) → i < length xs → slice_get xs i ≡ Some (f i)) → xs ≡ values_from f 0 n
each_value f xs n len h = from_each f xs 0 (λ i below. h i below ∙ ap (λ k. Some (f k)) (sym (zero-add i))) ∙ ap (values_from f 0) len

-- a vector whose slice was written
pub whole_written : (len : ℕ) (new items : List ℕ) → length new ≡ length items → len ≡ length items → take len (new ++ drop (length new) items) ≡ new
whole_written len new items e l =
    let none : drop (length new) items ≡ [] = grind (arith, common_steps) in
    rw none (ap (take len) (append-nil new) ∙ grind (arith, common_steps))

none_leaves : (o : Option ℕ) → Ok tt ≡ all_or_range o → o ≡ None
none_leaves None h = refl
none_leaves (Some i) h = let bad : ⊥ = cc in absurd bad

pub moved_whole : (bytes new : List ℕ) (sites : List Site) (by : ℕ) → Ok tt ≡ all_or_range (first_leaving bytes by 0 sites) → length new ≡ length bytes
    → ((at : ℕ) → at < length new → slice_get new at ≡ Some (moved_byte bytes sites by at)) → moved bytes sites by ≡ Ok new
moved_whole bytes new sites by h len each =
    let none = none_leaves _ h in
    rw none (ap Ok (sym (each_value (moved_byte bytes sites by) new (length bytes) len each)))

some_leaves : (o : Option ℕ) (bytes : List ℕ) (sites : List Site) (by : ℕ) (fault : RelocFault) → Err fault ≡ all_or_range o → first_leaving bytes by 0 sites ≡ o → moved bytes sites by ≡ Err (refusals.Reloc fault)
some_leaves None bytes sites by fault h e = let bad : ⊥ = cc in absurd bad
some_leaves (Some i) bytes sites by fault h e = let same : fault ≡ reloc.Range32 i = cc in rw (same, e) refl

pub leaving_moved : (bytes : List ℕ) (sites : List Site) (by : ℕ) (fault : RelocFault) → Err fault ≡ all_or_range (first_leaving bytes by 0 sites) → moved bytes sites by ≡ Err (refusals.Reloc fault)
leaving_moved bytes sites by fault h = some_leaves (first_leaving bytes by 0 sites) bytes sites by fault h refl
