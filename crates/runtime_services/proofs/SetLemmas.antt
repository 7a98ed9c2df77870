-- A set with the bytes that a call brings.
use Rattle.std.proofs.Common.{◌≡◌, ℕ, zero, suc, Bool, true, List, length, Option, Some, None, refl, sym, ap, ◌∙◌}
use Rattle.std.specs.Prelude.{Ok, Err}
use Rattle.uh_base.specs.declared.guid.Guid.{Guid}
use Rattle.uh_base.specs.Statuses.{success}
use Rattle.uh_base.specs.Bytes.{next}
use Rattle.guest_memory.specs.Pages.{Pages, bytes_of}
use Rattle.guest_memory.specs.Runs.{bytes_from}
use Rattle.address_view.specs.Windows.{seen_bytes}
use Rattle.variable_store.specs.Entries.{Entry}
use Rattle.variable_store.specs.Sets.{refusal_of, set_of, answered}
use Rattle.variable_store.specs.declared.refusal.VarRefusal.{VarRefusal}
use Rattle.guest_call.specs.Checks.{can_read_buffer}
use Rattle.runtime_services.specs.declared.set.GivenData.{GivenData}
use Rattle.runtime_services.specs.Refusals.{variable_status}
use Rattle.runtime_services.specs.SetVariable.{set_given}

as_many : (f : ℕ → ℕ) (at n : ℕ) → length (bytes_from f at n) ≡ n
unfolding bytes_from
as_many f at zero = refl
as_many f at (suc n) = ap suc (as_many f (next at) n)

none_refused : (o : Option VarRefusal) (after new : List Entry) → answered o after ≡ Ok new → o ≡ None
none_refused None after new e = refl
none_refused (Some refusal) after new e = let bad : ⊥ = cc in absurd bad

one_refused : (o : Option VarRefusal) (after : List Entry) (refusal : VarRefusal) → answered o after ≡ Err refusal → o ≡ Some refusal
one_refused None after refusal e = let bad : ⊥ = cc in absurd bad
one_refused (Some other) after refusal e = let same : other ≡ refusal = cc in ap Some same

module _ (see : ℕ → Option ℕ) (m : Pages) (entries : List Entry) (gone : Bool) (name : List ℕ) (vendor : Guid) (given : GivenData) (bytes : List ℕ)
    (loaded : bytes ≡ bytes_from (seen_bytes see (bytes_of m)) given.buffer given.size) where
  many : length bytes ≡ given.size
  many = ap length loaded ∙ as_many (seen_bytes see (bytes_of m)) given.buffer given.size

  pub set_made : (new : List Entry) → can_read_buffer see m given.buffer given.size ≡ true → set_of entries name vendor given.attributes bytes gone ≡ Ok new
      → record { status = success; variables = new } ≡ set_given see m entries gone name vendor given
  unfolding set_of
  set_made new can is =
      let none : refusal_of entries name vendor given.attributes given.size gone ≡ None = ap (λ (n : ℕ). refusal_of entries name vendor given.attributes n gone) (sym many) ∙ none_refused _ _ _ is in
      let set : set_of entries name vendor given.attributes (bytes_from (seen_bytes see (bytes_of m)) given.buffer given.size) gone ≡ Ok new = rw (← loaded) is in
      rw (none, can, set) refl

  pub set_refused : (refusal : VarRefusal) (new : List Entry) → (set_of entries name vendor given.attributes bytes gone ≡ Err refusal) × (new ≡ entries)
      → record { status = variable_status refusal; variables = new } ≡ set_given see m entries gone name vendor given
  unfolding set_of
  set_refused refusal new is =
      let some : refusal_of entries name vendor given.attributes given.size gone ≡ Some refusal = ap (λ (n : ℕ). refusal_of entries name vendor given.attributes n gone) (sym many) ∙ one_refused _ _ _ is.0 in
      rw (some, is.1) refl
