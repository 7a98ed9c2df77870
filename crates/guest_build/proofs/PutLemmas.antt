-- Putting one thing behind another.
use Rattle.std.proofs.Common.{◌≡◌, List, ◌++◌, Result, Ok, Err, ℕ, refl, sym, ap, ◌∙◌, append_assoc}
use Rattle.uh_base.specs.Answers.{◌>>=◌}
use Rattle.guest_build.specs.Faults.{behind, Puts}
use Rattle.guest_build.specs.declared.fault.AsmKind.{AsmKind}
use Rattle.uh_base.specs.declared.fault.Fault.{Fault}
use Rattle.uh_base.specs.declared.fault.Fault.TheVariants as inner

pub puts_both : {X : Type 0} (result : Result X (Fault AsmKind)) (old mid new : List ℕ) (one other : Result (List ℕ) AsmKind)
    → behind old one ≡ Ok mid → Puts result mid new other → Puts result old new (one >>= λ a. other >>= λ b. Ok (a ++ b))
puts_both result old mid new (Err kind) other h k = cc
puts_both (Ok x) old mid new (Ok a) (Err kind) h k = cc
puts_both (Ok x) old mid new (Ok a) (Ok b) h k =
    let e : old ++ a ≡ mid = cc in
    ap (λ xs. Ok xs) (sym (append_assoc old a b) ∙ ap (λ xs. xs ++ b) e) ∙ k
puts_both (Err inner.Memory) old mid new (Ok a) other h k = tt
puts_both (Err (inner.Kind kind)) old mid new (Ok a) other h k = rw k refl
