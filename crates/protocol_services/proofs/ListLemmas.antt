-- Lists as bytes.
use Rattle.std.proofs.Common.{◌≡◌, ℕ, ◌+◌, ◌*◌, zero, suc, List, [], ◌∷◌, ◌++◌, length, length-append, append_assoc, append-nil, refl, sym, ap, ◌∙◌, arith}
use Rattle.uh_base.specs.Bytes.{behind}
use Rattle.protocol_services.specs.Lists.{guid_addresses}

-- an address more is listed
pub address_next : (xs more : List ℕ) (here there left n : ℕ) (whole : List ℕ) → left ≡ suc n → there ≡ behind here 16 → more ≡ xs ++ here ∷ [] → xs ++ guid_addresses here left ≡ whole → more ++ guid_addresses there n ≡ whole
unfolding guid_addresses
address_next xs more here there left n whole e t m so_far =
    ap (λ (k : List ℕ). k ++ guid_addresses there n) m ∙ ap (λ (k : ℕ). (xs ++ here ∷ []) ++ guid_addresses k n) t ∙ append_assoc xs (here ∷ []) (guid_addresses (behind here 16) n)
    ∙ ap (λ (k : ℕ). xs ++ guid_addresses here k) (sym e) ∙ so_far

pub addresses_over : (xs : List ℕ) (here left : ℕ) (whole : List ℕ) → left ≡ zero → xs ++ guid_addresses here left ≡ whole → xs ≡ whole
unfolding guid_addresses
addresses_over xs here left whole e so_far = sym (append-nil xs) ∙ ap (λ (k : ℕ). xs ++ guid_addresses here k) (sym e) ∙ so_far
