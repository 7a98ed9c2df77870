-- Pairs that are read one after another.
use Rattle.std.proofs.Common.{◌≡◌, ◌+◌, ◌++◌, ℕ, zero, suc, List, [], ◌∷◌, append_assoc, append-nil, refl, sym, ap, ◌∙◌}
use Rattle.std.specs.Prelude.{Option, Some, None}
use Rattle.std.specs.Option.{option_map}
use Rattle.uh_base.specs.declared.guid.Guid.{Guid}
use Rattle.guest_memory.specs.Pages.{Pages}
use Rattle.protocol_services.specs.declared.pairs.NextPair.{NextPair}
use Rattle.protocol_services.specs.declared.pairs.NextPair.TheVariants.{Pair, End, Bad}
use Rattle.protocol_services.specs.Pairs.{next_pair, pairs_from, with_next}

abbrev pub before : List (Guid × ℕ) → Option (List (Guid × ℕ)) → Option (List (Guid × ℕ))
before pairs later = option_map (λ (rest : List (Guid × ℕ)). pairs ++ rest) later

-- one pair more is read
longer : (pairs : List (Guid × ℕ)) (pair : Guid × ℕ) (later : Option (List (Guid × ℕ))) → before (pairs ++ pair ∷ []) later ≡ before pairs (option_map (λ (rest : List (Guid × ℕ)). pair ∷ rest) later)
longer pairs pair None = refl
longer pairs pair (Some rest) = ap Some (append_assoc pairs (pair ∷ []) rest)

module _ (x : List ℕ) (see : ℕ → Option ℕ) (m : Pages) (at left n : ℕ) (pairs : List (Guid × ℕ)) (whole : Option (List (Guid × ℕ))) (is_left : left ≡ suc n) (so_far : before pairs (pairs_from left x see m at) ≡ whole) where
  step : before pairs (with_next (next_pair x see m at) (pairs_from n x see m (at + 2))) ≡ whole
  unfolding pairs_from
  step = ap (λ (k : ℕ). before pairs (pairs_from k x see m at)) (sym is_left) ∙ so_far

  pub bad : Bad ≡ next_pair x see m at → None ≡ whole
  bad e = ap (λ (next : NextPair). before pairs (with_next next (pairs_from n x see m (at + 2)))) e ∙ step

  pub ends : End ≡ next_pair x see m at → Some pairs ≡ whole
  ends e = ap Some (sym (append-nil pairs)) ∙ ap (λ (next : NextPair). before pairs (with_next next (pairs_from n x see m (at + 2)))) e ∙ step

  pub goes_on : (guid : Guid) (interface there : ℕ) (more : List (Guid × ℕ)) → Pair guid interface ≡ next_pair x see m at → there ≡ at + 2 → more ≡ pairs ++ (guid, interface) ∷ [] → before more (pairs_from n x see m there) ≡ whole
  goes_on guid interface there more e t pushed =
      ap (λ (list : List (Guid × ℕ)). before list (pairs_from n x see m there)) pushed ∙ ap (λ (k : ℕ). before (pairs ++ (guid, interface) ∷ []) (pairs_from n x see m k)) t
      ∙ longer pairs (guid, interface) (pairs_from n x see m (at + 2)) ∙ ap (λ (next : NextPair). before pairs (with_next next (pairs_from n x see m (at + 2)))) e ∙ step

pub runs_out : (x : List ℕ) (see : ℕ → Option ℕ) (m : Pages) (at left : ℕ) (pairs : List (Guid × ℕ)) (whole : Option (List (Guid × ℕ))) → left ≡ zero → before pairs (pairs_from left x see m at) ≡ whole → None ≡ whole
unfolding pairs_from
runs_out x see m at left pairs whole none so_far = ap (λ (k : ℕ). before pairs (pairs_from k x see m at)) (sym none) ∙ so_far
