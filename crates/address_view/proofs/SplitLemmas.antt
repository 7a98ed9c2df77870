-- A range in two parts.
use Rattle.std.proofs.Common.{◌≡◌, ℕ, ◌+◌, ◌-◌, ◌<◌, ◌≤◌, ◌^◌, Bool, true, false, List, [], ◌∷◌, ◌++◌, length, refl, sym, ◌∙◌, ap, arith, zero, suc}
use Rattle.std.specs.Prelude.{◌&&◌, Option, None}
use Rattle.std.proofs.lemmas.List.{append_assoc}
use Rattle.uh_base.specs.Bytes.{next, behind, first_refused}
use Rattle.guest_memory.specs.Runs.{bytes_from}
use Rattle.guest_memory.specs.Pages.{Pages}
use Rattle.address_view.specs.Stored.{put_seen, stored, mark_seen, marked, is_marked, all_marked}
use Rattle.address_view.proofs.StoreLaws.{unrefused}
use Rattle.address_view.proofs.RangeLemmas.{behind_next, behind_none, next_low}

-- the first part passes a test: the second decides
pub refused_split : (test : ℕ → Bool) (at total n rest : ℕ) → total ≡ n + rest → at < 2 ^ 64 → first_refused test at n ≡ None → first_refused test at total ≡ first_refused test (behind at n) rest
unfolding first_refused
refused_split test at total zero rest e low pass =
    let t : total ≡ rest = omega arith in
    ap (λ k. first_refused test at k) t ∙ ap (λ k. first_refused test k rest) (sym (behind_none at low))
refused_split test at zero (suc n) rest e low pass = absurd (omega arith)
refused_split test at (suc total) (suc n) rest e low pass =
    let u = unrefused (test at) at (first_refused test (next at) n) pass in
    rw u.0 (refused_split test (next at) total n rest (omega arith) (next_low at) u.1 ∙ ap (λ k. first_refused test k rest) (behind_next at n))

-- both parts pass a test that the whole passes
pub pass_split : (test : ℕ → Bool) (at total n rest : ℕ) → total ≡ n + rest → at < 2 ^ 64 → first_refused test at total ≡ None
    → (first_refused test at n ≡ None) × (first_refused test (behind at n) rest ≡ None)
unfolding first_refused
pass_split test at total zero rest e low pass =
    let t : total ≡ rest = omega arith in
    (refl, ap (λ k. first_refused test k rest) (behind_none at low) ∙ ap (λ k. first_refused test at k) (sym t) ∙ pass)
pass_split test at zero (suc n) rest e low pass = absurd (omega arith)
pass_split test at (suc total) (suc n) rest e low pass =
    let u = unrefused (test at) at (first_refused test (next at) total) pass in
    let parts = pass_split test (next at) total n rest (omega arith) (next_low at) u.1 in
    (rw u.0 parts.0, ap (λ k. first_refused test k rest) (sym (behind_next at n)) ∙ parts.1)

pub bytes_split : (bytes : ℕ → ℕ) (at total n rest : ℕ) → total ≡ n + rest → at < 2 ^ 64 → bytes_from bytes at total ≡ bytes_from bytes at n ++ bytes_from bytes (behind at n) rest
unfolding bytes_from
bytes_split bytes at total zero rest e low =
    let t : total ≡ rest = omega arith in
    ap (λ k. bytes_from bytes at k) t ∙ ap (λ k. bytes_from bytes k rest) (sym (behind_none at low))
bytes_split bytes at zero (suc n) rest e low = absurd (omega arith)
bytes_split bytes at (suc total) (suc n) rest e low =
    ap (λ list. bytes at ∷ list) (bytes_split bytes (next at) total n rest (omega arith) (next_low at)
    ∙ ap (λ k. bytes_from bytes (next at) n ++ bytes_from bytes k rest) (behind_next at n))

pub marked_split : (see : ℕ → Option ℕ) (base : ℕ) (marks : List Bool) (at total n rest : ℕ) → total ≡ n + rest → at < 2 ^ 64
    → marked see base marks at total ≡ marked see base (marked see base marks at n) (behind at n) rest
unfolding marked
marked_split see base marks at total zero rest e low =
    let t : total ≡ rest = omega arith in
    ap (λ k. marked see base marks at k) t ∙ ap (λ k. marked see base marks k rest) (sym (behind_none at low))
marked_split see base marks at zero (suc n) rest e low = absurd (omega arith)
marked_split see base marks at (suc total) (suc n) rest e low =
    marked_split see base (mark_seen base marks (see at)) (next at) total n rest (omega arith) (next_low at)
    ∙ ap (λ k. marked see base (marked see base (mark_seen base marks (see at)) (next at) n) k rest) (behind_next at n)

and_joined : (a b c : Bool) → (a && (b && c)) ≡ ((a && b) && c)
and_joined true b c = refl
and_joined false b c = refl

pub all_split : (see : ℕ → Option ℕ) (base : ℕ) (marks : List Bool) (at total n rest : ℕ) → total ≡ n + rest → at < 2 ^ 64
    → all_marked see base marks at total ≡ (all_marked see base marks at n && all_marked see base marks (behind at n) rest)
unfolding all_marked
all_split see base marks at total zero rest e low =
    let t : total ≡ rest = omega arith in
    ap (λ k. all_marked see base marks at k) t ∙ ap (λ k. all_marked see base marks k rest) (sym (behind_none at low))
all_split see base marks at zero (suc n) rest e low = absurd (omega arith)
all_split see base marks at (suc total) (suc n) rest e low =
    ap (λ b. is_marked base marks (see at) && b) (all_split see base marks (next at) total n rest (omega arith) (next_low at)
    ∙ ap (λ k. all_marked see base marks (next at) n && all_marked see base marks k rest) (behind_next at n))
    ∙ and_joined (is_marked base marks (see at)) (all_marked see base marks (next at) n) (all_marked see base marks (behind at (suc n)) rest)

pub stored_split : (see : ℕ → Option ℕ) (m : Pages) (at : ℕ) (xs ys : List ℕ) → at < 2 ^ 64 → stored see m at (xs ++ ys) ≡ stored see (stored see m at xs) (behind at (length xs)) ys
unfolding stored
stored_split see m at [] ys low = ap (λ k. stored see m k ys) (sym (behind_none at low))
stored_split see m at (x ∷ xs) ys low =
    stored_split see (put_seen m x (see at)) (next at) xs ys (next_low at)
    ∙ ap (λ k. stored see (stored see (put_seen m x (see at)) (next at) xs) k ys) (behind_next at (length xs))

-- so many addresses of those that are left are done
pub refused_behind : (test : ℕ → Bool) (at here n left : ℕ) → here ≡ behind at n → n ≤ left → at < 2 ^ 64 → first_refused test at n ≡ None → first_refused test here (left - n) ≡ first_refused test at left
refused_behind test at here n left h few low pass = ap (λ k. first_refused test k (left - n)) h ∙ sym (refused_split test at left n (left - n) (omega arith) low pass)

pub bytes_behind : (bytes : ℕ → ℕ) (list : List ℕ) (at here n left : ℕ) → here ≡ behind at n → n ≤ left → at < 2 ^ 64 → (list ++ bytes_from bytes at n) ++ bytes_from bytes here (left - n) ≡ list ++ bytes_from bytes at left
bytes_behind bytes list at here n left h few low =
    append_assoc list (bytes_from bytes at n) (bytes_from bytes here (left - n))
    ∙ ap (λ k. list ++ (bytes_from bytes at n ++ bytes_from bytes k (left - n))) h
    ∙ ap (λ xs. list ++ xs) (sym (bytes_split bytes at left n (left - n) (omega arith) low))
