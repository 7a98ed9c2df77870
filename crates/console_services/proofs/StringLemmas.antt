-- A string read unit by unit.
use Rattle.std.proofs.Common.{◌≡◌, ◌≢◌, ℕ, zero, suc, ◌+◌, ◌-◌, ◌*◌, ◌%◌, ◌^◌, ◌≤◌, Bool, true, false, List, [], ◌∷◌, ◌++◌, Option, Some, None, refl, sym, ap, ◌∙◌, arith, append-nil, append_assoc, length, take, drop, get_or}
use Rattle.std.specs.Prelude.{◌==◌, is_none, if◌then◌else◌}
use Rattle.std.specs.Option.{option_map}
use Rattle.std.proofs.lemmas.Bool.Decides.{nat_tests}
use Rattle.uh_base.specs.Bytes.{next, first_refused, number_at}
use Rattle.guest_memory.specs.Runs.{bytes_from}
use Rattle.guest_memory.specs.Pages.{Pages, bytes_of}
use Rattle.address_view.specs.Windows.{see, seen_bytes}
use Rattle.address_view.specs.Seen.{is_seen}
use Rattle.address_view.specs.declared.view.Window.{Window}
use Rattle.console_services.specs.Strings.{string_at, unit_is_seen, unit_at, SeenFrom}

abbrev pub behind : List ℕ → Option (List ℕ) → Option (List ℕ)
behind units rest = option_map (λ (more : List ℕ). units ++ more) rest

unseen : (b : Bool) (unit : ℕ) → None ≡ (if b then Some unit else None) → b ≡ false
unseen true unit h = let bad : ⊥ = cc in absurd bad
unseen false unit h = refl

seen : (b : Bool) (unit u : ℕ) → Some u ≡ (if b then Some unit else None) → (b ≡ true) × (unit ≡ u)
seen true unit u h = (refl, cc)
seen false unit u h = let bad : ⊥ = cc in absurd bad

two_behind : (at : ℕ) → next (next at) ≡ (at + 2) % 2 ^ 64
two_behind at = omega arith

longer : (units : List ℕ) (unit : ℕ) (rest : Option (List ℕ)) → behind (units ++ unit ∷ []) rest ≡ behind units (option_map (λ (more : List ℕ). unit ∷ more) rest)
longer units unit None = refl
longer units unit (Some more) = ap Some (append_assoc units (unit ∷ []) more)

module _ (view : List Window) (m : Pages) (at left n : ℕ) (units : List ℕ) (whole : Option (List ℕ)) (is_left : left ≡ suc n) (so_far : behind units (string_at left view m at) ≡ whole) where
  pub stops : None ≡ (if unit_is_seen view m at then Some (unit_at view m at) else None) → None ≡ whole
  unfolding string_at
  stops h = let e = unseen _ _ h in let f = rw is_left at so_far in rw e at f

  pub ends : (u : ℕ) → u ≡ 0 → Some u ≡ (if unit_is_seen view m at then Some (unit_at view m at) else None) → Some units ≡ whole
  unfolding string_at
  ends u none h =
      let e = seen _ _ _ h in
      let zeroed : (unit_at view m at == 0) ≡ true = rw (e.1, none) refl in
      let f = rw is_left at so_far in
      ap Some (sym (append-nil units)) ∙ (rw (e.0, zeroed) at f)

  pub goes_on : (unit : ℕ) (here : ℕ) (more : List ℕ) → Some unit ≡ (if unit_is_seen view m at then Some (unit_at view m at) else None) → unit ≢ 0 → here ≡ (at + 2) % 2 ^ 64 → more ≡ units ++ unit ∷ []
      → behind more (string_at n view m here) ≡ whole
  unfolding string_at
  goes_on unit here more h other to pushed =
      let e = seen _ _ _ h in
      let not_zero : (unit_at view m at == 0) ≡ false = rw e.1 (grind (arith, nat_tests)) in
      let f = rw is_left at so_far in
      let g = rw (e.0, not_zero, e.1) at f in
      rw (pushed, to, ← (two_behind at)) (longer units unit (string_at n view m (next (next at))) ∙ g)

pub runs_out : (view : List Window) (m : Pages) (at left : ℕ) (units : List ℕ) (whole : Option (List ℕ)) → left ≡ zero → behind units (string_at left view m at) ≡ whole → None ≡ whole
unfolding string_at
runs_out view m at left units whole none so_far = rw none at so_far

-- ---- bytes that are seen from an address on

pub none_seen : (view : List Window) (m : Pages) (at : ℕ) (bytes : List ℕ) → bytes ≡ [] → SeenFrom view m at bytes
unfolding bytes_from first_refused
none_seen view m at bytes e = rw e (refl, refl)

unrefused : (b : Bool) (at : ℕ) (rest : Option ℕ) → is_none (if b then rest else Some at) ≡ true → (b ≡ true) × (is_none rest ≡ true)
unrefused true at rest e = (refl, e)
unrefused false at rest e = grind arith

-- the unit at their head, and those behind it
part_head : (view : List Window) (m : Pages) (at a b : ℕ) (rest : List ℕ) → SeenFrom view m at (a ∷ b ∷ rest) → (unit_is_seen view m at ≡ true) × (unit_at view m at ≡ a + 256 * b) × SeenFrom view m (next (next at)) rest
unfolding bytes_from first_refused number_at
part_head view m at a b rest s =
    let f = seen_bytes (see view) (bytes_of m) in
    let e : (a ∷ b ∷ rest) ≡ (f at ∷ f (next at) ∷ bytes_from f (next (next at)) (length rest)) = s.0 in
    let p : a ≡ f at = cc in
    let q : b ≡ f (next at) = cc in
    let r : rest ≡ bytes_from f (next (next at)) (length rest) = cc in
    let u = unrefused (is_seen (see view) m at) at (first_refused (is_seen (see view) m) (next at) (suc (length rest))) s.1 in
    let v = unrefused (is_seen (see view) m (next at)) (next at) (first_refused (is_seen (see view) m) (next (next at)) (length rest)) u.1 in
    (rw (u.0, v.0) refl, omega (arith, p, q), (r, v.1))

pub part_unit : (view : List Window) (m : Pages) (at : ℕ) (bytes : List ℕ) (d e : ℕ) → 2 ≤ length bytes → SeenFrom view m at bytes
    → (unit_is_seen view m at ≡ true) × (unit_at view m at ≡ get_or bytes 0 d + 256 * get_or bytes 1 e) × SeenFrom view m ((at + 2) % 2 ^ 64) (drop 2 bytes)
part_unit view m at [] d e long s = absurd (omega arith)
part_unit view m at (a ∷ []) d e long s = absurd (omega arith)
part_unit view m at (a ∷ b ∷ rest) d e long s =
    let h = part_head view m at a b rest s in
    (h.0, h.1, rw (← (two_behind at)) h.2)

take_all : (xs : List ℕ) → take (length xs) xs ≡ xs
take_all [] = refl
take_all (x ∷ xs) = ap (λ (ys : List ℕ). x ∷ ys) (take_all xs)

pub later_seen : (view : List Window) (m : Pages) (at : ℕ) (bytes : List ℕ) → 2 ≤ length bytes → SeenFrom view m at bytes → SeenFrom view m ((at + 2) % 2 ^ 64) (take (length bytes - 2) (drop 2 bytes))
later_seen view m at [] long s = absurd (omega arith)
later_seen view m at (a ∷ []) long s = absurd (omega arith)
later_seen view m at (a ∷ b ∷ rest) long s =
    let h = part_head view m at a b rest s in
    let n : suc (suc (length rest)) - 2 ≡ length rest = omega arith in
    rw (← (two_behind at), n, take_all rest) h.2

begins_with : (o : Option (List ℕ)) → behind [] o ≡ o
begins_with None = refl
begins_with (Some units) = refl

pub begins : (units : List ℕ) (o : Option (List ℕ)) → units ≡ [] → behind units o ≡ o
begins units o e = rw e (begins_with o)
