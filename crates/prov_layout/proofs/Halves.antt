-- The piece of a byte among pieces in order.
use Rattle.std.proofs.Common.{◌≡◌, ℕ, zero, suc, ◌≤◌, ◌<◌, ◌+◌, arith, Bool, true, false, refl, sym, subst, Some, None, List, [], ◌∷◌, inl, inr}
use Rattle.std.specs.Prelude.{◌==◌, ◌&&◌, ◌||◌, ◌≢◌, nat_lt, nat_le, slice_get}
use Rattle.std.proofs.lemmas.Bool.Decides.{nat_tests}
use Rattle.prov_layout.specs.declared.piece.Piece.{Piece}
use Rattle.prov_layout.specs.Pieces.{has_byte, begins_behind, piece_at, IsBefore, AreOrdered}

-- no piece below an index has a byte, and none from one on
abbrev pub LackBelow : List Piece → (r o low : ℕ) → Type 0
LackBelow pieces r o low = (i : ℕ) (p : Piece) → slice_get pieces i ≡ Some p → i < low → has_byte p r o ≡ false

abbrev pub LackFrom : List Piece → (r o high : ℕ) → Type 0
LackFrom pieces r o high = (i : ℕ) (p : Piece) → slice_get pieces i ≡ Some p → high ≤ i → has_byte p r o ≡ false

pub record Has (p : Piece) (r o : ℕ) : Type 0 where
  pub region : p.region ≡ r
  pub low : p.at ≤ o
  pub high : o < p.at + p.len

pub has : (p : Piece) (r o : ℕ) → has_byte p r o ≡ true → Has p r o
has p r o h = by (p.region == r) (nat_le p.at o) (nat_lt o (p.at + p.len)) refl refl refl h
  where
    by : (a b c : Bool) → (p.region == r) ≡ a → nat_le p.at o ≡ b → nat_lt o (p.at + p.len) ≡ c → (a && (b && c)) ≡ true → Has p r o
    by true true true e f g k = record { region = grind (arith, nat_tests); low = grind (arith, nat_tests); high = grind (arith, nat_tests) }
    by true true false e f g k = absurd cc
    by true false c e f g k = absurd cc
    by false b c e f g k = absurd cc

pub has_from : (p : Piece) (r o : ℕ) → p.region ≡ r → p.at ≤ o → o < p.at + p.len → has_byte p r o ≡ true
has_from p r o e low high = grind (arith, nat_tests)

unless : (b : Bool) → (b ≡ true → ⊥) → b ≡ false
unless true h = absurd (h refl)
unless false h = refl

-- of two pieces in order, the first lacks what the second has
before_lacks : (p q : Piece) (r o : ℕ) → IsBefore q p → Has p r o → has_byte q r o ≡ false
before_lacks p q r o (inl less) h = unless (has_byte q r o) (λ k. let g = has q r o k in omega (arith, less, g.region, h.region))
before_lacks p q r o (inr same) h = unless (has_byte q r o) (λ k. let g = has q r o k in omega (arith, same.1, g.high, h.low))

abbrev Rise : List Piece → Type 0
Rise pieces = (i j : ℕ) (p q : Piece) → slice_get pieces i ≡ Some p → slice_get pieces j ≡ Some q → i < j → IsBefore p q

pub none_has : (pieces : List Piece) (r o : ℕ) → ((i : ℕ) (p : Piece) → slice_get pieces i ≡ Some p → has_byte p r o ≡ false) → piece_at pieces r o ≡ None
unfolding piece_at
none_has [] r o h = refl
none_has (p ∷ ps) r o h = let a : has_byte p r o ≡ false = h 0 p refl in rw a (none_has ps r o (λ i q e. h (suc i) q e))

one_has : (pieces : List Piece) (i : ℕ) (p : Piece) (r o : ℕ) → Rise pieces → slice_get pieces i ≡ Some p → has_byte p r o ≡ true → piece_at pieces r o ≡ Some p
unfolding piece_at
one_has [] i p r o rise e h = absurd cc
one_has (q ∷ qs) zero p r o rise e h = let same : q ≡ p = cc in let k : has_byte q r o ≡ true = subst (λ z. has_byte z r o ≡ true) (sym same) h in rw k e
one_has (q ∷ qs) (suc i) p r o rise e h =
    let k : has_byte q r o ≡ false = before_lacks p q r o (rise 0 (suc i) q p refl e (omega arith)) (has p r o h) in
    rw k (one_has qs i p r o (λ a b x y f g l. rise (suc a) (suc b) x y f g (omega arith)) e h)

-- a piece that has a byte is the one
pub found_at : (pieces : List Piece) (i : ℕ) (p : Piece) (r o : ℕ) → AreOrdered pieces → slice_get pieces i ≡ Some p → has_byte p r o ≡ true → piece_at pieces r o ≡ Some p
found_at pieces i p r o order e h = one_has pieces i p r o order.rise e h

pub record Before (p : Piece) (r o : ℕ) : Type 0 where
  pub region : p.region ≤ r
  pub low : r ≤ p.region → p.at ≤ o

not_behind : (p : Piece) (r o : ℕ) → begins_behind p r o ≡ false → Before p r o
not_behind p r o = by (nat_lt r p.region) (r == p.region) (nat_lt o p.at) refl refl refl
  where
    by : (a b c : Bool) → nat_lt r p.region ≡ a → (r == p.region) ≡ b → nat_lt o p.at ≡ c → (a || b && c) ≡ false → Before p r o
    by true b c e f g h = absurd cc
    by false true true e f g h = absurd cc
    by false true false e f g h = record { region = grind (arith, nat_tests); low = λ l. grind (arith, nat_tests) }
    by false false c e f g h = record { region = grind (arith, nat_tests); low = λ l. absurd (let x : r ≢ p.region = grind (arith, nat_tests) in let y : p.region ≤ r = grind (arith, nat_tests) in omega (arith, x, y, l)) }

pub record Behind (p : Piece) (r o : ℕ) : Type 0 where
  pub region : r ≤ p.region
  pub low : p.region ≤ r → o < p.at

is_behind : (p : Piece) (r o : ℕ) → begins_behind p r o ≡ true → Behind p r o
is_behind p r o = by (nat_lt r p.region) (r == p.region) (nat_lt o p.at) refl refl refl
  where
    by : (a b c : Bool) → nat_lt r p.region ≡ a → (r == p.region) ≡ b → nat_lt o p.at ≡ c → (a || b && c) ≡ true → Behind p r o
    by true b c e f g h = let x : r < p.region = grind (arith, nat_tests) in record { region = omega (arith, x); low = λ l. absurd (omega (arith, x, l)) }
    by false true true e f g h = record { region = grind (arith, nat_tests); low = λ l. grind (arith, nat_tests) }
    by false true false e f g h = absurd cc
    by false false c e f g h = absurd cc

-- a piece behind one that begins behind a byte lacks it
after_lacks : (p q : Piece) (r o : ℕ) → Behind p r o → IsBefore p q → has_byte q r o ≡ false
after_lacks p q r o b (inl less) = unless (has_byte q r o) (λ k. let g = has q r o k in let x = b.region in omega (arith, less, x, g.region))
after_lacks p q r o b (inr s) = unless (has_byte q r o) (λ k. let g = has q r o k in let y : o < p.at = b.low (omega (arith, s.0, g.region)) in omega (arith, y, s.1, g.low))

-- a piece before one that doesn't begin behind a byte lacks it
fore_lacks : (p q : Piece) (r o : ℕ) → Before p r o → IsBefore q p → has_byte q r o ≡ false
fore_lacks p q r o b (inl less) = unless (has_byte q r o) (λ k. let g = has q r o k in let x = b.region in omega (arith, less, x, g.region))
fore_lacks p q r o b (inr s) = unless (has_byte q r o) (λ k. let g = has q r o k in let y : p.at ≤ o = b.low (omega (arith, s.0, g.region)) in omega (arith, y, s.1, g.high))

one_piece : (pieces : List Piece) (m i : ℕ) (p q : Piece) → slice_get pieces m ≡ Some p → slice_get pieces i ≡ Some q → m ≡ i → p ≡ q
one_piece pieces m i p q e f same = let w : slice_get pieces i ≡ Some p = subst (λ n. slice_get pieces n ≡ Some p) same e in cc

-- where a piece begins behind a byte, none from it on has it
pub behind_lack : (pieces : List Piece) (m : ℕ) (p : Piece) (r o : ℕ) → AreOrdered pieces → slice_get pieces m ≡ Some p → has_byte p r o ≡ false → begins_behind p r o ≡ true → LackFrom pieces r o m
behind_lack pieces m p r o order e lacks behind i q f h = by (nat_lt m i) refl
  where
    by : (d : Bool) → nat_lt m i ≡ d → has_byte q r o ≡ false
    by false g = subst (λ z. has_byte z r o ≡ false) (one_piece pieces m i p q e f (grind (arith, nat_tests))) lacks
    by true g = after_lacks p q r o (is_behind p r o behind) (order.rise m i p q e f (grind (arith, nat_tests)))

-- where a piece neither has a byte nor begins behind it, none up to it has it
pub before_lack : (pieces : List Piece) (m : ℕ) (p : Piece) (r o : ℕ) → AreOrdered pieces → slice_get pieces m ≡ Some p → has_byte p r o ≡ false → begins_behind p r o ≡ false → LackBelow pieces r o (m + 1)
before_lack pieces m p r o order e lacks behind i q f h = by (nat_lt i m) refl
  where
    by : (d : Bool) → nat_lt i m ≡ d → has_byte q r o ≡ false
    by false g = subst (λ z. has_byte z r o ≡ false) (one_piece pieces m i p q e f (let x : m ≤ i = grind (arith, nat_tests) in omega (arith, x, h))) lacks
    by true g = fore_lacks p q r o (not_behind p r o behind) (order.rise i m q p f e (grind (arith, nat_tests)))

-- no piece has a byte that those below an index lack, and those from it on
pub all_lack : (pieces : List Piece) (r o low high : ℕ) → LackBelow pieces r o low → LackFrom pieces r o high → high ≤ low → piece_at pieces r o ≡ None
all_lack pieces r o low high below from l = none_has pieces r o (λ i p e. by i p e (nat_lt i low) refl)
  where
    by : (i : ℕ) (p : Piece) → slice_get pieces i ≡ Some p → (d : Bool) → nat_lt i low ≡ d → has_byte p r o ≡ false
    by i p e true g = below i p e (grind (arith, nat_tests))
    by i p e false g = from i p e (let x : low ≤ i = grind (arith, nat_tests) in omega (arith, x, l))

pub closed_outside : (pieces : List Piece) (r o length : ℕ) → ((i : ℕ) (p : Piece) → slice_get pieces i ≡ Some p → p.region ≡ r → p.at + p.len ≤ length) → length ≤ o → piece_at pieces r o ≡ None
closed_outside pieces r o length inside h = none_has pieces r o (λ i p e. unless (has_byte p r o) (λ k. let g = has p r o k in let l = inside i p e g.region in omega (arith, l, h, g.high)))
