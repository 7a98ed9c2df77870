-- What is laid is in the order of its places.
use Rattle.std.proofs.Common.{◌≡◌, ℕ, zero, suc, ◌≤◌, ◌<◌, ◌+◌, ◌*◌, arith, Bool, true, false, refl, subst, Some, List, [], ◌∷◌, ◌++◌, inl, inr}
use Rattle.std.specs.Prelude.{◌⊎◌, ◌==◌, ◌&&◌, ◌||◌, ◌≢◌, nat_lt, if◌then◌else◌, slice_get}
use Rattle.std.proofs.lemmas.Bool.Decides.{nat_tests}
use Rattle.prov_types.specs.Spans.{IsProper, one}
use Rattle.prov_cert.specs.declared.cert.CertSpan.{CertSpan}
use Rattle.prov_cert.specs.declared.cert.Class.{Class as SpanClass}
use Rattle.prov_cert.specs.declared.cert.Class.TheVariants as spans
use Rattle.prov_layout.specs.declared.piece.Piece.{Piece}
use Rattle.prov_layout.specs.Pieces.{AreOrdered, IsBefore, IsProperClass, begins_behind}
use Rattle.prov_layout.specs.Laid.{arguments, class_of, given, laid, next_cell, piece_of, pieces_from, put_all, put_in, service_cell, service_cells, spans_meet, table_cell}
use Rattle.prov_layout.specs.Laws.{IsProperSpan, LaidIsOrdered}

abbrev pub AllBehind : Piece → List Piece → Type 0
AllBehind p [] = Unit {0}
AllBehind p (q ∷ qs) = IsBefore p q × AllBehind p qs

abbrev pub Sorted : List Piece → Type 0
Sorted [] = Unit {0}
Sorted (p ∷ ps) = AllBehind p ps × Sorted ps

abbrev pub Apart : Piece → Piece → Type 0
Apart p q = IsBefore p q ⊎ IsBefore q p

abbrev pub AllApart : Piece → List Piece → Type 0
AllApart p [] = Unit {0}
AllApart p (q ∷ qs) = Apart p q × AllApart p qs

abbrev pub PairsApart : List Piece → Type 0
PairsApart [] = Unit {0}
PairsApart (p ∷ ps) = AllApart p ps × PairsApart ps

-- those of one list are apart from those of another
abbrev pub Far : List Piece → List Piece → Type 0
Far [] pieces = Unit {0}
Far (p ∷ ps) pieces = AllApart p pieces × Far ps pieces

-- pieces that have bytes, of proper kinds
abbrev pub AreSound : List Piece → Type 0
AreSound [] = Unit {0}
AreSound (p ∷ ps) = (0 < p.len) × IsProperClass p.class × AreSound ps

swap : (p q : Piece) → Apart p q → Apart q p
swap p q (inl h) = inr h
swap p q (inr h) = inl h

before : (p q : Piece) → IsBefore p q → (p.region ≤ q.region) × (p.region ≡ q.region → p.at + p.len ≤ q.at)
before p q (inl h) = (omega (arith, h), λ e. absurd (omega (arith, h, e)))
before p q (inr h) = (omega (arith, h.0), λ e. h.1)

is_before : (p q : Piece) → p.region ≤ q.region → (p.region ≡ q.region → p.at + p.len ≤ q.at) → IsBefore p q
is_before p q l h = by (p.region == q.region) refl
  where
    by : (b : Bool) → (p.region == q.region) ≡ b → IsBefore p q
    by true e = let k : p.region ≡ q.region = grind (arith, nat_tests) in inr (k, h k)
    by false e = let k : p.region ≢ q.region = grind (arith, nat_tests) in inl (omega (arith, k, l))

then_before : (p q r : Piece) → IsBefore p q → IsBefore q r → IsBefore p r
then_before p q r a b =
    let x = before p q a in
    let y = before q r b in
    is_before p r (omega (arith, x.0, y.0)) (λ e. let m : p.region ≡ q.region = omega (arith, x.0, y.0, e) in let n : q.region ≡ r.region = omega (arith, m, e) in omega (arith, x.1 m, y.1 n))

-- of pieces that are apart, the one with bytes whose place another begins behind is before it
goes_before : (p q : Piece) → 0 < p.len → Apart p q → begins_behind q p.region p.at ≡ true → IsBefore p q
goes_before p q some (inl h) e = h
goes_before p q some (inr h) e = absurd (by (nat_lt p.region q.region) (p.region == q.region) (nat_lt p.at q.at) refl refl refl e)
  where
    x : (q.region ≤ p.region) × (q.region ≡ p.region → q.at + q.len ≤ p.at)
    x = before q p h

    by : (a b c : Bool) → nat_lt p.region q.region ≡ a → (p.region == q.region) ≡ b → nat_lt p.at q.at ≡ c → (a || b && c) ≡ true → ⊥
    by true b c f g k l = let m : p.region < q.region = grind (arith, nat_tests) in omega (arith, m, x.0)
    by false true true f g k l = let m : q.region ≡ p.region = grind (arith, nat_tests) in let n : p.at < q.at = grind (arith, nat_tests) in omega (arith, n, x.1 m)
    by false true false f g k l = absurd cc
    by false false c f g k l = absurd cc

goes_behind : (p q : Piece) → 0 < p.len → Apart p q → begins_behind q p.region p.at ≡ false → IsBefore q p
goes_behind p q some (inr h) e = h
goes_behind p q some (inl h) e = absurd (by (nat_lt p.region q.region) (p.region == q.region) (nat_lt p.at q.at) refl refl refl e)
  where
    x : (p.region ≤ q.region) × (p.region ≡ q.region → p.at + p.len ≤ q.at)
    x = before p q h

    by : (a b c : Bool) → nat_lt p.region q.region ≡ a → (p.region == q.region) ≡ b → nat_lt p.at q.at ≡ c → (a || b && c) ≡ false → ⊥
    by true b c f g k l = absurd cc
    by false true true f g k l = absurd cc
    by false true false f g k l = let m : p.region ≡ q.region = grind (arith, nat_tests) in let n : q.at ≤ p.at = grind (arith, nat_tests) in omega (arith, n, x.1 m, some)
    by false false c f g k l = let m : p.region ≢ q.region = grind (arith, nat_tests) in let n : q.region ≤ p.region = grind (arith, nat_tests) in omega (arith, m, n, x.0)

all_then : (p q : Piece) (qs : List Piece) → IsBefore p q → AllBehind q qs → AllBehind p qs
all_then p q [] a h = tt
all_then p q (r ∷ rs) a h = (then_before p q r a h.0, all_then p q rs a h.1)

put_behind : (r p : Piece) (ps : List Piece) → IsBefore r p → AllBehind r ps → AllBehind r (put_in p ps)
unfolding put_in
put_behind r p [] a h = (a, tt)
put_behind r p (q ∷ qs) a h = by (put_behind r p qs a h.1) (begins_behind q p.region p.at)
  where
    by : AllBehind r (put_in p qs) → (b : Bool) → AllBehind r (if b then p ∷ (q ∷ qs) else (q ∷ put_in p qs))
    by more true = (a, h)
    by more false = (h.0, more)

put_sorted : (p : Piece) (ps : List Piece) → 0 < p.len → AllApart p ps → Sorted ps → Sorted (put_in p ps)
unfolding put_in
put_sorted p [] some apart h = (tt, tt)
put_sorted p (q ∷ qs) some apart h = by (put_sorted p qs some apart.1 h.1) (begins_behind q p.region p.at) refl
  where
    by : Sorted (put_in p qs) → (b : Bool) → begins_behind q p.region p.at ≡ b → Sorted (if b then p ∷ (q ∷ qs) else (q ∷ put_in p qs))
    by more true e = let a = goes_before p q some apart.0 e in ((a, all_then p q qs a h.0), h)
    by more false e = (put_behind q p qs (goes_behind p q some apart.0 e) h.0, more)

put_apart : (r p : Piece) (ps : List Piece) → Apart r p → AllApart r ps → AllApart r (put_in p ps)
unfolding put_in
put_apart r p [] a h = (a, tt)
put_apart r p (q ∷ qs) a h = by (put_apart r p qs a h.1) (begins_behind q p.region p.at)
  where
    by : AllApart r (put_in p qs) → (b : Bool) → AllApart r (if b then p ∷ (q ∷ qs) else (q ∷ put_in p qs))
    by more true = (a, h)
    by more false = (h.0, more)

put_far : (p : Piece) (ps pieces : List Piece) → AllApart p ps → Far ps pieces → Far ps (put_in p pieces)
put_far p [] pieces a h = tt
put_far p (q ∷ qs) pieces a h = (put_apart q p pieces (swap p q a.0) h.0, put_far p qs pieces a.1 h.1)

put_sound : (p : Piece) (ps : List Piece) → 0 < p.len → IsProperClass p.class → AreSound ps → AreSound (put_in p ps)
unfolding put_in
put_sound p [] some proper h = (some, proper, tt)
put_sound p (q ∷ qs) some proper h = by (put_sound p qs some proper h.2) (begins_behind q p.region p.at)
  where
    by : AreSound (put_in p qs) → (b : Bool) → AreSound (if b then p ∷ (q ∷ qs) else (q ∷ put_in p qs))
    by more true = (some, proper, h)
    by more false = (h.0, h.1, more)

pub all_sorted : (pieces ps : List Piece) → AreSound ps → PairsApart ps → Far ps pieces → Sorted pieces → AreSound pieces → Sorted (put_all pieces ps) × AreSound (put_all pieces ps)
unfolding put_all
all_sorted pieces [] sound apart far h k = (h, k)
all_sorted pieces (p ∷ ps) sound apart far h k =
    all_sorted (put_in p pieces) ps sound.2 apart.1 (put_far p ps pieces apart.0 far.1) (put_sorted p pieces sound.0 far.0 h) (put_sound p pieces sound.0 sound.1 k)

no_far : (ps : List Piece) → Far ps []
no_far [] = tt
no_far (p ∷ ps) = (tt, no_far ps)

behind_at : (p : Piece) (ps : List Piece) (i : ℕ) (q : Piece) → AllBehind p ps → slice_get ps i ≡ Some q → IsBefore p q
behind_at p [] i q h e = absurd cc
behind_at p (r ∷ rs) zero q h e = let same : r ≡ q = cc in subst (IsBefore p) same h.0
behind_at p (r ∷ rs) (suc i) q h e = behind_at p rs i q h.1 e

rise : (ps : List Piece) (i j : ℕ) (p q : Piece) → Sorted ps → slice_get ps i ≡ Some p → slice_get ps j ≡ Some q → i < j → IsBefore p q
rise [] i j p q h e f l = absurd cc
rise (r ∷ rs) zero zero p q h e f l = absurd (omega arith)
rise (r ∷ rs) zero (suc j) p q h e f l = let same : r ≡ p = cc in subst (λ z. IsBefore z q) same (behind_at r rs j q h.0 f)
rise (r ∷ rs) (suc i) zero p q h e f l = absurd (omega arith)
rise (r ∷ rs) (suc i) (suc j) p q h e f l = rise rs i j p q h.1 e f (omega arith)

proper : (ps : List Piece) (i : ℕ) (p : Piece) → AreSound ps → slice_get ps i ≡ Some p → IsProperClass p.class
proper [] i p h e = absurd cc
proper (r ∷ rs) zero p h e = let same : r ≡ p = cc in subst (λ z. IsProperClass z.class) same h.1
proper (r ∷ rs) (suc i) p h e = proper rs i p h.2 e

pub ordered : (ps : List Piece) → AreSound ps → PairsApart ps → AreOrdered (put_all [] ps)
ordered ps sound apart =
    let h = all_sorted [] ps sound apart (no_far ps) tt tt in
    record { rise = λ i j p q. rise (put_all [] ps) i j p q h.0; proper = λ i p. proper (put_all [] ps) i p h.1 }

-- ---- spans

proper_one : (v : ℕ) → IsProper (one v)
proper_one v = record { steps = omega arith; order = omega arith; whole = grind arith }

class_proper : (target cell : ℕ) (class : SpanClass) → IsProperClass (class_of 0 0 class) → IsProperClass (class_of target cell class)
class_proper target cell spans.Code h = tt
class_proper target cell spans.Plain h = tt
class_proper target cell (spans.Num kind) h = h
class_proper target cell spans.Fixed h = proper_one target
class_proper target cell (spans.Convert kind) h = h

spans_apart : (a b c d : ℕ) (s t : CertSpan) → spans_meet s t ≡ false → Apart (piece_of a b s) (piece_of c d t)
spans_apart a b c d s t h = by (s.region == t.region) (nat_lt s.at (t.at + t.len)) (nat_lt t.at (s.at + s.len)) refl refl refl h
  where
    by : (x y z : Bool) → (s.region == t.region) ≡ x → nat_lt s.at (t.at + t.len) ≡ y → nat_lt t.at (s.at + s.len) ≡ z → (x && (y && z)) ≡ false → Apart (piece_of a b s) (piece_of c d t)
    by true true true e f g k = absurd cc
    by true true false e f g k = inl (inr (grind (arith, nat_tests), grind (arith, nat_tests)))
    by true false z e f g k = inr (inr (grind (arith, nat_tests), grind (arith, nat_tests)))
    by false y z e f g k = by_order (nat_lt s.region t.region) refl
      where
        by_order : (w : Bool) → nat_lt s.region t.region ≡ w → Apart (piece_of a b s) (piece_of c d t)
        by_order true l = inl (inl (grind (arith, nat_tests)))
        by_order false l = inr (inl (let m : s.region ≢ t.region = grind (arith, nat_tests) in let n : t.region ≤ s.region = grind (arith, nat_tests) in omega (arith, m, n)))

abbrev Outside : CertSpan → Type 0
Outside s = (s.region ≡ 0) ⊎ (5 < s.region)

given_apart : (g : Piece) (a b : ℕ) (s : CertSpan) → 1 ≤ g.region → g.region ≤ 5 → Outside s → Apart g (piece_of a b s)
given_apart g a b s low high (inl e) = inr (inl (omega (arith, e, low)))
given_apart g a b s low high (inr l) = inl (inl (omega (arith, l, high)))

some_length : (n : ℕ) → (n == 0) ≡ false → 0 < n
some_length n e = grind (arith, nat_tests)

spans_sound : (targets : ℕ → ℕ) (i cell : ℕ) (ss : List CertSpan) → ((k : ℕ) (s : CertSpan) → slice_get ss k ≡ Some s → IsProperSpan s) → AreSound (pieces_from targets i cell ss)
unfolding pieces_from
spans_sound targets i cell [] h = tt
spans_sound targets i cell (s ∷ ss) h = by (spans_sound targets (i + 1) (next_cell cell s.class) ss (λ k t e. h (suc k) t e)) (s.len == 0) refl
  where
    by : AreSound (pieces_from targets (i + 1) (next_cell cell s.class) ss) → (b : Bool) → (s.len == 0) ≡ b → AreSound (if b then pieces_from targets (i + 1) (next_cell cell s.class) ss else (piece_of (targets i) cell s ∷ pieces_from targets (i + 1) (next_cell cell s.class) ss))
    by rest true e = rest
    by rest false e = (some_length s.len e, class_proper (targets i) cell s.class (h 0 s refl), rest)

span_far : (a b : ℕ) (s : CertSpan) (targets : ℕ → ℕ) (i cell : ℕ) (ss : List CertSpan) → ((k : ℕ) (t : CertSpan) → slice_get ss k ≡ Some t → 0 < t.len → spans_meet s t ≡ false) → AllApart (piece_of a b s) (pieces_from targets i cell ss)
unfolding pieces_from
span_far a b s targets i cell [] h = tt
span_far a b s targets i cell (t ∷ ts) h = by (span_far a b s targets (i + 1) (next_cell cell t.class) ts (λ k u e. h (suc k) u e)) (t.len == 0) refl
  where
    by : AllApart (piece_of a b s) (pieces_from targets (i + 1) (next_cell cell t.class) ts) → (c : Bool) → (t.len == 0) ≡ c → AllApart (piece_of a b s) (if c then pieces_from targets (i + 1) (next_cell cell t.class) ts else (piece_of (targets i) cell t ∷ pieces_from targets (i + 1) (next_cell cell t.class) ts))
    by rest true e = rest
    by rest false e = (spans_apart a b (targets i) cell s t (h 0 t refl (some_length t.len e)), rest)

pairs_far : (targets : ℕ → ℕ) (i cell : ℕ) (ss : List CertSpan)
    → ((k m : ℕ) (s t : CertSpan) → slice_get ss k ≡ Some s → slice_get ss m ≡ Some t → k < m → 0 < s.len → 0 < t.len → spans_meet s t ≡ false) → PairsApart (pieces_from targets i cell ss)
unfolding pieces_from
pairs_far targets i cell [] h = tt
pairs_far targets i cell (s ∷ ss) h = by (pairs_far targets (i + 1) (next_cell cell s.class) ss (λ k m t u e f l. h (suc k) (suc m) t u e f (omega arith))) (s.len == 0) refl
  where
    by : PairsApart (pieces_from targets (i + 1) (next_cell cell s.class) ss) → (c : Bool) → (s.len == 0) ≡ c → PairsApart (if c then pieces_from targets (i + 1) (next_cell cell s.class) ss else (piece_of (targets i) cell s ∷ pieces_from targets (i + 1) (next_cell cell s.class) ss))
    by rest true e = rest
    by rest false e = (span_far (targets i) cell s targets (i + 1) (next_cell cell s.class) ss (λ m t f some. h 0 (suc m) s t refl f (omega arith) (some_length s.len e) some), rest)

given_far : (g : Piece) → 1 ≤ g.region → g.region ≤ 5 → (targets : ℕ → ℕ) (i cell : ℕ) (ss : List CertSpan) → ((k : ℕ) (s : CertSpan) → slice_get ss k ≡ Some s → Outside s) → AllApart g (pieces_from targets i cell ss)
unfolding pieces_from
given_far g low high targets i cell [] h = tt
given_far g low high targets i cell (t ∷ ts) h = by (given_far g low high targets (i + 1) (next_cell cell t.class) ts (λ k u e. h (suc k) u e)) (t.len == 0)
  where
    by : AllApart g (pieces_from targets (i + 1) (next_cell cell t.class) ts) → (c : Bool) → AllApart g (if c then pieces_from targets (i + 1) (next_cell cell t.class) ts else (piece_of (targets i) cell t ∷ pieces_from targets (i + 1) (next_cell cell t.class) ts))
    by rest true = rest
    by rest false = (given_apart g (targets i) cell t low high (h 0 t refl), rest)

-- ---- what is given

both_apart : (g : Piece) (ps qs : List Piece) → AllApart g ps → AllApart g qs → AllApart g (ps ++ qs)
both_apart g [] qs a b = b
both_apart g (p ∷ ps) qs a b = (a.0, both_apart g ps qs a.1 b)

both_sound : (ps qs : List Piece) → AreSound ps → AreSound qs → AreSound (ps ++ qs)
both_sound [] qs a b = b
both_sound (p ∷ ps) qs a b = (a.0, a.1, both_sound ps qs a.2 b)

-- a piece that ends before the service cells from one on
cells_behind : (g : Piece) (i n : ℕ) → g.region ≤ 4 → (g.region ≡ 4 → g.at + g.len ≤ 280 + 8 * i) → AllApart g (service_cells i n)
unfolding service_cells
cells_behind g i zero low end = tt
cells_behind g i (suc n) low end = (inl (is_before g (service_cell i) low end), cells_behind g (i + 1) n low (λ e. omega (arith, end e)))

cells_sound : (i n : ℕ) → AreSound (service_cells i n)
unfolding service_cells
cells_sound i zero = tt
cells_sound i (suc n) = (omega arith, proper_one (16 * (44 + i)), cells_sound (i + 1) n)

cells_apart : (i n : ℕ) (qs : List Piece) → ((g : Piece) → 1 ≤ g.region → g.region ≤ 5 → AllApart g qs) → PairsApart qs → PairsApart (service_cells i n ++ qs)
unfolding service_cells
cells_apart i zero qs h k = k
cells_apart i (suc n) qs h k =
    (both_apart (service_cell i) (service_cells (i + 1) n) qs (cells_behind (service_cell i) (i + 1) n (omega arith) (λ e. omega arith)) (h (service_cell i) (omega arith) (omega arith)), cells_apart (i + 1) n qs h k)

pub laid_ordered : LaidIsOrdered
unfolding laid
laid_ordered targets spans are_proper outside apart =
    let from = pieces_from targets 0 0 spans in
    let far : (g : Piece) → 1 ≤ g.region → g.region ≤ 5 → AllApart g from = λ g low high. given_far g low high targets 0 0 spans outside in
    let cells : PairsApart (service_cells 0 14 ++ from) = cells_apart 0 14 from far (pairs_far targets 0 0 spans apart) in
    let table : AllApart table_cell (service_cells 0 14 ++ from) =
    both_apart table_cell (service_cells 0 14) from (cells_behind table_cell 0 14 (omega arith) (λ e. omega arith)) (far table_cell (omega arith) (omega arith)) in
    let first : AllApart arguments (service_cells 0 14 ++ from) =
    both_apart arguments (service_cells 0 14) from (cells_behind arguments 0 14 (omega arith) (λ e. absurd (omega arith))) (far arguments (omega arith) (omega arith)) in
    let one : Apart arguments table_cell = inl (inl (omega arith)) in
    ordered (given ++ from) (both_sound given from (omega arith, tt, (omega arith, proper_one 256, cells_sound 0 14)) (spans_sound targets 0 0 spans are_proper)) ((one, first), (table, cells))
