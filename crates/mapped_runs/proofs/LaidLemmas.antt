-- The pieces that a certificate lays.
use Rattle.std.proofs.Common.{◌≡◌, ◌<◌, ◌≤◌, ◌+◌, ℕ, zero, suc, Bool, true, false, List, [], ◌∷◌, ◌++◌, refl, sym, subst, arith, ◌⊎◌, inl, inr, ◌∙◌, ap}
use Rattle.std.specs.Prelude.{◌==◌, ◌&&◌, nat_lt, nat_le, slice_get, Option, Some, None, if◌then◌else◌}
use Rattle.std.proofs.lemmas.Bool.Decides.{nat_tests}
use Rattle.prov_cert.specs.declared.cert.CertSpan.{CertSpan}
use Rattle.prov_layout.specs.declared.piece.Class.{Class}
use Rattle.prov_layout.specs.declared.piece.Piece.{Piece}
use Rattle.prov_layout.specs.Pieces.{IsListed, begins_behind, has_byte, is_of, piece_at}
use Rattle.prov_layout.specs.Laid.{arguments, given, laid, next_cell, piece_of, pieces_from, put_all, put_in, service_cell, service_cells, table_cell}

same_piece : (p q : Piece) → Some p ≡ Some q → p ≡ q
same_piece p q h = cc

-- ---- what is put

behind_first : (p q : Piece) (ps : List Piece) → (p ≡ q) ⊎ IsListed ps p → (x : Piece) → (p ≡ q) ⊎ IsListed (x ∷ ps) p
behind_first p q ps (inl same) x = inl same
behind_first p q ps (inr l) x = inr (suc l.0, l.1)

put_in_listed : (q : Piece) (ps : List Piece) (i : ℕ) (p : Piece) → slice_get (put_in q ps) i ≡ Some p → (p ≡ q) ⊎ IsListed ps p
unfolding put_in
put_in_listed q [] zero p h = inl (sym (same_piece q p h))
put_in_listed q [] (suc i) p h = absurd cc
put_in_listed q (x ∷ xs) i p h = by (λ j k. put_in_listed q xs j p k) (begins_behind x q.region q.at) i h
  where
    by : ((j : ℕ) → slice_get (put_in q xs) j ≡ Some p → (p ≡ q) ⊎ IsListed xs p) → (b : Bool) → (j : ℕ) → slice_get (if b then q ∷ (x ∷ xs) else (x ∷ put_in q xs)) j ≡ Some p → (p ≡ q) ⊎ IsListed (x ∷ xs) p
    by rest true zero k = inl (sym (same_piece q p k))
    by rest true (suc j) k = inr (j, k)
    by rest false zero k = inr (0, k)
    by rest false (suc j) k = behind_first p q xs (rest j k) x

put_all_listed : (ps qs : List Piece) (i : ℕ) (p : Piece) → slice_get (put_all ps qs) i ≡ Some p → IsListed ps p ⊎ IsListed qs p
unfolding put_all
put_all_listed ps [] i p h = inl (i, h)
put_all_listed ps (q ∷ qs) i p h = by (put_all_listed (put_in q ps) qs i p h)
  where
    one : (p ≡ q) ⊎ IsListed ps p → IsListed ps p ⊎ IsListed (q ∷ qs) p
    one (inl same) = inr (0, ap Some (sym same))
    one (inr l) = inl l

    by : IsListed (put_in q ps) p ⊎ IsListed qs p → IsListed ps p ⊎ IsListed (q ∷ qs) p
    by (inl l) = one (put_in_listed q ps l.0 p l.1)
    by (inr l) = inr (suc l.0, l.1)

append_listed : (xs ys : List Piece) (i : ℕ) (p : Piece) → slice_get (xs ++ ys) i ≡ Some p → IsListed xs p ⊎ IsListed ys p
append_listed [] ys i p h = inr (i, h)
append_listed (x ∷ xs) ys zero p h = inl (0, h)
append_listed (x ∷ xs) ys (suc i) p h = by (append_listed xs ys i p h)
  where
    by : IsListed xs p ⊎ IsListed ys p → IsListed (x ∷ xs) p ⊎ IsListed ys p
    by (inl l) = inl (suc l.0, l.1)
    by (inr l) = inr l

-- ---- what is given

pub data IsGiven (p : Piece) : Type 0 where
  buffers : p ≡ arguments → IsGiven p
  tables : p ≡ table_cell → IsGiven p
  service : (i : ℕ) → i < 14 → p ≡ service_cell i → IsGiven p

service_listed : (i n : ℕ) (j : ℕ) (p : Piece) → slice_get (service_cells i n) j ≡ Some p → (k : ℕ) × (i ≤ k) × (k < i + n) × (p ≡ service_cell k)
unfolding service_cells
service_listed i zero j p h = absurd cc
service_listed i (suc n) zero p h = (i, omega arith, omega arith, sym (same_piece (service_cell i) p h))
service_listed i (suc n) (suc j) p h = let r = service_listed (i + 1) n j p h in let low = r.1 in let high = r.2 in (r.0, omega (arith, low), omega (arith, high), r.3)

given_listed : (i : ℕ) (p : Piece) → slice_get given i ≡ Some p → IsGiven p
given_listed zero p h = buffers (sym (same_piece arguments p h))
given_listed (suc zero) p h = tables (sym (same_piece table_cell p h))
given_listed (suc (suc i)) p h = let r = service_listed 0 14 i p h in let high = r.2 in service r.0 (omega (arith, high)) r.3

-- ---- what spans lay

pub record IsOfSpan (targets : ℕ → ℕ) (spans : List CertSpan) (p : Piece) : Type 0 where
  pub number : ℕ
  pub cell : ℕ
  pub span : CertSpan
  pub here : slice_get spans number ≡ Some span
  pub some : 0 < span.len
  pub is : p ≡ piece_of (targets number) cell span

from_listed : (targets : ℕ → ℕ) (i cell : ℕ) (spans : List CertSpan) (j : ℕ) (p : Piece) → slice_get (pieces_from targets i cell spans) j ≡ Some p → IsOfSpan (λ k. targets (i + k)) spans p
unfolding pieces_from
from_listed targets i cell [] j p h = absurd cc
from_listed targets i cell (s ∷ ss) j p h = by (λ m k. moved (from_listed targets (i + 1) (next_cell cell s.class) ss m p k)) (s.len == 0) refl j h
  where
    moved : IsOfSpan (λ k. targets (i + 1 + k)) ss p → IsOfSpan (λ k. targets (i + k)) (s ∷ ss) p
    moved o =
        let e : i + 1 + o.number ≡ i + suc o.number = omega arith in
        record { number = suc o.number; cell = o.cell; span = o.span; here = o.here; some = o.some; is = o.is ∙ ap (λ n. piece_of (targets n) o.cell o.span) e }

    by : ((m : ℕ) → slice_get (pieces_from targets (i + 1) (next_cell cell s.class) ss) m ≡ Some p → IsOfSpan (λ k. targets (i + k)) (s ∷ ss) p) → (b : Bool) → (s.len == 0) ≡ b → (m : ℕ)
        → slice_get (if b then pieces_from targets (i + 1) (next_cell cell s.class) ss else (piece_of (targets i) cell s ∷ pieces_from targets (i + 1) (next_cell cell s.class) ss)) m ≡ Some p → IsOfSpan (λ k. targets (i + k)) (s ∷ ss) p
    by rest true e m k = rest m k
    by rest false e zero k =
        let z : i ≡ i + 0 = omega arith in
        record { number = 0; cell = cell; span = s; here = refl; some = grind (arith, nat_tests); is = sym (same_piece (piece_of (targets i) cell s) p k) ∙ ap (λ n. piece_of (targets n) cell s) z }
    by rest false e (suc m) k = rest m k

-- each piece that is laid is given, or of a span
pub laid_listed : (targets : ℕ → ℕ) (spans : List CertSpan) (i : ℕ) (p : Piece) → slice_get (laid targets spans) i ≡ Some p → IsGiven p ⊎ IsOfSpan targets spans p
unfolding laid
laid_listed targets spans i p h = by (put_all_listed [] (given ++ pieces_from targets 0 0 spans) i p h)
  where
    spans_by : IsOfSpan (λ k. targets (0 + k)) spans p → IsOfSpan targets spans p
    spans_by o =
        let e : 0 + o.number ≡ o.number = omega arith in
        record { number = o.number; cell = o.cell; span = o.span; here = o.here; some = o.some; is = o.is ∙ ap (λ n. piece_of (targets n) o.cell o.span) e }

    on : IsListed given p ⊎ IsListed (pieces_from targets 0 0 spans) p → IsGiven p ⊎ IsOfSpan targets spans p
    on (inl l) = inl (given_listed l.0 p l.1)
    on (inr l) = inr (spans_by (from_listed targets 0 0 spans l.0 p l.1))

    by : IsListed [] p ⊎ IsListed (given ++ pieces_from targets 0 0 spans) p → IsGiven p ⊎ IsOfSpan targets spans p
    by (inl l) = let bad = l.1 in absurd cc
    by (inr l) = on (append_listed given (pieces_from targets 0 0 spans) l.0 p l.1)

-- ---- the piece of a byte

pub record HasByte (pieces : List Piece) (p : Piece) (r o : ℕ) : Type 0 where
  pub index : ℕ
  pub listed : slice_get pieces index ≡ Some p
  pub region : p.region ≡ r
  pub low : p.at ≤ o
  pub high : o < p.at + p.len

byte_of : (pieces : List Piece) (i : ℕ) (p : Piece) (r o : ℕ) → slice_get pieces i ≡ Some p → has_byte p r o ≡ true → HasByte pieces p r o
byte_of pieces i p r o s h =
    let a = first (p.region == r) (nat_le p.at o && nat_lt o (p.at + p.len)) h in
    let b = first (nat_le p.at o) (nat_lt o (p.at + p.len)) a.1 in
    let x = a.0 in let y = b.0 in let z = b.1 in
    record { index = i; listed = s; region = grind (arith, nat_tests); low = grind (arith, nat_tests); high = grind (arith, nat_tests) }
  where
    first : (a b : Bool) → (a && b) ≡ true → (a ≡ true) × (b ≡ true)
    first true b h = (refl, h)
    first false b h = absurd cc

pub piece_has : (pieces : List Piece) (p : Piece) (r o : ℕ) → piece_at pieces r o ≡ Some p → HasByte pieces p r o
unfolding piece_at
piece_has [] p r o h = absurd cc
piece_has (q ∷ qs) p r o h = by (λ k. later (piece_has qs p r o k)) (has_byte q r o) refl h
  where
    later : HasByte qs p r o → HasByte (q ∷ qs) p r o
    later f = record { index = suc f.index; listed = f.listed; region = f.region; low = f.low; high = f.high }

    by : (piece_at qs r o ≡ Some p → HasByte (q ∷ qs) p r o) → (c : Bool) → has_byte q r o ≡ c → (if c then Some q else piece_at qs r o) ≡ Some p → HasByte (q ∷ qs) p r o
    by more true e k = let same = same_piece q p k in byte_of (q ∷ qs) 0 p r o (ap Some same) (subst (λ z. has_byte z r o ≡ true) same e)
    by more false e k = more k

-- a byte in a piece of a class that passes a test
pub record OfClass (test : Class → Bool) (pieces : List Piece) (r o : ℕ) : Type 0 where
  pub piece : Piece
  pub has : HasByte pieces piece r o
  pub passes : test piece.class ≡ true

pub of_class : (test : Class → Bool) (pieces : List Piece) (r o : ℕ) → is_of test (piece_at pieces r o) ≡ true → OfClass test pieces r o
of_class test pieces r o h = by (piece_at pieces r o) refl h
  where
    by : (q : Option Piece) → piece_at pieces r o ≡ q → is_of test q ≡ true → OfClass test pieces r o
    by None e k = absurd cc
    by (Some p) e k = record { piece = p; has = piece_has pieces p r o e; passes = k }
