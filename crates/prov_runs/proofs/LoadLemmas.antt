-- What loads give in both runs.
use Rattle.std.proofs.Common.{◌≡◌, ℕ, zero, suc, ◌≤◌, ◌<◌, ◌+◌, ◌-◌, ◌/◌, ◌*◌, ◌^◌, arith, Bool, true, false, refl, sym, subst, Option, Some, None, List, [], ◌∷◌}
use Rattle.std.specs.Prelude.{◌==◌, ◌&&◌, if◌then◌else◌}
use Rattle.std.proofs.lemmas.Bool.Decides.{nat_tests}
use Rattle.std.proofs.lemmas.Nat.{le-div}
use Rattle.prov_types.specs.declared.kinds.Kind.{Kind}
use Rattle.prov_types.specs.declared.kinds.Span.{Span}
use Rattle.prov_types.specs.Spans.{InSpan}
use Rattle.prov_types.specs.Kinds.{Holds, Regions, length_of}
use Rattle.prov_layout.specs.declared.piece.Class.{Class}
use Rattle.prov_layout.specs.declared.piece.Class.TheVariants.{Code, Plain, Number, Fixed, Convert}
use Rattle.prov_layout.specs.declared.piece.Piece.{Piece}
use Rattle.prov_layout.specs.Pieces.{IsProperClass, all_of, is_exactly, is_open, is_shut, shown}
use Rattle.prov_layout.specs.Joins.{both, join}
use Rattle.prov_layout.specs.Loads.{class_kind, load_by, load_kind, load_kinds, span_kind, width_kind}
use Rattle.prov_layout.specs.Stack.{part_kind}
use Rattle.prov_runs.specs.Bytes.{NumberHolds, SameByte}
use Rattle.prov_runs.specs.Memory.{ClassHolds, Layout, SameBytes}
use Rattle.prov_runs.specs.LoadLaws.{Loadable, LoadsHold, SpansHold, StackHolds}
use Rattle.prov_runs.proofs.SpanLemmas.{IsWholeKind, by_one, whole_kind}
use Rattle.prov_runs.proofs.JoinLemmas.{ServesBoth, joins_serve}
use Rattle.prov_runs.proofs.NumberLemmas.{number_below, same_numbers, width_holds}
use Rattle.prov_runs.proofs.PieceLemmas.{OfClass, all_at, compared, exactly, found, has, shown_is}

module _ (g : Regions) (laid : Layout) (notified : Bool) (done : List ℕ) (b c : ℕ → ℕ) (can : Loadable g laid notified done b c) where
  abbrev at : ℕ → ℕ → Option Piece
  at r o = shown (is_shut notified done) laid.pieces r o

  class_at : (r o : ℕ) (p : Piece) → at r o ≡ Some p → ClassHolds g laid.sites p p.class b c
  class_at r o p h =
      let s = shown_is (is_shut notified done) laid.pieces r o p h in
      let f = found laid.pieces p r o s.is in
      can.moved.pieces f.index p f.listed (compared notified done p s.unshut)

  open_bytes : (p : Piece) (class : Class) → is_open class ≡ true → ClassHolds g laid.sites p class b c → SameBytes g p b c
  open_bytes p Plain e h = h
  open_bytes p (Number kind) e h = h.0
  open_bytes p Code e h = absurd cc
  open_bytes p (Fixed kind) e h = absurd cc
  open_bytes p (Convert kind cell) e h = absurd cc

  open_byte : (r o : ℕ) → OfClass is_open (at r) o → SameByte g r o b c
  open_byte r o h =
      let p = h.piece in
      let s = shown_is (is_shut notified done) laid.pieces r o p h.is in
      let v = has p r o (found laid.pieces p r o s.is).byte in
      let low : p.at ≤ o = v.low in
      let high : o < p.at + p.len = v.high in
      let here : p.at + (o - p.at) ≡ o = omega (arith, low) in
      let same : SameByte g p.region (p.at + (o - p.at)) b c = open_bytes p p.class h.passes (class_at r o p h.is) (o - p.at) (omega (arith, low, high)) in
      subst (λ z. SameByte g z o b c) v.region (subst (λ z. SameByte g p.region z b c) here same)

  whole_piece : (p : Piece) (k : Kind) (class : Class) → p.at + p.len ≤ length_of g.lens p.region → class_kind class p.len ≡ Some k → ClassHolds g laid.sites p class b c → NumberHolds g p.region p.at p.len k b c
  whole_piece p k Code inside e h = absurd cc
  whole_piece p k Plain inside e h =
      let is : width_kind p.len ≡ k = cc in
      subst (λ z. NumberHolds g p.region p.at p.len z b c) is (width_holds g p.len _ _ (same_numbers g b c p.region p.at p.len can.apart inside h) (number_below b _ p.len can.bytes))
  whole_piece p k (Number kind) inside e h = let is : kind ≡ k = cc in subst (λ z. NumberHolds g p.region p.at p.len z b c) is (h.1)
  whole_piece p k (Fixed kind) inside e h = let is : kind ≡ k = cc in subst (λ z. NumberHolds g p.region p.at p.len z b c) is h
  whole_piece p k (Convert kind cell) inside e h = let is : kind ≡ k = cc in subst (λ z. NumberHolds g p.region p.at p.len z b c) is h

  pub load_holds : (r o width : ℕ) (k : Kind) → o + width ≤ length_of g.lens r → load_kind (at r) o width ≡ Some k → NumberHolds g r o width k b c
  unfolding load_kind
  load_holds r o width k inside h = by (at r o) refl h
    where
      opened : (t : Bool) → all_of is_open (at r) o width ≡ t → (if t then Some (width_kind width) else None) ≡ Some k → NumberHolds g r o width k b c
      opened true e l =
          let is : width_kind width ≡ k = cc in
          subst (λ z. NumberHolds g r o width z b c) is
          (width_holds g width _ _ (same_numbers g b c r o width can.apart inside (λ i m. open_byte r (o + i) (all_at is_open (at r) o width i e m))) (number_below b _ width can.bytes))
      opened false e l = absurd cc

      exact : (p : Piece) → at r o ≡ Some p → (t : Bool) → is_exactly o width p ≡ t
          → (if t then class_kind p.class width else (if all_of is_open (at r) o width then Some (width_kind width) else None)) ≡ Some k → NumberHolds g r o width k b c
      exact p e true m l =
          let x = exactly o width p m in
          let f = found laid.pieces p r o (shown_is (is_shut notified done) laid.pieces r o p e).is in
          let v = has p r o f.byte in
          let kind : class_kind p.class p.len ≡ Some k = subst (λ z. class_kind p.class z ≡ Some k) (sym x.len) l in
          let whole : NumberHolds g p.region p.at p.len k b c = whole_piece p k p.class (can.is_laid.inside f.index p f.listed) kind (class_at r o p e) in
          subst (λ z. NumberHolds g z o width k b c) v.region (subst (λ z. NumberHolds g p.region z width k b c) x.at (subst (λ z. NumberHolds g p.region p.at z k b c) x.len whole))
      exact p e false m l = opened (all_of is_open (at r) o width) refl l

      by : (q : Option Piece) → at r o ≡ q → load_by q (at r) o width ≡ Some k → NumberHolds g r o width k b c
      by None e l = absurd cc
      by (Some p) e l = exact p e (is_exactly o width p) refl l

  -- The kinds of loads are whole, so that a common one serves them.

  width_whole : (width : ℕ) → IsWholeKind (width_kind width)
  width_whole width = by_one 0 (256 ^ width - 1) 0 (omega arith) (omega arith)

  class_whole : (class : Class) (width : ℕ) (k : Kind) → IsProperClass class → class_kind class width ≡ Some k → IsWholeKind k
  class_whole Code width k h e = absurd cc
  class_whole Plain width k h e = let is : width_kind width ≡ k = cc in subst IsWholeKind is (width_whole width)
  class_whole (Number kind) width k h e = let is : kind ≡ k = cc in subst IsWholeKind is (whole_kind kind h)
  class_whole (Fixed kind) width k h e = let is : kind ≡ k = cc in subst IsWholeKind is (whole_kind kind h)
  class_whole (Convert kind cell) width k h e = let is : kind ≡ k = cc in subst IsWholeKind is (whole_kind kind h)

  load_whole : (r o width : ℕ) (k : Kind) → load_kind (at r) o width ≡ Some k → IsWholeKind k
  unfolding load_kind
  load_whole r o width k h = by (at r o) refl h
    where
      exact : (p : Piece) → at r o ≡ Some p → (t u : Bool) → (if t then class_kind p.class width else (if u then Some (width_kind width) else None)) ≡ Some k → IsWholeKind k
      exact p e true u l =
          let f = found laid.pieces p r o (shown_is (is_shut notified done) laid.pieces r o p e).is in
          class_whole p.class width k (can.is_laid.order.proper f.index p f.listed) l
      exact p e false true l = let is : width_kind width ≡ k = cc in subst IsWholeKind is (width_whole width)
      exact p e false false l = absurd cc

      by : (q : Option Piece) → at r o ≡ q → load_by q (at r) o width ≡ Some k → IsWholeKind k
      by None e l = absurd cc
      by (Some p) e l = exact p e (is_exactly o width p) (all_of is_open (at r) o width) l

  record OneServes (r o width : ℕ) (kind : Kind) : Type 0 where
    one : Kind
    is : load_kind (at r) o width ≡ Some one
    serves : (v w : ℕ) → Holds g one v w → Holds g kind v w

  abbrev EachServes : (r o by width n : ℕ) → Kind → Type 0
  EachServes r o by width n kind = (i : ℕ) → i ≤ n → OneServes r (o + i * by) width kind

  each : (r by width n o : ℕ) (a k : Kind) → load_kind (at r) o width ≡ Some a → EachServes r (o + by) by width n k → ServesBoth g a k (join a k) → EachServes r o by width (suc n) (join a k)
  each r by width n o a k e rest j zero l = let z : o ≡ o + 0 * by = omega arith in subst (λ x. OneServes r x width (join a k)) z (record { one = a; is = e; serves = j.first })
  each r by width n o a k e rest j (suc i) l =
      let one = rest i (omega arith) in
      let z : o + by + i * by ≡ o + suc i * by = omega arith in
      subst (λ x. OneServes r x width (join a k)) z (record { one = one.one; is = one.is; serves = λ v w p. j.second v w (one.serves v w p) })

  at_zero : (by o i : ℕ) → i ≤ 0 → o ≡ o + i * by
  at_zero by o zero k = omega arith
  at_zero by o (suc i) k = absurd (omega arith)

  fold : (r by width n o : ℕ) (kind : Kind) → load_kinds (at r) o by width n ≡ Some kind → EachServes r o by width n kind × IsWholeKind kind
  unfolding load_kinds
  fold r by width zero o kind h = ((λ i k. let z = at_zero by o i k in subst (λ x. OneServes r x width kind) z (record { one = kind; is = h; serves = λ v w p. p })), load_whole r o width kind h)
  fold r by width (suc n) o kind h = pair (load_kind (at r) o width) (load_kinds (at r) (o + by) by width n) refl (λ k f. fold r by width n (o + by) k f) refl h
    where
      pair : (a k : Option Kind) → load_kind (at r) o width ≡ a → ((x : Kind) → load_kinds (at r) (o + by) by width n ≡ Some x → EachServes r (o + by) by width n x × IsWholeKind x)
          → load_kinds (at r) (o + by) by width n ≡ k → both a k ≡ Some kind → EachServes r o by width (suc n) kind × IsWholeKind kind
      pair None k e more f l = absurd cc
      pair (Some a) None e more f l = absurd cc
      pair (Some a) (Some k) e more f l =
          let rest = more k f in
          let is : join a k ≡ kind = cc in
          let j = joins_serve g a k (load_whole r o width a e) (rest.1) in
          subst (λ z. EachServes r o by width (suc n) z × IsWholeKind z) is (each r by width n o a k e (rest.0) j, j.whole)

  -- a number in a span is one of those that are tried
  record Place (s : Span) (o : ℕ) : Type 0 where
    index : ℕ
    is : o ≡ s.lo + index * s.by
    most : index ≤ (s.hi - s.lo) / s.by

  place : (s : Span) (o : ℕ) → InSpan s o → Place s o
  place s o h = by (s.by == 0) refl
    where
      by : (t : Bool) → (s.by == 0) ≡ t → Place s o
      by true e =
          let z : s.by ≡ 0 = grind (arith, nat_tests) in
          let a : o ≡ s.lo + h.up * 0 = subst (λ n. o ≡ s.lo + h.up * n) z h.from_lo in
          record { index = 0; is = omega (arith, a); most = omega arith }
      by false e =
          let some : 0 < s.by = grind (arith, nat_tests) in
          let a = h.from_lo in
          let k = h.to_hi in
          let room : h.up * s.by ≤ s.hi - s.lo = omega (arith, a, k) in
          record { index = h.up; is = a; most = le-div h.up (s.hi - s.lo) s.by some room }

  pub span_holds : (r : ℕ) (s : Span) (o width : ℕ) (kind : Kind) → InSpan s o → o + width ≤ length_of g.lens r → span_kind (at r) s width ≡ Some kind → NumberHolds g r o width kind b c
  span_holds r s o width kind p inside h =
      let i = place s o p in
      let one = subst (λ x. OneServes r x width kind) (sym i.is) ((fold r s.by width ((s.hi - s.lo) / s.by) s.lo kind h).0 i.index i.most) in
      one.serves _ _ (load_holds r o width one.one inside one.is)

pub loads_hold : LoadsHold
loads_hold g laid notified done b c r o width kind can inside h = load_holds g laid notified done b c can r o width kind inside h

pub spans_hold : SpansHold
spans_hold g laid notified done b c r s o width kind can p inside h = span_holds g laid notified done b c can r s o width kind p inside h

-- the part of a load of the stack
pub stack_holds : StackHolds
unfolding part_kind
stack_holds g [] b c o width h = tt
stack_holds g (p ∷ ps) b c o width h = by (stack_holds g ps b c o width (λ i q e. h (suc i) q e)) (p.at == o) (p.width == width) refl refl
  where
    by : NumberHolds g 1 o width (part_kind ps o width) b c → (s t : Bool) → (p.at == o) ≡ s → (p.width == width) ≡ t → NumberHolds g 1 o width (if s && t then p.kind else part_kind ps o width) b c
    by more true true e f =
        let at : p.at ≡ o = grind (arith, nat_tests) in
        let len : p.width ≡ width = grind (arith, nat_tests) in
        subst (λ z. NumberHolds g 1 z width p.kind b c) at (subst (λ z. NumberHolds g 1 p.at z p.kind b c) len (h 0 p refl).holds)
    by more true false e f = more
    by more false t e f = more
