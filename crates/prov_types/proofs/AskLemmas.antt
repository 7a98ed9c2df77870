use Rattle.std.proofs.Common.{◌≡◌, ℕ, ◌≤◌, ◌<◌, ◌+◌, ◌-◌, ◌%◌, ◌/◌, ◌*◌, ◌^◌, ℤ, pos, arith, Bool, true, false, refl, sym, ◌∙◌, ap, subst, Option, Some, None, List}
use Rattle.std.specs.Int.{w64, w32, cast_signed, cast_unsigned}
use Rattle.std.specs.Prelude.{FitsSigned, ◌==◌, ◌&&◌, not, if◌then◌else◌, nat_lt, int_lt, negsuc, bit_or, bit_xor, slice_index}
use Rattle.std.proofs.lemmas.Int.{to_z_pos}
use Rattle.std.proofs.lemmas.Bool.Decides.{nat_tests}
use Rattle.rv_decode.specs.declared.insn.Insn.{Insn}
use Rattle.rv_decode.specs.declared.insn.Op.{Op}
use Rattle.rv_decode.specs.declared.insn.Op.TheVariants as ops
use Rattle.rv_step.specs.Numbers.{IsNumber, AsksFit}
use Rattle.rv_step.specs.Asks.{asks, asks_as, compares}
use Rattle.uh_base.specs.Bytes.{plus}
use Rattle.rv_step.specs.Values.{bits_of, shifted, signed, signed32, high, extended, quotient, remainder, quotient_signed, remainder_signed}
use Rattle.prov_types.specs.declared.kinds.Span.{Span}
use Rattle.prov_types.specs.declared.kinds.Kind.{Kind}
use Rattle.prov_types.specs.declared.kinds.Kind.TheVariants.{Any, Num, Ptr, Opt}
use Rattle.prov_types.proofs.EdgeLemmas.{IsSaid, said as said_so, numbers_narrowed, pointers_narrowed}
use Rattle.prov_types.proofs.RuleLemmas.{added_holds, subtracted_holds, moved_holds, shifted_left_holds, shifted_right_holds, masked_holds, anded_holds, rest_holds, ordered_holds, ordered_unsigned_holds, any_number, any_holds, constant, word_sum, equal_same, zero_same, tests_same}
use Rattle.prov_types.specs.declared.edges.Said.{Said}
use Rattle.prov_types.specs.Asked.{AskHolds, BothHold, ForksAlike, SetsAlike, SiteHolds, SiteMoves, WrittenHolds, asked_kinds, is_equality_or_unsigned, kind_asked, may_compare}
use Rattle.prov_types.specs.Fits.{fits, is_null}
use Rattle.prov_types.specs.Kinds.{AreApart, Holds, HoldsNum, HoldsOpt, HoldsPtr, IsProperKind, Regions, length_of, nought, pointed}
use Rattle.prov_types.specs.Laws.{AsksHold, ComparesAlike, NarrowIsSound, OneInstruction, TransferIsSound}
use Rattle.prov_types.specs.Narrow.{against_null, is_equality, narrow, narrow_between, said_by, says_equal}
use Rattle.prov_types.specs.Spans.{one, whole}
use Rattle.prov_types.specs.Transfer.{image_kind, is_below_31_bits, is_span, moved_span, moved_word, number, transfer, transfer_as, upper_kind}
use Rattle.prov_types.specs.declared.kinds.Place.{Place}

-- What the kinds of registers say of what is asked.

imm_fits : (imm : ℤ) → FitsSigned w64 imm → bits_of imm < 2 ^ 64
imm_fits (pos n) f = let h = f.sfits in omega (arith, h)
imm_fits (negsuc n) f = omega arith

sets : (g : Regions) (rd : ℕ) (kind : Kind) (v w : ℕ) → Holds g kind v w → SetsAlike g rd kind rd rd v w
sets g rd kind v w h = record { first = refl; second = refl; value = h }

-- the low word of a small number
small_word : (m : ℕ) → m < 2 ^ 31 → cast_unsigned w64 (cast_signed w32 m) ≡ m
small_word m h = ap (cast_unsigned w64) (to_z_pos w32 m h) ∙ omega arith

word_is : (n total : ℕ) → n % 2 ^ 64 ≡ total → total < 2 ^ 31 → extended n ≡ total
word_is n total e h =
    let low : n % 2 ^ 32 ≡ total = omega arith in
    ap (λ m. cast_unsigned w64 (cast_signed w32 m)) low ∙ small_word total h

-- an offset of the image, modulo 2^64
offset_is : (a o i pc : ℕ) → pc ≡ a + o → plus pc i ≡ plus a (plus o i)
offset_is a o i pc e = omega arith

moved_outcome : (op : Op) (base m n v w : ℕ) → is_equality_or_unsigned op ≡ true → v ≡ base + m → w ≡ base + n → compares op m n ≡ compares op v w
moved_outcome ops.Beq base m n v w h a b = grind (arith, nat_tests, a, b)
moved_outcome ops.Bne base m n v w h a b = ap not (same_equal base m n v w a b)
  where
    same_equal : (base m n v w : ℕ) → v ≡ base + m → w ≡ base + n → (m == n) ≡ (v == w)
    same_equal base m n v w a b = grind (arith, nat_tests, a, b)
moved_outcome ops.Bltu base m n v w h a b = grind (arith, nat_tests, a, b)
moved_outcome ops.Bgeu base m n v w h a b = ap not (same_less base m n v w a b)
  where
    same_less : (base m n v w : ℕ) → v ≡ base + m → w ≡ base + n → nat_lt m n ≡ nat_lt v w
    same_less base m n v w a b = grind (arith, nat_tests, a, b)
moved_outcome _ base m n v w h a b = absurd cc

module _ (g : Regions) (apart : AreApart g) where
  pub image_holds : (o v w : ℕ) → v ≡ plus (g.old 0) o → w ≡ plus (g.new 0) o → Holds g (image_kind g.lens o) v w
  image_holds o v w e f = by (nat_lt (length_of g.lens 0) o) refl
    where
      by : (c : Bool) → nat_lt (length_of g.lens 0) o ≡ c → Holds g (if c then Any else Ptr 0 (one o)) v w
      by true k = tt
      by false k =
          let inside : o ≤ length_of g.lens 0 = grind (arith, nat_tests) in
          let m = apart.old_ends 0 in
          let n = apart.new_ends 0 in
          record { offset = o; old = omega (arith, e, m, inside); new = omega (arith, f, n, inside); within = record { up = 0; down = 0; from_lo = omega arith; to_hi = omega arith }; inside = inside }

  word_holds : (a : Kind) (imm : ℤ) (v v' : ℕ) → v < 2 ^ 64 → FitsSigned w64 imm → extended (v + bits_of imm) < 2 ^ 64 → Holds g a v v'
      → Holds g (moved_word a imm) (extended (v + bits_of imm)) (extended (v' + bits_of imm))
  unfolding moved_word
  word_holds (Num s) imm v v' l f n p = subst (λ u. Holds g (moved_word (Num s) imm) (extended (v + bits_of imm)) (extended (u + bits_of imm))) p.same (by (moved_span s imm) refl)
    where
      rest : (o : Option Span) (c d e : Bool) → (s.lo == s.hi) ≡ c → Holds g (if c && (d && e) then Num (one (extended (s.lo + bits_of imm))) else Num whole) (extended (v + bits_of imm)) (extended (v + bits_of imm))
      rest o true true true k =
          let k : s.lo ≡ s.hi = grind (arith, nat_tests) in
          let i = p.within in
          let is : s.lo ≡ v = let a = i.from_lo in let b = i.to_hi in omega (arith, a, b) in
          subst (λ m. Holds g (Num (one (extended (m + bits_of imm)))) (extended (v + bits_of imm)) (extended (v + bits_of imm))) (sym is) (constant g apart _)
      rest o true true false k = any_number g apart _ n
      rest o true false e k = any_number g apart _ n
      rest o false d e k = any_number g apart _ n

      small : (u : Span) → moved_span s imm ≡ Some u → (c : Bool) → nat_lt u.hi (2 ^ 31) ≡ c
          → Holds g (if c then Num u else (if (s.lo == s.hi) && (true && nat_lt (extended (s.lo + bits_of imm)) (2 ^ 31)) then Num (one (extended (s.lo + bits_of imm))) else Num whole)) (extended (v + bits_of imm)) (extended (v + bits_of imm))
      small u e true k =
          let h = word_sum g apart s u v imm l f p.within e in
          let low : h.total < 2 ^ 31 = let a = h.top in grind (arith, nat_tests, a) in
          let is = word_is (v + bits_of imm) h.total h.is low in
          record { same = refl; within = rw is (h.within) }
      small u e false k = rest (Some u) (s.lo == s.hi) true (nat_lt (extended (s.lo + bits_of imm)) (2 ^ 31)) refl

      by : (o : Option Span) → moved_span s imm ≡ o
          → Holds g (if is_below_31_bits o then number o else (if (s.lo == s.hi) && (is_span o && nat_lt (extended (s.lo + bits_of imm)) (2 ^ 31)) then Num (one (extended (s.lo + bits_of imm))) else Num whole)) (extended (v + bits_of imm)) (extended (v + bits_of imm))
      by None e = rest None (s.lo == s.hi) false (nat_lt (extended (s.lo + bits_of imm)) (2 ^ 31)) refl
      by (Some u) e = small u e (nat_lt u.hi (2 ^ 31)) refl
  word_holds _ imm v v' l f n p = tt

  -- Branches

  zero_is : (t : Span) (w w' : ℕ) → HoldsNum t w w' → (t.lo == 0 && t.hi == 0) ≡ true → (w ≡ 0) × (w' ≡ 0)
  zero_is t w w' p = by (t.lo == 0) (t.hi == 0) refl refl
    where
      by : (c d : Bool) → (t.lo == 0) ≡ c → (t.hi == 0) ≡ d → (c && d) ≡ true → (w ≡ 0) × (w' ≡ 0)
      by true true e f k =
          let high : t.hi ≡ 0 = grind (arith, nat_tests) in
          let i = p.within in
          let is : w ≡ 0 = let a = i.to_hi in omega (arith, a, high) in
          (is, sym p.same ∙ is)
      by true false e f k = absurd cc
      by false d e f k = absurd cc

  equal_zero : (op : Op) (v v' w w' : ℕ) → is_equality op ≡ true → w ≡ 0 → w' ≡ 0 → (v == 0) ≡ (v' == 0) → compares op v w ≡ compares op v' w'
  equal_zero ops.Beq v v' w w' h e f k = rw (e, f) k
  equal_zero ops.Bne v v' w w' h e f k = rw (e, f, k) refl
  equal_zero _ v v' w w' h e f k = absurd cc

  zero_equal : (op : Op) (v v' w w' : ℕ) → is_equality op ≡ true → v ≡ 0 → v' ≡ 0 → (w == 0) ≡ (w' == 0) → compares op v w ≡ compares op v' w'
  zero_equal ops.Beq v v' w w' h e f k = let a : (0 == w) ≡ (w == 0) = grind (arith, nat_tests) in let b : (0 == w') ≡ (w' == 0) = grind (arith, nat_tests) in rw (e, f) (a ∙ k ∙ sym b)
  zero_equal ops.Bne v v' w w' h e f k = let a : (0 == w) ≡ (w == 0) = grind (arith, nat_tests) in let b : (0 == w') ≡ (w' == 0) = grind (arith, nat_tests) in rw (e, f, a, b, k) refl
  zero_equal _ v v' w w' h e f k = absurd cc

  first_of : (c d : Bool) → (c && d) ≡ true → c ≡ true
  first_of true d h = refl
  first_of false d h = absurd cc

  second_of : (c d : Bool) → (c && d) ≡ true → d ≡ true
  second_of true d h = h
  second_of false d h = absurd cc

  ptr_zero : (r : ℕ) (s : Span) (v v' : ℕ) → HoldsPtr g r s v v' → (v == 0) ≡ (v' == 0)
  ptr_zero r s v v' p = let k = apart.old_begins r in let m = apart.new_begins r in let a = p.old in let b = p.new in grind (arith, nat_tests, a, b, k, m)

  two_pointers : (op : Op) (r : ℕ) (s t : Span) (v v' w w' : ℕ) → is_equality_or_unsigned op ≡ true → HoldsPtr g r s v v' → HoldsPtr g r t w w' → compares op v w ≡ compares op v' w'
  two_pointers ops.Beq r s t v v' w w' h p q = equal_same g apart r s t v v' w w' p q
  two_pointers ops.Bne r s t v v' w w' h p q = ap not (equal_same g apart r s t v v' w w' p q)
  two_pointers ops.Bltu r s t v v' w w' h p q = tests_same g apart r s t v v' w w' p q
  two_pointers ops.Bgeu r s t v v' w w' h p q = ap not (tests_same g apart r s t v v' w w' p q)
  two_pointers _ r s t v v' w w' h p q = absurd cc

  pub same_outcome : (op : Op) (a b : Kind) (v v' w w' : ℕ) → may_compare op a b ≡ true → Holds g a v v' → Holds g b w w' → compares op v w ≡ compares op v' w'
  unfolding may_compare
  same_outcome op (Num s) (Num t) v v' w w' h p q = let e = p.same in let f = q.same in cc
  same_outcome op (Ptr r s) (Ptr o t) v v' w w' h p q =
      let k : (r == o) ≡ true = first_of (r == o) (is_equality_or_unsigned op) h in
      let same : o ≡ r = grind (arith, nat_tests, k) in
      two_pointers op r s t v v' w w' (second_of _ _ h) p (subst (λ n. HoldsPtr g n t w w') same q)
  same_outcome op (Ptr r s) (Num t) v v' w w' h p q = let z = zero_is t w w' q (second_of (is_equality op) _ h) in equal_zero op v v' w w' (first_of _ _ h) (z.0) (z.1) (ptr_zero r s v v' p)
  same_outcome op (Opt r s) (Num t) v v' w w' h p q = let z = zero_is t w w' q (second_of (is_equality op) _ h) in equal_zero op v v' w w' (first_of _ _ h) (z.0) (z.1) (zero_same g apart r s s v v' p)
  same_outcome op (Num s) (Ptr r t) v v' w w' h p q = let z = zero_is s v v' p (second_of (is_equality op) _ h) in zero_equal op v v' w w' (first_of _ _ h) (z.0) (z.1) (ptr_zero r t w w' q)
  same_outcome op (Num s) (Opt r t) v v' w w' h p q = let z = zero_is s v v' p (second_of (is_equality op) _ h) in zero_equal op v v' w w' (first_of _ _ h) (z.0) (z.1) (zero_same g apart r t t w w' q)
  same_outcome op Any b v v' w w' h p q = absurd cc
  same_outcome op (Num s) Any v v' w w' h p q = absurd cc
  same_outcome op (Ptr r s) Any v v' w w' h p q = absurd cc
  same_outcome op (Ptr r s) (Opt o t) v v' w w' h p q = absurd cc
  same_outcome op (Opt r s) Any v v' w w' h p q = absurd cc
  same_outcome op (Opt r s) (Ptr o t) v v' w w' h p q = absurd cc
  same_outcome op (Opt r s) (Opt o t) v v' w w' h p q = absurd cc

  -- the edge of an equality with 0 says whether the value is 0
  said : (op : Op) (v w : ℕ) → is_equality op ≡ true → says_equal op (compares op v w) ≡ (v == w)
  said ops.Beq v w h = refl
  said ops.Bne v w h = by (v == w)
    where
      by : (c : Bool) → not (not c) ≡ c
      by true = refl
      by false = refl
  said _ v w h = absurd cc

  left_of : (r : ℕ) (s : Span) (v v' : ℕ) (c : Bool) → (v == 0) ≡ c → HoldsOpt g r s v v' → Holds g (if c then Num (one 0) else Ptr r s) v v'
  left_of r s v v' true e (nought k m) = record { same = k ∙ sym m; within = record { up = 0; down = 0; from_lo = omega (arith, k); to_hi = omega (arith, k) } }
  left_of r s v v' true e (pointed p) = let k = apart.old_begins r in let a = p.old in absurd (grind (arith, nat_tests, k, a))
  left_of r s v v' false e (nought k m) = absurd (grind (arith, nat_tests))
  left_of r s v v' false e (pointed p) = p

  against_holds : (op : Op) (went : Bool) (r : ℕ) (s : Span) (v v' : ℕ) (c : Bool) → c ≡ true → (v == 0) ≡ says_equal op went → HoldsOpt g r s v v'
      → Holds g (if c then against_null op went r s else Opt r s) v v'
  unfolding against_null
  against_holds op went r s v v' true k e p = left_of r s v v' (says_equal op went) e p
  against_holds op went r s v v' false k e p = absurd cc

  -- what an edge says of two pointers, it says of their offsets
  pointers_said : (op : Op) (r o : ℕ) (s t : Span) (v v' w w' : ℕ) → is_equality_or_unsigned op ≡ true → o ≡ r → (p : HoldsPtr g r s v v') (q : HoldsPtr g o t w w') → (x : Said) → said_by op (compares op v w) s t ≡ x → IsSaid x p.offset q.offset
  pointers_said op r o s t v v' w w' h same p q x e =
      let a = p.old in
      let b : w ≡ g.old r + q.offset = subst (λ n. w ≡ g.old n + q.offset) same q.old in
      subst (λ z. IsSaid z p.offset q.offset) e (subst (λ z. IsSaid (said_by op z s t) p.offset q.offset) (moved_outcome op (g.old r) p.offset q.offset v w h a b) (said_so op s t p.offset q.offset p.within q.within))

  pub narrowed : (op : Op) (a b : Kind) (v v' w w' : ℕ) → IsProperKind a → IsProperKind b → may_compare op a b ≡ true → Holds g a v v' → Holds g b w w' → BothHold g v v' w w' (narrow_between op (compares op v w) a b)
  unfolding may_compare narrow_between
  narrowed op (Opt r s) (Num t) v v' w w' x y h p q =
      let z = zero_is t w w' q (second_of (is_equality op) _ h) in
      let e : (v == 0) ≡ says_equal op (compares op v w) = sym (said op v w (first_of _ _ h) ∙ rw (z.0) refl) in
      (against_holds op (compares op v w) r s v v' (is_equality op && is_null t) h e p, q)
  narrowed op (Num s) (Opt r t) v v' w w' x y h p q =
      let z = zero_is s v v' p (second_of (is_equality op) _ h) in
      let turn : (0 == w) ≡ (w == 0) = grind (arith, nat_tests) in
      let e : (w == 0) ≡ says_equal op (compares op v w) = sym (said op v w (first_of _ _ h) ∙ rw (z.0) turn) in
      (p, against_holds op (compares op v w) r t w w' (is_equality op && is_null s) h e q)
  narrowed op (Num s) (Num t) v v' w w' x y h p q =
      subst (λ n. BothHold g v n w w' (narrow_between op (compares op v w) (Num s) (Num t))) p.same (subst (λ n. BothHold g v v w n (narrow_between op (compares op v w) (Num s) (Num t))) q.same
      (numbers_narrowed g (said_by op (compares op v w) s t) s t v w x y p.within q.within (said_so op s t v w p.within q.within)))
  narrowed op (Ptr r s) (Ptr o t) v v' w w' x y h p q =
      let k : (r == o) ≡ true = first_of (r == o) (is_equality_or_unsigned op) h in
      let same : o ≡ r = grind (arith, nat_tests, k) in
      pointers_narrowed g (said_by op (compares op v w) s t) r o s t v v' w w' p q x y (pointers_said op r o s t v v' w w' (second_of (r == o) _ h) same p q (said_by op (compares op v w) s t) refl)
  narrowed op (Num s) (Ptr o t) v v' w w' x y h p q = (p, q)
  narrowed op (Num s) Any v v' w w' x y h p q = (p, q)
  narrowed op (Ptr r s) (Num t) v v' w w' x y h p q = (p, q)
  narrowed op (Ptr r s) Any v v' w w' x y h p q = (p, q)
  narrowed op (Ptr r s) (Opt o t) v v' w w' x y h p q = (p, q)
  narrowed op Any b v v' w w' x y h p q = (p, q)
  narrowed op (Opt r s) Any v v' w w' x y h p q = (p, q)
  narrowed op (Opt r s) (Ptr o t) v v' w w' x y h p q = (p, q)
  narrowed op (Opt r s) (Opt o t) v v' w w' x y h p q = (p, q)

  forks : (op : Op) (a b : Kind) (v v' w w' pc qc o len i : ℕ) → pc ≡ g.old 0 + o → qc ≡ g.new 0 + o → IsProperKind a → IsProperKind b → may_compare op a b ≡ true → Holds g a v v' → Holds g b w w'
      → ForksAlike g op a b (plus o len) (plus o i) v v' w w' (if compares op v w then plus pc i else plus pc len) (if compares op v' w' then plus qc i else plus qc len) 0 0
  forks op a b v v' w w' pc qc o len i e f ka kb h p q = record {
    went = compares op v w;
    goes = record {
      first = refl;
      second = refl;
      old_to = to (compares op v w) (g.old 0) pc e;
      new_to = ap (λ c. if c then plus qc i else plus qc len) (sym (same_outcome op a b v v' w w' h p q)) ∙ to (compares op v w) (g.new 0) qc f;
    };
    narrowed = narrowed op a b v v' w w' ka kb h p q;
  }
    where
      to : (c : Bool) (base at : ℕ) → at ≡ base + o → (if c then plus at i else plus at len) ≡ plus base (if c then plus o i else plus o len)
      to true base at k = offset_is base o i at k
      to false base at k = offset_is base o len at k

  lui_holds : (target : Option ℕ) (insn other : Insn) → SiteHolds g target insn other → insn.op ≡ ops.Lui
      → Holds g (upper_kind g.lens insn.imm target) (bits_of insn.imm) (bits_of other.imm)
  lui_holds None insn other s e = rw s (constant g apart (bits_of insn.imm))
  lui_holds (Some target) insn other s e = by (nat_lt (length_of g.lens 0) target) refl
    where
      by : (c : Bool) → nat_lt (length_of g.lens 0) target ≡ c → Holds g (if c then Any else Ptr 0 (one target)) (bits_of insn.imm) (bits_of other.imm)
      by true k = tt
      by false k = record { offset = target; old = s.old_names; new = s.new_names; within = record { up = 0; down = 0; from_lo = omega arith; to_hi = omega arith }; inside = grind (arith, nat_tests) }

  -- what is written, one line a name, where no site moves the instruction
  pub written : (op : Op) (imm : ℤ) (rd v v' w w' pc qc at len : ℕ) (a b : Kind) → v < 2 ^ 64 → FitsSigned w64 imm → IsNumber (asks_as op rd v w (bits_of imm) pc (plus pc len))
      → pc ≡ g.old 0 + at → qc ≡ g.new 0 + at → Holds g a v v' → Holds g b w w'
      → WrittenHolds g (transfer_as op imm (record { at = at; len = len; target = None }) a b g.lens) (plus pc len) (plus qc len) (asks_as op rd v w (bits_of imm) pc (plus pc len)) (asks_as op rd v' w' (bits_of imm) qc (plus qc len))
  written ops.Lui imm rd v v' w w' pc qc at len a b l f n e k p q = (constant g apart (bits_of imm))
  written ops.Auipc imm rd v v' w w' pc qc at len a b l f n e k p q = (image_holds (plus at (bits_of imm)) _ _ (offset_is (g.old 0) at (bits_of imm) pc e) (offset_is (g.new 0) at (bits_of imm) qc k))
  written ops.Add imm rd v v' w w' pc qc at len a b l f n e k p q = (added_holds g apart a b v v' w w' p q)
  written ops.Addi imm rd v v' w w' pc qc at len a b l f n e k p q = (moved_holds g apart a imm v v' l p)
  written ops.Sub imm rd v v' w w' pc qc at len a b l f n e k p q = (subtracted_holds g apart a b v v' w w' l p q)
  written ops.Slli imm rd v v' w w' pc qc at len a b l f n e k p q = (shifted_left_holds g apart a (bits_of imm % 64) v v' p)
  written ops.Srli imm rd v v' w w' pc qc at len a b l f n e k p q = (shifted_right_holds g apart a (bits_of imm % 64) v v' p)
  written ops.Andi imm rd v v' w w' pc qc at len a b l f n e k p q = (masked_holds g apart a (bits_of imm) v v' l p)
  written ops.And imm rd v v' w w' pc qc at len a b l f n e k p q = (anded_holds g apart a b v v' w w' l p q)
  written ops.Remu imm rd v v' w w' pc qc at len a b l f n e k p q = (rest_holds g apart a b v v' w w' l p q)
  written ops.Addiw imm rd v v' w w' pc qc at len a b l f n e k p q = (word_holds a imm v v' l f n p)
  written ops.Sltu imm rd v v' w w' pc qc at len a b l f n e k p q = (ordered_unsigned_holds g apart a b v v' w w' p q)
  written ops.Slt imm rd v v' w w' pc qc at len a b l f n e k p q = (ordered_holds g apart a b (λ m k. int_lt (signed m) (signed k)) v v' w w' p q)
  written ops.Slti imm rd v v' w w' pc qc at len a b l f n e k p q = (ordered_holds g apart a (Num whole) (λ m k. int_lt (signed m) (signed k)) v v' (bits_of imm) (bits_of imm) p (any_number g apart _ (imm_fits imm f)))
  written ops.Sltiu imm rd v v' w w' pc qc at len a b l f n e k p q = (ordered_holds g apart a (Num whole) (λ m k. nat_lt m k) v v' (bits_of imm) (bits_of imm) p (any_number g apart _ (imm_fits imm f)))
  written ops.Xori imm rd v v' w w' pc qc at len a b l f n e k p q = (any_holds g apart a (Num whole) (λ m k. bit_xor m k) v v' (bits_of imm) (bits_of imm) n p (any_number g apart _ (imm_fits imm f)))
  written ops.Ori imm rd v v' w w' pc qc at len a b l f n e k p q = (any_holds g apart a (Num whole) (λ m k. bit_or m k) v v' (bits_of imm) (bits_of imm) n p (any_number g apart _ (imm_fits imm f)))
  written ops.Srai imm rd v v' w w' pc qc at len a b l f n e k p q = (any_holds g apart a (Num whole) (λ m k. shifted (signed m) (k % 64)) v v' (bits_of imm) (bits_of imm) n p (any_number g apart _ (imm_fits imm f)))
  written ops.Slliw imm rd v v' w w' pc qc at len a b l f n e k p q = (any_holds g apart a (Num whole) (λ m k. extended (m * 2 ^ (k % 32))) v v' (bits_of imm) (bits_of imm) n p (any_number g apart _ (imm_fits imm f)))
  written ops.Srliw imm rd v v' w w' pc qc at len a b l f n e k p q = (any_holds g apart a (Num whole) (λ m k. extended (m % 2 ^ 32 / 2 ^ (k % 32))) v v' (bits_of imm) (bits_of imm) n p (any_number g apart _ (imm_fits imm f)))
  written ops.Sraiw imm rd v v' w w' pc qc at len a b l f n e k p q = (any_holds g apart a (Num whole) (λ m k. shifted (signed32 m) (k % 32)) v v' (bits_of imm) (bits_of imm) n p (any_number g apart _ (imm_fits imm f)))
  written ops.Sll imm rd v v' w w' pc qc at len a b l f n e k p q = (any_holds g apart a b (λ m k. m * 2 ^ (k % 64) % 2 ^ 64) v v' w w' n p q)
  written ops.Xor imm rd v v' w w' pc qc at len a b l f n e k p q = (any_holds g apart a b (λ m k. bit_xor m k) v v' w w' n p q)
  written ops.Srl imm rd v v' w w' pc qc at len a b l f n e k p q = (any_holds g apart a b (λ m k. m / 2 ^ (k % 64)) v v' w w' n p q)
  written ops.Sra imm rd v v' w w' pc qc at len a b l f n e k p q = (any_holds g apart a b (λ m k. shifted (signed m) (k % 64)) v v' w w' n p q)
  written ops.Or imm rd v v' w w' pc qc at len a b l f n e k p q = (any_holds g apart a b (λ m k. bit_or m k) v v' w w' n p q)
  written ops.Addw imm rd v v' w w' pc qc at len a b l f n e k p q = (any_holds g apart a b (λ m k. extended (m + k)) v v' w w' n p q)
  written ops.Subw imm rd v v' w w' pc qc at len a b l f n e k p q = (any_holds g apart a b (λ m k. extended (m + (2 ^ 64 - k))) v v' w w' n p q)
  written ops.Sllw imm rd v v' w w' pc qc at len a b l f n e k p q = (any_holds g apart a b (λ m k. extended (m * 2 ^ (k % 32))) v v' w w' n p q)
  written ops.Srlw imm rd v v' w w' pc qc at len a b l f n e k p q = (any_holds g apart a b (λ m k. extended (m % 2 ^ 32 / 2 ^ (k % 32))) v v' w w' n p q)
  written ops.Sraw imm rd v v' w w' pc qc at len a b l f n e k p q = (any_holds g apart a b (λ m k. shifted (signed32 m) (k % 32)) v v' w w' n p q)
  written ops.Mul imm rd v v' w w' pc qc at len a b l f n e k p q = (any_holds g apart a b (λ m k. m * k % 2 ^ 64) v v' w w' n p q)
  written ops.Mulh imm rd v v' w w' pc qc at len a b l f n e k p q = (any_holds g apart a b (λ m k. high (signed m) (signed k)) v v' w w' n p q)
  written ops.Mulhsu imm rd v v' w w' pc qc at len a b l f n e k p q = (any_holds g apart a b (λ m k. high (signed m) (pos k)) v v' w w' n p q)
  written ops.Mulhu imm rd v v' w w' pc qc at len a b l f n e k p q = (any_holds g apart a b (λ m k. m * k / 2 ^ 64) v v' w w' n p q)
  written ops.Mulw imm rd v v' w w' pc qc at len a b l f n e k p q = (any_holds g apart a b (λ m k. extended (m * k)) v v' w w' n p q)
  written ops.Div imm rd v v' w w' pc qc at len a b l f n e k p q = (any_holds g apart a b (λ m k. quotient_signed m k) v v' w w' n p q)
  written ops.Divu imm rd v v' w w' pc qc at len a b l f n e k p q = (any_holds g apart a b (λ m k. quotient m k) v v' w w' n p q)
  written ops.Rem imm rd v v' w w' pc qc at len a b l f n e k p q = (any_holds g apart a b (λ m k. remainder_signed m k) v v' w w' n p q)
  written ops.Divw imm rd v v' w w' pc qc at len a b l f n e k p q = (any_holds g apart a b (λ m k. extended (quotient_signed (extended m) (extended k))) v v' w w' n p q)
  written ops.Divuw imm rd v v' w w' pc qc at len a b l f n e k p q = (any_holds g apart a b (λ m k. extended (quotient (m % 2 ^ 32) (k % 2 ^ 32))) v v' w w' n p q)
  written ops.Remw imm rd v v' w w' pc qc at len a b l f n e k p q = (any_holds g apart a b (λ m k. extended (remainder_signed (extended m) (extended k))) v v' w w' n p q)
  written ops.Remuw imm rd v v' w w' pc qc at len a b l f n e k p q = (any_holds g apart a b (λ m k. extended (remainder (m % 2 ^ 32) (k % 2 ^ 32))) v v' w w' n p q)
  written ops.Jal imm rd v v' w w' pc qc at len a b l f n e k p q = image_holds (plus at len) _ _ (offset_is (g.old 0) at len pc e) (offset_is (g.new 0) at len qc k)
  written ops.Jalr imm rd v v' w w' pc qc at len a b l f n e k p q = image_holds (plus at len) _ _ (offset_is (g.old 0) at len pc e) (offset_is (g.new 0) at len qc k)
  written _ imm rd v v' w w' pc qc at len a b l f n e k p q = tt

  -- what is asked, one line a name
  pub asked : (op : Op) (imm : ℤ) (rd v v' w w' pc qc at len : ℕ) (a b : Kind) → IsProperKind a → IsProperKind b → v < 2 ^ 64 → FitsSigned w64 imm → IsNumber (asks_as op rd v w (bits_of imm) pc (plus pc len))
      → pc ≡ g.old 0 + at → qc ≡ g.new 0 + at → Holds g a v v' → Holds g b w w'
      → AskHolds g v v' w w' (kind_asked op g.lens imm (record { at = at; len = len; target = None }) rd a b) (asks_as op rd v w (bits_of imm) pc (plus pc len)) (asks_as op rd v' w' (bits_of imm) qc (plus qc len))
  asked ops.Jal imm rd v v' w w' pc qc at len a b ka kb l f n e k p q = record { first = refl; second = refl; old_to = offset_is (g.old 0) at (bits_of imm) pc e; new_to = offset_is (g.new 0) at (bits_of imm) qc k }
  asked ops.Jalr imm rd v v' w w' pc qc at len a b ka kb l f n e k p q = record { first = refl; second = refl; old_whole = plus v (bits_of imm); new_whole = plus v' (bits_of imm); old_to = refl; new_to = refl; target = moved_holds g apart a imm v v' l p }
  asked ops.Beq imm rd v v' w w' pc qc at len a b ka kb l f n e k p q = λ h. forks ops.Beq a b v v' w w' pc qc at len (bits_of imm) e k ka kb h p q
  asked ops.Bne imm rd v v' w w' pc qc at len a b ka kb l f n e k p q = λ h. forks ops.Bne a b v v' w w' pc qc at len (bits_of imm) e k ka kb h p q
  asked ops.Blt imm rd v v' w w' pc qc at len a b ka kb l f n e k p q = λ h. forks ops.Blt a b v v' w w' pc qc at len (bits_of imm) e k ka kb h p q
  asked ops.Bge imm rd v v' w w' pc qc at len a b ka kb l f n e k p q = λ h. forks ops.Bge a b v v' w w' pc qc at len (bits_of imm) e k ka kb h p q
  asked ops.Bltu imm rd v v' w w' pc qc at len a b ka kb l f n e k p q = λ h. forks ops.Bltu a b v v' w w' pc qc at len (bits_of imm) e k ka kb h p q
  asked ops.Bgeu imm rd v v' w w' pc qc at len a b ka kb l f n e k p q = λ h. forks ops.Bgeu a b v v' w w' pc qc at len (bits_of imm) e k ka kb h p q
  asked ops.Lb imm rd v v' w w' pc qc at len a b ka kb l f n e k p q = record { first = refl; second = refl; width_first = refl; width_second = refl; sign_first = refl; sign_second = refl; address = moved_holds g apart a imm v v' l p }
  asked ops.Lh imm rd v v' w w' pc qc at len a b ka kb l f n e k p q = record { first = refl; second = refl; width_first = refl; width_second = refl; sign_first = refl; sign_second = refl; address = moved_holds g apart a imm v v' l p }
  asked ops.Lw imm rd v v' w w' pc qc at len a b ka kb l f n e k p q = record { first = refl; second = refl; width_first = refl; width_second = refl; sign_first = refl; sign_second = refl; address = moved_holds g apart a imm v v' l p }
  asked ops.Ld imm rd v v' w w' pc qc at len a b ka kb l f n e k p q = record { first = refl; second = refl; width_first = refl; width_second = refl; sign_first = refl; sign_second = refl; address = moved_holds g apart a imm v v' l p }
  asked ops.Lbu imm rd v v' w w' pc qc at len a b ka kb l f n e k p q = record { first = refl; second = refl; width_first = refl; width_second = refl; sign_first = refl; sign_second = refl; address = moved_holds g apart a imm v v' l p }
  asked ops.Lhu imm rd v v' w w' pc qc at len a b ka kb l f n e k p q = record { first = refl; second = refl; width_first = refl; width_second = refl; sign_first = refl; sign_second = refl; address = moved_holds g apart a imm v v' l p }
  asked ops.Lwu imm rd v v' w w' pc qc at len a b ka kb l f n e k p q = record { first = refl; second = refl; width_first = refl; width_second = refl; sign_first = refl; sign_second = refl; address = moved_holds g apart a imm v v' l p }
  asked ops.Sb imm rd v v' w w' pc qc at len a b ka kb l f n e k p q = record { width_first = refl; width_second = refl; address = moved_holds g apart a imm v v' l p; value = q }
  asked ops.Sh imm rd v v' w w' pc qc at len a b ka kb l f n e k p q = record { width_first = refl; width_second = refl; address = moved_holds g apart a imm v v' l p; value = q }
  asked ops.Sw imm rd v v' w w' pc qc at len a b ka kb l f n e k p q = record { width_first = refl; width_second = refl; address = moved_holds g apart a imm v v' l p; value = q }
  asked ops.Sd imm rd v v' w w' pc qc at len a b ka kb l f n e k p q = record { width_first = refl; width_second = refl; address = moved_holds g apart a imm v v' l p; value = q }
  asked ops.Fence imm rd v v' w w' pc qc at len a b ka kb l f n e k p q = sets g 0 _ _ _ (constant g apart 0)
  asked ops.Ecall imm rd v v' w w' pc qc at len a b ka kb l f n e k p q = tt
  asked ops.Ebreak imm rd v v' w w' pc qc at len a b ka kb l f n e k p q = tt
  asked op imm rd v v' w w' pc qc at len a b ka kb l f n e k p q = sets g rd _ _ _ (written op imm rd v v' w w' pc qc at len a b l f n e k p q)

pc_fits : (g : Regions) (insn other : Insn) (place : Place) (x y : List ℕ) (pc qc : ℕ) → OneInstruction g insn other place x y pc qc → pc < 2 ^ 64
pc_fits g insn other place x y pc qc i =
    let a = i.apart.old_ends 0 in
    let e = i.first_at in
    let f = i.inside in
    omega (arith, a, e, f)

-- the law of what is written, where a site may move a LUI
pub transfer_sound : AsksFit → TransferIsSound
unfolding transfer asks
transfer_sound fits g insn other place a b x y pc qc i p q = by place.target refl i.site
  where
    plain : (target : Option ℕ) → target ≡ None
        → WrittenHolds g (transfer_as insn.op insn.imm (record { at = place.at; len = place.len; target = target }) a b g.lens) (plus pc place.len) (plus qc place.len) (asks insn place.len x pc) (asks insn place.len y qc)
    plain target t = rw t (written g i.apart insn.op insn.imm insn.rd _ _ _ _ pc qc place.at place.len a b (i.first_numbers insn.rs1) i.fits (fits insn place.len x pc i.fits i.first_numbers (pc_fits g insn other place x y pc qc i)) i.first_at i.second_at p q)

    at_site : (target : ℕ) → place.target ≡ Some target → SiteMoves g target insn other → (op : Op) → insn.op ≡ op → (op' : Op) → other.op ≡ op'
        → WrittenHolds g (transfer_as op insn.imm place a b g.lens) (plus pc place.len) (plus qc place.len) (asks_as op insn.rd (slice_index x insn.rs1) (slice_index x insn.rs2) (bits_of insn.imm) pc (plus pc place.len)) (asks_as op' other.rd (slice_index y other.rs1) (slice_index y other.rs2) (bits_of other.imm) qc (plus qc place.len))
    at_site target t s ops.Lui o ops.Lui o' = subst (λ z. Holds g (upper_kind g.lens insn.imm z) (bits_of insn.imm) (bits_of other.imm)) (sym t) (lui_holds g i.apart (Some target) insn other s o)
    at_site target t s op o op' o' = absurd cc

    by : (target : Option ℕ) → place.target ≡ target → SiteHolds g target insn other
        → WrittenHolds g (transfer_as insn.op insn.imm place a b g.lens) (plus pc place.len) (plus qc place.len) (asks insn place.len x pc) (asks other place.len y qc)
    by None t s = rw s (plain place.target t)
    by (Some target) t s = at_site target t s insn.op refl other.op refl

-- the law of what is asked
pub asked_hold : AsksFit → AsksHold
unfolding asked_kinds asks
asked_hold fits g insn other place kinds x y pc qc i proper regs = by place.target refl i.site
  where
    plain : (target : Option ℕ) → target ≡ None → AskHolds g (slice_index x insn.rs1) (slice_index y insn.rs1) (slice_index x insn.rs2) (slice_index y insn.rs2)
        (kind_asked insn.op g.lens insn.imm (record { at = place.at; len = place.len; target = target }) insn.rd (kinds insn.rs1) (kinds insn.rs2)) (asks insn place.len x pc) (asks insn place.len y qc)
    plain target t = rw t (asked g i.apart insn.op insn.imm insn.rd _ _ _ _ pc qc place.at place.len _ _ (proper insn.rs1) (proper insn.rs2) (i.first_numbers insn.rs1) i.fits (fits insn place.len x pc i.fits i.first_numbers (pc_fits g insn other place x y pc qc i)) i.first_at i.second_at (regs insn.rs1) (regs insn.rs2))

    at_site : (target : ℕ) → place.target ≡ Some target → SiteMoves g target insn other → (op : Op) → insn.op ≡ op → (op' : Op) → other.op ≡ op'
        → AskHolds g (slice_index x insn.rs1) (slice_index y insn.rs1) (slice_index x insn.rs2) (slice_index y insn.rs2)
        (kind_asked op g.lens insn.imm place insn.rd (kinds insn.rs1) (kinds insn.rs2)) (asks_as op insn.rd (slice_index x insn.rs1) (slice_index x insn.rs2) (bits_of insn.imm) pc (plus pc place.len)) (asks_as op' other.rd (slice_index y other.rs1) (slice_index y other.rs2) (bits_of other.imm) qc (plus qc place.len))
    at_site target t s ops.Lui o ops.Lui o' = record { first = refl; second = s.same_rd; value = subst (λ z. Holds g (upper_kind g.lens insn.imm z) (bits_of insn.imm) (bits_of other.imm)) (sym t) (lui_holds g i.apart (Some target) insn other s o) }
    at_site target t s op o op' o' = absurd cc

    by : (target : Option ℕ) → place.target ≡ target → SiteHolds g target insn other → AskHolds g (slice_index x insn.rs1) (slice_index y insn.rs1) (slice_index x insn.rs2) (slice_index y insn.rs2)
        (kind_asked insn.op g.lens insn.imm place insn.rd (kinds insn.rs1) (kinds insn.rs2)) (asks insn place.len x pc) (asks other place.len y qc)
    by None t s = rw s (plain place.target t)
    by (Some target) t s = at_site target t s insn.op refl other.op refl

pub alike : ComparesAlike
alike g insn a b v v' w w' apart h p q = same_outcome g apart insn.op a b v v' w w' h p q

pub narrow_sound : NarrowIsSound
unfolding narrow
narrow_sound g insn a b v v' w w' apart ka kb h p q = by (insn.rs1 == insn.rs2)
  where
    by : (c : Bool) → BothHold g v v' w w' (if c then Some (a, b) else narrow_between insn.op (compares insn.op v w) a b)
    by true = (p, q)
    by false = narrowed g apart insn.op a b v v' w w' ka kb h p q
