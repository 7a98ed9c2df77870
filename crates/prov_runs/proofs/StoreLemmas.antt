-- What stores leave of two memories.
use Rattle.std.proofs.Common.{◌≡◌, ℕ, zero, suc, ◌≤◌, ◌<◌, ◌+◌, ◌-◌, ◌%◌, ◌/◌, ◌^◌, arith, Bool, true, false, refl, sym, ◌∙◌, ap, subst, Option, Some, None, List, [], ◌∷◌}
use Rattle.std.specs.Prelude.{◌==◌, ◌&&◌, ◌≢◌, nat_lt, nat_le, if◌then◌else◌, slice_get}
use Rattle.std.proofs.Math.Nat.{mod-eq_of_lt, pow-succ', mod-lt}
use Rattle.std.proofs.lemmas.Bool.Decides.{nat_tests}
use Rattle.uh_base.specs.Bytes.{behind, number_at, with_number}
use Rattle.rv_step.specs.Memory.{OtherBytesStay, StoredIsLoaded, StoresItsBytes}
use Rattle.prov_types.specs.declared.kinds.Kind.{Kind}
use Rattle.prov_types.specs.declared.kinds.Kind.TheVariants.{Any, Num, Ptr, Opt}
use Rattle.prov_types.specs.Kinds.{Holds, Regions, length_of}
use Rattle.prov_types.specs.Fits.{fits}
use Rattle.prov_types.specs.Laws.{FitsIsSound}
use Rattle.prov_cert.specs.declared.cert.StackPart.{StackPart}
use Rattle.prov_layout.specs.declared.piece.Class.{Class}
use Rattle.prov_layout.specs.declared.piece.Class.TheVariants.{Code, Plain, Number, Fixed, Convert}
use Rattle.prov_layout.specs.declared.piece.Piece.{Piece}
use Rattle.prov_layout.specs.Pieces.{IsProperClass, all_of, has_byte, is_code, is_exactly, is_of, is_plain, piece_at}
use Rattle.prov_layout.specs.Loads.{width_kind}
use Rattle.prov_layout.specs.Stores.{is_number, is_within, store_by, store_keeps, takes}
use Rattle.prov_layout.specs.Stack.{meets, stored_kind, with_part, without}
use Rattle.prov_runs.specs.Bytes.{NoneMeet, NumberHolds, SameByte}
use Rattle.prov_runs.specs.Sites.{WordMoves}
use Rattle.prov_runs.specs.Memory.{ClassHolds, HasCode, PartHolds, PartsHold, SameBytes}
use Rattle.prov_runs.specs.StoreLaws.{BothStore, CodeStays, OthersStay, PartsStay, RegionsStay, StackKeeps, StackKeepsCode, StackLeaves, StoresKeep, is_stored_to, stored}
use Rattle.prov_runs.proofs.SpanLemmas.{ends}
use Rattle.prov_runs.proofs.NumberLemmas.{number_stays, width_holds}
use Rattle.prov_runs.proofs.PieceLemmas.{OfClass, all_at, both_of, exactly, found, has, has_from, listed_at, of_class}

-- a byte that a store in one run doesn't meet
off_store : OtherBytesStay → (lens : List ℕ) (start : ℕ → ℕ) (b : ℕ → ℕ) (r o width value q x : ℕ) → ((n : ℕ) → start n + length_of lens n < 2 ^ 64) → NoneMeet start lens
    → o + width ≤ length_of lens r → x < length_of lens q → ((i : ℕ) → i < width → q ≡ r → x ≡ o + i → ⊥)
    → with_number b (start r + o) width value (start q + x) ≡ b (start q + x)
off_store stay lens start b r o width value q x end disjoint inside within off =
    let m = end r in
    stay b (start r + o) width value (start q + x) (at_fits m)
    (λ i k e. let f : start q + x ≡ start r + (o + i) = e ∙ behind_is m i k in
    let same : q ≡ r = disjoint q r x (o + i) within (omega (arith, inside, k)) f in
    let g : start r + x ≡ start r + (o + i) = subst (λ z. start z + x ≡ start r + (o + i)) same f in
    off i k same (omega (arith, g)))
  where
    at_fits : start r + length_of lens r < 2 ^ 64 → start r + o < 2 ^ 64
    at_fits m = omega (arith, m, inside)

    behind_is : start r + length_of lens r < 2 ^ 64 → (i : ℕ) → i < width → behind (start r + o) i ≡ start r + (o + i)
    behind_is m i k = omega (arith, m, inside, k)

in_store : StoresItsBytes → (start b : ℕ → ℕ) (r o width value i length : ℕ) → start r + length < 2 ^ 64 → o + width ≤ length → width ≤ 8 → i < width
    → with_number b (start r + o) width value (start r + (o + i)) ≡ value / 256 ^ i % 256
in_store writes start b r o width value i length end inside small k =
    let e : start r + (o + i) ≡ behind (start r + o) i = omega (arith, end, inside, k) in
    ap (with_number b (start r + o) width value) e ∙ writes b (start r + o) width value i (omega (arith, end, inside, k)) small k

plain_class : (class : Class) → is_plain class ≡ true → class ≡ Plain
plain_class Plain h = refl
plain_class Code h = absurd cc
plain_class (Number k) h = absurd cc
plain_class (Fixed k) h = absurd cc
plain_class (Convert k cell) h = absurd cc

taken_to : (class : Class) (width : ℕ) (kind : Kind) → takes class width kind ≡ true → is_stored_to class ≡ true
taken_to Plain width kind h = refl
taken_to (Number k) width kind h = refl
taken_to (Convert k cell) width kind h = refl
taken_to Code width kind h = absurd cc
taken_to (Fixed k) width kind h = absurd cc

module _ (stay : OtherBytesStay) (g : Regions) (pieces : List Piece) (b c : ℕ → ℕ) (r o width : ℕ) (kind : Kind) (v w : ℕ) (st : BothStore g pieces r o width kind v w) where
  abbrev d : ℕ → ℕ
  d = stored g.old r o width v b

  abbrev e : ℕ → ℕ
  e = stored g.new r o width w c

  -- the store has no byte at an offset
  abbrev Off : ℕ → ℕ → Type 0
  Off q x = (i : ℕ) → i < width → q ≡ r → x ≡ o + i → ⊥

  old_off : (q x : ℕ) → x < length_of g.lens q → Off q x → d (g.old q + x) ≡ b (g.old q + x)
  old_off q x h off = off_store stay g.lens g.old b r o width v q x st.apart.old_ends st.disjoint.old st.inside h off

  new_off : (q x : ℕ) → x < length_of g.lens q → Off q x → e (g.new q + x) ≡ c (g.new q + x)
  new_off q x h off = off_store stay g.lens g.new c r o width w q x st.apart.new_ends st.disjoint.new st.inside h off

  elsewhere : (q x : ℕ) → x < length_of g.lens q → q ≢ r → (d (g.old q + x) ≡ b (g.old q + x)) × (e (g.new q + x) ≡ c (g.new q + x))
  elsewhere q x h other = (old_off q x h (λ i l f z. other f), new_off q x h (λ i l f z. other f))

  -- a number of bytes that the store doesn't have
  number_off : (q x n : ℕ) (k : Kind) → x + n ≤ length_of g.lens q → ((j : ℕ) → j < n → Off q (x + j)) → NumberHolds g q x n k b c → NumberHolds g q x n k d e
  number_off q x n k within off h =
      let first = number_stays b d (g.old q) (length_of g.lens q) x n (st.apart.old_ends q) within (λ j l. old_off q (x + j) (omega (arith, within, l)) (off j l)) in
      let second = number_stays c e (g.new q) (length_of g.lens q) x n (st.apart.new_ends q) within (λ j l. new_off q (x + j) (omega (arith, within, l)) (off j l)) in
      rw (first, second) h

  -- a piece without a byte of the store
  module _ (sites : List Piece) (p : Piece) (within : p.at + p.len ≤ length_of g.lens p.region) (off : (j : ℕ) → j < p.len → Off p.region (p.at + j)) where
    byte_off : (j : ℕ) → j < p.len → SameByte g p.region (p.at + j) b c → SameByte g p.region (p.at + j) d e
    byte_off j k h = old_off p.region (p.at + j) (omega (arith, within, k)) (off j k) ∙ h ∙ sym (new_off p.region (p.at + j) (omega (arith, within, k)) (off j k))

    class_off : (class : Class) → ClassHolds g sites p class b c → ClassHolds g sites p class d e
    class_off Code h = λ j k s. byte_off j k (h j k s)
    class_off Plain h = λ j k. byte_off j k (h j k)
    class_off (Number k) h = (λ j l. byte_off j l (h.0 j l), number_off p.region p.at p.len k within off (h.1))
    class_off (Fixed k) h = number_off p.region p.at p.len k within off h
    class_off (Convert k cell) h = number_off p.region p.at p.len k within off h

  -- code is inside the image
  code_inside : (x : ℕ) → OfClass is_code (piece_at pieces 0) x → x < length_of g.lens 0
  code_inside x h =
      let f = found pieces h.piece 0 x h.is in
      let y = has h.piece 0 x f.byte in
      let z : h.piece.at + h.piece.len ≤ length_of g.lens 0 = subst (λ n. h.piece.at + h.piece.len ≤ length_of g.lens n) y.region (st.is_laid.inside f.index h.piece f.listed) in
      let top = y.high in
      omega (arith, z, top)

  -- no store has a byte of code
  module _ (code_off : (x : ℕ) → OfClass is_code (piece_at pieces 0) x → Off 0 x) where
    site_off : (x target : ℕ) → all_of is_code (piece_at pieces 0) x 4 ≡ true → WordMoves g target (number_at b (g.old 0 + x) 4) (number_at c (g.new 0 + x) 4)
        → WordMoves g target (number_at d (g.old 0 + x) 4) (number_at e (g.new 0 + x) 4)
    site_off x target all h =
        let last = code_inside (x + 3) (all_at is_code (piece_at pieces 0) x 4 3 all (omega arith)) in
        let each : (j : ℕ) → j < 4 → Off 0 (x + j) = λ j k. code_off (x + j) (all_at is_code (piece_at pieces 0) x 4 j all k) in
        let within : x + 4 ≤ length_of g.lens 0 = omega (arith, last) in
        let first = number_stays b d (g.old 0) (length_of g.lens 0) x 4 (st.apart.old_ends 0) within (λ j k. old_off 0 (x + j) (omega (arith, within, k)) (each j k)) in
        let second = number_stays c e (g.new 0) (length_of g.lens 0) x 4 (st.apart.new_ends 0) within (λ j k. new_off 0 (x + j) (omega (arith, within, k)) (each j k)) in
        rw (first, second) h

    has_code : (image : List ℕ) → HasCode g pieces image b → HasCode g pieces image d
    has_code image h x k = let one = of_class is_code (piece_at pieces 0) x k in old_off 0 x (code_inside x one) (code_off x one) ∙ h x k

  -- a part of the stack without a byte of the store
  part_off : (p : StackPart) → ((j : ℕ) → j < p.width → Off 1 (p.at + j)) → PartHolds g p b c → PartHolds g p d e
  part_off p off h = record { inside = h.inside; holds = number_off 1 p.at p.width p.kind h.inside off h.holds }

  number_same : is_number kind ≡ true → v ≡ w
  number_same h = by kind h st.value
    where
      by : (k : Kind) → is_number k ≡ true → Holds g k v w → v ≡ w
      by (Num s) h p = p.same
      by Any h p = absurd cc
      by (Ptr q s) h p = absurd cc
      by (Opt q s) h p = absurd cc

  within_width : is_within width kind ≡ true → v < 256 ^ width
  within_width h = by kind h st.value
    where
      by : (k : Kind) → is_within width k ≡ true → Holds g k v w → v < 256 ^ width
      by (Num s) h p = let z = ends s v p.within in let top : v ≤ s.hi = z.1 in let m : nat_lt s.hi (256 ^ width) ≡ true = h in let n : s.hi < 256 ^ width = grind (arith, nat_tests) in omega (arith, top, n)
      by Any h p = absurd cc
      by (Ptr q s) h p = absurd cc
      by (Opt q s) h p = absurd cc

  -- what is stored, loaded again
  module _ (back : StoredIsLoaded) where
    first_at : g.old r + o < 2 ^ 64
    first_at = let m = st.apart.old_ends r in let n = st.inside in let k = st.some in omega (arith, m, n, k)

    second_at : g.new r + o < 2 ^ 64
    second_at = let m = st.apart.new_ends r in let n = st.inside in let k = st.some in omega (arith, m, n, k)

    stored_holds : (own : Kind) → v < 256 ^ width → w < 256 ^ width → Holds g own v w → NumberHolds g r o width own d e
    stored_holds own h k p =
        let first : number_at d (g.old r + o) width ≡ v = back b (g.old r + o) width v first_at st.most ∙ mod-eq_of_lt h in
        let second : number_at e (g.new r + o) width ≡ w = back c (g.new r + o) width w second_at st.most ∙ mod-eq_of_lt k in
        rw (first, second) p

    eight_fit : width ≡ 8 → (v < 256 ^ width) × (w < 256 ^ width)
    eight_fit h = let m = st.first in let n = st.second in (subst (λ z. v < 256 ^ z) (sym h) (omega (arith, m)), subst (λ z. w < 256 ^ z) (sym h) (omega (arith, n)))

    power : (n : ℕ) → 0 < 256 ^ n
    power zero = omega arith
    power (suc n) = let f = pow-succ' 256 n in let h = power n in omega (arith, f, h)

    cut_holds : v ≡ w → NumberHolds g r o width (width_kind width) d e
    cut_holds h =
        let first : number_at d (g.old r + o) width ≡ v % 256 ^ width = back b (g.old r + o) width v first_at st.most in
        let second : number_at e (g.new r + o) width ≡ w % 256 ^ width = back c (g.new r + o) width w second_at st.most in
        let low : v % 256 ^ width < 256 ^ width = mod-lt v (power width) in
        width_holds g width _ _ (first ∙ ap (λ z. z % 256 ^ width) h ∙ sym second) (subst (λ z. z < 256 ^ width) (sym first) low)

    part_stored : NumberHolds g r o width (stored_kind width kind) d e
    part_stored = by (width == 8) (is_number kind) (is_within width kind) refl refl refl
      where
        by : (s t u : Bool) → (width == 8) ≡ s → is_number kind ≡ t → is_within width kind ≡ u → NumberHolds g r o width (if s then kind else (if t then (if u then kind else width_kind width) else Any)) d e
        by true t u k l m = let eight : width ≡ 8 = grind (arith, nat_tests) in let f = eight_fit eight in stored_holds kind (f.0) (f.1) st.value
        by false true true k l m = let low = within_width m in stored_holds kind low (subst (λ n. n < 256 ^ width) (number_same l) low) st.value
        by false true false k l m = cut_holds (number_same l)
        by false false u k l m = tt

  -- Stores outside the stack

  -- a piece that the store meets is all that it writes, or plain
  data MetBy (p : Piece) : Type 0 where
    exact : p.at ≡ o → p.len ≡ width → takes p.class width kind ≡ true → MetBy p
    plain : p.class ≡ Plain → is_number kind ≡ true → MetBy p

  -- the piece of a byte of the store
  record MetAt (x : ℕ) : Type 0 where
    piece : Piece
    is : piece_at pieces r x ≡ Some piece
    how : MetBy piece

  module _ (keeps : store_keeps (piece_at pieces r) o width kind ≡ true) where
    met_at : (x : ℕ) → o ≤ x → x < o + width → MetAt x
    unfolding store_keeps
    met_at x low high = by (piece_at pieces r o) refl keeps
      where
        at : (q : Piece) → piece_at pieces r o ≡ Some q → (t : Bool) → is_exactly o width q ≡ t
            → (if t then takes q.class width kind else (is_number kind && all_of is_plain (piece_at pieces r) o width)) ≡ true → MetAt x
        at q f true k l =
            let y = exactly o width q k in
            let fq = found pieces q r o f in
            let hq = has q r o fq.byte in
            let at_q : q.at ≡ o = y.at in
            let len_q : q.len ≡ width = y.len in
            let there : has_byte q r x ≡ true = has_from q r x hq.region (omega (arith, at_q, low)) (omega (arith, at_q, len_q, high)) in
            record { piece = q; is = listed_at pieces fq.index q r x st.is_laid.order fq.listed there; how = exact at_q len_q l }
        at q f false k l =
            let z = both_of (is_number kind) (all_of is_plain (piece_at pieces r) o width) l in
            let here : o + (x - o) ≡ x = omega (arith, low) in
            let one : OfClass is_plain (piece_at pieces r) x = subst (OfClass is_plain (piece_at pieces r)) here (all_at is_plain (piece_at pieces r) o width (x - o) (z.1) (omega (arith, low, high))) in
            record { piece = one.piece; is = one.is; how = plain (plain_class one.piece.class one.passes) (z.0) }

        by : (q : Option Piece) → piece_at pieces r o ≡ q → store_by q (piece_at pieces r) o width kind ≡ true → MetAt x
        by None f k = absurd cc
        by (Some q) f k = at q f (is_exactly o width q) refl k

    stored_to : (p : Piece) → MetBy p → is_stored_to p.class ≡ true
    stored_to p (exact x y h) = taken_to p.class width kind h
    stored_to p (plain x h) = subst (λ z. is_stored_to z ≡ true) (sym x) refl

    not_stored_off : (q x : ℕ) → is_of is_stored_to (piece_at pieces q x) ≡ false → Off q x
    not_stored_off q x h i k f z =
        let m = met_at x (omega (arith, z)) (omega (arith, z, k)) in
        let at_q : piece_at pieces q x ≡ Some m.piece = subst (λ n. piece_at pieces n x ≡ Some m.piece) (sym f) m.is in
        let a : is_of is_stored_to (Some m.piece) ≡ false = subst (λ y. is_of is_stored_to y ≡ false) at_q h in
        let y : is_stored_to m.piece.class ≡ true = stored_to m.piece m.how in
        absurd cc

    code_not : (q x : ℕ) → OfClass is_code (piece_at pieces q) x → is_of is_stored_to (piece_at pieces q x) ≡ false
    code_not q x h = subst (λ y. is_of is_stored_to y ≡ false) (sym h.is) (by h.piece.class h.passes)
      where
        by : (class : Class) → is_code class ≡ true → is_stored_to class ≡ false
        by Code k = refl
        by Plain k = absurd cc
        by (Number kind') k = absurd cc
        by (Fixed kind') k = absurd cc
        by (Convert kind' cell) k = absurd cc

    code_off : (x : ℕ) → OfClass is_code (piece_at pieces 0) x → Off 0 x
    code_off x h = not_stored_off 0 x (code_not 0 x h)

    off_stack : (j : ℕ) → Off 1 j
    off_stack j i k f z =
        let m = met_at j (omega (arith, z)) (omega (arith, z, k)) in
        let fp = found pieces m.piece r j m.is in
        let h = has m.piece r j fp.byte in
        st.is_laid.off_stack fp.index m.piece fp.listed (h.region ∙ sym f)

    -- a byte that was the same, behind a store of one number
    byte_after : StoresItsBytes → (q x : ℕ) → x < length_of g.lens q → v ≡ w → SameByte g q x b c → SameByte g q x d e
    byte_after writes q x h same before = by (q == r) (nat_le o x) (nat_lt x (o + width)) refl refl refl
      where
        outside : Off q x → SameByte g q x d e
        outside off = old_off q x h off ∙ before ∙ sym (new_off q x h off)

        by : (s t u : Bool) → (q == r) ≡ s → nat_le o x ≡ t → nat_lt x (o + width) ≡ u → SameByte g q x d e
        by true true true k l m =
            let here : q ≡ r = grind (arith, nat_tests) in
            let low : o ≤ x = grind (arith, nat_tests) in
            let high : x < o + width = grind (arith, nat_tests) in
            let at : x ≡ o + (x - o) = omega (arith, low) in
            let first = in_store writes g.old b r o width v (x - o) (length_of g.lens r) (st.apart.old_ends r) st.inside st.most (omega (arith, low, high)) in
            let second = in_store writes g.new c r o width w (x - o) (length_of g.lens r) (st.apart.new_ends r) st.inside st.most (omega (arith, low, high)) in
            ap (λ z. d (g.old z + x)) here ∙ ap (λ z. d (g.old r + z)) at ∙ first ∙ ap (λ z. z / 256 ^ (x - o) % 256) same ∙ sym second ∙ ap (λ z. e (g.new r + z)) (sym at) ∙ ap (λ z. e (g.new z + x)) (sym here)
        by false t u k l m = outside (λ i n f z. absurd (grind (arith, nat_tests)))
        by true false u k l m = outside (λ i n f z. absurd (grind (arith, nat_tests)))
        by true true false k l m = outside (λ i n f z. absurd (grind (arith, nat_tests)))

    -- A piece that takes the store

    module _ (sound : FitsIsSound) (back : StoredIsLoaded) (writes : StoresItsBytes) (sites : List Piece) where
      taken_class : (p : Piece) (class : Class) → p.region ≡ r → p.at ≡ o → p.len ≡ width → IsProperClass class → p.at + p.len ≤ length_of g.lens p.region → takes class width kind ≡ true
          → ClassHolds g sites p class b c → ClassHolds g sites p class d e
      taken_class p Code x y z proper within h k = absurd cc
      taken_class p (Fixed own) x y z proper within h k = absurd cc
      taken_class p Plain x y z proper within h k = λ i l. byte_after writes p.region (p.at + i) (omega (arith, within, l)) (number_same h) (k i l)
      taken_class p (Number own) x y z proper within h k =
          let s = both_of (is_number kind) _ h in
          let t = both_of (is_within width kind) (fits kind own) (s.1) in
          let same = number_same (s.0) in
          let low = within_width (t.0) in
          let high : w < 256 ^ width = subst (λ n. n < 256 ^ width) same low in
          let own_holds : Holds g own v w = sound g kind own v w proper (t.1) st.value in
          let number : NumberHolds g r o width own d e = stored_holds back own low high own_holds in (
            (λ i l. byte_after writes p.region (p.at + i) (omega (arith, within, l)) same (k.0 i l)),
            subst (λ n. NumberHolds g n p.at p.len own d e) (sym x) (subst (λ n. NumberHolds g r n p.len own d e) (sym y) (subst (λ n. NumberHolds g r o n own d e) (sym z) number)),
          )
      taken_class p (Convert own cell) x y z proper within h k =
          let s = both_of (width == 8) (fits kind own) h in
          let wide : (width == 8) ≡ true = s.0 in
          let eight : width ≡ 8 = grind (arith, nat_tests) in
          let f = eight_fit back eight in
          let own_holds : Holds g own v w = sound g kind own v w proper (s.1) st.value in
          let number : NumberHolds g r o width own d e = stored_holds back own (f.0) (f.1) own_holds in
          subst (λ n. NumberHolds g n p.at p.len own d e) (sym x) (subst (λ n. NumberHolds g r n p.len own d e) (sym y) (subst (λ n. NumberHolds g r o n own d e) (sym z) number))

      -- the store has a byte of a piece
      abbrev piece_meets : Piece → Bool
      piece_meets p = nat_lt 0 p.len && (p.region == r && (nat_lt p.at (o + width) && nat_lt o (p.at + p.len)))

      off_piece : (p : Piece) → piece_meets p ≡ false → (j : ℕ) → j < p.len → Off p.region (p.at + j)
      off_piece p h j k i l f m =
          let s : (p.region == r) ≡ true = grind (arith, nat_tests) in
          let t : nat_lt p.at (o + width) ≡ true = grind (arith, nat_tests) in
          let u : nat_lt o (p.at + p.len) ≡ true = grind (arith, nat_tests) in
          let z : nat_lt 0 p.len ≡ true = grind (arith, nat_tests) in
          let all : piece_meets p ≡ true = rw (z, s, t, u) refl in
          absurd cc

      record Met (p : Piece) : Type 0 where
        region : p.region ≡ r
        at : ℕ
        low : o ≤ at
        high : at < o + width
        byte : has_byte p r at ≡ true

      met : (p : Piece) → piece_meets p ≡ true → Met p
      met p h = by (nat_lt 0 p.len) (p.region == r) (nat_lt p.at (o + width)) (nat_lt o (p.at + p.len)) refl refl refl refl h
        where
          place : (t : Bool) → nat_le p.at o ≡ t → 0 < p.len → p.region ≡ r → p.at < o + width → o < p.at + p.len → Met p
          place true e' z f k l = let m : p.at ≤ o = grind (arith, nat_tests) in let some = st.some in record { region = f; at = o; low = omega arith; high = omega (arith, some); byte = has_from p r o f m l }
          place false e' z f k l = let m : o < p.at = grind (arith, nat_tests) in record { region = f; at = p.at; low = omega (arith, m); high = k; byte = has_from p r p.at f (omega arith) (omega (arith, z)) }

          by : (z s t u : Bool) → nat_lt 0 p.len ≡ z → (p.region == r) ≡ s → nat_lt p.at (o + width) ≡ t → nat_lt o (p.at + p.len) ≡ u → (z && (s && (t && u))) ≡ true → Met p
          by true true true true z k l m n = place (nat_le p.at o) refl (grind (arith, nat_tests)) (grind (arith, nat_tests)) (grind (arith, nat_tests)) (grind (arith, nat_tests))
          by true true true false z k l m n = absurd cc
          by true true false u z k l m n = absurd cc
          by true false t u z k l m n = absurd cc
          by false s t u z k l m n = absurd cc

      met_by : (i : ℕ) (p : Piece) → slice_get pieces i ≡ Some p → (m : Met p) → MetBy p
      met_by i p listed m =
          let a = met_at m.at m.low m.high in
          let here : piece_at pieces r m.at ≡ Some p = listed_at pieces i p r m.at st.is_laid.order listed m.byte in
          let both : Some a.piece ≡ Some p = sym a.is ∙ here in
          let same : a.piece ≡ p = cc in
          subst MetBy same a.how

      piece_after : (i : ℕ) (p : Piece) → slice_get pieces i ≡ Some p → ClassHolds g sites p p.class b c → ClassHolds g sites p p.class d e
      piece_after i p listed h = by (piece_meets p) refl
        where
          within : p.at + p.len ≤ length_of g.lens p.region
          within = st.is_laid.inside i p listed

          touched : Met p → MetBy p → ClassHolds g sites p p.class d e
          touched m (exact x y k) = taken_class p p.class m.region x y (st.is_laid.order.proper i p listed) within k h
          touched m (plain x k) =
              let before : SameBytes g p b c = subst (λ z. ClassHolds g sites p z b c) x h in
              let after : SameBytes g p d e = λ j l. byte_after writes p.region (p.at + j) (omega (arith, within, l)) (number_same k) (before j l) in
              subst (λ z. ClassHolds g sites p z d e) (sym x) after

          by : (t : Bool) → piece_meets p ≡ t → ClassHolds g sites p p.class d e
          by true f = let m = met p f in touched m (met_by i p listed m)
          by false f = class_off sites p within (off_piece p f) p.class h

  -- Stores to the stack

  stack_class_off : r ≡ 1 → (i : ℕ) (p : Piece) → slice_get pieces i ≡ Some p → (j : ℕ) → j < p.len → Off p.region (p.at + j)
  stack_class_off one i p listed j k m l f z = st.is_laid.off_stack i p listed (f ∙ one)

  stack_code_off : r ≡ 1 → (x : ℕ) → OfClass is_code (piece_at pieces 0) x → Off 0 x
  stack_code_off one x h m l f z = let zero_is : 0 ≡ 1 = f ∙ one in absurd (omega (arith, zero_is))

  part_not_met : (p : StackPart) → meets o width p ≡ false → (j : ℕ) → j < p.width → Off 1 (p.at + j)
  part_not_met p f j l i m n z =
      let s : nat_lt o (p.at + p.width) ≡ true = grind (arith, nat_tests) in
      let t : nat_lt p.at (o + width) ≡ true = grind (arith, nat_tests) in
      let all : meets o width p ≡ true = rw (s, t) refl in
      absurd cc

  without_holds : (parts : List StackPart) → PartsHold g parts b c → PartsHold g (without o width parts) d e
  unfolding without
  without_holds [] h = λ i q k. absurd cc
  without_holds (p ∷ ps) h = by (without_holds ps (λ i q k. h (suc i) q k)) (meets o width p) refl
    where
      by : PartsHold g (without o width ps) d e → (t : Bool) → meets o width p ≡ t → PartsHold g (if t then without o width ps else p ∷ without o width ps) d e
      by more true f = more
      by more false f = λ i q k. first i q k
        where
          first : (i : ℕ) (q : StackPart) → slice_get (p ∷ without o width ps) i ≡ Some q → PartHolds g q d e
          first zero q k = let same : p ≡ q = cc in subst (λ z. PartHolds g z d e) same (part_off p (part_not_met p f) (h 0 p refl))
          first (suc i) q k = more i q k

pub stores_keep : FitsIsSound → OtherBytesStay → StoresItsBytes → StoredIsLoaded → StoresKeep
stores_keep sound stay writes back g laid done b c r o width kind v w st keeps moved = record {
  pieces = λ i p listed fresh. piece_after stay g laid.pieces b c r o width kind v w st keeps sound back writes laid.sites i p listed (moved.pieces i p listed fresh);
  sites = λ x target names all. site_off stay g laid.pieces b c r o width kind v w st (code_off stay g laid.pieces b c r o width kind v w st keeps) x target all (moved.sites x target names all);
}

pub others_stay : OtherBytesStay → OthersStay
others_stay stay g pieces b c r o width kind v w q x st keeps h closed =
    let off = not_stored_off stay g pieces b c r o width kind v w st keeps q x closed in
    (old_off stay g pieces b c r o width kind v w st q x h off, new_off stay g pieces b c r o width kind v w st q x h off)

pub code_stays : OtherBytesStay → CodeStays
code_stays stay g pieces image b r o width kind v w st keeps h = has_code stay g pieces b b r o width kind v w st (code_off stay g pieces b b r o width kind v w st keeps) image h

pub parts_stay : OtherBytesStay → PartsStay
parts_stay stay g pieces parts b c r o width kind v w st keeps h i p listed =
    part_off stay g pieces b c r o width kind v w st p (λ j k. off_stack stay g pieces b c r o width kind v w st keeps (p.at + j)) (h i p listed)

pub stack_keeps : OtherBytesStay → StackKeeps
stack_keeps stay g laid done b c o width kind v w st moved = record {
  pieces = λ i p listed fresh. class_off stay g laid.pieces b c 1 o width kind v w st laid.sites p (st.is_laid.inside i p listed) (stack_class_off stay g laid.pieces b c 1 o width kind v w st refl i p listed) p.class (moved.pieces i p listed fresh);
  sites = λ x target names all. site_off stay g laid.pieces b c 1 o width kind v w st (stack_code_off stay g laid.pieces b c 1 o width kind v w st refl) x target all (moved.sites x target names all);
}

pub stack_keeps_code : OtherBytesStay → StackKeepsCode
stack_keeps_code stay g pieces image b o width kind v w st h = has_code stay g pieces b b 1 o width kind v w st (stack_code_off stay g pieces b b 1 o width kind v w st refl) image h

pub stack_leaves : OtherBytesStay → StoredIsLoaded → StackLeaves
unfolding with_part
stack_leaves stay back g pieces parts b c o width kind v w st h zero p k =
    let same : record { at = o; width = width; kind = stored_kind width kind } ≡ p = cc in
    subst (λ z. PartHolds g z (stored g.old 1 o width v b) (stored g.new 1 o width w c)) same (record { inside = st.inside; holds = part_stored stay g pieces b c 1 o width kind v w st back })
stack_leaves stay back g pieces parts b c o width kind v w st h (suc i) p k = without_holds stay g pieces b c 1 o width kind v w st parts h i p k

pub regions_stay : OtherBytesStay → RegionsStay
regions_stay stay g pieces b c r o width kind v w q x st h other = elsewhere stay g pieces b c r o width kind v w st q x h other
