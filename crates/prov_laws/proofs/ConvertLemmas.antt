-- Cells are converted one by one.
use Rattle.std.proofs.Common.{◌≡◌, ℕ, ◌<◌, ◌≤◌, ◌+◌, ◌-◌, ◌%◌, ◌^◌, arith, Bool, true, false, refl, sym, ◌∙◌, ap, subst, Some, List, [], ◌∷◌}
use Rattle.std.specs.Prelude.{◌≢◌, ◌==◌, ◌||◌, slice_get}
use Rattle.std.specs.List.{list_any}
use Rattle.std.proofs.lemmas.Bool.Decides.{nat_tests}
use Rattle.uh_base.specs.Bytes.{behind, number_at, with_number}
use Rattle.rv_step.specs.Memory.{OtherBytesStay, StoredIsLoaded}
use Rattle.rv_step.specs.Exec.{Rights}
use Rattle.prov_types.specs.declared.kinds.Span.{Span}
use Rattle.prov_types.specs.declared.kinds.Kind.{Kind}
use Rattle.prov_types.specs.declared.kinds.Kind.TheVariants.{Any, Num, Ptr, Opt}
use Rattle.prov_types.specs.Spans.{InSpan}
use Rattle.prov_types.specs.Kinds.{Holds, HoldsPtr, Regions, length_of, nought, pointed}
use Rattle.prov_layout.specs.declared.piece.Class.{Class}
use Rattle.prov_layout.specs.declared.piece.Class.TheVariants.{Code, Plain, Number, Fixed, Convert}
use Rattle.prov_layout.specs.declared.piece.Piece.{Piece}
use Rattle.prov_layout.specs.Pieces.{all_of, is_cell_among, is_code, is_of, piece_at}
use Rattle.prov_runs.specs.Memory.{ClassHolds}
use Rattle.prov_runs.specs.Sites.{WordMoves}
use Rattle.provenance_check.specs.Ground.{Ground}
use Rattle.prov_laws.specs.Checked.{regions_of}
use Rattle.prov_laws.specs.Convert.{Between, BetweenHolds, Changes, ClassBetween, ConversionKeeps, HoldsLaid, IsBelow, IsCell, Stays, with_converted}
use Rattle.prov_laws.proofs.CellLemmas.{apart_pieces, each_of, has, number_stays, of_class}

high_end : (s : Span) (o : ℕ) → InSpan s o → o ≤ s.hi
high_end s o h = let e = h.to_hi in omega (arith, e)

pub none_among : (class : Class) → is_cell_among [] class ≡ false
none_among Code = refl
none_among Plain = refl
none_among (Number k) = refl
none_among (Fixed k) = refl
none_among (Convert k cell) = refl

module _ (g : Ground) (old new : ℕ → ℕ) (allows : Rights) (answer : ℕ → ℕ) (b c : ℕ → ℕ) (changes : Changes g old new allows answer b) where
  abbrev pub still : Regions
  still = regions_of g old old

  abbrev pub moving : Regions
  moving = regions_of g old new

  old_end : (r : ℕ) → old r + length_of g.lens r < 2 ^ 64
  old_end r = changes.apart.old_ends r

  -- The new value of what a kind holds

  moved_ptr : (r : ℕ) (s : Span) (v : ℕ) → IsBelow g.lens (Ptr r s) → HoldsPtr still r s v v → HoldsPtr moving r s v (answer v)
  moved_ptr r s v w k =
      let high = high_end s k.offset k.within in
      let low = w.0 in
      record { offset = k.offset; old = k.old; new = ap answer k.old ∙ changes.answers.pointer r k.offset w.1 (omega (arith, high, low)); within = k.within; inside = k.inside }

  moved_kind : (k : Kind) (v : ℕ) → IsBelow g.lens k → Holds still k v v → Holds moving k v (answer v)
  moved_kind (Ptr r s) v h x = moved_ptr r s v h x
  moved_kind (Opt r s) v h (nought x y) = nought x (ap answer x ∙ changes.answers.nought)
  moved_kind (Opt r s) v h (pointed x) = pointed (moved_ptr r s v h x)
  moved_kind Any v h x = absurd h
  moved_kind (Num s) v h x = absurd h

  answer_fits : (k : Kind) (v : ℕ) → IsBelow g.lens k → Holds moving k v (answer v) → answer v < 2 ^ 64
  answer_fits (Ptr r s) v h x = let m = changes.apart.new_ends r in let a = x.new in let i = x.inside in omega (arith, m, a, i)
  answer_fits (Opt r s) v h (nought x y) = omega (arith, y)
  answer_fits (Opt r s) v h (pointed x) = let m = changes.apart.new_ends r in let a = x.new in let i = x.inside in omega (arith, m, a, i)
  answer_fits Any v h x = absurd h
  answer_fits (Num s) v h x = absurd h

  -- Pieces whose bytes are as they were

  not_converted : (p : Piece) (class : Class) → ClassBetween moving p class false b c → Stays old p b c
  not_converted p (Convert k cell) h = h
  not_converted p Code h = h
  not_converted p Plain h = h
  not_converted p (Number k) h = h
  not_converted p (Fixed k) h = h

  pub same_there : (i : ℕ) (p : Piece) (done : List ℕ) → slice_get g.pieces i ≡ Some p → is_cell_among done p.class ≡ false → Between moving g.pieces done b c → Stays old p b c
  same_there i p done e fresh between = not_converted p p.class (subst (λ t. ClassBetween moving p p.class t b c) fresh (between i p e))

  number_same : (i : ℕ) (p : Piece) (n : ℕ) → slice_get g.pieces i ≡ Some p → n ≤ p.len → Stays old p b c → number_at c (old p.region + p.at) n ≡ number_at b (old p.region + p.at) n
  number_same i p n e small stay =
      let inside = changes.run.is_laid.inside i p e in
      number_stays b c (old p.region) (length_of g.lens p.region) p.at n (old_end p.region) (omega (arith, inside, small)) (λ j k. stay j (omega (arith, k, small)))

  -- A byte that a store of a cell doesn't meet

  pub off_store : OtherBytesStay → (r o v q x : ℕ) → o + 8 ≤ length_of g.lens r → x < length_of g.lens q → (q ≡ r → (i : ℕ) → i < 8 → x ≡ o + i → ⊥) → with_number c (old r + o) 8 v (old q + x) ≡ c (old q + x)
  off_store stay r o v q x inside within off =
      let m = old_end r in
      stay c (old r + o) 8 v (old q + x) (omega (arith, m, inside))
      (λ i k e.
      let f : old q + x ≡ old r + (o + i) = e ∙ behind_is i k in
      let same : q ≡ r = changes.run.disjoint.old q r x (o + i) within (omega (arith, inside, k)) f in
      let h : old r + x ≡ old r + (o + i) = subst (λ z. old z + x ≡ old r + (o + i)) same f in
      off same i k (omega (arith, h)))
    where
      behind_is : (i : ℕ) → i < 8 → behind (old r + o) i ≡ old r + (o + i)
      behind_is i k = let m = old_end r in omega (arith, m, inside, k)

  -- what a convertible cell held before
  pub cell_holds : (i : ℕ) (p : Piece) (kind : Kind) (cell : ℕ) → slice_get g.pieces i ≡ Some p → p.class ≡ Convert kind cell → Holds still kind (number_at b (old p.region + p.at) 8) (number_at b (old p.region + p.at) 8)
  cell_holds i p kind cell listed is =
      let h : ClassHolds still g.sites p p.class b b = changes.own.pieces i p listed (none_among p.class) in
      let k : ClassHolds still g.sites p (Convert kind cell) b b = subst (λ z. ClassHolds still g.sites p z b b) is h in
      subst (λ n. Holds still kind (number_at b (old p.region + p.at) n) (number_at b (old p.region + p.at) n)) (changes.cells.each i p kind cell listed is).long k

  -- A cell that is converted

  module _ (stay : OtherBytesStay) (loads : StoredIsLoaded) (done : List ℕ) (i : ℕ) (p : Piece) (kind : Kind) (cell : ℕ)
      (listed : slice_get g.pieces i ≡ Some p) (is : p.class ≡ Convert kind cell) (fresh : is_cell_among done p.class ≡ false) (between : Between moving g.pieces done b c) where
    abbrev value : ℕ
    value = number_at c (old p.region + p.at) 8

    abbrev after : ℕ → ℕ
    after = with_converted answer (old p.region + p.at) c

    the_cell : IsCell g p kind cell
    the_cell = changes.cells.each i p kind cell listed is

    inside : p.at + p.len ≤ length_of g.lens p.region
    inside = changes.run.is_laid.inside i p listed

    long_inside : p.at + 8 ≤ length_of g.lens p.region
    long_inside = let a = inside in let l = the_cell.long in omega (arith, a, l)

    value_is : value ≡ number_at b (old p.region + p.at) 8
    value_is = let l = the_cell.long in number_same i p 8 listed (omega (arith, l)) (same_there i p done listed fresh between)

    own_cell : Holds still kind (number_at b (old p.region + p.at) 8) (number_at b (old p.region + p.at) 8)
    own_cell = cell_holds i p kind cell listed is

    new_value : Holds moving kind (number_at b (old p.region + p.at) 8) (answer value)
    new_value = subst (λ z. Holds moving kind (number_at b (old p.region + p.at) 8) (answer z)) (sym value_is) (moved_kind kind (number_at b (old p.region + p.at) 8) the_cell.below own_cell)

    value_fits : answer value < 2 ^ 64
    value_fits = subst (λ z. answer z < 2 ^ 64) (sym value_is) (answer_fits kind (number_at b (old p.region + p.at) 8) the_cell.below (moved_kind kind (number_at b (old p.region + p.at) 8) the_cell.below own_cell))

    read_back : number_at after (old p.region + p.at) 8 ≡ answer value
    read_back =
        let m = old_end p.region in
        let a = long_inside in
        let f = value_fits in
        let small : answer value % 256 ^ 8 ≡ answer value = omega (arith, f) in
        loads c (old p.region + p.at) 8 (answer value) (omega (arith, m, a)) (omega arith) ∙ small

    -- another piece's bytes stay
    other_stays : (j : ℕ) (q : Piece) → slice_get g.pieces j ≡ Some q → j ≢ i → Stays old q c after
    other_stays j q e other k h =
        let in_q = changes.run.is_laid.inside j q e in
        off_store stay p.region p.at (answer value) q.region (q.at + k) long_inside (omega (arith, in_q, h))
        (λ same m l f.
        let a = the_cell.long in
        apart_pieces g.pieces i j p q (q.at + k) changes.run.is_laid.order listed e (λ z. other (sym z)) same (omega (arith, f)) (omega (arith, f, l, a)) (omega arith) (omega (arith, h)))

    class_kept : (j : ℕ) (q : Piece) (class : Class) (t : Bool) → slice_get g.pieces j ≡ Some q → Stays old q c after → ClassBetween moving q class t b c → ClassBetween moving q class t b after
    class_kept j q (Convert k n) true e same h =
        let in_q = changes.run.is_laid.inside j q e in
        let z = number_stays c after (old q.region) (length_of g.lens q.region) q.at q.len (old_end q.region) in_q same in
        subst (λ w. Holds moving k (number_at b (old q.region + q.at) q.len) w) (sym z) h
    class_kept j q (Convert k n) false e same h = λ x l. same x l ∙ h x l
    class_kept j q Code t e same h = λ x l. same x l ∙ h x l
    class_kept j q Plain t e same h = λ x l. same x l ∙ h x l
    class_kept j q (Number k) t e same h = λ x l. same x l ∙ h x l
    class_kept j q (Fixed k) t e same h = λ x l. same x l ∙ h x l

    -- whether another piece is converted stays so
    same_test : (j : ℕ) (q : Piece) (class : Class) → slice_get g.pieces j ≡ Some q → q.class ≡ class → j ≢ i → is_cell_among (cell ∷ done) class ≡ is_cell_among done class
    same_test j q (Convert k n) e f other = by (cell == n) refl
      where
        by : (t : Bool) → (cell == n) ≡ t → (t || list_any (λ m. m == n) done) ≡ list_any (λ m. m == n) done
        by true h =
            let same : cell ≡ n = grind (arith, nat_tests) in
            absurd (other (changes.cells.once j i q p k kind cell e listed (f ∙ ap (Convert k) (sym same)) is))
        by false h = refl
    same_test j q Code e f other = refl
    same_test j q Plain e f other = refl
    same_test j q (Number k) e f other = refl
    same_test j q (Fixed k) e f other = refl

    itself : ClassBetween moving p p.class (is_cell_among (cell ∷ done) p.class) b after
    itself = subst (λ z. ClassBetween moving p z (is_cell_among (cell ∷ done) z) b after) (sym is) (by (cell == cell) (grind (arith, nat_tests)))
      where
        by : (t : Bool) → t ≡ true → ClassBetween moving p (Convert kind cell) (t || list_any (λ m. m == cell) done) b after
        by true e = subst (λ n. Holds moving kind (number_at b (old p.region + p.at) n) (number_at after (old p.region + p.at) n)) (sym the_cell.long) (subst (λ w. Holds moving kind (number_at b (old p.region + p.at) 8) w) (sym read_back) new_value)
        by false e = absurd cc

    pub converted : Between moving g.pieces (cell ∷ done) b after
    converted j q e = by (j == i) refl
      where
        by : (t : Bool) → (j == i) ≡ t → ClassBetween moving q q.class (is_cell_among (cell ∷ done) q.class) b after
        by true f =
            let index : j ≡ i = grind (arith, nat_tests) in
            let both : Some q ≡ Some p = sym e ∙ ap (slice_get g.pieces) index ∙ listed in
            let same : q ≡ p = cc in
            subst (λ z. ClassBetween moving z z.class (is_cell_among (cell ∷ done) z.class) b after) (sym same) itself
        by false f =
            let other : j ≢ i = λ z. absurd (grind (arith, nat_tests)) in
            subst (λ t. ClassBetween moving q q.class t b after) (sym (same_test j q q.class e refl other)) (class_kept j q q.class (is_cell_among done q.class) e (other_stays j q e other) (between j q e))

  -- What holds between

  module _ (done : List ℕ) (between : Between moving g.pieces done b c) where
    class_now : (i : ℕ) (p : Piece) (class : Class) → slice_get g.pieces i ≡ Some p → Stays old p b c → ClassHolds still g.sites p class b b → ClassHolds still g.sites p class c c
    class_now i p Code e stay h = λ j k s. refl
    class_now i p Plain e stay h = λ j k. refl
    class_now i p (Number k) e stay h = (λ j l. refl, subst (λ v. Holds still k v v) (sym (number_same i p p.len e (omega arith) stay)) (h.1))
    class_now i p (Fixed k) e stay h = subst (λ v. Holds still k v v) (sym (number_same i p p.len e (omega arith) stay)) h
    class_now i p (Convert k cell) e stay h = subst (λ v. Holds still k v v) (sym (number_same i p p.len e (omega arith) stay)) h

    pub code_same : (o : ℕ) → is_of is_code (piece_at g.pieces 0 o) ≡ true → (o < length_of g.lens 0) × (c (old 0 + o) ≡ b (old 0 + o))
    code_same o h =
        let k = of_class is_code g.pieces 0 o h in
        let f = k.found in
        let p = k.piece in
        let x = has p 0 o f.byte in
        let inside : p.at + p.len ≤ length_of g.lens 0 = subst (λ r. p.at + p.len ≤ length_of g.lens r) x.region (changes.run.is_laid.inside f.index p f.listed) in
        let stay : Stays old p b c = same_there f.index p done f.listed (code_no_cell p.class k.passes) between in
        at p o inside x.region x.low x.high stay
      where
        code_no_cell : (class : Class) → is_code class ≡ true → is_cell_among done class ≡ false
        code_no_cell Code e = refl
        code_no_cell Plain e = refl
        code_no_cell (Number k) e = refl
        code_no_cell (Fixed k) e = refl
        code_no_cell (Convert k cell) e = absurd cc

        at : (p : Piece) (o : ℕ) → p.at + p.len ≤ length_of g.lens 0 → p.region ≡ 0 → p.at ≤ o → o < p.at + p.len → Stays old p b c → (o < length_of g.lens 0) × (c (old 0 + o) ≡ b (old 0 + o))
        at p o inside region low high stay =
            let index : p.at + (o - p.at) ≡ o = omega (arith, low) in
            let same : c (old p.region + (p.at + (o - p.at))) ≡ b (old p.region + (p.at + (o - p.at))) = stay (o - p.at) (omega (arith, low, high)) in
            let there : c (old p.region + o) ≡ b (old p.region + o) = subst (λ n. c (old p.region + n) ≡ b (old p.region + n)) index same in
            (omega (arith, inside, high), subst (λ r. c (old r + o) ≡ b (old r + o)) region there)

    pub word_same : (o : ℕ) → all_of is_code (piece_at g.pieces 0) o 4 ≡ true → number_at c (old 0 + o) 4 ≡ number_at b (old 0 + o) 4
    word_same o h =
        let each : (j : ℕ) → j < 4 → (o + j < length_of g.lens 0) × (c (old 0 + (o + j)) ≡ b (old 0 + (o + j))) = λ j k. code_same (o + j) (each_of is_code (piece_at g.pieces 0) o 4 j h k) in
        let last = (each 3 (omega arith)).0 in
        number_stays b c (old 0) (length_of g.lens 0) o 4 (old_end 0) (omega (arith, last)) (λ j k. (each j k).1)

    pub holds_now : HoldsLaid g old done c
    holds_now = record {
      moved = record {
        pieces = λ i p e fresh. class_now i p p.class e (same_there i p done e fresh between) (changes.own.pieces i p e (none_among p.class));
        sites = λ o target e h. subst (λ w. WordMoves still target w w) (sym (word_same o h)) (changes.own.sites o target e h);
      };
      code = λ o h. (code_same o h).1 ∙ changes.code o h;
    }

pub conversion_keeps : OtherBytesStay → StoredIsLoaded → ConversionKeeps
conversion_keeps stay loads g old new allows answer b c done i p kind cell changes listed is fresh between = converted g old new allows answer b c changes stay loads done i p kind cell listed is fresh between

pub between_holds : BetweenHolds
between_holds g old new allows answer b c done changes between = holds_now g old new allows answer b c changes done between
