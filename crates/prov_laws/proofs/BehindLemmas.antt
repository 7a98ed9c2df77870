-- Memory behind a change of addresses.
use Rattle.std.proofs.Common.{◌≡◌, ℕ, ◌<◌, ◌≤◌, ◌+◌, arith, true, false, refl, sym, ◌∙◌, ap, subst, Some, List}
use Rattle.std.specs.Prelude.{slice_get}
use Rattle.uh_base.specs.Bytes.{number_at}
use Rattle.rv_step.specs.Exec.{Rights}
use Rattle.prov_types.specs.declared.kinds.Kind.{Kind}
use Rattle.prov_types.specs.declared.kinds.Kind.TheVariants.{Any, Num, Ptr, Opt}
use Rattle.prov_types.specs.Kinds.{Holds, length_of}
use Rattle.prov_layout.specs.declared.piece.Class.{Class}
use Rattle.prov_layout.specs.declared.piece.Class.TheVariants.{Code, Plain, Number, Fixed, Convert}
use Rattle.prov_layout.specs.declared.piece.Piece.{Piece}
use Rattle.prov_layout.specs.Pieces.{all_of, is_cell_among, is_code, piece_at}
use Rattle.prov_layout.specs.Stores.{is_number}
use Rattle.prov_runs.specs.Memory.{ClassHolds}
use Rattle.prov_runs.specs.Sites.{WordMoves, target_at}
use Rattle.provenance_check.specs.Ground.{Ground}
use Rattle.prov_laws.specs.Checked.{regions_of}
use Rattle.prov_laws.specs.Convert.{Between, Changes, ClassBetween, Stays}
use Rattle.prov_laws.specs.Behind.{AllConverted, ChangeMoves, FixesUp, ShowsAtNew, is_fixed_up}
use Rattle.prov_laws.proofs.CellLemmas.{each_of, number_stays, same_number}
use Rattle.prov_laws.proofs.ConvertLemmas.{code_same, none_among, word_same}

module _ (g : Ground) (old new : ℕ → ℕ) (allows : Rights) (answer : ℕ → ℕ) (b c e t : ℕ → ℕ) (done : List ℕ) (changes : Changes g old new allows answer b) (between : Between (regions_of g old new) g.pieces done b c)
    (all : AllConverted g done) (fixes : FixesUp g old new c e) (shows : ShowsAtNew g old new e t) where
  module _ (i : ℕ) (p : Piece) (listed : slice_get g.pieces i ≡ Some p) where
    inside : p.at + p.len ≤ length_of g.lens p.region
    inside = changes.run.is_laid.inside i p listed

    -- the bytes at the new addresses are those at the old ones
    shown : number_at t (new p.region + p.at) p.len ≡ number_at e (old p.region + p.at) p.len
    shown =
        let k = inside in
        let l = changes.apart.old_ends p.region in
        let m = changes.apart.new_ends p.region in
        same_number t e (new p.region + p.at) (old p.region + p.at) p.len (omega (arith, k, m)) (omega (arith, k, l))
        (λ j h. let x : new p.region + p.at + j ≡ new p.region + (p.at + j) = omega arith in let y : old p.region + (p.at + j) ≡ old p.region + p.at + j = omega arith in
        ap t x ∙ shows p.region (p.at + j) (omega (arith, k, h)) ∙ ap e y)

    stays : (class : Class) → p.class ≡ class → (j : ℕ) → j < p.len → is_fixed_up g.sites p.region (p.at + j) class ≡ false → e (old p.region + (p.at + j)) ≡ c (old p.region + (p.at + j))
    stays class is j h k = fixes.stays i p j listed h (subst (λ z. is_fixed_up g.sites p.region (p.at + j) z ≡ false) (sym is) k)

    byte_moves : (class : Class) → p.class ≡ class → Stays old p b c → (j : ℕ) → j < p.len → is_fixed_up g.sites p.region (p.at + j) class ≡ false → b (old p.region + (p.at + j)) ≡ t (new p.region + (p.at + j))
    byte_moves class is stay j h k = let w = inside in sym (stay j h) ∙ sym (stays class is j h k) ∙ sym (shows p.region (p.at + j) (omega (arith, w, h)))

    number_of : (x y : ℕ → ℕ) → Stays old p x y → number_at y (old p.region + p.at) p.len ≡ number_at x (old p.region + p.at) p.len
    number_of x y stay = number_stays x y (old p.region) (length_of g.lens p.region) p.at p.len (changes.apart.old_ends p.region) inside stay

    number_own : (k : Kind) (v : ℕ) → is_number k ≡ true → Holds (regions_of g old old) k v v → Holds (regions_of g old new) k v v
    number_own (Num s) v f h = record { same = h.same; within = h.within }
    number_own Any v f h = absurd cc
    number_own (Ptr r s) v f h = absurd cc
    number_own (Opt r s) v f h = absurd cc

    class_behind : (class : Class) → p.class ≡ class → ClassBetween (regions_of g old new) p class (is_cell_among done class) b c → ClassHolds (regions_of g old old) g.sites p class b b → ClassHolds (regions_of g old new) g.sites p class b t
    class_behind Code is h own = λ j k s. byte_moves Code is h j k s
    class_behind Plain is h own = λ j k. byte_moves Plain is h j k refl
    class_behind (Number kind) is h own =
        let same : number_at t (new p.region + p.at) p.len ≡ number_at b (old p.region + p.at) p.len = shown ∙ number_of c e (λ j k. stays (Number kind) is j k refl) ∙ number_of b c h in
        (λ j k. byte_moves (Number kind) is h j k refl, subst (λ v. Holds (regions_of g old new) kind (number_at b (old p.region + p.at) p.len) v) (sym same) (number_own kind (number_at b (old p.region + p.at) p.len) (changes.numbers i p kind listed is) own.1))
    class_behind (Fixed kind) is h own =
        subst (λ w. Holds (regions_of g old new) kind (number_at b (old p.region + p.at) p.len) w) (sym shown)
        (subst (λ v. Holds (regions_of g old new) kind v (number_at e (old p.region + p.at) p.len)) (number_of b c h) (fixes.cells i p kind listed is))
    class_behind (Convert kind cell) is h own =
        let counted = (changes.cells.each i p kind cell listed is).counted in
        let now : ClassBetween (regions_of g old new) p (Convert kind cell) true b c = subst (λ z. ClassBetween (regions_of g old new) p (Convert kind cell) z b c) (all cell counted) h in
        let same : number_at t (new p.region + p.at) p.len ≡ number_at c (old p.region + p.at) p.len = shown ∙ number_of c e (λ j k. stays (Convert kind cell) is j k refl) in
        subst (λ w. Holds (regions_of g old new) kind (number_at b (old p.region + p.at) p.len) w) (sym same) now

  word_shown : (o : ℕ) → all_of is_code (piece_at g.pieces 0) o 4 ≡ true → number_at t (new 0 + o) 4 ≡ number_at e (old 0 + o) 4
  word_shown o h =
      let last = (code_same g old new allows answer b c changes done between (o + 3) (each_of is_code (piece_at g.pieces 0) o 4 3 h (omega arith))).0 in
      let l = changes.apart.old_ends 0 in
      let m = changes.apart.new_ends 0 in
      same_number t e (new 0 + o) (old 0 + o) 4 (omega (arith, last, m)) (omega (arith, last, l))
      (λ j k. let x : new 0 + o + j ≡ new 0 + (o + j) = omega arith in let y : old 0 + (o + j) ≡ old 0 + o + j = omega arith in ap t x ∙ shows 0 (o + j) (omega (arith, last, k)) ∙ ap e y)

  site_behind : (o target : ℕ) → target_at g.sites o ≡ Some target → all_of is_code (piece_at g.pieces 0) o 4 ≡ true → WordMoves (regions_of g old new) target (number_at b (old 0 + o) 4) (number_at t (new 0 + o) 4)
  site_behind o target f h =
      subst (λ w. WordMoves (regions_of g old new) target (number_at b (old 0 + o) 4) w) (sym (word_shown o h))
      (subst (λ v. WordMoves (regions_of g old new) target v (number_at e (old 0 + o) 4)) (word_same g old new allows answer b c changes done between o h) (fixes.sites o target f h))

pub change_moves : ChangeMoves
change_moves g old new allows answer b c e t done changes between all fixes shows = record {
  moved = record {
    pieces = λ i p listed fresh. class_behind g old new allows answer b c e t done changes between all fixes shows i p listed p.class refl (between i p listed) (changes.own.pieces i p listed (none_among p.class));
    sites = site_behind g old new allows answer b c e t done changes between all fixes shows;
  };
  code = changes.code;
}
