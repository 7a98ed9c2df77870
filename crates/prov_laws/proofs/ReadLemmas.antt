-- The instruction that was judged.
use Rattle.std.proofs.Common.{◌≡◌, ℕ, zero, suc, ◌<◌, ◌+◌, ◌%◌, arith, Bool, true, false, refl, sym, ◌∙◌, ap, subst, Option, Some, None, List, length}
use Rattle.std.specs.Prelude.{◌==◌, ◌&&◌, ◌||◌, nat_le, if◌then◌else◌, is_none}
use Rattle.std.proofs.lemmas.Bool.Decides.{nat_tests}
use Rattle.rv_decode.specs.declared.insn.Insn.{Insn}
use Rattle.rv_decode.specs.declared.insn.Op.{Op}
use Rattle.rv_decode.specs.declared.insn.Op.TheVariants as ops
use Rattle.rv_decode.specs.RowLaws.{HasLength, LengthIs}
use Rattle.prov_types.specs.declared.kinds.Kind.TheVariants.{Any, Num, Ptr, Opt}
use Rattle.prov_types.specs.Kinds.{length_of}
use Rattle.rv_step.specs.Exec.{Rights}
use Rattle.prov_layout.specs.declared.piece.Class.{Class}
use Rattle.prov_layout.specs.declared.piece.Class.TheVariants.{Code, Plain, Number, Fixed, Convert}
use Rattle.prov_layout.specs.declared.piece.Piece.{Piece}
use Rattle.prov_layout.specs.Offsets.{every}
use Rattle.prov_layout.specs.Pieces.{all_of, is_code, piece_at}
use Rattle.prov_runs.specs.FetchLaws.{IsInsnAt, SiteAllows, clear, sited, decoded_at}
use Rattle.prov_runs.specs.Sites.{target_at as named_at, target_in as named_in, target_of as named_of}
use Rattle.provenance_check.specs.Ground.{Ground, target_in}
use Rattle.provenance_check.specs.Reading.{half_at, insn_at, is_at_most, is_clear, is_code_at, is_lui, length_by, place_of, stops, target_at, target_of, unless_it_stops}
use Rattle.provenance_check.specs.Rules.{site_rule}
use Rattle.prov_laws.specs.Checked.{runs_of}

pub both : (a b : Bool) → (a && b) ≡ true → (a ≡ true) × (b ≡ true)
both true b e = (refl, e)
both false b e = absurd cc

pub every_at : (test : ℕ → Bool) (lo n i : ℕ) → every test lo 1 n ≡ true → i < n → test (lo + i) ≡ true
unfolding every
every_at test lo zero i e h = absurd (omega arith)
every_at test lo (suc n) zero e h = let z : lo + 0 ≡ lo = omega arith in ap test z ∙ (both (test lo) (every test (lo + 1) 1 n) e).0
every_at test lo (suc n) (suc i) e h =
    let z : lo + suc i ≡ lo + 1 + i = omega arith in
    ap test z ∙ every_at test (lo + 1) n i (both (test lo) (every test (lo + 1) 1 n) e).1 (omega (arith, h))

-- One offset is named by either word.
target_same : (sites : List Piece) (o : ℕ) → target_at sites o ≡ named_at sites o
target_same sites o = by (piece_at sites 0 o)
  where
    in_class : (c : Class) → target_in c ≡ named_in c
    in_class Code = refl
    in_class Plain = refl
    in_class (Number kind) = refl
    in_class (Convert kind cell) = refl
    in_class (Fixed Any) = refl
    in_class (Fixed (Num s)) = refl
    in_class (Fixed (Ptr r s)) = refl
    in_class (Fixed (Opt r s)) = refl

    by : (p : Option Piece) → target_of p o ≡ named_of p o
    by None = refl
    by (Some p) = ap (λ t. if p.at == o && p.len == 4 then t else None) (in_class p.class)

pub target_is : (g : Ground) (at len : ℕ) → (place_of g at len).target ≡ named_at g.sites at
target_is g at len = target_same g.sites at

-- Site
no_piece : (p : Option Piece) → is_none p ≡ true → p ≡ None
no_piece None e = refl
no_piece (Some p) e = absurd cc

is_lui_so : (op : Op) → is_lui op ≡ true → op ≡ ops.Lui
is_lui_so ops.Lui e = refl
is_lui_so op e = absurd cc

pub site_so : (g : Ground) (at len : ℕ) (insn : Insn) → site_rule g (place_of g at len) insn ≡ true → SiteAllows g.sites at len insn
unfolding site_rule
site_so g at len insn e = by (is_clear g.sites at len) refl e
  where
    target : (o : Option ℕ) (most : ℕ) → target_at g.sites at ≡ o → is_at_most most o ≡ true → insn.op ≡ ops.Lui → len ≡ 4 → SiteAllows g.sites at len insn
    target None most f h a b = absurd cc
    target (Some t) most f h a b = sited a b t (sym (target_same g.sites at) ∙ f)

    by : (c : Bool) → is_clear g.sites at len ≡ c → (c || (is_lui insn.op && (len == 4 && is_at_most (length_of g.lens 0) (target_at g.sites at)))) ≡ true → SiteAllows g.sites at len insn
    by true f h = clear (λ i k. no_piece (piece_at g.sites 0 (at + i)) (every_at (λ i. is_none (piece_at g.sites 0 i)) at len i f k))
    by false f h =
        let a = both (is_lui insn.op) (len == 4 && is_at_most (length_of g.lens 0) (target_at g.sites at)) h in
        let b = both (len == 4) (is_at_most (length_of g.lens 0) (target_at g.sites at)) a.1 in
        let four = b.0 in
        target (target_at g.sites at) (length_of g.lens 0) refl b.1 (is_lui_so insn.op a.0) (grind (arith, nat_tests))

-- Insn: the bytes of the instruction are code, decode to it, and it doesn't stop.
pub record Read (g : Ground) (at len : ℕ) (insn : Insn) : Type 0 where
  pub means : decoded_at g.image at ≡ Some (insn, len)
  pub code : all_of is_code (piece_at g.pieces 0) at len ≡ true
  pub goes_on : stops insn.op ≡ false
  pub some : 0 < len

unless_so : (o : Option (Insn × ℕ)) (insn : Insn) (len : ℕ) → unless_it_stops o ≡ Some (insn, len) → (o ≡ Some (insn, len)) × (stops insn.op ≡ false)
unless_so None insn len h = absurd cc
unless_so (Some (found, long)) insn len h = by (stops found.op) refl h
  where
    by : (c : Bool) → stops found.op ≡ c → ◌≡◌ {A = Option (Insn × ℕ)} (if◌then◌else◌ {A = Option (Insn × ℕ)} c None (Some (found, long))) (Some (insn, len)) → (◌≡◌ {A = Option (Insn × ℕ)} (Some (found, long)) (Some (insn, len))) × (stops insn.op ≡ false)
    by true f e = absurd cc
    by false f e =
        let p : ◌≡◌ {A = Insn × ℕ} (found, long) (insn, len) = cc in
        let same : found ≡ insn = ap (λ x. x.0) p in
        (e, subst (λ i. stops i.op ≡ false) same f)

pub read_so : LengthIs → (g : Ground) (at len : ℕ) (insn : Insn) → insn_at g at ≡ Some (insn, len) → Read g at len insn
unfolding insn_at
read_so length_is g at len insn = by (is_code_at g at 2) (is_code_at g at (length_by (half_at g.image at))) refl
  where
    long : decoded_at g.image at ≡ Some (insn, len) → len ≡ length_by (half_at g.image at)
    long means = on (half_at g.image at % 4 == 3) refl
      where
        has : HasLength (half_at g.image at) len
        has = length_is (half_at g.image at) (if half_at g.image at % 4 == 3 then half_at g.image (at + 2) else 0) insn len means

        on : (c : Bool) → (half_at g.image at % 4 == 3) ≡ c → len ≡ (if c then 4 else 2)
        on true f = has.four.0 (grind (arith, nat_tests))
        on false f = has.two.0 (λ k. absurd (grind (arith, nat_tests)))

    some_long : (c : Bool) → len ≡ (if c then 4 else 2) → 0 < len
    some_long true h = omega (arith, h)
    some_long false h = omega (arith, h)

    by : (c d : Bool) → is_code_at g at (length_by (half_at g.image at)) ≡ d → (if c && d then unless_it_stops (decoded_at g.image at) else None) ≡ Some (insn, len) → Read g at len insn
    by true true f e =
        let a = unless_so (decoded_at g.image at) insn len e in
        let code = (both (nat_le (at + length_by (half_at g.image at)) (length g.image)) (all_of is_code (piece_at g.pieces 0) at (length_by (half_at g.image at))) f).1 in
        record { means = a.0; code = subst (λ n. all_of is_code (piece_at g.pieces 0) at n ≡ true) (sym (long a.0)) code; goes_on = a.1; some = some_long (half_at g.image at % 4 == 3) (long a.0) }
    by true false f e = absurd cc
    by false d f e = absurd cc

pub insn_is : LengthIs → (g : Ground) (old new : ℕ → ℕ) (done : List ℕ) (allows others : Rights) (at len : ℕ) (insn : Insn) → insn_at g at ≡ Some (insn, len) → site_rule g (place_of g at len) insn ≡ true
    → IsInsnAt (runs_of g old new done allows others).laid g.image at len insn
insn_is length_is g old new done allows others at len insn reads site =
    let r = read_so length_is g at len insn reads in
    record { means = r.means; code = r.code; site = site_so g at len insn site }
