-- What is read of a number, with or without its sign.
use Rattle.std.proofs.Common.{◌≡◌, ℕ, ◌≤◌, ◌<◌, ◌+◌, ◌-◌, ◌%◌, ◌/◌, ◌^◌, ℤ, pos, arith, Bool, true, false, refl, ◌∙◌, ap, subst}
use Rattle.std.specs.Int.{w8, w16, w32, w64, cast_signed, cast_unsigned}
use Rattle.std.specs.Prelude.{◌==◌, ◌||◌, FitsSigned, negsuc, nat_lt, if◌then◌else◌, IsTrue}
use Rattle.std.proofs.Math.Facts.{sfits_to_z}
use Rattle.std.proofs.lemmas.Int.{to_z_pos}
use Rattle.std.proofs.lemmas.Bool.Decides.{nat_tests}
use Rattle.uh_base.specs.Bytes.{is_width}
use Rattle.rv_step.specs.Exec.{as_read}
use Rattle.rv_step.specs.Numbers.{BitsFit}
use Rattle.rv_step.specs.Values.{widened}
use Rattle.prov_types.specs.declared.kinds.Kind.{Kind}
use Rattle.prov_types.specs.declared.kinds.Kind.TheVariants.{Any, Num, Ptr, Opt}
use Rattle.prov_types.specs.Spans.{InSpan, whole}
use Rattle.prov_types.specs.Kinds.{Regions, Holds}
use Rattle.prov_layout.specs.Loads.{read_kind}
use Rattle.prov_runs.specs.LoadLaws.{ReadsHold}
use Rattle.prov_runs.proofs.SpanLemmas.{ends}
use Rattle.prov_runs.proofs.NumberLemmas.{number_below}

-- the four widths
pub data WidthIs (n : ℕ) : Type 0 where
  one_byte : n ≡ 1 → WidthIs n
  two_bytes : n ≡ 2 → WidthIs n
  four_bytes : n ≡ 4 → WidthIs n
  eight_bytes : n ≡ 8 → WidthIs n

pub width_is : (n : ℕ) → IsTrue (is_width n) → WidthIs n
width_is n h = by (n == 1) (n == 2) (n == 4) (n == 8) refl refl refl refl h
  where
    by : (a b c d : Bool) → (n == 1) ≡ a → (n == 2) ≡ b → (n == 4) ≡ c → (n == 8) ≡ d → IsTrue (a || b || c || d) → WidthIs n
    by true b c d e f k l m = one_byte (grind (arith, nat_tests))
    by false true c d e f k l m = two_bytes (grind (arith, nat_tests))
    by false false true d e f k l m = four_bytes (grind (arith, nat_tests))
    by false false false true e f k l m = eight_bytes (grind (arith, nat_tests))
    by false false false false e f k l m = absurd cc

-- what is so of each of them
pub record IsAccess (n : ℕ) : Type 0 where
  pub low : 0 < n
  pub high : n ≤ 8
  pub power : 256 ^ n ≤ 2 ^ 64

pub width_of : (n : ℕ) → WidthIs n → IsAccess n
width_of n (one_byte e) = rw e (record { low = omega arith; high = omega arith; power = omega arith })
width_of n (two_bytes e) = rw e (record { low = omega arith; high = omega arith; power = omega arith })
width_of n (four_bytes e) = rw e (record { low = omega arith; high = omega arith; power = omega arith })
width_of n (eight_bytes e) = rw e (record { low = omega arith; high = omega arith; power = omega arith })

whole_in : (v : ℕ) → v < 2 ^ 64 → InSpan whole v
whole_in v h = record { up = v; down = 2 ^ 64 - 1 - v; from_lo = omega arith; to_hi = omega arith }

wide8 : (z : ℤ) → FitsSigned w8 z → FitsSigned w64 z
wide8 (pos n) f = record { sfits = let h = f.sfits in omega (arith, h) }
wide8 (negsuc n) f = record { sfits = let h = f.sfits in omega (arith, h) }

wide16 : (z : ℤ) → FitsSigned w16 z → FitsSigned w64 z
wide16 (pos n) f = record { sfits = let h = f.sfits in omega (arith, h) }
wide16 (negsuc n) f = record { sfits = let h = f.sfits in omega (arith, h) }

wide32 : (z : ℤ) → FitsSigned w32 z → FitsSigned w64 z
wide32 (pos n) f = record { sfits = let h = f.sfits in omega (arith, h) }
wide32 (negsuc n) f = record { sfits = let h = f.sfits in omega (arith, h) }

widened_fits : BitsFit → (width n : ℕ) → WidthIs width → n < 256 ^ width → widened width n < 2 ^ 64
unfolding widened
widened_fits fit width n (one_byte e) h =
    let low : n % 2 ^ 8 < 2 ^ 8 = omega arith in
    rw e (fit (cast_signed w8 (n % 2 ^ 8)) (wide8 (cast_signed w8 (n % 2 ^ 8)) (sfits_to_z {n = n % 2 ^ 8} (record { fits = low }))))
widened_fits fit width n (two_bytes e) h =
    let low : n % 2 ^ 16 < 2 ^ 16 = omega arith in
    rw e (fit (cast_signed w16 (n % 2 ^ 16)) (wide16 (cast_signed w16 (n % 2 ^ 16)) (sfits_to_z {n = n % 2 ^ 16} (record { fits = low }))))
widened_fits fit width n (four_bytes e) h =
    let low : n % 2 ^ 32 < 2 ^ 32 = omega arith in
    rw e (fit (cast_signed w32 (n % 2 ^ 32)) (wide32 (cast_signed w32 (n % 2 ^ 32)) (sfits_to_z {n = n % 2 ^ 32} (record { fits = low }))))
widened_fits fit width n (eight_bytes e) h = let k : n < 256 ^ 8 = subst (λ z. n < 256 ^ z) e h in rw e (omega (arith, k))

widened_small : (width n : ℕ) → WidthIs width → n < 256 ^ width / 2 → widened width n ≡ n
unfolding widened
widened_small width n (one_byte e) h =
    let k : n < 256 ^ 1 / 2 = subst (λ z. n < 256 ^ z / 2) e h in
    let m : n % 2 ^ 8 ≡ n = omega (arith, k) in
    rw e (ap (λ z. cast_unsigned w64 (cast_signed w8 z)) m ∙ ap (cast_unsigned w64) (to_z_pos w8 n (omega (arith, k))) ∙ omega arith)
widened_small width n (two_bytes e) h =
    let k : n < 256 ^ 2 / 2 = subst (λ z. n < 256 ^ z / 2) e h in
    let m : n % 2 ^ 16 ≡ n = omega (arith, k) in
    rw e (ap (λ z. cast_unsigned w64 (cast_signed w16 z)) m ∙ ap (cast_unsigned w64) (to_z_pos w16 n (omega (arith, k))) ∙ omega arith)
widened_small width n (four_bytes e) h =
    let k : n < 256 ^ 4 / 2 = subst (λ z. n < 256 ^ z / 2) e h in
    let m : n % 2 ^ 32 ≡ n = omega (arith, k) in
    rw e (ap (λ z. cast_unsigned w64 (cast_signed w32 z)) m ∙ ap (cast_unsigned w64) (to_z_pos w32 n (omega (arith, k))) ∙ omega arith)
widened_small width n (eight_bytes e) h = rw e refl

pub read_fits : BitsFit → (sign : Bool) (width n : ℕ) → WidthIs width → n < 256 ^ width → as_read sign width n < 2 ^ 64
read_fits fit true width n w h = widened_fits fit width n w h
read_fits fit false width n w h = let k = width_of width w in let m = k.power in omega (arith, h, m)

-- what is loaded, with or without its sign
read_holds : BitsFit → (g : Regions) (sign : Bool) (width : ℕ) (kind : Kind) (n m : ℕ) → WidthIs width → n < 256 ^ width → Holds g kind n m → Holds g (read_kind sign width kind) (as_read sign width n) (as_read sign width m)
read_holds fit g false width (Num s) n m w h p = p
read_holds fit g false width Any n m w h p = p
read_holds fit g false width (Ptr r s) n m w h p = p
read_holds fit g false width (Opt r s) n m w h p = p
read_holds fit g true width (Num s) n m w h p = by (nat_lt s.hi (256 ^ width / 2)) refl
  where
    by : (c : Bool) → nat_lt s.hi (256 ^ width / 2) ≡ c → Holds g (if c then Num s else Num whole) (widened width n) (widened width m)
    by true e =
        let top = ends s n p.within in
        let high : n ≤ s.hi = top.1 in
        let low : s.hi < 256 ^ width / 2 = grind (arith, nat_tests) in
        let is : widened width n ≡ n = widened_small width n w (omega (arith, high, low)) in
        let also : widened width m ≡ m = subst (λ z. widened width z ≡ z) p.same is in
        rw (is, also) p
    by false e = record { same = ap (widened width) p.same; within = whole_in _ (widened_fits fit width n w h) }
read_holds fit g true width Any n m w h p = tt
read_holds fit g true width (Ptr r s) n m w h p = tt
read_holds fit g true width (Opt r s) n m w h p = tt

pub reads_hold : BitsFit → ReadsHold
reads_hold fit g sign b c r o width kind bytes w h = read_holds fit g sign width kind _ _ (width_is width w) (number_below b (g.old r + o) width bytes) h
