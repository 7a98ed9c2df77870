-- Checks one after another.
use Rattle.std.proofs.Common.{◌≡◌, ℕ, ◌+◌, ◌*◌, suc, List, [], ◌∷◌, ◌++◌, Result, Ok, Err, refl, sym, ◌∙◌, arith, inl, inr}
use Rattle.std.proofs.lemmas.Bool.{cases_Bool}
use Rattle.std.proofs.lemmas.List.{append-nil}
use Rattle.pe_image.specs.declared.fault.PeFault.{PeFault}
use Rattle.pe_image.specs.Checks.{Check, judged}
use Rattle.pe_image.specs.ImageOf.{section_header_checks, table_checks}

-- behind checks that pass come the others
pub passed : {X Y : Type 0} (first bs : List Check) (x : X) (y z : Y) → judged first y ≡ Ok z → judged (first ++ bs) x ≡ judged bs x
passed [] bs x y z h = refl
passed (c ∷ cs) bs x y z h =
    elim (cases_Bool c.passes) [
      | inl passes ↦ rw passes (passed cs bs x y z (rw passes at h))
      | inr fails ↦ absurd (let e : Err c.fault ≡ Ok z = rw fails at h in cc)
    ]

-- a check that fails stops all
pub failed : {X Y : Type 0} (first bs : List Check) (x : X) (y : Y) (fault : PeFault) → judged first y ≡ Err fault → judged (first ++ bs) x ≡ Err fault
failed [] bs x y fault h = absurd (let e : Ok y ≡ Err fault = h in cc)
failed {X} {Y} (c ∷ cs) bs x y fault h =
    elim (cases_Bool c.passes) [
      | inl passes ↦ rw passes (failed cs bs x y fault (rw passes at h))
      | inr fails ↦
          let e : ◌≡◌ {A = Result Y PeFault} (Err c.fault) (Err fault) = rw fails at h in
          let same : c.fault ≡ fault = cc in
          rw (fails, same) refl
    ]

-- whether checks pass does not hang on the value
pub all_pass : {X Y : Type 0} (cs : List Check) (x : X) (y z : Y) → judged cs y ≡ Ok z → judged cs x ≡ Ok x
all_pass cs x y z h = rw (append-nil cs) at (passed cs [] x y z h)

pub all_fail : {X Y : Type 0} (cs : List Check) (x : X) (y : Y) (fault : PeFault) → judged cs y ≡ Err fault → judged cs x ≡ Err fault
all_fail cs x y fault h = rw (append-nil cs) at (failed cs [] x y fault h)

-- The first of the section headers, and the others.
module _ {X : Type 0} (bytes : List ℕ) (at i left fewer : ℕ) (one_more : left ≡ suc fewer) (x : X) (whole : Result X PeFault) (so_far : judged (table_checks bytes (at + 40 * i) left) x ≡ whole) where
  turn : judged (section_header_checks bytes (at + 40 * i) ++ table_checks bytes (at + 40 * (i + 1)) fewer) x ≡ whole
  unfolding table_checks
  turn =
      let further : at + 40 * i + 40 ≡ at + 40 * (i + 1) = omega arith in
      rw (← further) (rw one_more at so_far)

  pub table_goes_on : {Y : Type 0} (y z : Y) → judged (section_header_checks bytes (at + 40 * i)) y ≡ Ok z → judged (table_checks bytes (at + 40 * (i + 1)) fewer) x ≡ whole
  table_goes_on y z h = sym (passed (section_header_checks bytes (at + 40 * i)) (table_checks bytes (at + 40 * (i + 1)) fewer) x y z h) ∙ turn

  pub table_fails : {Y : Type 0} (y : Y) (fault : PeFault) → judged (section_header_checks bytes (at + 40 * i)) y ≡ Err fault → whole ≡ Err fault
  table_fails y fault h = sym turn ∙ failed (section_header_checks bytes (at + 40 * i)) (table_checks bytes (at + 40 * (i + 1)) fewer) x y fault h

pub table_ends : {X : Type 0} (bytes : List ℕ) (at left : ℕ) (x : X) → left ≡ 0 → judged (table_checks bytes at left) x ≡ Ok x
unfolding table_checks
table_ends bytes at left x none = rw none refl
