-- Sections one after another.
use Rattle.std.proofs.Common.{◌≡◌, ℕ, ◌+◌, ◌*◌, suc, List, [], ◌∷◌, ◌++◌, nat_le, Result, Ok, Err, refl, sym, ◌∙◌, arith, inl, inr}
use Rattle.std.proofs.lemmas.Bool.{cases_Bool}
use Rattle.std.proofs.lemmas.List.{append_assoc}
use Rattle.pe_image.specs.declared.fault.PeFault.{PeFault}
use Rattle.pe_image.specs.declared.fault.PeFault.TheVariants as faults
use Rattle.pe_image.specs.declared.image.Section.{Section}
use Rattle.pe_image.specs.Checks.{Check, check, judged, Stops}
use Rattle.pe_image.specs.ImageOf.{section_at, sections_at, section_checks, is_inside}
use Rattle.pe_image.proofs.CheckLemmas.{passed, failed}

-- checks that pass give the value
pub judged_value : {X : Type 0} (cs : List Check) (x y : X) → judged cs x ≡ Ok y → y ≡ x
judged_value [] x y h = cc
judged_value (c ∷ cs) x y h =
    elim (cases_Bool c.passes) [
      | inl passes ↦ judged_value cs x y (rw passes at h)
      | inr fails ↦ absurd (let e : Err c.fault ≡ Ok y = rw fails at h in cc)
    ]

-- a fault is told as it is
pub stops : {Y : Type 0} (fault : PeFault) (r : Result Y PeFault) → r ≡ Err fault → Stops fault r
stops faults.Memory r h = tt
stops _ r h = h

pub sections_next : (bytes : List ℕ) (at i left fewer : ℕ) → left ≡ suc fewer → sections_at bytes (at + 40 * i) left ≡ section_at bytes (at + 40 * i) ∷ sections_at bytes (at + 40 * (i + 1)) fewer
unfolding sections_at
sections_next bytes at i left fewer one_more =
    let further : at + 40 * i + 40 ≡ at + 40 * (i + 1) = omega arith in
    rw (one_more, ← further) refl

pub sections_end : (bytes : List ℕ) (at left : ℕ) → left ≡ 0 → sections_at bytes at left ≡ []
unfolding sections_at
sections_end bytes at left none = rw none refl

-- the two checks of one section
abbrev pub one_section : (file alignment size before i : ℕ) → Section → List Check
one_section file alignment size before i section = check (is_inside file alignment size section) (faults.SectionOutside i) ∷ check (nat_le before section.at) (faults.SectionOverlap i) ∷ []

-- The first of the sections that are left, and the others.
module _ {X : Type 0} (bytes : List ℕ) (at i left fewer file alignment size before : ℕ) (one_more : left ≡ suc fewer) (section : Section) (is : section ≡ section_at bytes (at + 40 * i)) (x : X) (whole : Result X PeFault) (so_far : judged (section_checks file alignment size before i (sections_at bytes (at + 40 * i) left)) x ≡ whole) where
  turn : judged (one_section file alignment size before i section ++ section_checks file alignment size (section.at + section.len) (i + 1) (sections_at bytes (at + 40 * (i + 1)) fewer)) x ≡ whole
  unfolding section_checks
  turn = rw is (rw (sections_next bytes at i left fewer one_more) at so_far)

  pub section_goes_on : (end : ℕ) → judged (one_section file alignment size before i section) (section.at + section.len) ≡ Ok end → judged (section_checks file alignment size end (i + 1) (sections_at bytes (at + 40 * (i + 1)) fewer)) x ≡ whole
  section_goes_on end h =
      rw (judged_value (one_section file alignment size before i section) (section.at + section.len) end h)
      (sym (passed (one_section file alignment size before i section) (section_checks file alignment size (section.at + section.len) (i + 1) (sections_at bytes (at + 40 * (i + 1)) fewer)) x _ end h) ∙ turn)

  pub section_fails : (fault : PeFault) → judged (one_section file alignment size before i section) (section.at + section.len) ≡ Err fault → Stops fault whole
  section_fails fault h = stops fault whole (sym turn ∙ failed (one_section file alignment size before i section) (section_checks file alignment size (section.at + section.len) (i + 1) (sections_at bytes (at + 40 * (i + 1)) fewer)) x _ fault h)

pub sections_push : (bytes : List ℕ) (at i left fewer : ℕ) (section : Section) (sections all : List Section) → left ≡ suc fewer → section ≡ section_at bytes (at + 40 * i) → sections ++ sections_at bytes (at + 40 * i) left ≡ all → (sections ++ section ∷ []) ++ sections_at bytes (at + 40 * (i + 1)) fewer ≡ all
sections_push bytes at i left fewer section sections all one_more is so_far =
    rw (append_assoc, is) (rw (sections_next bytes at i left fewer one_more) at so_far)

pub no_sections_left : {X : Type 0} (bytes : List ℕ) (at left file alignment size before i : ℕ) (x : X) → left ≡ 0 → judged (section_checks file alignment size before i (sections_at bytes at left)) x ≡ Ok x
unfolding section_checks
no_sections_left bytes at left file alignment size before i x none = rw (sections_end bytes at left none) refl
