-- From the rules' tests to what they say.
use Rattle.std.proofs.Common.{◌≡◌, ℕ, zero, suc, ◌≤◌, ◌<◌, ◌+◌, ◌*◌, arith, Bool, true, false, refl, ap, ◌∙◌, Option, Some, None, List, [], ◌∷◌, length, inl, inr}
use Rattle.std.specs.Prelude.{◌⊎◌, ◌==◌, ◌&&◌, ◌||◌, not, nat_le, nat_lt, if◌then◌else◌, slice_get}
use Rattle.std.proofs.lemmas.Bool.Decides.{nat_tests}
use Rattle.map_faults.specs.Grounds.{Kept}
use Rattle.virtual_map.specs.States.{Runtime}
use Rattle.prov_types.specs.Kinds.{length_of}
use Rattle.prov_cert.specs.declared.cert.CertSpan.{CertSpan}
use Rattle.prov_cert.specs.declared.cert.Class.{Class}
use Rattle.prov_cert.specs.declared.cert.Class.TheVariants as classes
use Rattle.prov_cert.specs.Cert.{Entry, Plain}
use Rattle.prov_cert.specs.Kept.{IsCert}
use Rattle.prov_layout.specs.Offsets.{every}
use Rattle.prov_layout.specs.Laid.{class_of, spans_meet}
use Rattle.prov_layout.specs.Pieces.{IsProperClass}
use Rattle.prov_layout.specs.Laws.{LaidIsOrdered, PassesEach}
use Rattle.provenance_check.specs.declared.rule.Rule.{Rule}
use Rattle.provenance_check.specs.Entries.{EachPasses, entry_passes, entry_rule, first_entry, first_from}
use Rattle.provenance_tables.specs.Regions.{kept_with, lens_of, region_passes, rights_in, starts_of}
use Rattle.provenance_tables.specs.Spans.{IsSound, data_passes, lies_well, may_run, shares_with, span_passes}
use Rattle.provenance_tables.specs.Tables.{first_in_tables, first_number, has_convert, notify_number, notify_passes, or_later, phase_number, tests, tests_of}
use Rattle.provenance_tables.specs.Passed.{Lies, NoneFailsStands, Stands, TablesPass}
use Rattle.provenance_tables.proofs.Formed.{spans_sound}

both : (a b : Bool) → (a && b) ≡ true → (a ≡ true) × (b ≡ true)
both true true e = (refl, refl)
both true false e = absurd cc
both false b e = absurd cc

or_none : (rule : Rule) (n : Option ℕ) (later : Option (Rule × ℕ)) → or_later rule n later ≡ None → (n ≡ None) × (later ≡ None)
or_none rule None later e = (refl, e)
or_none rule (Some n) later e = absurd cc

inside : (ss : List CertSpan) (i : ℕ) (s : CertSpan) → slice_get ss i ≡ Some s → i < length ss
inside [] i s e = absurd cc
inside (t ∷ ts) zero s e = omega arith
inside (t ∷ ts) (suc i) s e = let h = inside ts i s e in omega (arith, h)

entry_inside : (es : List Entry) (i : ℕ) (e : Entry) → slice_get es i ≡ Some e → i < length es
entry_inside [] i e h = absurd cc
entry_inside (f ∷ fs) zero e h = omega arith
entry_inside (f ∷ fs) (suc i) e h = let k = entry_inside fs i e h in omega (arith, k)

-- ---- spans

image_or_own : (r : ℕ) → (r == 0 || nat_lt 5 r) ≡ true → (r ≡ 0) ⊎ (5 < r)
image_or_own r h = by (r == 0) (nat_lt 5 r) refl refl h
  where
    by : (a b : Bool) → (r == 0) ≡ a → nat_lt 5 r ≡ b → (a || b) ≡ true → (r ≡ 0) ⊎ (5 < r)
    by true b e f k = inl (grind (arith, nat_tests))
    by false true e f k = inr (grind (arith, nat_tests))
    by false false e f k = absurd cc

-- what the rule Span says of a span
pub record Spread (r : Runtime) (starts lens : List ℕ) (spans : List CertSpan) (i : ℕ) (s : CertSpan) : Type 0 where
  pub lies : Lies r starts lens s
  pub apart : every (λ j. j == i || not (shares_with s (slice_get spans j))) 0 1 (length spans) ≡ true

spread : (r : Runtime) (starts lens : List ℕ) (spans : List CertSpan) (i : ℕ) (s : CertSpan) → slice_get spans i ≡ Some s → span_passes r starts lens spans i ≡ true → Spread r starts lens spans i s
unfolding span_passes
spread r starts lens spans i s e h =
    let k : lies_well (rights_in r) starts lens spans i (Some s) ≡ true = rw e at h in
    let a = both (nat_le (s.at + s.len) (length_of lens s.region) && (s.region == 0 || nat_lt 5 s.region)) _ k in
    let b = both (nat_le (s.at + s.len) (length_of lens s.region)) (s.region == 0 || nat_lt 5 s.region) a.0 in
    let c = both (every (λ j. j == i || not (shares_with s (slice_get spans j))) 0 1 (length spans)) (may_run (rights_in r) starts s s.class) a.1 in
    record { lies = record { inside = le_of (s.at + s.len) (length_of lens s.region) b.0; region = image_or_own s.region b.1; runs = c.1 }; apart = c.0 }
  where
    le_of : (m n : ℕ) → nat_le m n ≡ true → m ≤ n
    le_of m n q = grind (arith, nat_tests)

-- two spans with bytes, of different numbers, don't meet
no_meeting : (s t : CertSpan) (i j : ℕ) → i < j → 0 < s.len → 0 < t.len → (j == i || not (shares_with s (Some t))) ≡ true → spans_meet s t ≡ false
no_meeting s t i j l a b h =
    let x : (j == i) ≡ false = grind (arith, nat_tests) in
    let y : nat_lt 0 s.len ≡ true = grind (arith, nat_tests) in
    let z : nat_lt 0 t.len ≡ true = grind (arith, nat_tests) in
    by (j == i) (nat_lt 0 s.len) (nat_lt 0 t.len) (spans_meet s t) x y z h
  where
    by : (p q u v : Bool) → p ≡ false → q ≡ true → u ≡ true → (p || not ((q && u) && v)) ≡ true → v ≡ false
    by p q u false e f g k = refl
    by true q u true e f g k = absurd cc
    by false true true true e f g k = absurd cc
    by false false u true e f g k = absurd cc
    by false true false true e f g k = absurd cc

class_proper : (s : CertSpan) (class : Class) → IsSound s class → IsProperClass (class_of 0 0 class)
class_proper s classes.Code h = tt
class_proper s classes.Plain h = tt
class_proper s (classes.Num kind) h = h.1
class_proper s classes.Fixed h = record { steps = omega arith; order = omega arith; whole = grind arith }
class_proper s (classes.Convert kind) h = h.1

-- ---- functions

pub record Counted (image : Kept) (starts lens : List ℕ) (r : Runtime) (cert : Plain) (marks : List (List Bool)) : Type 0 where
  pub functions : length cert.notify ≡ length r.notifies
  pub each : first_from (notify_passes image starts lens r.notifies cert.nodes cert.notify marks) 0 (length cert.notify) ≡ None

counted : (image : Kept) (starts lens : List ℕ) (r : Runtime) (cert : Plain) (marks : List (List Bool)) → notify_number image starts lens r.notifies cert marks ≡ None → Counted image starts lens r cert marks
unfolding notify_number
counted image starts lens r cert marks h =
    by (length cert.notify == length r.notifies) (has_convert cert.spans && length r.notifies == 0) (first_from (notify_passes image starts lens r.notifies cert.nodes cert.notify marks) 0 (length cert.notify)) refl refl h
  where
    by : (a b : Bool) (o : Option ℕ) → (length cert.notify == length r.notifies) ≡ a → first_from (notify_passes image starts lens r.notifies cert.nodes cert.notify marks) 0 (length cert.notify) ≡ o
        → (if not a || b then Some 0 else o) ≡ None → Counted image starts lens r cert marks
    by true true o e f k = absurd cc
    by true false o e f k = record { functions = grind (arith, nat_tests); each = f ∙ k }
    by false b o e f k = absurd cc

-- ---- all

abbrev number_unless : Bool → Option ℕ
number_unless b = if b then None else Some 0

module _ (passes : PassesEach) (each : EachPasses) (ordered : LaidIsOrdered) where
  spread_at : (r : Runtime) (cert : Plain) (starts lens : List ℕ) → first_from (span_passes r starts lens cert.spans) 0 (length cert.spans) ≡ None
      → (i : ℕ) (s : CertSpan) → slice_get cert.spans i ≡ Some s → Spread r starts lens cert.spans i s
  spread_at r cert starts lens h i s e = spread r starts lens cert.spans i s e (each (span_passes r starts lens cert.spans) (length cert.spans) i h (inside cert.spans i s e))

  apart_at : (r : Runtime) (cert : Plain) (starts lens : List ℕ) → first_from (span_passes r starts lens cert.spans) 0 (length cert.spans) ≡ None
      → (i j : ℕ) (s t : CertSpan) → slice_get cert.spans i ≡ Some s → slice_get cert.spans j ≡ Some t → i < j → 0 < s.len → 0 < t.len → spans_meet s t ≡ false
  apart_at r cert starts lens h i j s t e f l a b =
      let k = (spread_at r cert starts lens h i s e).apart in
      let z : j ≡ 0 + j * 1 = omega arith in
      let m : (j == i || not (shares_with s (slice_get cert.spans j))) ≡ true =
      ap (λ n. n == i || not (shares_with s (slice_get cert.spans n))) z ∙ passes (λ n. n == i || not (shares_with s (slice_get cert.spans n))) 0 1 (length cert.spans) j k (inside cert.spans j t f) in
      no_meeting s t i j l a b (rw f at m)

  entries_at : (cert : Plain) → first_entry cert.nodes cert.entries (length cert.entries) ≡ None → (i : ℕ) (e : Entry) → slice_get cert.entries i ≡ Some e → entry_rule cert.nodes e ≡ true
  entries_at cert h i e f =
      let k : entry_passes cert.nodes (slice_get cert.entries i) ≡ true = each (λ n. entry_passes cert.nodes (slice_get cert.entries n)) (length cert.entries) i h (entry_inside cert.entries i e f) in
      rw f at k

  tables_pass : (r : Runtime) (image : Kept) (cert : Plain) (starts lens : List ℕ) (marks : List (List Bool)) → IsCert cert → first_number (tests r image cert starts lens marks) ≡ None → TablesPass r image cert starts lens marks
  unfolding first_number
  tables_pass r image cert starts lens marks is h =
      let a = or_none _ _ _ h in
      let b = or_none _ _ _ a.1 in
      let c = or_none _ _ _ b.1 in
      let d = or_none _ _ _ c.1 in
      let n = counted image starts lens r cert marks (or_none _ _ _ d.1).0 in
      record {
        regions = λ m l. each (region_passes r starts lens cert.regions cert.spans) (length starts) m a.0 l;
        lie = λ i s e. (spread_at r cert starts lens b.0 i s e).lies;
        apart = apart_at r cert starts lens b.0;
        ordered = λ targets. ordered targets cert.spans (λ i s e. class_proper s s.class (spans_sound cert is i s e)) (λ i s e. (spread_at r cert starts lens b.0 i s e).lies.region) (apart_at r cert starts lens b.0);
        hold = λ i l. each (data_passes image r starts lens cert.spans) (length cert.spans) i c.0 l;
        entries = entries_at cert d.0;
        functions = n.functions;
        notified = λ i l. each (notify_passes image starts lens r.notifies cert.nodes cert.notify marks) (length cert.notify) i n.each l;
      }

  pub none_fails : NoneFailsStands
  unfolding first_in_tables first_number
  none_fails r handle cert marks is h = by (kept_with handle r.kept) refl h
    where
      phase : (g m : Bool) → number_unless (g && not m) ≡ None → (g ≡ true) × (m ≡ false)
      phase true false e = (refl, refl)
      phase true true e = absurd cc
      phase false m e = absurd cc

      by : (o : Option Kept) → kept_with handle r.kept ≡ o → first_number (tests_of r cert marks o) ≡ None → Stands r handle cert marks
      by None e k = absurd cc
      by (Some image) e k =
          let a = or_none _ (phase_number r) _ k in
          let p = phase r.gone r.mapped a.0 in
          record { image = image; kept = e; gone = p.0; unmapped = p.1; passes = tables_pass r image cert (starts_of r image cert.regions) (lens_of image cert.regions) marks is a.1 }
