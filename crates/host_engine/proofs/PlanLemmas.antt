-- The files of a plan, one after the other.
use Rattle.std.proofs.Common.{◌≡◌, ◌≤◌, ◌<◌, ℕ, true, false, List, length, Option, Some, None, refl, sym, ap, subst, ◌∙◌, inl, inr, arith, nat_le}
use Rattle.std.specs.Option.{option_and_then}
use Rattle.std.proofs.lemmas.Bool.Decides.{nat_tests}
use Rattle.uh_base.specs.Told.{FileMap, HasFile, Lacks, IsLonger}
use Rattle.host_engine.specs.Plans.{Wanted, Plan, Reads, Over, within, file_of, missing_from, first_missing, IsFile, Leads, IsRead, IsMissing}

pub here : (told : Option FileMap) (plan : Plan) → Leads told plan plan
unfolding Leads
here told (Reads wanted next) = inl refl
here told (Over answer) = refl

-- one file more
pub onward : (told : Option FileMap) (wanted : Wanted) (next : List ℕ → Plan) (bytes : List ℕ) (rest : Plan) → IsFile told wanted bytes → Leads told (next bytes) rest → Leads told (Reads wanted next) rest
unfolding Leads
onward told wanted next bytes rest is h = inr (bytes, is, h)

pub trans : (told : Option FileMap) (plan mid rest : Plan) → Leads told plan mid → Leads told mid rest → Leads told plan rest
unfolding Leads
trans told (Reads wanted next) mid rest (inl same) more = subst (λ (p : Plan). Leads told p rest) same more
trans told (Reads wanted next) mid rest (inr h) more = inr (h.0, h.1, trans told (next h.0) mid rest h.2 more)
trans told (Over answer) mid rest h more = subst (λ (p : Plan). Leads told p rest) h more

pub read_past : (told : Option FileMap) (plan rest : Plan) (wanted : Wanted) → Leads told plan rest → IsRead told rest wanted → IsRead told plan wanted
read_past told plan rest wanted leads h = (h.0, trans told plan rest (Reads wanted h.0) leads h.1)

-- ---- the first file that is missing

pub missing_same : (files : FileMap) (plan rest : Plan) → Leads (Some files) plan rest → first_missing files plan ≡ first_missing files rest
unfolding Leads first_missing
missing_same files (Reads wanted next) rest (inl same) = ap (first_missing files) (sym same)
missing_same files (Reads wanted next) rest (inr h) = ap (missing_from wanted (λ bytes. first_missing files (next bytes))) h.1 ∙ missing_same files (next h.0) rest h.2
missing_same files (Over answer) rest h = ap (first_missing files) (sym h)

pub missing_past : (told : Option FileMap) (plan rest : Plan) (wanted : Wanted) → Leads told plan rest → IsMissing told rest wanted → IsMissing told plan wanted
missing_past None plan rest wanted leads h = tt
missing_past (Some files) plan rest wanted leads h = missing_same files plan rest leads ∙ h

missing_here : (files : FileMap) (wanted : Wanted) (next : List ℕ → Plan) → file_of files wanted ≡ None → first_missing files (Reads wanted next) ≡ Some wanted
unfolding first_missing
missing_here files wanted next h = ap (missing_from wanted (λ bytes. first_missing files (next bytes))) h

pub lacked : (told : Option FileMap) (wanted : Wanted) (next : List ℕ → Plan) → Lacks told wanted.name → IsMissing told (Reads wanted next) wanted
lacked None wanted next h = absurd h
lacked (Some files) wanted next h = missing_here files wanted next (ap (option_and_then (within wanted.most)) h)

pub too_long : (told : Option FileMap) (wanted : Wanted) (next : List ℕ → Plan) → IsLonger told wanted.name wanted.most → IsMissing told (Reads wanted next) wanted
too_long None wanted next h = tt
too_long (Some files) wanted next h =
    let above : wanted.most < length h.0 = h.2 in
    let test : nat_le (length h.0) wanted.most ≡ false = grind (arith, nat_tests) in
    let none : within wanted.most h.0 ≡ None = rw test refl in
    missing_here files wanted next (ap (option_and_then (within wanted.most)) h.1 ∙ none)

pub is_file : (told : Option FileMap) (wanted : Wanted) (bytes : List ℕ) → HasFile told wanted.name bytes → length bytes ≤ wanted.most → IsFile told wanted bytes
is_file None wanted bytes has short = short
is_file (Some files) wanted bytes has short =
    let test : nat_le (length bytes) wanted.most ≡ true = grind (arith, nat_tests) in
    let whole : within wanted.most bytes ≡ Some bytes = rw test refl in
    ap (option_and_then (within wanted.most)) has ∙ whole
