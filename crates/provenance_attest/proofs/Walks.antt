-- Walks over numbers and lists.
use Rattle.std.proofs.Common.{◌≡◌, ℕ, zero, suc, ◌≤◌, ◌<◌, ◌+◌, ◌^◌, arith, Bool, true, false, refl, sym, ap, ◌∙◌, Option, Some, None, List, [], ◌∷◌, ◌++◌, append-nil, length}
use Rattle.std.specs.Prelude.{◌&&◌, is_none, if◌then◌else◌}
use Rattle.uh_base.specs.Bytes.{first_refused, next}
use Rattle.base_reloc.specs.declared.site.Site.{Site}
use Rattle.address_view.specs.Seen.{all_pass}
use Rattle.prov_cert.specs.declared.cert.CertSpan.{CertSpan}
use Rattle.prov_layout.specs.Offsets.{every}
use Rattle.provenance_check.specs.declared.rule.Rule.{Rule}
use Rattle.provenance_attest.specs.Sites.{site_spans, site_targets}
use Rattle.provenance_attest.specs.Rules.{first_among, or_behind}

-- a range of addresses that doesn't wrap passes a test where each of its numbers does
pub same_range : (test : ℕ → Bool) (at n : ℕ) → at + n < 2 ^ 64 → all_pass test at n ≡ every test at 1 n
unfolding first_refused every
same_range test at zero l = refl
same_range test at (suc n) l =
    let z : next at ≡ at + 1 = omega (arith, l) in
    let h : all_pass test (next at) n ≡ every test (at + 1) 1 n = ap (λ a. all_pass test a n) z ∙ same_range test (at + 1) n (omega (arith, l)) in
    by (test at) h
  where
    by : (b : Bool) → all_pass test (next at) n ≡ every test (at + 1) 1 n → is_none (if b then first_refused test (next at) n else Some at) ≡ (b && every test (at + 1) 1 n)
    by true h = h
    by false h = refl

-- the first of which a rule fails
found_at : (rule : ℕ → Option Rule) (i n m : ℕ) (x : Rule) → m < n → ((k : ℕ) → k < m → rule (i + k) ≡ None) → rule (i + m) ≡ Some x → first_among rule i n ≡ Some (x, i + m)
unfolding first_among
found_at rule i zero m x l before e = absurd (omega (arith, l))
found_at rule i (suc n) zero x l before e =
    let z : i + 0 ≡ i = omega arith in
    let h : rule i ≡ Some x = ap rule (sym z) ∙ e in
    rw (h, z) refl
found_at rule i (suc n) (suc m) x l before e =
    let z : i + 0 ≡ i = omega arith in
    let s : (i + 1) + m ≡ i + suc m = omega arith in
    let h : rule i ≡ None = ap rule (sym z) ∙ before 0 (omega arith) in
    rw h (found_at rule (i + 1) n m x (omega (arith, l)) (λ k b. let t : (i + 1) + k ≡ i + suc k = omega arith in ap rule t ∙ before (suc k) (omega (arith, b))) (ap rule s ∙ e) ∙ ap (λ k. Some (x, k)) s)

none_found : (rule : ℕ → Option Rule) (i n : ℕ) → ((k : ℕ) → k < n → rule (i + k) ≡ None) → first_among rule i n ≡ None
unfolding first_among
none_found rule i zero before = refl
none_found rule i (suc n) before =
    let z : i + 0 ≡ i = omega arith in
    let h : rule i ≡ None = ap rule (sym z) ∙ before 0 (omega arith) in
    rw h (none_found rule (i + 1) n (λ k b. let t : (i + 1) + k ≡ i + suc k = omega arith in ap rule t ∙ before (suc k) (omega (arith, b))))

pub found_first : (rule : ℕ → Option Rule) (n m : ℕ) (x : Rule) → m < n → ((k : ℕ) → k < m → rule k ≡ None) → rule m ≡ Some x → first_among rule 0 n ≡ Some (x, m)
found_first rule n m x l before e =
    let z : 0 + m ≡ m = omega arith in
    found_at rule 0 n m x l (λ k b. let y : 0 + k ≡ k = omega arith in ap rule y ∙ before k b) (ap rule z ∙ e) ∙ ap (λ k. Some (x, k)) z

pub none_at_all : (rule : ℕ → Option Rule) (n : ℕ) → ((k : ℕ) → k < n → rule k ≡ None) → first_among rule 0 n ≡ None
none_at_all rule n before = none_found rule 0 n (λ k b. let y : 0 + k ≡ k = omega arith in ap rule y ∙ before k b)

-- none fails at each where none is found
behind_none : (rule : ℕ → Option Rule) (i n : ℕ) (o : Option Rule) (k : ℕ) → rule i ≡ o → or_behind o i (first_among rule (i + 1) n) ≡ None → k < suc n
    → ((j : ℕ) → first_among rule (i + 1) n ≡ None → j < n → rule ((i + 1) + j) ≡ None) → rule (i + k) ≡ None
behind_none rule i n (Some x) k f e l rest = absurd cc
behind_none rule i n None zero f e l rest = let z : i + 0 ≡ i = omega arith in ap rule z ∙ f
behind_none rule i n None (suc k) f e l rest = let z : i + suc k ≡ (i + 1) + k = omega arith in ap rule z ∙ rest k e (omega (arith, l))

at_each : (rule : ℕ → Option Rule) (i n k : ℕ) → first_among rule i n ≡ None → k < n → rule (i + k) ≡ None
unfolding first_among
at_each rule i zero k e l = absurd (omega (arith, l))
at_each rule i (suc n) k e l = behind_none rule i n (rule i) k refl e l (λ j f m. at_each rule (i + 1) n j f m)

pub none_at : (rule : ℕ → Option Rule) (n k : ℕ) → first_among rule 0 n ≡ None → k < n → rule k ≡ None
none_at rule n k e l = let z : k ≡ 0 + k = omega arith in ap rule z ∙ at_each rule 0 n k e l

-- where no word is left no site is
pub no_span_left : (bytes : ℕ → ℕ) (base size : ℕ) (sites : List Site) (rest : List ℕ) (before total : List CertSpan) → length rest ≡ 0 → before ++ site_spans bytes base size sites rest ≡ total → before ≡ total
unfolding site_spans
no_span_left bytes base size [] rest before total e h = rw append-nil at h
no_span_left bytes base size (site ∷ sites) [] before total e h = rw append-nil at h
no_span_left bytes base size (site ∷ sites) (word ∷ words) before total e h = absurd (omega (arith, e))

pub no_target_left : (bytes : ℕ → ℕ) (base size : ℕ) (sites : List Site) (rest : List ℕ) (before total : List ℕ) → length rest ≡ 0 → before ++ site_targets bytes base size sites rest ≡ total → before ≡ total
unfolding site_targets
no_target_left bytes base size [] rest before total e h = rw append-nil at h
no_target_left bytes base size (site ∷ sites) [] before total e h = rw append-nil at h
no_target_left bytes base size (site ∷ sites) (word ∷ words) before total e h = absurd (omega (arith, e))

-- there are no more spans than sites
pub spans_few : (bytes : ℕ → ℕ) (base size : ℕ) (sites : List Site) (words : List ℕ) → length (site_spans bytes base size sites words) ≤ length sites
unfolding site_spans
spans_few bytes base size [] words = omega arith
spans_few bytes base size (site ∷ sites) [] = omega arith
spans_few bytes base size (site ∷ sites) (word ∷ words) = let h = spans_few bytes base size sites words in omega (arith, h)
