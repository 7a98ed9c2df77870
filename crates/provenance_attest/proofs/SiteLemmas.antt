-- The sites of an image, as they are laid, are in the order of their places.
use Rattle.std.proofs.Common.{◌≡◌, ℕ, zero, suc, ◌≤◌, ◌<◌, ◌+◌, arith, false, refl, sym, ap, subst, Option, Some, None, List, [], ◌∷◌, get_or, inl, inr}
use Rattle.std.specs.Prelude.{◌⊎◌, ◌&&◌, nat_lt, slice_get, slice_index}
use Rattle.std.specs.List.{AllPairs}
use Rattle.std.proofs.lemmas.Bool.Decides.{nat_tests}
use Rattle.std.proofs.lemmas.Option.{get_or_from_slice_get, slice_get_within}
use Rattle.base_reloc.specs.declared.site.Site.{Site}
use Rattle.base_reloc.specs.declared.site.SiteKind.{SiteKind}
use Rattle.base_reloc.specs.declared.site.SiteKind.TheVariants.{Dir64, Highlow, High20}
use Rattle.base_reloc.specs.Sites.{AreApart, width_of}
use Rattle.map_faults.specs.Grounds.{Kept}
use Rattle.prov_cert.specs.declared.cert.CertSpan.{CertSpan}
use Rattle.prov_layout.specs.Pieces.{AreOrdered, IsProperClass}
use Rattle.prov_layout.specs.Laid.{class_of, spans_meet}
use Rattle.prov_layout.specs.Laws.{IsProperSpan, LaidIsOrdered}
use Rattle.provenance_tables.specs.Regions.{size_of}
use Rattle.provenance_attest.specs.Sites.{class_by, named_by, site_spans, site_targets, sites_laid, span_of}

-- a span is that of the site with its number
record FromSite (sites : List Site) (i : ℕ) (s : CertSpan) : Type 0 where
  site : Site
  target : Option ℕ
  there : slice_get sites i ≡ Some site
  is : s ≡ span_of site target

from_site : (bytes : ℕ → ℕ) (base size : ℕ) (sites : List Site) (words : List ℕ) (i : ℕ) (s : CertSpan) → slice_get (site_spans bytes base size sites words) i ≡ Some s → FromSite sites i s
unfolding site_spans
from_site bytes base size [] words i s e = absurd cc
from_site bytes base size (site ∷ sites) [] i s e = absurd cc
from_site bytes base size (site ∷ sites) (word ∷ words) zero s e = let same : span_of site (named_by bytes base size site word) ≡ s = cc in record { site = site; target = named_by bytes base size site word; there = refl; is = sym same }
from_site bytes base size (site ∷ sites) (word ∷ words) (suc i) s e =
    let h = from_site bytes base size sites words i s e in
    record { site = h.site; target = h.target; there = h.there; is = h.is }

proper_by : (target : Option ℕ) → IsProperClass (class_of 0 0 (class_by target))
proper_by None = tt
proper_by (Some target) = record { steps = omega arith; order = omega arith; whole = grind arith }

off : (a b : Site) → AreApart a b → width_of a.kind ≡ 4 → width_of b.kind ≡ 4 → (nat_lt a.at (b.at + 4) && nat_lt b.at (a.at + 4)) ≡ false
off a b (inl before) u v = let l : a.at + 4 ≤ b.at = omega (arith, before, u) in grind (arith, nat_tests)
off a b (inr behind) u v = let l : b.at + 4 ≤ a.at = omega (arith, behind, v) in grind (arith, nat_tests)

-- sites that share no byte, as spans
apart_spans : (a b : Site) (x y : Option ℕ) → AreApart a b → 0 < (span_of a x).len → 0 < (span_of b y).len → spans_meet (span_of a x) (span_of b y) ≡ false
apart_spans a b x y h l m = by a.kind b.kind refl refl
  where
    by : (p q : SiteKind) → a.kind ≡ p → b.kind ≡ q → spans_meet (span_of a x) (span_of b y) ≡ false
    by Dir64 q e f = let z : (span_of a x).len ≡ 0 = rw e refl in absurd (omega (arith, l, z))
    by Highlow q e f = let z : (span_of a x).len ≡ 0 = rw e refl in absurd (omega (arith, l, z))
    by High20 Dir64 e f = let z : (span_of b y).len ≡ 0 = rw f refl in absurd (omega (arith, m, z))
    by High20 Highlow e f = let z : (span_of b y).len ≡ 0 = rw f refl in absurd (omega (arith, m, z))
    by High20 High20 e f =
        let u : width_of a.kind ≡ 4 = ap width_of e in
        let v : width_of b.kind ≡ 4 = ap width_of f in
        let w : (nat_lt a.at (b.at + 4) && nat_lt b.at (a.at + 4)) ≡ false = off a b h u v in
        rw (e, f) w

module _ (bytes : ℕ → ℕ) (base size : ℕ) (sites : List Site) (words : List ℕ) (apart : AllPairs AreApart sites) where
  is_proper : (i : ℕ) (s : CertSpan) → slice_get (site_spans bytes base size sites words) i ≡ Some s → IsProperSpan s
  is_proper i s e = let h = from_site bytes base size sites words i s e in subst IsProperSpan (sym h.is) (proper_by h.target)

  is_first : (i : ℕ) (s : CertSpan) → slice_get (site_spans bytes base size sites words) i ≡ Some s → (s.region ≡ 0) ⊎ (5 < s.region)
  is_first i s e = let h = from_site bytes base size sites words i s e in inl (ap (λ (x : CertSpan). x.region) h.is)

  none_meet : (i j : ℕ) (s t : CertSpan) → slice_get (site_spans bytes base size sites words) i ≡ Some s → slice_get (site_spans bytes base size sites words) j ≡ Some t → i < j → 0 < s.len → 0 < t.len → spans_meet s t ≡ false
  none_meet i j s t e f l a b =
      let h = from_site bytes base size sites words i s e in
      let k = from_site bytes base size sites words j t f in
      let p : AreApart (get_or sites i h.site) (get_or sites j h.site) = apart i j h.site l (slice_get_within sites j k.site k.there) in
      let q : AreApart h.site k.site = subst (λ (x : Site). AreApart x k.site) (get_or_from_slice_get sites i h.site h.site h.there) (subst (λ (y : Site). AreApart (get_or sites i h.site) y) (get_or_from_slice_get sites j k.site h.site k.there) p) in
      let x : 0 < (span_of h.site h.target).len = subst (λ (z : CertSpan). 0 < z.len) h.is a in
      let y : 0 < (span_of k.site k.target).len = subst (λ (z : CertSpan). 0 < z.len) k.is b in
      rw (h.is, k.is) (apart_spans h.site k.site h.target k.target q x y)

pub sites_ordered : (bytes : ℕ → ℕ) (image : Kept) → AllPairs AreApart image.sites → LaidIsOrdered → AreOrdered (sites_laid bytes image)
sites_ordered bytes image apart law =
    law (slice_index (site_targets bytes image.base (size_of image) image.sites image.words)) (site_spans bytes image.base (size_of image) image.sites image.words)
    (is_proper bytes image.base (size_of image) image.sites image.words apart) (is_first bytes image.base (size_of image) image.sites image.words apart) (none_meet bytes image.base (size_of image) image.sites image.words apart)
