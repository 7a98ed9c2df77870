-- Lines that were appended, and those that are left.
use Rattle.std.proofs.Common.{◌≡◌, ℕ, ◌+◌, ◌<◌, ◌≤◌, List, [], ◌++◌, ◌∷◌, length, drop, get_or, refl, sym, ap, ◌∙◌, append_assoc, append-nil, arith}
use Rattle.std.proofs.lemmas.Grind.{common_steps}
use Rattle.std.proofs.lemmas.List.{at_drop_more}
use Rattle.pe_image.specs.declared.image.Section.{Section}
use Rattle.base_reloc.specs.declared.site.Site.{Site}
use Rattle.image_dump.specs.Reports.{line_bytes, bytes_of, section_line, section_lines, site_line, sites_text}

-- one line more was appended
pub one_more : (all now line rest new : List ℕ) → all ≡ now ++ (line ++ rest) → new ≡ now ++ line → all ≡ new ++ rest
one_more all now line rest new h e = h ∙ sym (append_assoc now line rest) ∙ ap (λ (t : List ℕ). t ++ rest) (sym e)

-- nothing stands in front
pub nothing_before : (now left piece more : List ℕ) → now ≡ [] → now ++ left ≡ piece ++ more → left ≡ piece ++ more
nothing_before now left piece more e h = sym (ap (λ (t : List ℕ). t ++ left) e) ∙ h

none_left : {X : Type 0} (xs : List X) (i : ℕ) → length xs ≤ i → drop i xs ≡ []
none_left xs i h = grind (arith, common_steps)

-- ---- sections

pub section_on : (all now new : List ℕ) (number : ℕ) (sections : List Section) (i : ℕ) (d : Section) → i < length sections
    → all ≡ now ++ bytes_of (section_lines number (drop i sections)) → new ≡ now ++ line_bytes (section_line number (get_or sections i d)) → all ≡ new ++ bytes_of (section_lines (number + 1) (drop (i + 1) sections))
unfolding section_lines
section_on all now new number sections i d below h e =
    let next : bytes_of (section_lines number (drop i sections)) ≡ line_bytes (section_line number (get_or sections i d)) ++ bytes_of (section_lines (number + 1) (drop (i + 1) sections)) = at_drop_more (λ (l : List Section). bytes_of (section_lines number l)) sections i d below in
    one_more all now (line_bytes (section_line number (get_or sections i d))) (bytes_of (section_lines (number + 1) (drop (i + 1) sections))) new (h ∙ ap (λ (t : List ℕ). now ++ t) next) e

pub sections_end : (all now : List ℕ) (number : ℕ) (sections : List Section) (i : ℕ) → length sections ≤ i → all ≡ now ++ bytes_of (section_lines number (drop i sections)) → now ≡ all
unfolding section_lines
sections_end all now number sections i over h =
    let none : bytes_of (section_lines number (drop i sections)) ≡ [] = ap (λ (l : List Section). bytes_of (section_lines number l)) (none_left sections i over) in
    sym (h ∙ ap (λ (t : List ℕ). now ++ t) none ∙ append-nil now)

-- ---- sites

pub site_on : (all now new : List ℕ) (sites : List Site) (count i : ℕ) (d : Site) → count ≡ i → i < length sites
    → all ≡ now ++ sites_text (drop i sites) → new ≡ now ++ line_bytes (site_line (get_or sites i d)) → all ≡ new ++ sites_text (drop (count + 1) sites)
unfolding sites_text
site_on all now new sites count i d same below h e =
    let next : sites_text (drop i sites) ≡ line_bytes (site_line (get_or sites i d)) ++ sites_text (drop (i + 1) sites) = at_drop_more sites_text sites i d below in
    one_more all now (line_bytes (site_line (get_or sites i d))) (sites_text (drop (i + 1) sites)) new (h ∙ ap (λ (t : List ℕ). now ++ t) next) e
    ∙ ap (λ k. new ++ sites_text (drop (k + 1) sites)) (sym same)

pub no_sites : (sites : List Site) → length sites ≡ 0 → sites_text sites ≡ []
unfolding sites_text
no_sites [] h = refl
no_sites (site ∷ sites) h = absurd (omega (arith, h))
