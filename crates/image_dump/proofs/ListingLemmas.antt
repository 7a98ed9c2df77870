-- The listings of sections, one after the other.
use Rattle.std.proofs.Common.{◌≡◌, ℕ, ◌+◌, ◌<◌, ◌≤◌, List, [], ◌++◌, length, drop, get_or, true, sym, ap, ◌∙◌, arith}
use Rattle.std.proofs.lemmas.Grind.{common_steps, flat_map-append}
use Rattle.std.proofs.lemmas.List.{at_drop_more}
use Rattle.pe_image.specs.declared.image.Section.{Section}
use Rattle.record_text.specs.declared.image_line.ImageLine.TheVariants as lines
use Rattle.image_dump.specs.Code.{listing}
use Rattle.image_dump.specs.Listings.{code_of, listed, all_listed}
use Rattle.image_dump.specs.Reports.{line_bytes, bytes_of, is_executed}

pub listed_code : (placed : List ℕ) (number : ℕ) (section : Section) (code : List ℕ) → is_executed section ≡ true → code ≡ code_of placed section
    → bytes_of (listed placed number section) ≡ line_bytes (lines.Listed number) ++ listing section.at code
unfolding listed
listed_code placed number section code is same = rw is (ap (λ (l : List ℕ). line_bytes (lines.Listed number) ++ listing section.at l) (sym same))

pub next_listed : (placed : List ℕ) (number : ℕ) (sections seen : List Section) (i : ℕ) (d : Section) → seen ≡ sections → i < length sections
    → bytes_of (all_listed placed number (drop i sections)) ≡ bytes_of (listed placed number (get_or seen i d)) ++ bytes_of (all_listed placed (number + 1) (drop (i + 1) sections))
unfolding all_listed
next_listed placed number sections seen i d same below =
    at_drop_more (λ (l : List Section). bytes_of (all_listed placed number l)) sections i d below
    ∙ flat_map-append line_bytes (listed placed number (get_or sections i d)) (all_listed placed (number + 1) (drop (i + 1) sections))
    ∙ ap (λ (l : List Section). bytes_of (listed placed number (get_or l i d)) ++ bytes_of (all_listed placed (number + 1) (drop (i + 1) sections))) (sym same)

pub all_done : (placed : List ℕ) (number : ℕ) (sections : List Section) (i : ℕ) → length sections ≤ i → bytes_of (all_listed placed number (drop i sections)) ≡ []
unfolding all_listed
all_done placed number sections i over =
    let none : drop i sections ≡ [] = grind (arith, common_steps) in
    ap (λ (l : List Section). bytes_of (all_listed placed number l)) none
