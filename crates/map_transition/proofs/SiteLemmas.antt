-- Sites that are moved, one after another.
use Rattle.std.proofs.Common.{◌≡◌, ℕ, zero, suc, ◌+◌, ◌*◌, ◌-◌, ◌^◌, ◌≤◌, ◌<◌, Bool, true, false, List, [], ◌∷◌, length, get_or, take, drop, ◌++◌, append_assoc, append-nil, refl, ap, ◌∙◌, arith, inl, inr}
use Rattle.std.specs.Prelude.{◌==◌, map, if◌then◌else◌}
use Rattle.std.specs.List.{AllPairs}
use Rattle.std.proofs.lemmas.Bool.Decides.{nat_tests}
use Rattle.std.proofs.lemmas.List.{drop_more, drop_all, get_or-drop, length-drop, take_more_set, take_all, get_or-append_right, length-map, length-take}
use Rattle.std.proofs.Math.ListN.{set}
use Rattle.uh_base.specs.Bytes.{number_at}
use Rattle.base_reloc.specs.declared.site.Site.{Site}
use Rattle.base_reloc.specs.Sites.{width_of, AreApart}
use Rattle.map_faults.specs.Grounds.{WordsFit}
use Rattle.map_transition.specs.Fixes.{has_byte, fixed_at, fixed_byte, marks_of}

pub words_long : (sites : List Site) (words : List ℕ) → WordsFit sites words → length words ≡ length sites
unfolding WordsFit
words_long [] [] h = refl
words_long [] (word ∷ words) h = absurd h
words_long (site ∷ sites) [] h = absurd h
words_long (site ∷ sites) (word ∷ words) h = ap suc (words_long sites words h.1)

pub word_fits : (sites : List Site) (words : List ℕ) (i : ℕ) (d : Site) → WordsFit sites words → i < length sites → get_or words i 0 < 2 ^ (8 * width_of (get_or sites i d).kind)
unfolding WordsFit
word_fits [] words i d h l = absurd (omega arith)
word_fits (site ∷ sites) [] i d h l = absurd h
word_fits (site ∷ sites) (word ∷ words) zero d h l = h.0
word_fits (site ∷ sites) (word ∷ words) (suc i) d h l = word_fits sites words i d h.1 (omega arith)

-- none of the sites has a byte
abbrev pub NoneHas : ℕ → ℕ → List Site → Type 0
NoneHas base at [] = Unit {0}
NoneHas base at (site ∷ sites) = (has_byte base site at ≡ false) × NoneHas base at sites

away : (base at : ℕ) (a b : Site) → AreApart a b → has_byte base a at ≡ true → has_byte base b at ≡ false
away base at a b (inl before) h = grind (arith, nat_tests)
away base at a b (inr behind) h = grind (arith, nat_tests)

none_has : (base at : ℕ) (site d : Site) (others : List Site) → ((k : ℕ) → k < length others → AreApart site (get_or others k d)) → has_byte base site at ≡ true → NoneHas base at others
none_has base at site d [] h b = tt
none_has base at site d (other ∷ others) h b = (away base at site other (h 0 (omega arith)) b, none_has base at site d others (λ k l. h (suc k) (omega arith)) b)

pub stays_by : (base by : ℕ) (sites : List Site) (words : List ℕ) (marks : List Bool) (at byte : ℕ) → NoneHas base at sites → fixed_byte base by sites words marks at byte ≡ byte
unfolding fixed_byte
stays_by base by [] words marks at byte h = refl
stays_by base by (site ∷ sites) [] marks at byte h = refl
stays_by base by (site ∷ sites) (word ∷ words) [] at byte h = refl
stays_by base by (site ∷ sites) (word ∷ words) (same ∷ marks) at byte h = rw h.0 (stays_by base by sites words marks at byte h.1)

at_site : (base by : ℕ) (site : Site) (sites : List Site) (word : ℕ) (words : List ℕ) (same : Bool) (marks : List Bool) (at old new total : ℕ) (b : Bool) → has_byte base site at ≡ b
    → (has_byte base site at ≡ true → NoneHas base at sites) → new ≡ fixed_at base by site word same at old
    → (if b then fixed_at base by site word same at old else fixed_byte base by sites words marks at old) ≡ total → fixed_byte base by sites words marks at new ≡ total
at_site base by site sites word words same marks at old new total true e none n h = stays_by base by sites words marks at new (none e) ∙ n ∙ h
at_site base by site sites word words true marks at old new total false e none n h = let same_byte : new ≡ old = rw e at n in rw same_byte h
at_site base by site sites word words false marks at old new total false e none n h = rw n h

next_site : (base by : ℕ) (site : Site) (sites : List Site) (word : ℕ) (words : List ℕ) (same : Bool) (marks : List Bool) (at old new total : ℕ)
    → (has_byte base site at ≡ true → NoneHas base at sites) → new ≡ fixed_at base by site word same at old
    → fixed_byte base by (site ∷ sites) (word ∷ words) (same ∷ marks) at old ≡ total → fixed_byte base by sites words marks at new ≡ total
unfolding fixed_byte
next_site base by site sites word words same marks at old new total none n h = at_site base by site sites word words same marks at old new total (has_byte base site at) refl none n h

-- One site more is moved.
pub sites_next : (base by : ℕ) (sites : List Site) (words : List ℕ) (marks : List Bool) (i : ℕ) (d : Site) (e : ℕ) (f : Bool) (at old new total : ℕ)
    → AllPairs AreApart sites → length words ≡ length sites → length marks ≡ length sites → i < length sites
    → new ≡ fixed_at base by (get_or sites i d) (get_or words i e) (get_or marks i f) at old
    → fixed_byte base by (drop i sites) (drop i words) (drop i marks) at old ≡ total
    → fixed_byte base by (drop (i + 1) sites) (drop (i + 1) words) (drop (i + 1) marks) at new ≡ total
sites_next base by sites words marks i d e f at old new total apart w m l n h =
    let a : drop i sites ≡ get_or sites i d ∷ drop (i + 1) sites = drop_more sites i d l in
    let b : drop i words ≡ get_or words i e ∷ drop (i + 1) words = drop_more words i e (omega arith) in
    let c : drop i marks ≡ get_or marks i f ∷ drop (i + 1) marks = drop_more marks i f (omega arith) in
    let all : fixed_byte base by (get_or sites i d ∷ drop (i + 1) sites) (get_or words i e ∷ drop (i + 1) words) (get_or marks i f ∷ drop (i + 1) marks) at old ≡ total = rw (a, b, c) at h in
    next_site base by (get_or sites i d) (drop (i + 1) sites) (get_or words i e) (drop (i + 1) words) (get_or marks i f) (drop (i + 1) marks) at old new total
    (none_has base at (get_or sites i d) d (drop (i + 1) sites) (λ k below. let long : length (drop (i + 1) sites) ≡ length sites - (i + 1) = length-drop (i + 1) sites in rw (get_or-drop (i + 1) sites k d) (apart i (i + 1 + k) d (omega arith) (omega arith)))) n all

pub sites_done : (base by : ℕ) (sites : List Site) (words : List ℕ) (marks : List Bool) (i at old total : ℕ) → length sites ≤ i
    → fixed_byte base by (drop i sites) (drop i words) (drop i marks) at old ≡ total → old ≡ total
unfolding fixed_byte
sites_done base by sites words marks i at old total l h = rw (drop_all i sites l) at h

-- ---- marks

-- One site more is marked.
pub marks_next : (bytes : ℕ → ℕ) (base : ℕ) (sites : List Site) (words : List ℕ) (marks : List Bool) (i : ℕ) (d : Site) (same : Bool) (total : List Bool) → i < length marks → length marks ≡ length sites → length words ≡ length sites
    → same ≡ (number_at bytes (base + (get_or sites i d).at) (width_of (get_or sites i d).kind) == get_or words i 0)
    → take i marks ++ marks_of bytes base (drop i sites) (drop i words) ≡ total → take (i + 1) (set marks i same) ++ marks_of bytes base (drop (i + 1) sites) (drop (i + 1) words) ≡ total
unfolding marks_of
marks_next bytes base sites words marks i d same total l m w is h =
    let a : drop i sites ≡ get_or sites i d ∷ drop (i + 1) sites = drop_more sites i d (omega arith) in
    let b : drop i words ≡ get_or words i 0 ∷ drop (i + 1) words = drop_more words i 0 (omega arith) in
    let all : take i marks ++ (number_at bytes (base + (get_or sites i d).at) (width_of (get_or sites i d).kind) == get_or words i 0) ∷ marks_of bytes base (drop (i + 1) sites) (drop (i + 1) words) ≡ total = rw (a, b) at h in
    rw (take_more_set marks i same l, append_assoc, is) all

pub marks_done : (bytes : ℕ → ℕ) (base : ℕ) (sites : List Site) (words : List ℕ) (marks : List Bool) (i : ℕ) (total : List Bool) → length marks ≤ i → length marks ≡ length sites
    → take i marks ++ marks_of bytes base (drop i sites) (drop i words) ≡ total → marks ≡ total
unfolding marks_of
marks_done bytes base sites words marks i total l m h =
    let none : drop i sites ≡ [] = drop_all i sites (omega arith) in
    let all : take i marks ≡ marks = take_all i marks l in
    rw (none, all, append-nil) at h

-- where a list is changed item by item, the next item is as it was
pub still_there : {X : Type 0} (f : X → X) (xs ys : List X) (i : ℕ) (d : X) → i < length xs → ys ≡ map f (take i xs) ++ drop i xs → get_or ys i d ≡ get_or xs i d
still_there f xs ys i d l e =
    let long : length (map f (take i xs)) ≡ i = simp (length-map, length-take) (omega arith) in
    let here : i - i ≡ 0 = omega arith in
    let there : i + 0 ≡ i = omega arith in
    rw e (get_or-append_right (map f (take i xs)) (drop i xs) i i d long (omega arith) ∙ rw here (get_or-drop i xs 0 d ∙ rw there refl))
