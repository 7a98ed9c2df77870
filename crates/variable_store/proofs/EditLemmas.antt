-- Lists of variables behind an edit, and what they cost.
use Rattle.std.proofs.Common.{◌≡◌, ℕ, zero, suc, ◌+◌, ◌-◌, ◌<◌, ◌≤◌, List, [], ◌∷◌, length, get_or, sym, ap, ◌∙◌, arith}
use Rattle.std.specs.Prelude.{remove, slice_set}
use Rattle.std.proofs.lemmas.List.Sums.{sum_by-cons, sum_by-set, sum_by-remove}
use Rattle.variable_store.specs.Entries.{Entry, cost, total}
use Rattle.variable_store.specs.Sets.{changed_at, written}
use Rattle.variable_store.specs.Valid.{AreEntries, AreVariables}
use Rattle.variable_store.proofs.NameLemmas.{apart_less}

-- no variable costs more than all do
pub within_total : (entries : List Entry) (i : ℕ) (d : Entry) → i < length entries → cost (get_or entries i d) ≤ total entries
within_total [] i d h = absurd (omega arith)
within_total (e ∷ es) zero d h = omega (arith, sum_by-cons cost e es)
within_total (e ∷ es) (suc i) d h = omega (arith, sum_by-cons cost e es, within_total es i d (omega arith))

pub set_is : (change : Entry → Entry) (entries : List Entry) (i : ℕ) (e y : Entry) → i < length entries → e ≡ get_or entries i e → y ≡ change e → slice_set entries i y ≡ changed_at change entries i
unfolding changed_at
set_is change [] i e y h is w = absurd (omega arith)
set_is change (x ∷ xs) zero e y h is w = ap (λ z. z ∷ xs) (w ∙ ap change is)
set_is change (x ∷ xs) (suc i) e y h is w = ap (λ zs. x ∷ zs) (set_is change xs i e y (omega arith) is w)

each_less : (entries : List Entry) (i : ℕ) → AreEntries entries → AreEntries (remove entries i)
each_less [] zero all = tt
each_less [] (suc i) all = tt
each_less (e ∷ es) zero all = all.1
each_less (e ∷ es) (suc i) all = (all.0, each_less es i all.1)

-- a variable is taken away
pub removed : (entries : List Entry) (i used taken : ℕ) (e : Entry) → AreVariables entries → used ≡ total entries → i < length entries → e ≡ get_or entries i e → taken ≡ cost e
    → AreVariables (remove entries i) × (used - taken ≡ total (remove entries i))
removed entries i used taken e valid is h at costs =
    let less = sum_by-remove cost entries i e h in
    let same : cost (get_or entries i e) ≡ cost e = ap cost (sym at) in
    let room = valid.room in
    (record { each = each_less entries i valid.each; apart = apart_less entries i valid.apart; room = omega arith }, omega arith)

-- what is used behind a change
pub used_changed : (entries : List Entry) (i used before after : ℕ) (e y : Entry) → used ≡ total entries → i < length entries → e ≡ get_or entries i e → before ≡ cost e → after ≡ cost y
    → used - before + after ≡ total (slice_set entries i y)
used_changed entries i used before after e y is h at costs now =
    let more = sum_by-set cost entries i y e h in
    let same : cost (get_or entries i e) ≡ cost e = ap cost (sym at) in
    let some = within_total entries i e h in
    omega arith

-- the cost of a changed variable is within that of all
pub changed_within : (entries now : List Entry) (attributes : ℕ) (bytes : List ℕ) (i : ℕ) (e y : Entry) → entries ≡ now → i < length entries → e ≡ get_or entries i e → y ≡ written attributes bytes e
    → AreVariables (changed_at (written attributes bytes) now i) → cost y ≤ 65_536
changed_within entries now attributes bytes i e y same h at w valid =
    let is = set_is (written attributes bytes) entries i e y h at w in
    let room : total (slice_set entries i y) ≤ 65_536 = rw (is, same) valid.room in
    let more = sum_by-set cost entries i y e h in
    let here : cost (get_or entries i e) ≡ cost e = ap cost (sym at) in
    let some = within_total entries i e h in
    omega arith

pub changed_valid : (entries now : List Entry) (attributes : ℕ) (bytes : List ℕ) (i used before after : ℕ) (e y : Entry) → entries ≡ now → i < length entries → e ≡ get_or entries i e → y ≡ written attributes bytes e
    → AreVariables (changed_at (written attributes bytes) now i) → used ≡ total entries → before ≡ cost e → after ≡ cost y
    → AreVariables (slice_set entries i y) × (used - before + after ≡ total (slice_set entries i y))
changed_valid entries now attributes bytes i used before after e y same h at w valid is costs now' =
    let there = set_is (written attributes bytes) entries i e y h at w in
    (rw (there, same) valid, used_changed entries i used before after e y is h at costs now')

-- each variable costs something
pub few : (entries : List Entry) → length entries ≤ total entries
few [] = omega arith
few (e ∷ es) = omega (arith, sum_by-cons cost e es, few es)
