-- Pages that are touched before bytes are written there.
use Rattle.std.proofs.Common.{◌≡◌, ◌<◌, ◌≤◌, ◌+◌, ◌-◌, drop, get_or, length-drop, ℕ, zero, suc, Bool, true, false, List, [], ◌∷◌, length, map, refl, sym, subst, ap, ◌∙◌, arith}
use Rattle.std.specs.Prelude.{Option, Some, None, ◌&&◌, ◌/◌, slice_get, slice_set}
use Rattle.std.proofs.lemmas.List.{drop_more}
use Rattle.uh_base.specs.Bytes.{next}
use Rattle.guest_memory.specs.Pages.{Pages, or_false, rights_at}
use Rattle.guest_memory.specs.Changes.{TouchedBesides}
use Rattle.address_view.specs.declared.frames.ByteRange.{ByteRange}
use Rattle.address_view.specs.Laws.{SameMarked, StoredOver, RangesSuffice}
use Rattle.address_view.specs.Seen.{all_pass, is_seen}
use Rattle.address_view.specs.Ranges.{RangesSeen, marked_ranges, lacks_ranges}
use Rattle.address_view.specs.Stored.{stored, put_seen, mark_seen, marked, is_marked, all_marked, all_touched, lacks_seen}
use Rattle.runtime_services.specs.Outputs.{OutputBytes, OutputsSeen, OutputsTouched, range_of, outputs_written, told}
use Rattle.service_answer.specs.Answers.{gives}

-- marks that are there stay
abbrev Keeps : List Bool → List Bool → Type 0
Keeps marks more = (i : ℕ) → or_false (slice_get marks i) ≡ true → or_false (slice_get more i) ≡ true

set_keeps : (marks : List Bool) (j i : ℕ) → or_false (slice_get marks i) ≡ true → or_false (slice_get (slice_set marks j true) i) ≡ true
set_keeps [] j i e = e
set_keeps (mark ∷ marks) zero zero e = refl
set_keeps (mark ∷ marks) zero (suc i) e = e
set_keeps (mark ∷ marks) (suc j) zero e = e
set_keeps (mark ∷ marks) (suc j) (suc i) e = set_keeps marks j i e

seen_keeps : (base : ℕ) (marks : List Bool) (o : Option ℕ) → Keeps marks (mark_seen base marks o)
seen_keeps base marks None i e = e
seen_keeps base marks (Some place) i e = set_keeps marks ((place - base) / 4096) i e

marked_keeps : (see : ℕ → Option ℕ) (base : ℕ) (marks : List Bool) (at n : ℕ) → Keeps marks (marked see base marks at n)
unfolding marked
marked_keeps see base marks at zero i e = e
marked_keeps see base marks at (suc n) i e = marked_keeps see base (mark_seen base marks (see at)) (next at) n i (seen_keeps base marks (see at) i e)

ranges_keep : (see : ℕ → Option ℕ) (base : ℕ) (marks : List Bool) (ranges : List ByteRange) → Keeps marks (marked_ranges see base marks ranges)
unfolding marked_ranges
ranges_keep see base marks [] i e = e
ranges_keep see base marks (range ∷ ranges) i e = ranges_keep see base (marked see base marks range.at range.len) ranges i (marked_keeps see base marks range.at range.len i e)

both : (a b : Bool) → (a && b) ≡ true → (a ≡ true) × (b ≡ true)
both true b e = (refl, e)
both false b e = let bad : ⊥ = cc in absurd bad

still_marked : (base : ℕ) (marks more : List Bool) (o : Option ℕ) → Keeps marks more → is_marked base marks o ≡ true → is_marked base more o ≡ true
still_marked base marks more None keeps e = refl
still_marked base marks more (Some place) keeps e = keeps ((place - base) / 4096) e

all_still : (see : ℕ → Option ℕ) (base : ℕ) (marks more : List Bool) (at n : ℕ) → Keeps marks more → all_marked see base marks at n ≡ true → all_marked see base more at n ≡ true
unfolding all_marked
all_still see base marks more at zero keeps e = refl
all_still see base marks more at (suc n) keeps e =
    let s = both (is_marked base marks (see at)) (all_marked see base marks (next at) n) e in
    rw (still_marked base marks more (see at) keeps s.0) (all_still see base marks more (next at) n keeps s.1)

-- each range is seen where each output is
pub ranges_seen : (see : ℕ → Option ℕ) (m : Pages) (outputs : List OutputBytes) → OutputsSeen see m outputs → RangesSeen see m (map range_of outputs)
ranges_seen see m [] seen k d h = absurd (omega arith)
ranges_seen see m (output ∷ outputs) seen zero d h = seen.0
ranges_seen see m (output ∷ outputs) seen (suc k) d h = ranges_seen see m outputs seen.1 k d (omega arith)

-- outputs that are seen in a memory are seen in another of the same RAM
pub later_seen : (see : ℕ → Option ℕ) (old new : Pages) (outputs : List OutputBytes) → new.base ≡ old.base → new.pages ≡ old.pages → OutputsSeen see old outputs → OutputsSeen see new outputs
later_seen see old new outputs base pages seen = rw (base, pages) seen

-- pages that are touched in a memory are touched in another with the same marks
pub later_touched : (see : ℕ → Option ℕ) (old new : Pages) (outputs : List OutputBytes) → new.base ≡ old.base → new.touched ≡ old.touched → OutputsTouched see old outputs → OutputsTouched see new outputs
later_touched see old new outputs base touched is = rw (base, touched) is

base_put : (m : Pages) (byte : ℕ) (o : Option ℕ) → (put_seen m byte o).base ≡ m.base
base_put m byte None = refl
base_put m byte (Some place) = refl

base_stored : (see : ℕ → Option ℕ) (m : Pages) (at : ℕ) (bytes : List ℕ) → (stored see m at bytes).base ≡ m.base
unfolding stored
base_stored see m at [] = refl
base_stored see m at (byte ∷ bytes) = base_stored see (put_seen m byte (see at)) (next at) bytes ∙ base_put m byte (see at)

-- outputs are written whatever is marked
written_over : StoredOver → (see : ℕ → Option ℕ) (m : Pages) (marks : List Bool) (outputs : List OutputBytes)
    → outputs_written see (record m { touched = marks }) outputs ≡ record (outputs_written see m outputs) { touched = marked_ranges see m.base marks (map range_of outputs) }
unfolding outputs_written marked_ranges
written_over law see m marks [] = refl
written_over law see m marks (output ∷ outputs) =
    let more = marked see m.base marks output.at (length output.bytes) in
    let after = stored see m output.at output.bytes in
    ap (λ (k : Pages). outputs_written see k outputs) (law see m marks output.at output.bytes)
    ∙ written_over law see after more outputs
    ∙ ap (λ (b : ℕ). record (outputs_written see after outputs) { touched = marked_ranges see b more (map range_of outputs) }) (base_stored see m output.at output.bytes)

-- marks that are all there stay as they are
none_marked : SameMarked → (see : ℕ → Option ℕ) (m : Pages) (outputs : List OutputBytes) → OutputsTouched see m outputs → marked_ranges see m.base m.touched (map range_of outputs) ≡ m.touched
unfolding marked_ranges
none_marked law see m [] is = refl
none_marked law see m (output ∷ outputs) is =
    ap (λ (marks : List Bool). marked_ranges see m.base marks (map range_of outputs)) (law see m output.at (length output.bytes) is.0)
    ∙ none_marked law see m outputs is.1

-- What is written after the pages are touched is what is written at once.
pub written_after : SameMarked → StoredOver → (see : ℕ → Option ℕ) (m n : Pages) (outputs : List OutputBytes) → n ≡ record m { touched = marked_ranges see m.base m.touched (map range_of outputs) } → OutputsTouched see n outputs
    → outputs_written see n outputs ≡ outputs_written see m outputs
written_after same over see m n outputs e is =
    let marks = marked_ranges see m.base m.touched (map range_of outputs) in
    let there : OutputsTouched see (record m { touched = marks }) outputs = rw (← e) is in
    let done = written_over over see m m.touched outputs in
    ap (λ (k : Pages). outputs_written see k outputs) e
    ∙ written_over over see m marks outputs
    ∙ ap (λ (more : List Bool). record (outputs_written see m outputs) { touched = more }) (none_marked same see (record m { touched = marks }) outputs there)
    ∙ sym (done)

-- An answer with outputs that are written after their pages are touched is the answer with outputs.
pub written_told : SameMarked → StoredOver → (see : ℕ → Option ℕ) (m n new : Pages) (value : ℕ) (outputs : List OutputBytes) → lacks_ranges see m (map range_of outputs) ≡ false
    → n ≡ record m { touched = marked_ranges see m.base m.touched (map range_of outputs) } → OutputsTouched see n outputs → new ≡ outputs_written see n outputs
    → record { answer = gives value; memory = new } ≡ told see m value outputs
written_told same over see m n new value outputs frames e is written =
    let all = written ∙ written_after same over see m n outputs e is in
    rw (frames, all) refl

-- while pages are touched: the marks, of which those of the outputs in `rest` are still to be set
pub record Marking (see : ℕ → Option ℕ) (m : Pages) (outputs rest : List OutputBytes) (marks : List Bool) : Type 0 where
  pub keeps : Keeps m.touched marks
  pub left : marked_ranges see m.base marks (map range_of rest) ≡ marked_ranges see m.base m.touched (map range_of outputs)
  pub seen : OutputsSeen see m rest
  pub later : (more : List Bool) → Keeps marks more → OutputsTouched see (record m { touched = more }) rest → OutputsTouched see (record m { touched = more }) outputs

next_marks : (see : ℕ → Option ℕ) (m : Pages) (outputs later : List OutputBytes) (at : ℕ) (bytes : List ℕ) (marks : List Bool) → Marking see m outputs (record { at = at; bytes = bytes } ∷ later) marks
    → all_marked see m.base (marked see m.base marks at (length bytes)) at (length bytes) ≡ true → Marking see m outputs later (marked see m.base marks at (length bytes))
unfolding marked_ranges
next_marks see m outputs later at bytes marks is there = record {
  keeps = λ i h. marked_keeps see m.base marks at (length bytes) i (is.keeps i h);
  left = is.left;
  seen = is.seen.1;
  later = λ more k t. is.later more (λ i h. k i (marked_keeps see m.base marks at (length bytes) i h)) (all_still see m.base (marked see m.base marks at (length bytes)) more at (length bytes) k there, t);
}

pub record Touching (see : ℕ → Option ℕ) (m0 m : Pages) (outputs rest : List OutputBytes) : Type 0 where
  pub same : m ≡ record m0 { touched = m.touched }
  pub base : m.base ≡ m0.base
  pub pages : m.pages ≡ m0.pages
  pub rights : rights_at m ≡ rights_at m0
  pub frames : lacks_ranges see m (map range_of rest) ≡ false
  pub marking : Marking see m0 outputs rest m.touched

pub touching_first : (see : ℕ → Option ℕ) (m : Pages) (outputs : List OutputBytes) → OutputsSeen see m outputs → lacks_ranges see m (map range_of outputs) ≡ false → Touching see m m outputs outputs
touching_first see m outputs seen frames = record {
  same = refl;
  base = refl;
  pages = refl;
  rights = refl;
  frames = frames;
  marking = record { keeps = λ i h. h; left = refl; seen = seen; later = λ more k t. t };
}

pub touching_asks : (see : ℕ → Option ℕ) (m0 m : Pages) (outputs rest later : List OutputBytes) (at : ℕ) (bytes : List ℕ) → rest ≡ record { at = at; bytes = bytes } ∷ later → Touching see m0 m outputs rest
    → all_pass (is_seen see m) at (length bytes) ≡ true
touching_asks see m0 m outputs rest later at bytes e is = (later_seen see m0 m (record { at = at; bytes = bytes } ∷ later) is.base is.pages (rw e at is.marking.seen)).0

pub touching_frames : RangesSuffice → (see : ℕ → Option ℕ) (m0 m : Pages) (outputs rest later : List OutputBytes) (at : ℕ) (bytes : List ℕ) → rest ≡ record { at = at; bytes = bytes } ∷ later → Touching see m0 m outputs rest
    → lacks_seen see m at (length bytes) ≡ false
touching_frames law see m0 m outputs rest later at bytes e is = (law see m (record { at = at; len = length bytes }) (map range_of later) (rw e at is.frames)).first

pub touching_next : RangesSuffice → (see : ℕ → Option ℕ) (m0 m new : Pages) (outputs rest later : List OutputBytes) (at : ℕ) (bytes : List ℕ) → rest ≡ record { at = at; bytes = bytes } ∷ later → Touching see m0 m outputs rest
    → new ≡ record m { touched = marked see m.base m.touched at (length bytes) } → all_touched see new at (length bytes) ≡ true → new.base ≡ m.base → new.pages ≡ m.pages → rights_at new ≡ rights_at m → Touching see m0 new outputs later
touching_next law see m0 m new outputs rest later at bytes e is made touched base pages rights =
    let made2 : new ≡ record m0 { touched = marked see m0.base m.touched at (length bytes) } = made ∙ ap (λ (k : Pages). record k { touched = marked see k.base m.touched at (length bytes) }) is.same in
    let t : new.touched ≡ marked see m0.base m.touched at (length bytes) = ap (λ (k : Pages). k.touched) made2 in
    let there : all_marked see m0.base (marked see m0.base m.touched at (length bytes)) at (length bytes) ≡ true = ap (λ (k : Pages). all_touched see k at (length bytes)) (sym made2) ∙ touched in
    let frames = (law see m (record { at = at; len = length bytes }) (map range_of later) (rw e at is.frames)).touched in
    record {
      same = made2 ∙ ap (λ (marks : List Bool). record m0 { touched = marks }) (sym t);
      base = base ∙ is.base;
      pages = pages ∙ is.pages;
      rights = rights ∙ is.rights;
      frames = ap (λ (k : Pages). lacks_ranges see k (map range_of later)) made ∙ frames;
      marking = rw t (next_marks see m0 outputs later at bytes m.touched (rw e at is.marking) there);
    }

-- the outputs from one on
pub first_left : (outputs : List OutputBytes) (d : OutputBytes) (i at : ℕ) (bytes : List ℕ) → i < length outputs → record { at = at; bytes = bytes } ≡ get_or outputs i d → drop i outputs ≡ record { at = at; bytes = bytes } ∷ drop (i + 1) outputs
first_left outputs d i at bytes h e = drop_more outputs i d h ∙ ap (λ (output : OutputBytes). output ∷ drop (i + 1) outputs) (sym e)

pub over : (outputs : List OutputBytes) (i : ℕ) → length outputs ≤ i → length (drop i outputs) ≡ 0
over outputs i h = let n = length-drop i outputs in omega (arith, n, h)

none_left : (rest : List OutputBytes) → length rest ≡ 0 → rest ≡ []
none_left [] e = refl
none_left (output ∷ rest) e = absurd (omega (arith, e))

pub touching_over : (see : ℕ → Option ℕ) (m0 m : Pages) (outputs rest : List OutputBytes) → length rest ≡ 0 → Touching see m0 m outputs rest
    → (m ≡ record m0 { touched = marked_ranges see m0.base m0.touched (map range_of outputs) }) × OutputsTouched see m outputs
unfolding marked_ranges
touching_over see m0 m outputs rest e is =
    let left : m.touched ≡ marked_ranges see m0.base m0.touched (map range_of outputs) = rw (none_left rest e) at is.marking.left in
    let none : OutputsTouched see (record m0 { touched = m.touched }) rest = rw (none_left rest e) tt in
    (is.same ∙ ap (λ (marks : List Bool). record m0 { touched = marks }) left, subst (λ (k : Pages). OutputsTouched see k outputs) (sym is.same) (is.marking.later m.touched (λ i h. h) none))

pub touching_stops : (see : ℕ → Option ℕ) (m0 m new : Pages) (outputs rest : List OutputBytes) → Touching see m0 m outputs rest → TouchedBesides m new → TouchedBesides m0 new
touching_stops see m0 m new outputs rest is besides = record {
  rest = besides.rest ∙ ap (λ (k : Pages). record k { touched = new.touched }) is.same;
  kept = λ page h. besides.kept page (is.marking.keeps page h);
}

-- while outputs are written, of which those in `rest` are left
pub record Putting (see : ℕ → Option ℕ) (m0 m : Pages) (outputs rest : List OutputBytes) : Type 0 where
  pub whole : outputs_written see m rest ≡ outputs_written see m0 outputs
  pub seen : OutputsSeen see m rest
  pub touched : OutputsTouched see m rest
  pub base : m.base ≡ m0.base
  pub pages : m.pages ≡ m0.pages
  pub rights : rights_at m ≡ rights_at m0

pub putting_next : (see : ℕ → Option ℕ) (m0 m new : Pages) (outputs rest later : List OutputBytes) (at : ℕ) (bytes : List ℕ) → rest ≡ record { at = at; bytes = bytes } ∷ later → Putting see m0 m outputs rest
    → new ≡ stored see m at bytes → new.touched ≡ m.touched → new.base ≡ m.base → new.pages ≡ m.pages → rights_at new ≡ rights_at m → Putting see m0 new outputs later
unfolding outputs_written
putting_next see m0 m new outputs rest later at bytes e is made marks base pages rights = record {
  whole = ap (λ (k : Pages). outputs_written see k later) made ∙ (rw e at is.whole);
  seen = later_seen see m new later base pages (rw e at is.seen).1;
  touched = later_touched see m new later base marks (rw e at is.touched).1;
  base = base ∙ is.base;
  pages = pages ∙ is.pages;
  rights = rights ∙ is.rights;
}

pub putting_over : (see : ℕ → Option ℕ) (m0 m : Pages) (outputs rest : List OutputBytes) → length rest ≡ 0 → Putting see m0 m outputs rest → m ≡ outputs_written see m0 outputs
unfolding outputs_written
putting_over see m0 m outputs rest e is = rw (none_left rest e) at is.whole

-- what is unchanged has no more marks
pub nothing_touched : (m : Pages) → TouchedBesides m m
nothing_touched m = record { rest = refl; kept = λ page h. h }
