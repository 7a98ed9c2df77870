-- What a caller sees of the frames that an arena keeps.
use Rattle.std.proofs.Common.{◌≡◌, ℕ, zero, suc, ◌+◌, ◌-◌, ◌<◌, ◌≤◌, Bool, true, false, List, [], ◌∷◌, ◌++◌, length, refl, sym, ◌∙◌, ap, arith, slice_set, length-set, Some, get_or}
use Rattle.std.specs.Prelude.{slice_get, nat_lt}
use Rattle.std.proofs.lemmas.List.{length-append}
use Rattle.std.proofs.lemmas.Option.{slice_get_read}
use Rattle.std.proofs.lemmas.Bool.Decides.{nat_tests}
use Rattle.frame_arena.specs.Frames.{Frames, Whole, zeros, or_none, is_there, is_out, frame_at, count_out, contents, with_frame, without_frame, made_after}
use Rattle.frame_arena.specs.Kept.{Kept}
use Rattle.frame_arena.proofs.FrameLemmas.{got_inside}
use Rattle.frame_arena.proofs.ContentsLemmas.{out_mark, marked_out, unmarked_in, past_in, set_contents, stored_contents, kept_contents}
use Rattle.frame_arena.proofs.KeptLemmas.{whole_here, first_free}

there : (frames : List (List ℕ)) (id : ℕ) → id < length frames → is_there (slice_get frames id) ≡ true
there [] id h = absurd (omega arith)
there (x ∷ frames) zero h = refl
there (x ∷ frames) (suc id) h = there frames id (omega arith)

pub not_below : (a b : ℕ) → b ≤ a → nat_lt a b ≡ false
not_below a b h = grind (arith, nat_tests)

abbrev pub seen : ℕ → List (List ℕ) → List Bool → Frames
seen limit frames marks = record { limit = limit; made = length frames; out = contents frames marks }

pub new_none : (limit : ℕ) (frames : List (List ℕ)) (marks : List Bool) → frames ≡ [] → seen limit frames marks ≡ record { limit = limit; made = 0; out = [] }
unfolding contents
new_none limit frames marks f = rw f refl

pub new_taken : (now new : Frames) (number : ℕ) → number ≡ now.made → count_out now.out ≡ now.made → new ≡ record (with_frame now now.made zeros) { made = now.made + 1 }
    → new ≡ record (with_frame now number zeros) { made = made_after now }
new_taken now new number e all n =
    let m : made_after now ≡ now.made + 1 = grind (arith, nat_tests) in
    n ∙ ap (λ k. record (with_frame now k zeros) { made = now.made + 1 }) (sym e) ∙ ap (λ k. record (with_frame now number zeros) { made = k }) (sym m)

module _ (now : Frames) (limit count first : ℕ) (frames : List (List ℕ)) (marks : List Bool) (k : Kept limit count first frames marks) (same : seen limit frames marks ≡ now) where
  pub is_whole : Whole now
  is_whole = rw (← same) (whole_here limit count first frames marks k)

  pub limit_is : now.limit ≡ limit
  limit_is = rw (← same) refl

  pub made_is : now.made ≡ length frames
  made_is = rw (← same) refl

  pub count_is : count_out now.out ≡ count
  count_is = rw (← same) k.counted

  -- the first frame that isn't out
  pub few : count_out now.out < now.made → count < length frames
  few h =
      let e : count_out (contents frames marks) ≡ count = k.counted in
      let g : count_out (contents frames marks) < length frames = rw (← same) at h in
      omega arith

  pub first_inside : count_out now.out < now.made → first - 1 < length frames
  first_inside h = rw (← k.marked) (got_inside marks (first - 1) false (first_free limit count first frames marks k (few h)).is_free)

  pub first_in : count_out now.out < now.made → is_out now (first - 1) ≡ false
  first_in h = rw (← same) (ap is_there (unmarked_in frames marks (first - 1) (first_free limit count first frames marks k (few h)).is_free))

  pub first_taken : (new : List ℕ) → count_out now.out < now.made
      → seen limit (slice_set frames (first - 1) new) (slice_set marks (first - 1) true) ≡ with_frame now (first - 1) new
  first_taken new h =
      rw (← same) (ap (λ n. record { limit = limit; made = n; out = contents (slice_set frames (first - 1) new) (slice_set marks (first - 1) true) }) (length-set frames (first - 1) new)
      ∙ ap (λ o. record { limit = limit; made = length frames; out = o }) (set_contents frames marks (first - 1) new true k.marked (first_inside h)))

  pub new_kept : (new : List ℕ) → seen limit (frames ++ new ∷ []) (marks ++ true ∷ []) ≡ record (with_frame now now.made new) { made = now.made + 1 }
  new_kept new =
      rw (← same) (ap (λ n. record { limit = limit; made = n; out = contents (frames ++ new ∷ []) (marks ++ true ∷ []) }) (length-append frames (new ∷ []))
      ∙ ap (λ o. record { limit = limit; made = length frames + 1; out = o }) (kept_contents frames marks new k.marked))

  pub told : (number : ℕ) (told : Bool) → slice_get marks number ≡ Some told → told ≡ is_out now number
  told number true e =
      let inside : number < length frames = rw (← k.marked) (got_inside marks number true e) in
      rw (← same) (sym (ap is_there (marked_out frames marks number e) ∙ there frames number inside))
  told number false e = rw (← same) (sym (ap is_there (unmarked_in frames marks number e)))

  pub past : (id : ℕ) → now.made ≤ id → is_out now id ≡ false
  past id h = let g : length frames ≤ id = rw (← same) at h in rw (← same) (ap is_there (past_in frames marks id g))

  -- a frame that is out
  module _ (number id : ℕ) (is_id : number ≡ id) (out : is_out now id ≡ true) where
    pub mark : slice_get marks number ≡ Some true
    mark = let h : is_there (or_none (slice_get (contents frames marks) number)) ≡ true = rw (← same, ← is_id) at out in out_mark frames marks number h

    pub inside : number < length frames
    inside = rw (← k.marked) (got_inside marks number true mark)

    pub got : (frame : List ℕ) → frame ≡ get_or frames number frame → slice_get frames number ≡ Some frame
    got frame e = slice_get_read frames (length frames) number frame refl inside e

    pub shown : (frame : List ℕ) → slice_get frames number ≡ Some frame → frame_at now id ≡ Some frame
    shown frame g = rw (← same) (rw (← is_id) (marked_out frames marks number mark ∙ g))

    pub stored_frame : (new : List ℕ) → seen limit (slice_set frames number new) marks ≡ with_frame now id new
    stored_frame new =
        rw (← same) (rw (← is_id) (ap (λ n. record { limit = limit; made = n; out = contents (slice_set frames number new) marks }) (length-set frames number new)
        ∙ ap (λ o. record { limit = limit; made = length frames; out = o }) (stored_contents frames marks number new k.marked inside mark)))

    pub given_frame : (new : List ℕ) → seen limit (slice_set frames number new) (slice_set marks number false) ≡ without_frame now id
    given_frame new =
        rw (← same) (rw (← is_id) (ap (λ n. record { limit = limit; made = n; out = contents (slice_set frames number new) (slice_set marks number false) }) (length-set frames number new)
        ∙ ap (λ o. record { limit = limit; made = length frames; out = o }) (set_contents frames marks number new false k.marked inside)))
