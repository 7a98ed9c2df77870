-- What is out of frames with marks, after one of them changed.
use Rattle.std.proofs.Common.{◌≡◌, ℕ, zero, suc, ◌+◌, ◌<◌, ◌≤◌, Bool, true, false, List, [], ◌∷◌, ◌++◌, length, refl, sym, ◌∙◌, ap, arith, slice_set, Option, Some, None}
use Rattle.std.specs.Prelude.{slice_get, if◌then◌else◌}
use Rattle.frame_arena.specs.Frames.{contents, put_entry, count_out, or_none, is_there}
use Rattle.frame_arena.proofs.FrameLemmas.{set_got}

abbrev pub entry : Bool → List ℕ → Option (List ℕ)
entry mark frame = if mark then Some frame else None

pub contents_long : (frames : List (List ℕ)) (marks : List Bool) → length (contents frames marks) ≡ length frames
unfolding contents
contents_long [] marks = refl
contents_long (f ∷ frames) [] = let h = contents_long frames [] in omega arith
contents_long (f ∷ frames) (m ∷ marks) = let h = contents_long frames marks in omega arith

pub set_contents : (frames : List (List ℕ)) (marks : List Bool) (id : ℕ) (new : List ℕ) (mark : Bool) → length marks ≡ length frames → id < length frames
    → contents (slice_set frames id new) (slice_set marks id mark) ≡ put_entry (contents frames marks) id (entry mark new)
unfolding contents put_entry
set_contents [] marks id new mark l h = absurd (omega arith)
set_contents (f ∷ frames) [] id new mark l h = absurd (omega arith)
set_contents (f ∷ frames) (m ∷ marks) zero new mark l h = refl
set_contents (f ∷ frames) (m ∷ marks) (suc id) new mark l h = ap (λ rest. entry m f ∷ rest) (set_contents frames marks id new mark (omega arith) (omega arith))

pub stored_contents : (frames : List (List ℕ)) (marks : List Bool) (id : ℕ) (new : List ℕ) → length marks ≡ length frames → id < length frames → slice_get marks id ≡ Some true
    → contents (slice_set frames id new) marks ≡ put_entry (contents frames marks) id (Some new)
stored_contents frames marks id new l h e = ap (contents (slice_set frames id new)) (sym (set_got marks id true e)) ∙ set_contents frames marks id new true l h

pub kept_contents : (frames : List (List ℕ)) (marks : List Bool) (new : List ℕ) → length marks ≡ length frames
    → contents (frames ++ new ∷ []) (marks ++ true ∷ []) ≡ put_entry (contents frames marks) (length frames) (Some new)
unfolding contents put_entry
kept_contents [] [] new l = refl
kept_contents [] (m ∷ marks) new l = absurd (omega arith)
kept_contents (f ∷ frames) [] new l = absurd (omega arith)
kept_contents (f ∷ frames) (m ∷ marks) new l = ap (λ rest. entry m f ∷ rest) (kept_contents frames marks new (omega arith))

-- an id that is out is that of a frame with a mark
pub out_mark : (frames : List (List ℕ)) (marks : List Bool) (id : ℕ) → is_there (or_none (slice_get (contents frames marks) id)) ≡ true → slice_get marks id ≡ Some true
unfolding contents
out_mark [] marks id h = grind arith
out_mark (f ∷ frames) [] zero h = grind arith
out_mark (f ∷ frames) [] (suc id) h = out_mark frames [] id h
out_mark (f ∷ frames) (true ∷ marks) zero h = refl
out_mark (f ∷ frames) (false ∷ marks) zero h = grind arith
out_mark (f ∷ frames) (m ∷ marks) (suc id) h = out_mark frames marks id h

-- a frame with a mark is out
pub marked_out : (frames : List (List ℕ)) (marks : List Bool) (id : ℕ) → slice_get marks id ≡ Some true → or_none (slice_get (contents frames marks) id) ≡ slice_get frames id
unfolding contents
marked_out [] marks id h = refl
marked_out (f ∷ frames) [] id h = grind arith
marked_out (f ∷ frames) (m ∷ marks) zero h = let s : m ≡ true = cc in ap (λ k. entry k f) s
marked_out (f ∷ frames) (m ∷ marks) (suc id) h = marked_out frames marks id h

-- a frame without a mark isn't out
pub unmarked_in : (frames : List (List ℕ)) (marks : List Bool) (id : ℕ) → slice_get marks id ≡ Some false → or_none (slice_get (contents frames marks) id) ≡ None
unfolding contents
unmarked_in [] marks id h = refl
unmarked_in (f ∷ frames) [] id h = grind arith
unmarked_in (f ∷ frames) (m ∷ marks) zero h = let s : m ≡ false = cc in ap (λ k. entry k f) s
unmarked_in (f ∷ frames) (m ∷ marks) (suc id) h = unmarked_in frames marks id h

pub past_in : (frames : List (List ℕ)) (marks : List Bool) (id : ℕ) → length frames ≤ id → or_none (slice_get (contents frames marks) id) ≡ None
unfolding contents
past_in [] marks id h = refl
past_in (f ∷ frames) [] zero h = absurd (omega arith)
past_in (f ∷ frames) [] (suc id) h = past_in frames [] id (omega arith)
past_in (f ∷ frames) (m ∷ marks) zero h = absurd (omega arith)
past_in (f ∷ frames) (m ∷ marks) (suc id) h = past_in frames marks id (omega arith)

abbrev pub one_of : Option (List ℕ) → ℕ
one_of None = 0
one_of (Some bytes) = 1

count_first : (x : Option (List ℕ)) (out : List (Option (List ℕ))) → count_out (x ∷ out) ≡ one_of x + count_out out
unfolding count_out
count_first None out = omega arith
count_first (Some bytes) out = omega arith

pub count_put : (out : List (Option (List ℕ))) (id : ℕ) (new : Option (List ℕ)) → count_out (put_entry out id new) + one_of (or_none (slice_get out id)) ≡ count_out out + one_of new
unfolding put_entry
count_put [] zero new = let a = count_first new [] in omega arith
count_put [] (suc id) new = let a = count_first None (put_entry [] id new) in let h = count_put [] id new in omega arith
count_put (x ∷ out) zero new = let a = count_first new out in let b = count_first x out in omega arith
count_put (x ∷ out) (suc id) new = let a = count_first x (put_entry out id new) in let b = count_first x out in let h = count_put out id new in omega arith

pub count_few : (out : List (Option (List ℕ))) → count_out out ≤ length out
unfolding count_out
count_few [] = omega arith
count_few (None ∷ out) = let h = count_few out in omega arith
count_few (Some bytes ∷ out) = let h = count_few out in omega arith
