-- Entries under ids.
use Rattle.std.proofs.Common.{◌≡◌, ◌≢◌, ℕ, zero, suc, List, [], ◌∷◌, refl, ap, Option, Some, None}
use Rattle.std.specs.Prelude.{slice_get}
use Rattle.frame_arena.specs.Frames.{put_entry, or_none}
use Rattle.frame_arena.specs.Laws.{PutIsThere, GivenIsGone, OthersStay}

there : (out : List (Option (List ℕ))) (id : ℕ) (new : Option (List ℕ)) → or_none (slice_get (put_entry out id new) id) ≡ new
unfolding put_entry
there [] zero new = refl
there [] (suc id) new = there [] id new
there (x ∷ out) zero new = refl
there (x ∷ out) (suc id) new = there out id new

none_there : (id other : ℕ) (new : Option (List ℕ)) → other ≢ id → or_none (slice_get (put_entry [] id new) other) ≡ None
unfolding put_entry
none_there zero zero new n = absurd (n refl)
none_there zero (suc other) new n = refl
none_there (suc id) zero new n = refl
none_there (suc id) (suc other) new n = none_there id other new (λ e. n (ap suc e))

other_there : (out : List (Option (List ℕ))) (id other : ℕ) (new : Option (List ℕ)) → other ≢ id → or_none (slice_get (put_entry out id new) other) ≡ or_none (slice_get out other)
unfolding put_entry
other_there [] id other new n = none_there id other new n
other_there (x ∷ out) zero zero new n = absurd (n refl)
other_there (x ∷ out) zero (suc other) new n = refl
other_there (x ∷ out) (suc id) zero new n = refl
other_there (x ∷ out) (suc id) (suc other) new n = other_there out id other new (λ e. n (ap suc e))

pub put_there : PutIsThere
put_there a id bytes = there a.out id (Some bytes)

pub given_gone : GivenIsGone
given_gone a id = there a.out id None

pub others_stay : OthersStay
others_stay a id other bytes n = (other_there a.out id other (Some bytes) n, other_there a.out id other None n)
