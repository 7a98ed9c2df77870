-- The frames of an arena, as it keeps them, after its calls.
use Rattle.std.proofs.Common.{◌≡◌, ◌≢◌, ℕ, zero, suc, ◌+◌, ◌-◌, ◌<◌, ◌≤◌, Bool, true, false, List, [], ◌∷◌, ◌++◌, length, refl, sym, ◌∙◌, ap, arith, slice_set, length-set, Some, None}
use Rattle.std.specs.Prelude.{slice_get}
use Rattle.std.proofs.lemmas.List.{length-append}
use Rattle.frame_arena.specs.Frames.{IsFrame, Whole, is_there, or_empty, or_none, count_out, contents, put_entry, link}
use Rattle.frame_arena.specs.Kept.{Kept, Chain, Lacks, AllFrames, behind}
use Rattle.frame_arena.proofs.FrameLemmas.{other_get, same_get, set_got, got_inside}
use Rattle.frame_arena.proofs.ContentsLemmas.{out_mark, contents_long, set_contents, stored_contents, kept_contents, marked_out, unmarked_in, past_in, count_put, one_of}

pub set_whole : (frames : List (List ℕ)) (id : ℕ) (new : List ℕ) → AllFrames frames → IsFrame new → AllFrames (slice_set frames id new)
set_whole [] id new a f = a
set_whole (x ∷ frames) zero new a f = (f, a.1)
set_whole (x ∷ frames) (suc id) new a f = (a.0, set_whole frames id new a.1 f)

pub kept_whole : (frames : List (List ℕ)) (new : List ℕ) → AllFrames frames → IsFrame new → AllFrames (frames ++ new ∷ [])
kept_whole [] new a f = (f, tt)
kept_whole (x ∷ frames) new a f = (a.0, kept_whole frames new a.1 f)

pub got_whole : (frames : List (List ℕ)) (id : ℕ) (frame : List ℕ) → AllFrames frames → slice_get frames id ≡ Some frame → IsFrame frame
got_whole [] id frame a e = grind arith
got_whole (x ∷ frames) zero frame a e = let s : x ≡ frame = cc in rw (← s) a.0
got_whole (x ∷ frames) (suc id) frame a e = got_whole frames id frame a.1 e

same_behind : (frames : List (List ℕ)) (id other : ℕ) (new : List ℕ) → other ≢ id → behind (slice_set frames id new) other ≡ behind frames other
same_behind frames id other new n = ap (λ o. link (or_empty o)) (other_get frames id other new n)

lacks_kept : (frames : List (List ℕ)) (n first id other : ℕ) (new : List ℕ) → Lacks frames n first id → Lacks frames n first other → Lacks (slice_set frames id new) n first other
lacks_kept frames zero first id other new l m = tt
lacks_kept frames (suc n) zero id other new l m = tt
lacks_kept frames (suc n) (suc k) id other new l m = (m.0, rw (same_behind frames id k new l.0) (lacks_kept frames n (behind frames k) id other new l.1 m.1))

-- a frame that isn't among those may change, and its mark too
chain_kept : (frames : List (List ℕ)) (marks : List Bool) (n first id : ℕ) (new : List ℕ) (mark : Bool) → Lacks frames n first id → Chain frames marks n first
    → Chain (slice_set frames id new) (slice_set marks id mark) n first
chain_kept frames marks zero first id new mark l h = h
chain_kept frames marks (suc n) zero id new mark l h = h
chain_kept frames marks (suc n) (suc k) id new mark l h = (
  other_get marks id k mark l.0 ∙ h.0,
  rw (same_behind frames id k new l.0) (lacks_kept frames n (behind frames k) id k new l.1 h.1),
  rw (same_behind frames id k new l.0) (chain_kept frames marks n (behind frames k) id new mark l.1 h.2),
)

unlike : Some true ≡ Some false → ⊥
unlike e = grind arith

-- a frame that is out is not among those
out_lacks : (frames : List (List ℕ)) (marks : List Bool) (n first id : ℕ) → slice_get marks id ≡ Some true → Chain frames marks n first → Lacks frames n first id
out_lacks frames marks zero first id e h = tt
out_lacks frames marks (suc n) zero id e h = absurd h
out_lacks frames marks (suc n) (suc k) id e h = (λ s. unlike (sym (ap (slice_get marks) s ∙ e) ∙ h.0), out_lacks frames marks n (behind frames k) id e h.2)

-- The first of some frames that aren't out.
pub record First (frames : List (List ℕ)) (marks : List Bool) (n first : ℕ) : Type 0 where
  pub left : ℕ
  pub all : n ≡ suc left
  pub id : first ≡ suc (first - 1)
  pub is_free : slice_get marks (first - 1) ≡ Some false
  pub once : Lacks frames left (behind frames (first - 1)) (first - 1)
  pub chain : Chain frames marks left (behind frames (first - 1))

first_of : (frames : List (List ℕ)) (marks : List Bool) (n first : ℕ) → Chain frames marks n first → 0 < n → First frames marks n first
first_of frames marks zero first h p = absurd (omega arith)
first_of frames marks (suc n) zero h p = absurd h
first_of frames marks (suc n) (suc id) h p =
    let e : suc id - 1 ≡ id = omega arith in
    record { left = n; all = refl; id = ap suc (sym e); is_free = rw e h.0; once = rw e h.1; chain = rw e h.2 }

pub one_there : (frames : List (List ℕ)) (id : ℕ) → id < length frames → one_of (slice_get frames id) ≡ 1
one_there [] id h = absurd (omega arith)
one_there (x ∷ frames) zero h = refl
one_there (x ∷ frames) (suc id) h = one_there frames id (omega arith)

stored_chain : (frames : List (List ℕ)) (marks now : List Bool) (n first id : ℕ) (new : List ℕ) → marks ≡ now → Chain (slice_set frames id new) marks n first → Chain (slice_set frames id new) now n first
stored_chain frames marks now n first id new e h = rw (← e) h

no_chain : (frames : List (List ℕ)) (marks : List Bool) (frames2 : List (List ℕ)) (marks2 : List Bool) (n first : ℕ) → n ≡ 0 → Chain frames marks n first → Chain frames2 marks2 n first
no_chain frames marks frames2 marks2 zero first e h = h
no_chain frames marks frames2 marks2 (suc n) first e h = absurd (omega arith)

pub kept_none : (limit : ℕ) (frames : List (List ℕ)) (marks : List Bool) → limit ≤ 65536 → frames ≡ [] → marks ≡ [] → Kept limit 0 0 frames marks
unfolding contents count_out
kept_none limit frames marks h f m =
    rw (f, m) (record { few = h; made_few = omega arith; marked = refl; whole = tt; freed = 0; counted = refl; rest = refl; chain = refl })

module _ (limit count first : ℕ) (frames : List (List ℕ)) (marks : List Bool) (k : Kept limit count first frames marks) where
  pub first_free : count < length frames → First frames marks k.freed first
  first_free h = let r = k.rest in first_of frames marks k.freed first k.chain (omega arith)

  -- a frame that is out has other bytes
  pub stored : (id : ℕ) (new : List ℕ) → slice_get marks id ≡ Some true → IsFrame new → Kept limit count first (slice_set frames id new) marks
  stored id new e f =
      let inside : id < length frames = rw (← k.marked) (got_inside marks id true e) in
      let c : count_out (put_entry (contents frames marks) id (Some new)) + one_of (or_none (slice_get (contents frames marks) id)) ≡ count_out (contents frames marks) + 1 =
      count_put (contents frames marks) id (Some new) in
      let was : one_of (or_none (slice_get (contents frames marks) id)) ≡ 1 = ap one_of (marked_out frames marks id e) ∙ one_there frames id inside in
      let q : count_out (contents frames marks) ≡ count = k.counted in
      record {
        few = k.few;
        made_few = rw (length-set frames id new) k.made_few;
        marked = k.marked ∙ sym (length-set frames id new);
        whole = set_whole frames id new k.whole f;
        freed = k.freed;
        counted = ap count_out (stored_contents frames marks id new k.marked inside e) ∙ (omega arith);
        rest = k.rest ∙ sym (length-set frames id new);
        chain = stored_chain frames (slice_set marks id true) marks k.freed first id new (set_got marks id true e) (chain_kept frames marks k.freed first id new true (out_lacks frames marks k.freed first id e k.chain) k.chain);
      }

  pub some_out : (id : ℕ) → slice_get marks id ≡ Some true → 1 ≤ count
  some_out id e =
      let inside : id < length frames = rw (← k.marked) (got_inside marks id true e) in
      let c : count_out (put_entry (contents frames marks) id None) + one_of (or_none (slice_get (contents frames marks) id)) ≡ count_out (contents frames marks) + 0 =
      count_put (contents frames marks) id None in
      let was : one_of (or_none (slice_get (contents frames marks) id)) ≡ 1 = ap one_of (marked_out frames marks id e) ∙ one_there frames id inside in
      let q : count_out (contents frames marks) ≡ count = k.counted in
      omega arith

  -- a frame that is out is given back, and links to the one that was first
  pub given : (id : ℕ) (new : List ℕ) → slice_get marks id ≡ Some true → link new ≡ first → IsFrame new
      → Kept limit (count - 1) (id + 1) (slice_set frames id new) (slice_set marks id false)
  given id new e t f =
      let inside : id < length frames = rw (← k.marked) (got_inside marks id true e) in
      let some = some_out id e in
      let c : count_out (put_entry (contents frames marks) id None) + one_of (or_none (slice_get (contents frames marks) id)) ≡ count_out (contents frames marks) + 0 =
      count_put (contents frames marks) id None in
      let was : one_of (or_none (slice_get (contents frames marks) id)) ≡ 1 = ap one_of (marked_out frames marks id e) ∙ one_there frames id inside in
      let q : count_out (contents frames marks) ≡ count = k.counted in
      let r : count + k.freed ≡ length frames = k.rest in
      let l = out_lacks frames marks k.freed first id e k.chain in
      let b : behind (slice_set frames id new) id ≡ first = ap (λ o. link (or_empty o)) (same_get frames id new inside) ∙ t in
      let n : id + 1 ≡ suc id = omega arith in
      record {
        few = k.few;
        made_few = rw (length-set frames id new) k.made_few;
        marked = length-set marks id false ∙ k.marked ∙ sym (length-set frames id new);
        whole = set_whole frames id new k.whole f;
        freed = suc k.freed;
        counted = ap count_out (set_contents frames marks id new false k.marked inside) ∙ (omega arith);
        rest = (omega arith) ∙ sym (length-set frames id new);
        chain = rw n (same_get marks id false (got_inside marks id true e), rw b (lacks_kept frames k.freed first id id new l l), rw b (chain_kept frames marks k.freed first id new false l k.chain));
      }

  -- the first frame that isn't out is taken
  pub taken : (frame new : List ℕ) (to : ℕ) → count < length frames → slice_get frames (first - 1) ≡ Some frame → to ≡ link frame → IsFrame new
      → Kept limit (count + 1) to (slice_set frames (first - 1) new) (slice_set marks (first - 1) true)
  taken frame new to h g t f =
      let i = first_free h in
      let inside : first - 1 < length frames = rw (← k.marked) (got_inside marks (first - 1) false i.is_free) in
      let c : count_out (put_entry (contents frames marks) (first - 1) (Some new)) + one_of (or_none (slice_get (contents frames marks) (first - 1))) ≡ count_out (contents frames marks) + 1 =
      count_put (contents frames marks) (first - 1) (Some new) in
      let was : one_of (or_none (slice_get (contents frames marks) (first - 1))) ≡ 0 = ap one_of (unmarked_in frames marks (first - 1) i.is_free) in
      let q : count_out (contents frames marks) ≡ count = k.counted in
      let r : count + k.freed ≡ length frames = k.rest in
      let a : k.freed ≡ suc i.left = i.all in
      let b : to ≡ behind frames (first - 1) = t ∙ sym (ap (λ o. link (or_empty o)) g) in
      record {
        few = k.few;
        made_few = rw (length-set frames (first - 1) new) k.made_few;
        marked = length-set marks (first - 1) true ∙ k.marked ∙ sym (length-set frames (first - 1) new);
        whole = set_whole frames (first - 1) new k.whole f;
        freed = i.left;
        counted = ap count_out (set_contents frames marks (first - 1) new true k.marked inside) ∙ (omega arith);
        rest = (omega arith) ∙ sym (length-set frames (first - 1) new);
        chain = rw b (chain_kept frames marks i.left (behind frames (first - 1)) (first - 1) new true i.once i.chain);
      }

  -- where all frames are out, a new one is kept
  pub kept : (new : List ℕ) → count < limit → count ≡ length frames → IsFrame new → Kept limit (count + 1) first (frames ++ new ∷ []) (marks ++ true ∷ [])
  kept new h all f =
      let c : count_out (put_entry (contents frames marks) (length frames) (Some new)) + one_of (or_none (slice_get (contents frames marks) (length frames))) ≡ count_out (contents frames marks) + 1 =
      count_put (contents frames marks) (length frames) (Some new) in
      let was : one_of (or_none (slice_get (contents frames marks) (length frames))) ≡ 0 = ap one_of (past_in frames marks (length frames) (omega arith)) in
      let q : count_out (contents frames marks) ≡ count = k.counted in
      let r : count + k.freed ≡ length frames = k.rest in
      let a : length (frames ++ new ∷ []) ≡ length frames + 1 = length-append frames (new ∷ []) in
      let b : length (marks ++ true ∷ []) ≡ length marks + 1 = length-append marks (true ∷ []) in
      let m : length marks ≡ length frames = k.marked in
      record {
        few = k.few;
        made_few = rw a (omega arith);
        marked = b ∙ ap (λ n. n + 1) m ∙ sym a;
        whole = kept_whole frames new k.whole f;
        freed = k.freed;
        counted = ap count_out (kept_contents frames marks new m) ∙ (omega arith);
        rest = (omega arith) ∙ sym a;
        chain = no_chain frames marks (frames ++ new ∷ []) (marks ++ true ∷ []) k.freed first (omega arith) k.chain;
      }

  pub whole_here : Whole (record { limit = limit; made = length frames; out = contents frames marks })
  whole_here =
      let q : count_out (contents frames marks) ≡ count = k.counted in
      let r : count + k.freed ≡ length frames = k.rest in
      record {
        few = k.few;
        made_few = k.made_few;
        out_few = rw q (omega arith);
        ids_few = rw (contents_long frames marks) (omega arith);
        frames = λ id bytes e. got_whole frames id bytes k.whole (sym (marked_out frames marks id (out_mark frames marks id (ap is_there e))) ∙ e);
      }
