-- Signals of several events, one after another: what they leave of each event, and the loops that make them.
use Rattle.std.proofs.Common.{◌≡◌, ℕ, zero, suc, ◌+◌, ◌<◌, ◌≤◌, List, [], ◌∷◌, map, length, drop, get_or, refl, sym, ap, ◌∙◌, arith, Bool, true, false, append-nil}
use Rattle.std.specs.Prelude.{◌&&◌, Some, None, if◌then◌else◌, slice_get}
use Rattle.std.specs.List.{filter}
use Rattle.std.proofs.lemmas.List.{length-map, drop_all, at_drop_more, at_drop_all}
use Rattle.std.proofs.lemmas.Bool.{or_parts, cond-false}
use Rattle.uh_base.specs.declared.guid.Guid.{Guid}
use Rattle.event_queue.specs.declared.event.Event.{Event}
use Rattle.event_queue.specs.declared.event.Entry.{Entry}
use Rattle.event_queue.specs.Queue.{EventList, Whole, shown, is_number, is_event, is_fresh, event_at, lowered, raised, raised_if, raise_one, raise_each, in_group, members, companions, group_of, signalled, signal_each, group_signalled}
use Rattle.event_queue.specs.Timers.{is_due, due_events}
use Rattle.event_queue.proofs.Lists.{only_found, any_found, map_drop}
use Rattle.event_queue.proofs.Numbers.{only_event}

-- events that differ in nothing but whether they are signalled
abbrev pub Tied : List Event → List Event → Type 0
Tied xs ys = map lowered xs ≡ map lowered ys

lowered_one : (e : Event) (b : Bool) → lowered (if b then raised e else e) ≡ lowered e
lowered_one e true = refl
lowered_one e false = refl

raised_tied : (n : ℕ) (es : List Event) → Tied (map (raised_if n) es) es
raised_tied n [] = refl
raised_tied n (e ∷ es) = rw (lowered_one e (is_number n e), raised_tied n es) refl

pub one_tied : (s : EventList) (n : ℕ) → Tied (raise_one s n).events s.events
unfolding raise_one
one_tied s n = raised_tied n s.events

pub each_tied : (ns : List ℕ) (s : EventList) → Tied (raise_each ns s).events s.events
unfolding raise_each
each_tied [] s = refl
each_tied (n ∷ ns) s = each_tied ns (raise_one s n) ∙ one_tied s n

pub signal_tied : (s : EventList) (n : ℕ) → Tied (signalled s n).events s.events
unfolding signalled
signal_tied s n = each_tied (companions (group_of (event_at s.events n)) s.events) (raise_one s n) ∙ one_tied s n

pub tied_length : (xs ys : List Event) → Tied xs ys → length xs ≡ length ys
tied_length xs ys t = sym (length-map xs lowered) ∙ (ap length t ∙ length-map ys lowered)

members_lowered : (g : Guid) (es : List Event) → members g (map lowered es) ≡ members g es
unfolding members
members_lowered g [] = refl
members_lowered g (e ∷ es) = by (in_group g e) (members_lowered g es)
  where
    by : (b : Bool) → map (λ (x : Event). x.number) (filter (in_group g) (map lowered es)) ≡ map (λ (x : Event). x.number) (filter (in_group g) es)
        → map (λ (x : Event). x.number) (if b then lowered e ∷ filter (in_group g) (map lowered es) else filter (in_group g) (map lowered es))
        ≡ map (λ (x : Event). x.number) (if b then e ∷ filter (in_group g) es else filter (in_group g) es)
    by true h = ap (λ ns. e.number ∷ ns) h
    by false h = h

pub members_tied : (g : Guid) (k : ℕ) (xs ys : List Event) → Tied xs ys → members g (drop k xs) ≡ members g (drop k ys)
members_tied g k xs ys t =
    sym (members_lowered g (drop k xs)) ∙ (ap (members g) (map_drop lowered k xs ∙ (ap (drop k) t ∙ sym (map_drop lowered k ys))) ∙ members_lowered g (drop k ys))

due_lowered : (present : ℕ) (es : List Event) → due_events present (map lowered es) ≡ due_events present es
unfolding due_events
due_lowered present [] = refl
due_lowered present (e ∷ es) = by (is_due present e) (due_lowered present es)
  where
    by : (b : Bool) → map (λ (x : Event). x.number) (filter (is_due present) (map lowered es)) ≡ map (λ (x : Event). x.number) (filter (is_due present) es)
        → map (λ (x : Event). x.number) (if b then lowered e ∷ filter (is_due present) (map lowered es) else filter (is_due present) (map lowered es))
        ≡ map (λ (x : Event). x.number) (if b then e ∷ filter (is_due present) es else filter (is_due present) es)
    by true h = ap (λ ns. e.number ∷ ns) h
    by false h = h

pub due_tied : (present k : ℕ) (xs ys : List Event) → Tied xs ys → due_events present (drop k xs) ≡ due_events present (drop k ys)
due_tied present k xs ys t =
    sym (due_lowered present (drop k xs)) ∙ (ap (due_events present) (map_drop lowered k xs ∙ (ap (drop k) t ∙ sym (map_drop lowered k ys))) ∙ due_lowered present (drop k ys))

drop_here : (i : ℕ) (es : List Event) (e : Event) → slice_get es i ≡ Some e → drop i es ≡ e ∷ drop (i + 1) es
drop_here i [] e g = absurd (cc)
drop_here zero (x ∷ es) e g = let same : x ≡ e = cc in ap (λ y. y ∷ es) same
drop_here (suc i) (x ∷ es) e g = let next : suc i + 1 ≡ suc (i + 1) = omega arith in drop_here i es e g ∙ sym (ap (λ n. e ∷ drop n (x ∷ es)) next)

-- ---- a loop over a group

pub group_here : (s : EventList) (g : Guid) (i : ℕ) (e : Event) → slice_get s.events i ≡ Some e → in_group g e ≡ true
    → raise_each (members g (drop i s.events)) s ≡ raise_each (members g (drop (i + 1) (raise_one s e.number).events)) (raise_one s e.number)
unfolding raise_each members
group_here s g i e h b =
    ap (λ es. raise_each (members g es) s) (drop_here i s.events e h)
    ∙ (rw b refl ∙ ap (λ ns. raise_each ns (raise_one s e.number)) (sym (members_tied g (i + 1) (raise_one s e.number).events s.events (one_tied s e.number))))

pub group_passed : (s : EventList) (g : Guid) (i : ℕ) (e : Event) → slice_get s.events i ≡ Some e → in_group g e ≡ false
    → raise_each (members g (drop i s.events)) s ≡ raise_each (members g (drop (i + 1) s.events)) s
unfolding members
group_passed s g i e h b = ap (λ es. raise_each (members g es) s) (drop_here i s.events e h) ∙ rw b refl

pub group_over : (s : EventList) (g : Guid) (i : ℕ) → length s.events ≤ i → raise_each (members g (drop i s.events)) s ≡ s
unfolding raise_each members
group_over s g i h = ap (λ es. raise_each (members g es) s) (drop_all i s.events h)

pub group_all : (s : EventList) (g : Guid) → raise_each (members g (drop 0 s.events)) s ≡ group_signalled s g
unfolding group_signalled
group_all s g = refl

-- ---- a signal of one event and its group

found : (s : EventList) (i : ℕ) (e : Event) → Whole s → slice_get s.events i ≡ Some e → event_at s.events e.number ≡ Some e
found s i e w h = only_found (is_number e.number) s.events i e (only_event 8 (shown s.made) i s.events e w.rising h)

pub signal_alone : (s : EventList) (i : ℕ) (e : Event) → Whole s → slice_get s.events i ≡ Some e → e.group ≡ None → raise_one s e.number ≡ signalled s e.number
unfolding signalled raise_each
signal_alone s i e w h n = rw (found s i e w h, n) refl

pub signal_group_of : (s t : EventList) (i : ℕ) (e : Event) (g : Guid) → Whole s → slice_get s.events i ≡ Some e → e.group ≡ Some g → t ≡ raise_one s e.number → group_signalled t g ≡ signalled s e.number
unfolding signalled group_signalled
signal_group_of s t i e g w h n r =
    rw (r, found s i e w h, n) (ap (λ ns. raise_each ns (raise_one s e.number)) (members_tied g 0 (raise_one s e.number).events s.events (one_tied s e.number)))

-- ---- a loop over the timers

pub due_here : (s : EventList) (present i : ℕ) (e : Event) → slice_get s.events i ≡ Some e → is_due present e ≡ true
    → signal_each (due_events present (drop i s.events)) s ≡ signal_each (due_events present (drop (i + 1) (signalled s e.number).events)) (signalled s e.number)
unfolding signal_each due_events
due_here s present i e h b =
    ap (λ es. signal_each (due_events present es) s) (drop_here i s.events e h)
    ∙ (rw b refl ∙ ap (λ ns. signal_each ns (signalled s e.number)) (sym (due_tied present (i + 1) (signalled s e.number).events s.events (signal_tied s e.number))))

pub due_passed : (s : EventList) (present i : ℕ) (e : Event) → slice_get s.events i ≡ Some e → is_due present e ≡ false
    → signal_each (due_events present (drop i s.events)) s ≡ signal_each (due_events present (drop (i + 1) s.events)) s
unfolding due_events
due_passed s present i e h b = ap (λ es. signal_each (due_events present es) s) (drop_here i s.events e h) ∙ rw b refl

pub due_over : (s : EventList) (present i : ℕ) → length s.events ≤ i → signal_each (due_events present (drop i s.events)) s ≡ s
unfolding signal_each due_events
due_over s present i h = ap (λ es. signal_each (due_events present es) s) (drop_all i s.events h)

-- ---- a signal of what is no event

none_raised : (n : ℕ) (es : List Event) → is_event es n ≡ false → map (raised_if n) es ≡ es
none_raised n [] h = refl
none_raised n (e ∷ es) h =
    let k = or_parts (is_number n e) (is_event es n) h in
    let same : raised_if n e ≡ e = cond-false _ _ _ k.0 in
    rw (same, none_raised n es k.1) refl

none_queued : (n : ℕ) (es : List Event) → is_event es n ≡ false → filter (λ event. is_number n event && is_fresh event) es ≡ []
none_queued n [] h = refl
none_queued n (e ∷ es) h = let k = or_parts (is_number n e) (is_event es n) h in rw k.0 (none_queued n es k.1)

pub unknown_signalled : (s : EventList) (n : ℕ) → event_at s.events n ≡ None → s ≡ signalled s n
unfolding signalled raise_one raise_each
unknown_signalled s n h =
    let gone = any_found (is_number n) s.events h in
    sym (rw (h, none_raised n s.events gone, none_queued n s.events gone) (ap (λ (q : List Entry). record s { queue = q }) (append-nil s.queue)))

-- ---- signals leave the last tick

one_last : (s : EventList) (n : ℕ) → (raise_one s n).last_tick ≡ s.last_tick
unfolding raise_one
one_last s n = refl

raised_last : (ns : List ℕ) (s : EventList) → (raise_each ns s).last_tick ≡ s.last_tick
unfolding raise_each
raised_last [] s = refl
raised_last (n ∷ ns) s = raised_last ns (raise_one s n) ∙ one_last s n

signal_last : (s : EventList) (n : ℕ) → (signalled s n).last_tick ≡ s.last_tick
unfolding signalled
signal_last s n = raised_last (companions (group_of (event_at s.events n)) s.events) (raise_one s n) ∙ one_last s n

pub signals_last : (ns : List ℕ) (s : EventList) → (signal_each ns s).last_tick ≡ s.last_tick
unfolding signal_each
signals_last [] s = refl
signals_last (n ∷ ns) s = signals_last ns (signalled s n) ∙ signal_last s n

-- ---- a loop over numbers

pub each_here : (ns : List ℕ) (i d : ℕ) (s : EventList) → i < length ns → signal_each (drop i ns) s ≡ signal_each (drop (i + 1) ns) (signalled s (get_or ns i d))
unfolding signal_each
each_here ns i d s h = at_drop_more (λ ms. signal_each ms s) ns i d h

pub each_over : (ns : List ℕ) (i : ℕ) (s : EventList) → length ns ≤ i → signal_each (drop i ns) s ≡ s
unfolding signal_each
each_over ns i s h = at_drop_all (λ ms. signal_each ms s) ns i h
