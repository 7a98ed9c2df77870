-- What keeps a list of events whole.
use Rattle.std.proofs.Common.{◌≡◌, ℕ, zero, suc, ◌+◌, ◌-◌, ◌<◌, ◌^◌, List, [], ◌∷◌, ◌++◌, map, length, take, drop, set, get_or, refl, sym, ap, ◌∙◌, arith, Bool, true, false, inl, inr, length-append, length-set, append-nil}
use Rattle.std.specs.Prelude.{◌==◌, ◌&&◌, ◌||◌, not, Option, Some, None, if◌then◌else◌, slice_get, slice_set, is_some, IfSome, IfNone, Ok, Err}
use Rattle.std.specs.List.{list_any, filter, remove, position}
use Rattle.std.proofs.lemmas.List.{length-map, take_all, drop_all}
use Rattle.std.proofs.lemmas.Option.{slice_get-get_or}
use Rattle.std.proofs.lemmas.Bool.{and_parts, or_left, or_right, or_cases, true≢false, eqb-true}
use Rattle.event_queue.specs.declared.event.Event.{Event}
use Rattle.event_queue.specs.declared.event.Entry.{Entry}
use Rattle.event_queue.specs.declared.timer.Timer.{Timer}
use Rattle.uh_base.specs.declared.guid.Guid.{Guid}
use Rattle.event_queue.specs.declared.refusal.EventRefusal.TheVariants.{Invalid}
use Rattle.event_queue.specs.Calls.{known, no_events}
use Rattle.event_queue.specs.Kinds.{notifies, is_signal, is_wait, is_kind, is_level, can_notify, is_request}
use Rattle.event_queue.specs.Timers.{with_timer, rewound, rewound_timer, is_due, stopped}
use Rattle.event_queue.specs.Queue.{EventList, Whole, shown, EachOnce, is_number, is_entry, is_event, is_queued, event_at, entry_of, is_fresh, has_level, raised, lowered, raised_if, raise_one, lower_one, queue_one, without, is_entry_of}
use Rattle.event_queue.proofs.Lists.{Only, any_found, any_found_some, place_none, place_some, any_here, only_mapped, only_filtered, only_passes, only_removed, all_left, any_left, all_filtered, length_filtered}
use Rattle.event_queue.proofs.Numbers.{only_event, only_entry, rising_map, rising_set, rising_filter, rising_push, once_filter, once_push}
use Rattle.event_queue.proofs.Live.{Alike, all_live_set, all_live_map, live_here, all_live_push, all_live_more, all_live_without, queued_is_event, high_is_none, few_queued, fresh_at, fresh_set, fresh_filter, fresh_fewer, fresh_none, fresh_more, fresh_map, fresh_push, level_set, level_map, level_more}

pub set_here : {X : Type 0} (i : ℕ) (xs : List X) (x : X) → slice_get xs i ≡ Some x → set xs i x ≡ xs
set_here i [] x g = refl
set_here zero (y ∷ xs) x g = let same : y ≡ x = cc in ap (λ z. z ∷ xs) (sym same)
set_here (suc i) (y ∷ xs) x g = ap (λ zs. y ∷ zs) (set_here i xs x g)

pub get_set : {X : Type 0} (i : ℕ) (xs : List X) (x y : X) → slice_get xs i ≡ Some x → slice_get (set xs i y) i ≡ Some y
get_set i [] x y g = absurd (cc)
get_set zero (z ∷ xs) x y g = refl
get_set (suc i) (z ∷ xs) x y g = get_set i xs x y g

pub get_below : {X : Type 0} (i : ℕ) (xs : List X) (x : X) → slice_get xs i ≡ Some x → i < length xs
get_below i [] x g = absurd (cc)
get_below zero (y ∷ xs) x g = omega arith
get_below (suc i) (y ∷ xs) x g = let h = get_below i xs x g in omega arith

-- ---- one event changed

pub whole_set : (s : EventList) (i : ℕ) (e y : Event) → Whole s → slice_get s.events i ≡ Some e → Alike e y → (is_fresh y ≡ true → is_queued s.queue y.number ≡ false) → Whole (record s { events = slice_set s.events i y })
whole_set s i e y w g a f = record {
  few = rw (length-set s.events i y) w.few;
  made = w.made;
  rising = rising_set 8 (shown s.made) i s.events e y g a.number w.rising;
  levels = level_set i s.events e y g a w.levels;
  live = all_live_set i s.events e y s.queue g a ∙ w.live;
  once = w.once;
  fresh = fresh_set i s.queue s.events y w.fresh f;
}

-- ---- a notification queued

pub whole_push : (s : EventList) (i : ℕ) (e : Event) → Whole s → slice_get s.events i ≡ Some e → notifies e.kind ≡ true → is_fresh e ≡ false → is_queued s.queue e.number ≡ false → Whole (record s { queue = s.queue ++ entry_of e ∷ [] })
whole_push s i e w g n f q = record {
  few = w.few;
  made = w.made;
  rising = w.rising;
  levels = w.levels;
  live = all_live_push s.events s.queue (entry_of e) w.live (live_here i s.events e g n);
  once = once_push s.queue (entry_of e) w.once q;
  fresh = fresh_push 8 (shown s.made) i s.queue s.events e w.rising g f w.fresh;
}

pub push_room : (s : EventList) (i : ℕ) (e : Event) → Whole s → slice_get s.events i ≡ Some e → notifies e.kind ≡ true → is_fresh e ≡ false → is_queued s.queue e.number ≡ false → length s.queue < 256
push_room s i e w g n f q =
    let v = whole_push s i e w g n f q in
    let k = few_queued s.events (s.queue ++ entry_of e ∷ []) v.live v.once in
    let l = length-append s.queue (entry_of e ∷ []) in
    let m = w.few in
    omega (arith, k, l, m)

-- ---- a signal

is_raised : (e : Event) → is_fresh (raised e) ≡ false
is_raised e = refl

pub raise_set_whole : (s : EventList) (i : ℕ) (e : Event) → Whole s → slice_get s.events i ≡ Some e → Whole (record s { events = slice_set s.events i (raised e) })
raise_set_whole s i e w g = whole_set s i e (raised e) w g (record { number = refl; kind = refl; tpl = refl }) (λ f. absurd (true≢false (sym f)))

fresh_here : (s : EventList) (i : ℕ) (e : Event) → Whole s → slice_get s.events i ≡ Some e → e.signalled ≡ false → is_signal e.kind ≡ true → is_queued s.queue e.number ≡ false
fresh_here s i e w g f k = fresh_at i s.queue s.events e w.fresh g (rw (f, k) refl)

pub raise_whole : (s : EventList) (i : ℕ) (e : Event) → Whole s → slice_get s.events i ≡ Some e → e.signalled ≡ false → is_signal e.kind ≡ true
    → Whole (record s { events = slice_set s.events i (raised e); queue = s.queue ++ entry_of e ∷ [] })
raise_whole s i e w g f k =
    whole_push (record s { events = slice_set s.events i (raised e) }) i (raised e) (raise_set_whole s i e w g) (get_set i s.events e (raised e) g) (or_right _ _ k) refl (fresh_here s i e w g f k)

pub raise_room : (s : EventList) (i : ℕ) (e : Event) → Whole s → slice_get s.events i ≡ Some e → e.signalled ≡ false → is_signal e.kind ≡ true → length s.queue < 256
raise_room s i e w g f k =
    push_room (record s { events = slice_set s.events i (raised e) }) i (raised e) (raise_set_whole s i e w g) (get_set i s.events e (raised e) g) (or_right _ _ k) refl (fresh_here s i e w g f k)

only_here : (s : EventList) (i : ℕ) (e : Event) → Whole s → slice_get s.events i ≡ Some e → Only (is_number e.number) s.events i e
only_here s i e w g = only_event 8 (shown s.made) i s.events e w.rising g

-- the notification that a signal queues
queued_by : (s : EventList) (i : ℕ) (e : Event) (b : Bool) → Whole s → slice_get s.events i ≡ Some e → is_fresh e ≡ b → map entry_of (filter (λ x. is_number e.number x && is_fresh x) s.events) ≡ (if b then entry_of e ∷ [] else [])
queued_by s i e b w g f = rw (only_filtered (is_number e.number) is_fresh s.events i e (only_here s i e w g), f) (by b)
  where
    by : (b : Bool) → map entry_of (if b then e ∷ [] else []) ≡ (if b then entry_of e ∷ [] else [])
    by true = refl
    by false = refl

pub raise_fresh : (s : EventList) (i : ℕ) (e : Event) → Whole s → slice_get s.events i ≡ Some e → e.signalled ≡ false → is_signal e.kind ≡ true
    → record s { events = slice_set s.events i (raised e); queue = s.queue ++ entry_of e ∷ [] } ≡ raise_one s e.number
unfolding raise_one
raise_fresh s i e w g f k =
    ap (λ (es : List Event). record s { events = es; queue = s.queue ++ entry_of e ∷ [] }) (sym (only_mapped (is_number e.number) raised s.events i e (only_here s i e w g)))
    ∙ ap (λ (q : List Entry). record s { events = map (raised_if e.number) s.events; queue = s.queue ++ q }) (sym (queued_by s i e true w g (rw (f, k) refl)))

pub raise_flag : (s : EventList) (i : ℕ) (e : Event) → Whole s → slice_get s.events i ≡ Some e → is_signal e.kind ≡ false
    → record s { events = slice_set s.events i (raised e) } ≡ raise_one s e.number
unfolding raise_one
raise_flag s i e w g k =
    ap (λ (es : List Event). record s { events = es }) (sym (only_mapped (is_number e.number) raised s.events i e (only_here s i e w g)))
    ∙ ap (λ (q : List Entry). record s { events = map (raised_if e.number) s.events; queue = q }) (sym (append-nil s.queue))
    ∙ ap (λ (q : List Entry). record s { events = map (raised_if e.number) s.events; queue = s.queue ++ q }) (sym (queued_by s i e false w g (rw k (not_fresh e.signalled))))
  where
    not_fresh : (b : Bool) → (not b && false) ≡ false
    not_fresh true = refl
    not_fresh false = refl

pub raise_again : (s : EventList) (i : ℕ) (e : Event) → Whole s → slice_get s.events i ≡ Some e → e.signalled ≡ true → s ≡ raise_one s e.number
unfolding raise_one
raise_again s i e w g f =
    let same : raised e ≡ e = ap (λ (b : Bool). record e { signalled = b }) (sym f) in
    ap (λ (es : List Event). record s { events = es }) (sym (only_mapped (is_number e.number) raised s.events i e (only_here s i e w g) ∙ (ap (set s.events i) same ∙ set_here i s.events e g)))
    ∙ ap (λ (q : List Entry). record s { events = map (raised_if e.number) s.events; queue = q }) (sym (append-nil s.queue))
    ∙ ap (λ (q : List Entry). record s { events = map (raised_if e.number) s.events; queue = s.queue ++ q }) (sym (queued_by s i e false w g (rw f refl)))

-- ---- a signal cleared

pub lower_is : (s : EventList) (i : ℕ) (e : Event) → Whole s → slice_get s.events i ≡ Some e → record s { events = slice_set s.events i (lowered e) } ≡ lower_one s e.number
unfolding lower_one
lower_is s i e w g = ap (λ (es : List Event). record s { events = es }) (sym (only_mapped (is_number e.number) lowered s.events i e (only_here s i e w g)))

pub lower_whole : (s : EventList) (i : ℕ) (e : Event) → Whole s → slice_get s.events i ≡ Some e → is_signal e.kind ≡ false → Whole (record s { events = slice_set s.events i (lowered e) })
lower_whole s i e w g k = whole_set s i e (lowered e) w g (record { number = refl; kind = refl; tpl = refl }) (λ f. absurd (true≢false (sym f ∙ rw k refl)))

-- ---- a notification asked for

pub wait_whole : (s : EventList) (i : ℕ) (e : Event) → Whole s → slice_get s.events i ≡ Some e → is_wait e.kind ≡ true → is_signal e.kind ≡ false → is_queued s.queue e.number ≡ false → Whole (record s { queue = s.queue ++ entry_of e ∷ [] })
wait_whole s i e w g n k q = whole_push s i e w g (or_left _ _ n) (rw k (not_fresh e.signalled)) q
  where
    not_fresh : (b : Bool) → (not b && false) ≡ false
    not_fresh true = refl
    not_fresh false = refl

pub wait_room : (s : EventList) (i : ℕ) (e : Event) → Whole s → slice_get s.events i ≡ Some e → is_wait e.kind ≡ true → is_signal e.kind ≡ false → is_queued s.queue e.number ≡ false → length s.queue < 256
wait_room s i e w g n k q = push_room s i e w g (or_left _ _ n) (rw k (not_fresh e.signalled)) q
  where
    not_fresh : (b : Bool) → (not b && false) ≡ false
    not_fresh true = refl
    not_fresh false = refl

pub wait_is : (s : EventList) (i : ℕ) (e : Event) → Whole s → slice_get s.events i ≡ Some e → is_queued s.queue e.number ≡ false → record s { queue = s.queue ++ entry_of e ∷ [] } ≡ queue_one s e.number
unfolding queue_one
wait_is s i e w g q =
    rw (q, only_passes (is_number e.number) s.events i e (only_here s i e w g)) refl

pub wait_again : (s : EventList) (n : ℕ) → is_queued s.queue n ≡ true → s ≡ queue_one s n
unfolding queue_one
wait_again s n q = rw q refl

-- ---- a new event

pub add_whole : (s : EventList) (e : Event) → Whole s → length s.events < 256 → s.made < 2 ^ 60 - 1 → e.number ≡ shown (s.made + 1) → has_level e ≡ true
    → Whole (record s { events = s.events ++ e ∷ []; made = s.made + 1 })
add_whole s e w l m n h = record {
  few = (let k = length-append s.events (e ∷ []) in omega (arith, k));
  made = omega arith;
  rising = rising_push 8 (shown s.made) (shown (s.made + 1)) s.events e w.rising (omega arith) (omega arith);
  levels = level_more s.events e h w.levels;
  live = all_live_more s.events e s.queue w.live;
  once = w.once;
  fresh = fresh_more s.queue s.events e w.fresh (queued_is_event s.events s.queue e.number w.live (high_is_none 8 (shown s.made) e.number s.events w.rising (omega arith)));
}

-- ---- an event gone

pub unqueued : (q : List Entry) (i n : ℕ) (x : Entry) → EachOnce q → slice_get q i ≡ Some x → x.event ≡ n → filter (λ entry. not (is_entry n entry)) q ≡ remove q i
unqueued q i n x o g h = rw (← h) (only_removed (is_entry x.event) q i x (only_entry i q x o g))

pub removed : (s : EventList) (i : ℕ) (e : Event) → Whole s → slice_get s.events i ≡ Some e → filter (λ event. not (is_number e.number event)) s.events ≡ remove s.events i
removed s i e w g = only_removed (is_number e.number) s.events i e (only_here s i e w g)

whole_without : (s : EventList) (n : ℕ) → Whole s → Whole (without s n)
unfolding without
whole_without s n w = record {
  few = (let k = length_filtered (λ event. not (is_number n event)) s.events in let l = w.few in omega (arith, k, l));
  made = w.made;
  rising = rising_filter (λ event. not (is_number n event)) 8 (shown s.made) s.events w.rising;
  levels = all_filtered has_level (λ event. not (is_number n event)) s.events w.levels;
  live = all_live_without n s.events (filter (λ entry. not (is_entry n entry)) s.queue) (any_left (is_entry n) s.queue) (all_filtered (λ x. list_any (is_entry_of x) s.events) (λ entry. not (is_entry n entry)) s.queue w.live);
  once = once_filter (λ entry. not (is_entry n entry)) s.queue w.once;
  fresh = fresh_filter (λ event. not (is_number n event)) _ s.events (fresh_fewer (λ entry. not (is_entry n entry)) s.queue s.events w.fresh);
}

pub without_is : (s : EventList) (i : ℕ) (e : Event) → Whole s → slice_get s.events i ≡ Some e → record s { events = remove s.events i; queue = filter (λ entry. not (is_entry e.number entry)) s.queue } ≡ without s e.number
unfolding without
without_is s i e w g = rw (removed s i e w g) refl

pub without_whole : (s : EventList) (i : ℕ) (e : Event) → Whole s → slice_get s.events i ≡ Some e → Whole (record s { events = remove s.events i; queue = filter (λ entry. not (is_entry e.number entry)) s.queue })
without_whole s i e w g = rw (without_is s i e w g) (whole_without s e.number w)

-- ---- all events changed

pub map_whole : (s : EventList) (f : Event → Event) (last : ℕ) → ((e : Event) → Alike e (f e)) → ((e : Event) → is_fresh (f e) ≡ is_fresh e) → Whole s → Whole (record s { events = map f s.events; last_tick = last })
map_whole s f last a b w = record {
  few = rw (length-map s.events f) w.few;
  made = w.made;
  rising = rising_map f 8 (shown s.made) s.events (λ e. (a e).number) w.rising;
  levels = level_map f s.events a w.levels;
  live = all_live_map f s.events s.queue a ∙ w.live;
  once = w.once;
  fresh = fresh_map f s.queue s.events a b w.fresh;
}

-- ---- some events left and no queue

pub kept_whole : (s : EventList) (p : Event → Bool) → Whole s → Whole (record s { events = filter p s.events; queue = [] })
kept_whole s p w = record {
  few = (let k = length_filtered p s.events in let l = w.few in omega (arith, k, l));
  made = w.made;
  rising = rising_filter p 8 (shown s.made) s.events w.rising;
  levels = all_filtered has_level p s.events w.levels;
  live = refl;
  once = tt;
  fresh = fresh_none (filter p s.events);
}

-- ---- a timer set

pub set_is : (s : EventList) (i : ℕ) (e : Event) (timer : Timer) → Whole s → slice_get s.events i ≡ Some e → record s { events = slice_set s.events i (record e { timer = timer }) } ≡ with_timer s e.number timer
unfolding with_timer
set_is s i e timer w g = ap (λ (es : List Event). record s { events = es }) (sym (only_mapped (is_number e.number) (λ x. record x { timer = timer }) s.events i e (only_here s i e w g)))

pub timer_whole : (s : EventList) (i : ℕ) (e : Event) (timer : Timer) → Whole s → slice_get s.events i ≡ Some e → Whole (record s { events = slice_set s.events i (record e { timer = timer }) })
timer_whole s i e timer w g = whole_set s i e (record e { timer = timer }) w g (record { number = refl; kind = refl; tpl = refl }) (λ f. fresh_at i s.queue s.events e w.fresh g f)

-- ---- whether a notification stands in the queue

pub is_unplaced : (q part : List Entry) (n : ℕ) (r : Option ℕ) (b : Bool) → part ≡ q → r ≡ position (is_entry n) part → is_some r ≡ not b → b ≡ true → is_queued q n ≡ false
is_unplaced q part n None b e f g h = place_none (is_entry n) q (ap (position (is_entry n)) (sym e) ∙ sym f)
is_unplaced q part n (Some i) b e f g h = absurd (true≢false (g ∙ rw h refl))

pub is_placed : (q part : List Entry) (n : ℕ) (r : Option ℕ) (b : Bool) → part ≡ q → r ≡ position (is_entry n) part → is_some r ≡ not b → b ≡ false → is_queued q n ≡ true
is_placed q part n None b e f g h = absurd (true≢false (sym (g ∙ rw h refl)))
is_placed q part n (Some i) b e f g h =
    let k = place_some (is_entry n) q i (ap (position (is_entry n)) (sym e) ∙ sym f) in
    any_here (is_entry n) q i k.0 k.1 k.2

pub unqueue_some : (q part : List Entry) (n i : ℕ) → part ≡ q → Some i ≡ position (is_entry n) part → EachOnce q → remove q i ≡ filter (λ entry. not (is_entry n entry)) q
unqueue_some q part n i e f o =
    let k = place_some (is_entry n) q i (ap (position (is_entry n)) (sym e) ∙ sym f) in
    sym (unqueued q i n k.0 o k.1 (eqb-true k.0.event n k.2))

pub unqueue_none : (q part : List Entry) (n : ℕ) → part ≡ q → None ≡ position (is_entry n) part → q ≡ filter (λ entry. not (is_entry n entry)) q
unqueue_none q part n e f = sym (all_left (is_entry n) q (place_none (is_entry n) q (ap (position (is_entry n)) (sym e) ∙ sym f)))

-- ---- an event found

pub read_here : (es : List Event) (i : ℕ) (e : Event) → i < length es → e ≡ get_or es i e → slice_get es i ≡ Some e
read_here es i e h r = slice_get-get_or es i e h ∙ ap Some (sym r)

pub is_event_none : (es : List Event) (n : ℕ) → event_at es n ≡ None → is_event es n ≡ false
is_event_none es n h = any_found (is_number n) es h

pub is_event_some : (es : List Event) (n : ℕ) (e : Event) → event_at es n ≡ Some e → is_event es n ≡ true
is_event_some es n e h = any_found_some (is_number n) es e h

-- ---- a slice of a whole vector, written back

pub written_back : (n : ℕ) (xs ys : List Event) → n ≡ length ys → length xs ≡ length ys → take n (xs ++ drop (length xs) ys) ≡ xs
written_back n xs ys h l =
    rw (drop_all (length xs) ys (omega (arith, l)), append-nil) (take_all n xs (omega (arith, h, l)))

-- ---- timers stopped and rewound

keeps_if : (e : Event) (timer : Timer) (b : Bool) → Alike e (if b then record e { timer = timer } else e)
keeps_if e timer true = record { number = refl; kind = refl; tpl = refl }
keeps_if e timer false = record { number = refl; kind = refl; tpl = refl }

fresh_if : (e : Event) (timer : Timer) (b : Bool) → is_fresh (if b then record e { timer = timer } else e) ≡ is_fresh e
fresh_if e timer true = refl
fresh_if e timer false = refl

pub rewound_whole : (s : EventList) (present : ℕ) → Whole s → Whole (record s { events = map (rewound present) s.events; last_tick = present })
rewound_whole s present w = map_whole s (rewound present) present (λ e. keeps_if e (rewound_timer present e.timer) (is_due present e)) (λ e. fresh_if e (rewound_timer present e.timer) (is_due present e)) w

pub stopped_whole : (s : EventList) → Whole s → Whole (record s { events = map stopped s.events })
stopped_whole s w = map_whole s stopped s.last_tick (λ e. record { number = refl; kind = refl; tpl = refl }) (λ e. refl) w

pub is_known : (es : List Event) (n : ℕ) (r : Option (ℕ × Event)) → IfNone r (event_at es n ≡ None) → IfSome r (λ found. event_at es n ≡ Some found.1) → is_some r ≡ is_event es n
is_known es n None h k = sym (is_event_none es n h)
is_known es n (Some found) h k = sym (is_event_some es n found.1 k)

pub known_none : (s : EventList) (n : ℕ) → event_at s.events n ≡ None → Err Invalid ≡ known s n
unfolding known
known_none s n h = rw (is_event_none s.events n h) refl

pub known_some : (s : EventList) (n : ℕ) (e : Event) → event_at s.events n ≡ Some e → Ok tt ≡ known s n
unfolding known
known_some s n e h = rw (is_event_some s.events n e h) refl

pub request_level : (kind tpl function : ℕ) (group : Option Guid) → is_request kind tpl function group ≡ true → (not (notifies kind) || is_level tpl) ≡ true
unfolding is_request
request_level kind tpl function group h =
    let a = and_parts (is_kind kind) _ h in
    let b = and_parts (not (notifies kind) || can_notify function tpl) _ a.1 in
    elim (or_cases (not (notifies kind)) (can_notify function tpl) b.0) [
      | inl k ↦ or_left _ _ k
      | inr k ↦ or_right _ _ (and_parts (not (function == 0)) _ k).1
    ]

-- ---- no events

pub nothing_whole : (ticks : List ℕ) → Whole (no_events ticks)
nothing_whole ticks = record { few = omega arith; made = omega arith; rising = omega arith; levels = refl; live = refl; once = tt; fresh = tt }
