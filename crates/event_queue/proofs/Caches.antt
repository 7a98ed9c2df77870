-- What is kept beside the lists: the greatest level in the queue and the least due moment.
use Rattle.std.proofs.Common.{◌≡◌, ℕ, zero, suc, min, max, List, [], ◌∷◌, ◌++◌, map, set, refl, sym, ap, ◌∙◌, arith, false}
use Rattle.std.specs.Prelude.{Option, Some, None, slice_get}
use Rattle.std.proofs.lemmas.Bool.{leb-false, lt-leb, cond-false}
use Rattle.event_queue.specs.declared.event.Event.{Event}
use Rattle.event_queue.specs.declared.event.Entry.{Entry}
use Rattle.event_queue.specs.declared.timer.Timer.{Timer}
use Rattle.event_queue.specs.declared.timer.Timer.TheVariants.{Stopped}
use Rattle.event_queue.specs.Queue.{EventList, greatest, signal_each}
use Rattle.event_queue.specs.Timers.{due_of, is_up_to, due_events, rewound, stopped, lesser, least_due, ticked}

pub greatest_push : (q : List Entry) (x : Entry) → greatest (q ++ x ∷ []) ≡ max (greatest q) x.tpl
unfolding greatest
greatest_push [] x = omega arith
greatest_push (y ∷ q) x = let h = greatest_push q x in omega (arith, h)

pub top_pushed : (q new : List Entry) (x : Entry) (top more : ℕ) → new ≡ q ++ x ∷ [] → top ≡ greatest q → more ≡ max top x.tpl → more ≡ greatest new
top_pushed q new x top more n t m = m ∙ (ap (λ (a : ℕ). max a x.tpl) t ∙ (sym (greatest_push q x) ∙ ap greatest (sym n)))

pub due_set : (i : ℕ) (es : List Event) (e y : Event) → slice_get es i ≡ Some e → y.timer ≡ e.timer → least_due (set es i y) ≡ least_due es
unfolding least_due
due_set i [] e y g t = refl
due_set zero (x ∷ es) e y g t = let same : x ≡ e = cc in ap (λ (timer : Timer). lesser (due_of timer) (least_due es)) (t ∙ ap (λ (z : Event). z.timer) (sym same))
due_set (suc i) (x ∷ es) e y g t = ap (lesser (due_of x.timer)) (due_set i es e y g t)

lesser_none : (a : Option ℕ) → lesser a None ≡ a
lesser_none None = refl
lesser_none (Some a) = refl

pub due_push : (es : List Event) (e : Event) → e.timer ≡ Stopped → least_due (es ++ e ∷ []) ≡ least_due es
unfolding least_due
due_push [] e t = rw t refl
due_push (x ∷ es) e t = ap (lesser (due_of x.timer)) (due_push es e t)

pub due_stopped : (es : List Event) → least_due (map stopped es) ≡ None
unfolding least_due
due_stopped [] = refl
due_stopped (e ∷ es) = due_stopped es

-- ---- nothing due

calm_parts : (present : ℕ) (a b : Option ℕ) → is_up_to present (lesser a b) ≡ false → (is_up_to present a ≡ false) × (is_up_to present b ≡ false)
calm_parts present None b h = (refl, h)
calm_parts present (Some a) None h = (h, refl)
calm_parts present (Some a) (Some b) h = let l = leb-false (min a b) present h in (lt-leb a present (omega (arith, l)), lt-leb b present (omega (arith, l)))

calm_due : (present : ℕ) (es : List Event) → is_up_to present (least_due es) ≡ false → due_events present es ≡ []
unfolding due_events least_due
calm_due present [] h = refl
calm_due present (e ∷ es) h = let k = calm_parts present (due_of e.timer) (least_due es) h in rw k.0 (calm_due present es k.1)

calm_same : (present : ℕ) (es : List Event) → is_up_to present (least_due es) ≡ false → map (rewound present) es ≡ es
unfolding least_due
calm_same present [] h = refl
calm_same present (e ∷ es) h =
    let k = calm_parts present (due_of e.timer) (least_due es) h in
    let same : rewound present e ≡ e = cond-false _ _ _ k.0 in
    rw (same, calm_same present es k.1) refl

pub calm_tick : (s : EventList) (present : ℕ) → is_up_to present (least_due s.events) ≡ false → ticked s present ≡ record s { last_tick = present }
unfolding ticked signal_each
calm_tick s present h = rw (calm_due present s.events h, calm_same present s.events h) refl

-- ---- an empty list

pub nothing_queued : 0 ≡ greatest []
unfolding greatest
nothing_queued = refl

pub nothing_due : None ≡ least_due []
unfolding least_due
nothing_due = refl
