-- Notifications of live events: that they stay so, and that there are no more of them than events.
use Rattle.std.proofs.Common.{◌≡◌, ◌⊎◌, ℕ, zero, suc, ◌+◌, ◌<◌, ◌≤◌, List, [], ◌∷◌, ◌++◌, map, length, set, refl, sym, ap, ◌∙◌, arith, Bool, true, false, inl, inr}
use Rattle.std.specs.Prelude.{◌==◌, ◌||◌, not, Some, if◌then◌else◌, slice_get}
use Rattle.std.specs.List.{list_all, filter}
use Rattle.std.proofs.lemmas.Bool.{or_parts, and_parts, and_from, or_from, or_left, or_right, or_cases, eq-eqb, ne_eqb, eqb-true, eqb-false, true≢false}
use Rattle.event_queue.specs.declared.event.Event.{Event}
use Rattle.event_queue.specs.declared.event.Entry.{Entry}
use Rattle.event_queue.specs.Kinds.{notifies}
use Rattle.event_queue.specs.Queue.{Rising, EachOnce, FreshWait, is_number, is_entry, is_event, is_queued, entry_of, is_entry_of, is_live, is_fresh, has_level}
use Rattle.event_queue.proofs.Lists.{all_left, any_filtered}
use Rattle.event_queue.proofs.Numbers.{once_filter, not_queued_push, number_above}

-- an event changed in nothing that its notification depends on
pub record Alike (e y : Event) : Type 0 where
  pub number : y.number ≡ e.number
  pub kind : y.kind ≡ e.kind
  pub tpl : y.tpl ≡ e.tpl

alike_entry : (x : Entry) (e y : Event) → Alike e y → is_entry_of x y ≡ is_entry_of x e
alike_entry x e y a = rw (a.number, a.kind, a.tpl) refl

pub live_set : (i : ℕ) (es : List Event) (e y : Event) (x : Entry) → slice_get es i ≡ Some e → Alike e y → is_live (set es i y) x ≡ is_live es x
live_set i [] e y x g a = refl
live_set zero (z ∷ es) e y x g a = let same : z ≡ e = cc in ap (λ b. b || is_live es x) (alike_entry x e y a ∙ ap (is_entry_of x) (sym same))
live_set (suc i) (z ∷ es) e y x g a = ap (λ b. is_entry_of x z || b) (live_set i es e y x g a)

pub all_live_set : (i : ℕ) (es : List Event) (e y : Event) (q : List Entry) → slice_get es i ≡ Some e → Alike e y → list_all (is_live (set es i y)) q ≡ list_all (is_live es) q
all_live_set i es e y [] g a = refl
all_live_set i es e y (x ∷ q) g a = rw (live_set i es e y x g a, all_live_set i es e y q g a) refl

pub live_map : (f : Event → Event) (es : List Event) (x : Entry) → ((e : Event) → Alike e (f e)) → is_live (map f es) x ≡ is_live es x
live_map f [] x a = refl
live_map f (e ∷ es) x a = rw (alike_entry x e (f e) (a e), live_map f es x a) refl

pub all_live_map : (f : Event → Event) (es : List Event) (q : List Entry) → ((e : Event) → Alike e (f e)) → list_all (is_live (map f es)) q ≡ list_all (is_live es) q
all_live_map f es [] a = refl
all_live_map f es (x ∷ q) a = rw (live_map f es x a, all_live_map f es q a) refl

pub live_here : (i : ℕ) (es : List Event) (e : Event) → slice_get es i ≡ Some e → notifies e.kind ≡ true → is_live es (entry_of e) ≡ true
live_here i [] e g n = absurd (cc)
live_here zero (z ∷ es) e g n =
    let same : z ≡ e = cc in
    rw same (or_left _ _ (and_from _ _ (eq-eqb e.number e.number refl) (and_from _ _ (eq-eqb e.tpl e.tpl refl) n)))
live_here (suc i) (z ∷ es) e g n = or_right _ _ (live_here i es e g n)

pub all_live_push : (es : List Event) (q : List Entry) (x : Entry) → list_all (is_live es) q ≡ true → is_live es x ≡ true → list_all (is_live es) (q ++ x ∷ []) ≡ true
all_live_push es [] x h l = and_from _ true l refl
all_live_push es (y ∷ q) x h l = let k = and_parts _ _ h in and_from _ _ k.0 (all_live_push es q x k.1 l)

live_more : (es : List Event) (e : Event) (x : Entry) → is_live es x ≡ true → is_live (es ++ e ∷ []) x ≡ true
live_more [] e x h = absurd (cc)
live_more (y ∷ es) e x h = elim (or_cases (is_entry_of x y) (is_live es x) h) [ inl k ↦ or_left _ _ k | inr k ↦ or_right _ _ (live_more es e x k) ]

pub all_live_more : (es : List Event) (e : Event) (q : List Entry) → list_all (is_live es) q ≡ true → list_all (is_live (es ++ e ∷ [])) q ≡ true
all_live_more es e [] h = refl
all_live_more es e (x ∷ q) h = let k = and_parts _ _ h in and_from _ _ (live_more es e x k.0) (all_live_more es e q k.1)

-- an event of another number
apart : (x : Entry) (e : Event) → (e.number == x.event) ≡ false → is_entry_of x e ≡ false
apart x e h = rw h refl

live_without : (n : ℕ) (es : List Event) (x : Entry) → (x.event == n) ≡ false → is_live es x ≡ true → is_live (filter (λ e. not (is_number n e)) es) x ≡ true
live_without n [] x d h = h
live_without n (e ∷ es) x d h = by (e.number == n) refl (or_cases (is_entry_of x e) (is_live es x) h) (live_without n es x d)
  where
    by : (b : Bool) → (e.number == n) ≡ b → (is_entry_of x e ≡ true) ⊎ (is_live es x ≡ true) → (is_live es x ≡ true → is_live (filter (λ e. not (is_number n e)) es) x ≡ true)
        → is_live (if not b then e ∷ filter (λ e. not (is_number n e)) es else filter (λ e. not (is_number n e)) es) x ≡ true
    by true t (inl k) f =
        absurd (true≢false (sym k ∙ apart x e (ne_eqb e.number x.event (λ same. eqb-false x.event n d (sym same ∙ eqb-true e.number n t)))))
    by true t (inr k) f = f k
    by false t (inl k) f = or_left _ _ k
    by false t (inr k) f = or_right _ _ (f k)

pub all_live_without : (n : ℕ) (es : List Event) (q : List Entry) → is_queued q n ≡ false → list_all (is_live es) q ≡ true → list_all (is_live (filter (λ e. not (is_number n e)) es)) q ≡ true
all_live_without n es [] d h = refl
all_live_without n es (x ∷ q) d h =
    let k = and_parts _ _ h in
    let l = or_parts (x.event == n) (is_queued q n) d in
    and_from _ _ (live_without n es x l.0 k.0) (all_live_without n es q l.1 k.1)

-- ---- a queued event is live

pub live_is_event : (es : List Event) (x : Entry) → is_live es x ≡ true → is_event es x.event ≡ true
live_is_event [] x h = absurd (cc)
live_is_event (e ∷ es) x h =
    elim (or_cases (is_entry_of x e) (is_live es x) h) [
      | inl k ↦ or_left _ _ (and_parts (e.number == x.event) _ k).0
      | inr k ↦ or_right _ _ (live_is_event es x k)
    ]

pub queued_is_event : (es : List Event) (q : List Entry) (n : ℕ) → list_all (is_live es) q ≡ true → is_event es n ≡ false → is_queued q n ≡ false
queued_is_event es [] n h d = refl
queued_is_event es (x ∷ q) n h d =
    let k = and_parts _ _ h in
    or_from _ _ (ne_eqb x.event n (λ same. true≢false (sym (live_is_event es x k.0) ∙ (ap (is_event es) same ∙ d)))) (queued_is_event es q n k.1 d)

pub high_is_none : (low high n : ℕ) (es : List Event) → Rising low es high → high < n → is_event es n ≡ false
high_is_none low high n [] h l = refl
high_is_none low high n (e ∷ es) h l = or_from _ _ (ne_eqb e.number n (λ same. let k = rising_high e.number high es h.1 in omega arith)) (high_is_none e.number high n es h.1 l)
  where
    rising_high : (low high : ℕ) (es : List Event) → Rising low es high → low ≤ high
    rising_high low high [] h = h
    rising_high low high (x ∷ xs) h = let k = h.0 in let l = rising_high x.number high xs h.1 in omega arith

-- ---- no more notifications than events

live_rest : (e : Event) (es : List Event) (q : List Entry) → list_all (is_live (e ∷ es)) q ≡ true → list_all (is_live es) (filter (λ x. not (is_entry e.number x)) q) ≡ true
live_rest e es [] h = refl
live_rest e es (x ∷ q) h = let k = and_parts _ _ h in by (x.event == e.number) refl (or_cases (is_entry_of x e) (is_live es x) k.0) (live_rest e es q k.1)
  where
    by : (b : Bool) → (x.event == e.number) ≡ b → (is_entry_of x e ≡ true) ⊎ (is_live es x ≡ true) → list_all (is_live es) (filter (λ x. not (is_entry e.number x)) q) ≡ true
        → list_all (is_live es) (if not b then x ∷ filter (λ x. not (is_entry e.number x)) q else filter (λ x. not (is_entry e.number x)) q) ≡ true
    by true t l f = f
    by false t (inl k) f = absurd (true≢false (sym k ∙ apart x e (ne_eqb e.number x.event (λ same. eqb-false x.event e.number t (sym same)))))
    by false t (inr k) f = and_from _ _ k f

one_less : (n : ℕ) (q : List Entry) → EachOnce q → length q ≤ length (filter (λ x. not (is_entry n x)) q) + 1
one_less n [] h = omega arith
one_less n (x ∷ q) h = by (x.event == n) refl (one_less n q h.1)
  where
    by : (b : Bool) → (x.event == n) ≡ b → length q ≤ length (filter (λ x. not (is_entry n x)) q) + 1
        → length (x ∷ q) ≤ length (if not b then x ∷ filter (λ x. not (is_entry n x)) q else filter (λ x. not (is_entry n x)) q) + 1
    by true t f =
        let same : x.event ≡ n = eqb-true x.event n t in
        let k : is_queued q n ≡ false = rw same at h.0 in
        let l = ap length (all_left (is_entry n) q k) in
        omega (arith, l)
    by false t f = omega arith

pub few_queued : (es : List Event) (q : List Entry) → list_all (is_live es) q ≡ true → EachOnce q → length q ≤ length es
few_queued [] [] h o = omega arith
few_queued [] (x ∷ q) h o = absurd (cc)
few_queued (e ∷ es) q h o =
    let k = few_queued es (filter (λ x. not (is_entry e.number x)) q) (live_rest e es q h) (once_filter (λ x. not (is_entry e.number x)) q o) in
    let l = one_less e.number q o in
    omega arith

-- ---- events that a signal would queue

pub fresh_at : (i : ℕ) (q : List Entry) (es : List Event) (e : Event) → FreshWait q es → slice_get es i ≡ Some e → is_fresh e ≡ true → is_queued q e.number ≡ false
fresh_at i q [] e h g f = absurd (cc)
fresh_at zero q (z ∷ es) e h g f = let same : z ≡ e = cc in rw same at h.0 f
fresh_at (suc i) q (z ∷ es) e h g f = fresh_at i q es e h.1 g f

pub fresh_set : (i : ℕ) (q : List Entry) (es : List Event) (y : Event) → FreshWait q es → (is_fresh y ≡ true → is_queued q y.number ≡ false) → FreshWait q (set es i y)
fresh_set i q [] y h f = tt
fresh_set zero q (z ∷ es) y h f = (f, h.1)
fresh_set (suc i) q (z ∷ es) y h f = (h.0, fresh_set i q es y h.1 f)

pub fresh_filter : (p : Event → Bool) (q : List Entry) (es : List Event) → FreshWait q es → FreshWait q (filter p es)
fresh_filter p q [] h = tt
fresh_filter p q (e ∷ es) h = by (p e) (fresh_filter p q es h.1)
  where
    by : (b : Bool) → FreshWait q (filter p es) → FreshWait q (if b then e ∷ filter p es else filter p es)
    by true k = (h.0, k)
    by false k = k

pub fresh_fewer : (p : Entry → Bool) (q : List Entry) (es : List Event) → FreshWait q es → FreshWait (filter p q) es
fresh_fewer p q [] h = tt
fresh_fewer p q (e ∷ es) h = (λ f. any_filtered (is_entry e.number) p q (h.0 f), fresh_fewer p q es h.1)

pub fresh_none : (es : List Event) → FreshWait [] es
fresh_none [] = tt
fresh_none (e ∷ es) = (λ f. refl, fresh_none es)

pub fresh_more : (q : List Entry) (es : List Event) (e : Event) → FreshWait q es → is_queued q e.number ≡ false → FreshWait q (es ++ e ∷ [])
fresh_more q [] e h k = (λ f. k, tt)
fresh_more q (x ∷ es) e h k = (h.0, fresh_more q es e h.1 k)

pub fresh_map : (f : Event → Event) (q : List Entry) (es : List Event) → ((e : Event) → Alike e (f e)) → ((e : Event) → is_fresh (f e) ≡ is_fresh e) → FreshWait q es → FreshWait q (map f es)
fresh_map f q [] a b h = tt
fresh_map f q (e ∷ es) a b h = (λ k. rw (a e).number (h.0 (sym (b e) ∙ k)), fresh_map f q es a b h.1)

fresh_above : (low high : ℕ) (q : List Entry) (x : Entry) (es : List Event) → Rising low es high → x.event ≤ low → FreshWait q es → FreshWait (q ++ x ∷ []) es
fresh_above low high q x [] r l h = tt
fresh_above low high q x (e ∷ es) r l h =
    let k = r.0 in
    (λ f. not_queued_push e.number q x (h.0 f) (ne_eqb x.event e.number (λ same. omega arith)), fresh_above e.number high q x es r.1 (omega arith) h.1)

pub fresh_push : (low high i : ℕ) (q : List Entry) (es : List Event) (e : Event) → Rising low es high → slice_get es i ≡ Some e → is_fresh e ≡ false → FreshWait q es → FreshWait (q ++ entry_of e ∷ []) es
fresh_push low high i q [] e r g n h = absurd (cc)
fresh_push low high zero q (z ∷ es) e r g n h =
    let same : z ≡ e = cc in
    let number : e.number ≡ z.number = ap (λ (y : Event). y.number) (sym same) in
    (λ f. absurd (true≢false (sym f ∙ (ap is_fresh same ∙ n))), fresh_above z.number high q (entry_of e) es r.1 (omega arith) h.1)
fresh_push low high (suc i) q (z ∷ es) e r g n h =
    let k = number_above z.number high i es e r.1 g in
    (λ f. not_queued_push z.number q (entry_of e) (h.0 f) (ne_eqb e.number z.number (λ same. omega arith)), fresh_push z.number high i q es e r.1 g n h.1)

-- ---- levels

pub level_set : (i : ℕ) (es : List Event) (e y : Event) → slice_get es i ≡ Some e → Alike e y → list_all has_level es ≡ true → list_all has_level (set es i y) ≡ true
level_set i [] e y g a h = h
level_set zero (z ∷ es) e y g a h =
    let same : z ≡ e = cc in
    let k = and_parts (has_level z) _ h in
    and_from _ _ (rw (a.kind, a.tpl, ← same) k.0) k.1
level_set (suc i) (z ∷ es) e y g a h = let k = and_parts (has_level z) _ h in and_from _ _ k.0 (level_set i es e y g a k.1)

pub level_map : (f : Event → Event) (es : List Event) → ((e : Event) → Alike e (f e)) → list_all has_level es ≡ true → list_all has_level (map f es) ≡ true
level_map f [] a h = h
level_map f (e ∷ es) a h = let k = and_parts (has_level e) _ h in let b = a e in and_from _ _ (rw (b.kind, b.tpl) k.0) (level_map f es a k.1)

pub level_more : (es : List Event) (e : Event) → has_level e ≡ true → list_all has_level es ≡ true → list_all has_level (es ++ e ∷ []) ≡ true
level_more [] e l h = and_from _ true l refl
level_more (x ∷ es) e l h = let k = and_parts (has_level x) _ h in and_from _ _ k.0 (level_more es e l k.1)

pub level_at : (i : ℕ) (es : List Event) (e : Event) → list_all has_level es ≡ true → slice_get es i ≡ Some e → has_level e ≡ true
level_at i [] e h g = absurd (cc)
level_at zero (z ∷ es) e h g = let same : z ≡ e = cc in rw (← same) (and_parts (has_level z) _ h).0
level_at (suc i) (z ∷ es) e h g = level_at i es e (and_parts (has_level z) _ h).1 g
