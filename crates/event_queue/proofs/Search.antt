-- A search among events whose numbers rise.
use Rattle.std.proofs.Common.{◌≡◌, ℕ, zero, suc, ◌<◌, List, [], ◌∷◌, length, get_or, sym, ap, ◌∙◌, arith}
use Rattle.std.specs.Prelude.{Some, None, slice_get}
use Rattle.std.specs.List.{position}
use Rattle.std.proofs.lemmas.Bool.{eqb-true}
use Rattle.uh_base.specs.Numbered.{Rise}
use Rattle.event_queue.specs.declared.event.Event.{Event}
use Rattle.event_queue.specs.Queue.{Rising, is_number, event_at}
use Rattle.event_queue.proofs.Lists.{none_found, only_found, place_none, place_some}
use Rattle.event_queue.proofs.Numbers.{only_event}
use Rattle.event_queue.proofs.Wholes.{get_below, read_here}

above_low : (low high : ℕ) (es : List Event) (j : ℕ) (d : Event) → Rising low es high → j < length es → low < (get_or es j d).number
above_low low high [] j d r l = absurd (omega arith)
above_low low high (e ∷ es) zero d r l = r.0
above_low low high (e ∷ es) (suc j) d r l = let a = r.0 in let b = above_low e.number high es j d r.1 (omega arith) in omega (arith, a, b)

pub numbers_rise : (low high : ℕ) (es : List Event) → Rising low es high → Rise (λ (e : Event). e.number) es
numbers_rise low high es r = λ i j d l m. rises low high es i j d r l m
  where
    rises : (low high : ℕ) (es : List Event) (i j : ℕ) (d : Event) → Rising low es high → i < j → j < length es → (get_or es i d).number < (get_or es j d).number
    rises low high [] i j d r l m = absurd (omega arith)
    rises low high (e ∷ es) i zero d r l m = absurd (omega arith)
    rises low high (e ∷ es) zero (suc j) d r l m = above_low e.number high es j d r.1 (omega arith)
    rises low high (e ∷ es) (suc i) (suc j) d r l m = rises e.number high es i j d r.1 (omega arith) (omega arith)

pub found_none : (es part : List Event) (n : ℕ) → part ≡ es → None ≡ position (is_number n) part → event_at es n ≡ None
found_none es part n p h = none_found (is_number n) es (place_none (is_number n) es (ap (position (is_number n)) (sym p) ∙ sym h))

-- what stands at the place of a number
pub record Found (es : List Event) (n i : ℕ) (e : Event) : Type 0 where
  pub below : i < length es
  pub here : slice_get es i ≡ Some e
  pub event : event_at es n ≡ Some e
  pub number : e.number ≡ n

pub found_below : (es part : List Event) (n i : ℕ) → part ≡ es → Some i ≡ position (is_number n) part → i < length es
found_below es part n i p h = let k = place_some (is_number n) es i (ap (position (is_number n)) (sym p) ∙ sym h) in get_below i es k.0 k.1

pub found_some : (low high : ℕ) (es part : List Event) (n i : ℕ) (e : Event) → Rising low es high → part ≡ es → Some i ≡ position (is_number n) part → e ≡ get_or es i e → Found es n i e
found_some low high es part n i e w p h r =
    let k = place_some (is_number n) es i (ap (position (is_number n)) (sym p) ∙ sym h) in
    let below = get_below i es k.0 k.1 in
    let here = read_here es i e below r in
    let same : k.0 ≡ e = (let both : Some k.0 ≡ Some e = sym k.1 ∙ here in cc) in
    let number : e.number ≡ n = ap (λ (x : Event). x.number) (sym same) ∙ eqb-true k.0.number n k.2 in
    record {
      below = below;
      here = here;
      event = ap (event_at es) (sym number) ∙ only_found (is_number e.number) es i e (only_event low high i es e w here);
      number = number;
    }
