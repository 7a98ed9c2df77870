-- Puts, one after the other.
use Rattle.std.proofs.Common.{◌≡◌, ◌≤◌, ℕ, List, [], ◌++◌, Option, Some, None, Result, Ok, Err, refl, sym, ap, ◌∙◌, inl, inr, append_assoc, append-nil, arith}
use Rattle.uh_base.specs.Counts.{Rose}
use Rattle.uh_base.specs.Told.{grown, GrownByPart}
use Rattle.image_dump.specs.declared.stop.Stop.{Stop}
use Rattle.image_dump.specs.declared.stop.Stop.TheVariants.{Write, Memory}
use Rattle.image_dump.specs.Puts.{Puts}

grown-nil : (told : Option (List ℕ)) → told ≡ grown told []
grown-nil None = refl
grown-nil (Some bytes) = ap (λ (x : List ℕ). Some x) (sym (append-nil bytes))

grown-grown : (told : Option (List ℕ)) (a b : List ℕ) → grown (grown told a) b ≡ grown told (a ++ b)
grown-grown None a b = refl
grown-grown (Some bytes) a b = ap (λ (x : List ℕ). Some x) (append_assoc bytes a b)

rose_later : (f g h : ℕ) → f ≤ g → Rose g h → Rose f h
rose_later f g h le (inl less) = inl (omega (arith, le, less))
rose_later f g h le (inr full) = inr full

-- a text that is put in pieces: what was put, and the rest
pub record Toward (whole rest : List ℕ) (old : Option (List ℕ)) (faults : ℕ) (now : Option (List ℕ)) (faults' : ℕ) : Type 0 where
  pub done : List ℕ
  pub same : whole ≡ done ++ rest
  pub put : now ≡ grown old done
  pub never : faults ≤ faults'

pub begins : (whole : List ℕ) (old : Option (List ℕ)) (faults : ℕ) → Toward whole whole old faults old faults
begins whole old faults = record { done = []; same = refl; put = grown-nil old; never = omega arith }

module _ (whole rest : List ℕ) (old : Option (List ℕ)) (f : ℕ) (now : Option (List ℕ)) (g : ℕ) (toward : Toward whole rest old f now g) where
  -- a piece of the rest was put
  pub goes_on : {X : Type 0} (x : X) (piece more : List ℕ) (new : Option (List ℕ)) (h : ℕ) → rest ≡ piece ++ more → Puts (Ok x) piece now g new h → Toward whole more old f new h
  goes_on x piece more new h split puts = record {
    done = toward.done ++ piece;
    same = toward.same ∙ ap (λ (t : List ℕ). toward.done ++ t) split ∙ sym (append_assoc toward.done piece more);
    put = puts.whole ∙ ap (λ (o : Option (List ℕ)). grown o piece) toward.put ∙ grown-grown old toward.done piece;
    never = omega (arith, toward.never, puts.never_falls);
  }

  part_of : (piece more : List ℕ) (new : Option (List ℕ)) → rest ≡ piece ++ more → GrownByPart now piece new → GrownByPart old whole new
  part_of piece more new split p =
      let pieces : rest ≡ p.0 ++ (p.1 ++ more) = split ∙ ap (λ (t : List ℕ). t ++ more) p.2 ∙ append_assoc p.0 p.1 more in (
        toward.done ++ p.0,
        p.1 ++ more,
        toward.same ∙ ap (λ (t : List ℕ). toward.done ++ t) pieces ∙ sym (append_assoc toward.done p.0 (p.1 ++ more)),
        p.3 ∙ ap (λ (o : Option (List ℕ)). grown o p.0) toward.put ∙ grown-grown old toward.done p.0,
      )

  -- a piece wasn't put whole
  pub stops : {X Y : Type 0} (stop : Stop) (piece more : List ℕ) (new : Option (List ℕ)) (h : ℕ) → rest ≡ piece ++ more → Puts {X = X} (Err stop) piece now g new h → Puts {X = Y} (Err stop) whole old f new h
  stops Write piece more new h split puts = record {
    whole = tt;
    part = part_of piece more new split puts.part;
    cause = λ e. rose_later f g h toward.never (puts.cause refl);
    never_falls = omega (arith, toward.never, puts.never_falls);
  }
  stops Memory piece more new h split puts = record {
    whole = tt;
    part = part_of piece more new split puts.part;
    cause = λ e. absurd cc;
    never_falls = omega (arith, toward.never, puts.never_falls);
  }

  -- memory was wanting
  pub lacks : {X : Type 0} → Puts {X = X} (Err Memory) whole old f now g
  lacks = record {
    whole = tt;
    part = (toward.done, rest, toward.same, toward.put);
    cause = λ e. absurd cc;
    never_falls = toward.never;
  }

  -- all was put
  pub ends : {X : Type 0} (x : X) → rest ≡ [] → Puts (Ok x) whole old f now g
  ends x none = record {
    whole = toward.put ∙ ap (grown old) (sym (toward.same ∙ ap (λ (t : List ℕ). toward.done ++ t) none ∙ append-nil toward.done));
    part = tt;
    cause = λ e. absurd cc;
    never_falls = toward.never;
  }

  -- the rest was put, or not
  pub last : {X : Type 0} (result : Result X Stop) (new : Option (List ℕ)) (h : ℕ) → Puts result rest now g new h → Puts result whole old f new h
  last (Ok x) new h puts = record {
    whole = puts.whole ∙ ap (λ (o : Option (List ℕ)). grown o rest) toward.put ∙ grown-grown old toward.done rest ∙ ap (grown old) (sym toward.same);
    part = tt;
    cause = λ e. absurd cc;
    never_falls = omega (arith, toward.never, puts.never_falls);
  }
  last (Err stop) new h puts = stops stop rest [] new h (sym (append-nil rest)) puts
