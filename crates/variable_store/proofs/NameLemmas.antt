-- Names of variables, and tests.
use Rattle.std.proofs.Common.{◌≡◌, ℕ, zero, suc, ◌⊎◌, inl, inr, List, [], ◌∷◌, ◌++◌, get_or, refl, sym, ap, ◌∙◌, arith, Bool, true, false}
use Rattle.std.specs.Prelude.{◌&&◌, ◌||◌, ◌==◌, not, remove, Option, Some, None, option_map, if◌then◌else◌}
use Rattle.std.specs.Str.{bytes_eq}
use Rattle.std.proofs.lemmas.Bool.Decides.{nat_tests}
use Rattle.std.proofs.lemmas.Slice.Eq.{bytes_eq-Decides}
use Rattle.uh_base.specs.declared.guid.Guid.{Guid}
use Rattle.variable_store.specs.Entries.{Entry, same_guid, is_seen, is_named, index_of, place_of}
use Rattle.variable_store.specs.Sets.{changed_at}
use Rattle.variable_store.specs.Valid.{NoneNamed, AreApart}

pub tells : (b : Bool) → (b ≡ true) ⊎ (b ≡ false)
tells true = inl refl
tells false = inr refl

pub and_true : (a b : Bool) → (a && b) ≡ true → (a ≡ true) × (b ≡ true)
and_true true b h = (refl, h)
and_true false b h = absurd (cc)

pub and_both : (a b : Bool) → a ≡ true → b ≡ true → (a && b) ≡ true
and_both true b h k = k
and_both false b h k = absurd (cc)

pub or_false : (a b : Bool) → (a || b) ≡ false → (a ≡ false) × (b ≡ false)
or_false true b h = absurd (cc)
or_false false b h = (refl, h)

pub not_true : (a : Bool) → not a ≡ true → a ≡ false
not_true true h = absurd (cc)
not_true false h = refl

pub not_false : (a : Bool) → not a ≡ false → a ≡ true
not_false true h = refl
not_false false h = absurd (cc)

equal : (a b : ℕ) → (a == b) ≡ true → a ≡ b
equal a b h = grind (arith, nat_tests)

is_equal : (a b : ℕ) → a ≡ b → (a == b) ≡ true
is_equal a b h = grind (arith, nat_tests)

-- two variables of the same vendor and name
pub record SameKey (name : List ℕ) (vendor : Guid) (entry : Entry) : Type 0 where
  pub d1 : entry.vendor.d1 ≡ vendor.d1
  pub d2 : entry.vendor.d2 ≡ vendor.d2
  pub d3 : entry.vendor.d3 ≡ vendor.d3
  pub d4 : entry.vendor.d4 ≡ vendor.d4
  pub names : entry.name ≡ name

pub named_tells : (name : List ℕ) (vendor : Guid) (entry : Entry) → is_named name vendor entry ≡ true → SameKey name vendor entry
named_tells name vendor entry h =
    let p = and_true (same_guid entry.vendor vendor) (bytes_eq entry.name name) h in
    let q = and_true _ _ p.0 in
    let r = and_true _ _ q.1 in
    let s = and_true _ _ r.1 in
    record { d1 = equal _ _ q.0; d2 = equal _ _ r.0; d3 = equal _ _ s.0; d4 = equal _ _ s.1; names = (bytes_eq-Decides entry.name name).0 p.1 }

pub named_is : (name : List ℕ) (vendor : Guid) (entry : Entry) → SameKey name vendor entry → is_named name vendor entry ≡ true
named_is name vendor entry k =
    and_both _ _ (and_both _ _ (is_equal _ _ k.d1) (and_both _ _ (is_equal _ _ k.d2) (and_both _ _ (is_equal _ _ k.d3) (is_equal _ _ k.d4))))
    ((bytes_eq-Decides entry.name name).1 k.names)

-- where one isn't named as another, that one isn't named as it
pub named_turned : (e f : Entry) → is_named f.name f.vendor e ≡ false → is_named e.name e.vendor f ≡ false
named_turned e f h =
    elim (tells (is_named e.name e.vendor f)) [
      | inr no' ↦ no'
      | inl yes' ↦ (
          let k = named_tells e.name e.vendor f yes' in
          let other = named_is f.name f.vendor e (record { d1 = sym k.d1; d2 = sym k.d2; d3 = sym k.d3; d4 = sym k.d4; names = sym k.names }) in
          absurd (cc))
    ]

-- a variable that no test finds isn't there
nothing_found : (o : Option ℕ) → option_map (λ k. suc k) o ≡ None → o ≡ None
nothing_found None h = refl
nothing_found (Some k) h = absurd (cc)

pub none_named : (entries : List Entry) (name : List ℕ) (vendor : Guid) → place_of entries name vendor false ≡ None → NoneNamed name vendor entries
unfolding index_of
none_named [] name vendor h = tt
none_named (e ∷ es) name vendor h = by (is_named name vendor e) refl h (λ k. none_named es name vendor k)
  where
    by : (b : Bool) → is_named name vendor e ≡ b → (if b then Some 0 else option_map (λ k. suc k) (place_of es name vendor false)) ≡ None
        → (place_of es name vendor false ≡ None → NoneNamed name vendor es) → NoneNamed name vendor (e ∷ es)
    by true is k rest = absurd (cc)
    by false is k rest = (is, rest (nothing_found _ k))

-- a variable that isn't there isn't seen
none_seen : (entries : List Entry) (name : List ℕ) (vendor : Guid) (runtime : Bool) → NoneNamed name vendor entries → place_of entries name vendor runtime ≡ None
unfolding index_of
none_seen [] name vendor runtime all = refl
none_seen (e ∷ es) name vendor runtime all = by (is_seen runtime e) (is_named name vendor e) (place_of es name vendor runtime) all.0 (none_seen es name vendor runtime all.1)
  where
    by : (s n : Bool) (place : Option ℕ) → n ≡ false → place ≡ None → (if s && n then Some 0 else option_map (λ k. suc k) place) ≡ None
    by s true place is none = absurd (cc)
    by true false place is none = rw none refl
    by false false place is none = rw none refl

pub nothing_seen : (entries : List Entry) (name : List ℕ) (vendor : Guid) (runtime : Bool) → None ≡ place_of entries name vendor false → None ≡ place_of entries name vendor runtime
nothing_seen entries name vendor runtime is = sym (none_seen entries name vendor runtime (none_named entries name vendor (sym is)))

-- what isn't named as a variable isn't named as its vendor and name are
none_as : (name : List ℕ) (vendor : Guid) (e : Entry) (entries : List Entry) → SameKey name vendor e → NoneNamed e.name e.vendor entries → NoneNamed name vendor entries
none_as name vendor e [] k all = tt
none_as name vendor e (f ∷ fs) k all = (rw (k.d1, k.d2, k.d3, k.d4, k.names) at all.0, none_as name vendor e fs k all.1)

-- a place that is seen, behind a variable of another name
one_on : (s t : Bool) (i : ℕ) → (if t then Some (suc i) else None) ≡ (if s && false then Some 0 else option_map (λ k. suc k) (if t then Some i else None))
one_on true true i = refl
one_on true false i = refl
one_on false true i = refl
one_on false false i = refl

-- The one variable of a vendor and name decides what is seen under them.
seen_there : (entries : List Entry) (name : List ℕ) (vendor : Guid) (runtime : Bool) (i : ℕ) (d : Entry) → AreApart entries → Some i ≡ place_of entries name vendor false
    → (if is_seen runtime (get_or entries i d) then Some i else None) ≡ place_of entries name vendor runtime
unfolding index_of
seen_there [] name vendor runtime i d apart is = absurd (cc)
seen_there (e ∷ es) name vendor runtime i d apart is =
    by (is_named name vendor e) (is_seen runtime e) i (place_of es name vendor false) (place_of es name vendor runtime) refl refl
    (λ h. none_seen es name vendor runtime (none_as name vendor e es (named_tells name vendor e h) apart.0)) (λ k. seen_there es name vendor runtime k d apart.1) is
  where
    by : (n s : Bool) (i : ℕ) (there seen : Option ℕ) → is_named name vendor e ≡ n → is_seen runtime e ≡ s → (is_named name vendor e ≡ true → seen ≡ None)
        → ((k : ℕ) → Some k ≡ there → (if is_seen runtime (get_or es k d) then Some k else None) ≡ seen)
        → Some i ≡ (if n then Some 0 else option_map (λ k. suc k) there)
        → (if is_seen runtime (get_or (e ∷ es) i d) then Some i else None) ≡ (if s && n then Some 0 else option_map (λ k. suc k) seen)
    by true true zero there seen named sees none rest is = rw sees refl
    by true false zero there seen named sees none rest is = rw (sees, none named) refl
    by true s (suc i) there seen named sees none rest is = absurd (cc)
    by false s i None seen named sees none rest is = absurd (cc)
    by false s zero (Some k) seen named sees none rest is = absurd (cc)
    by false s (suc i) (Some k) seen named sees none rest is =
        let same : i ≡ k = cc in
        rw (← rest i (ap Some same)) (one_on s (is_seen runtime (get_or es i d)) i)

module _ (entries : List Entry) (name : List ℕ) (vendor : Guid) (runtime : Bool) (i : ℕ) (e : Entry) (is : e ≡ get_or entries i e) (b : Bool) (says : b ≡ is_seen runtime e)
    (apart : AreApart entries) (there : Some i ≡ place_of entries name vendor false) where
  decided : (if b then Some i else None) ≡ place_of entries name vendor runtime
  decided = let at : b ≡ is_seen runtime (get_or entries i e) = says ∙ ap (is_seen runtime) is in rw at (seen_there entries name vendor runtime i e apart there)

  pub is_the_seen : b ≡ true → Some i ≡ place_of entries name vendor runtime
  is_the_seen h = rw h at decided

  pub is_not_seen : b ≡ false → None ≡ place_of entries name vendor runtime
  is_not_seen h = rw h at decided

-- one more, behind the others
none_more : (name : List ℕ) (vendor : Guid) (entries : List Entry) (f : Entry) → NoneNamed name vendor entries → is_named name vendor f ≡ false → NoneNamed name vendor (entries ++ f ∷ [])
none_more name vendor [] f all h = (h, tt)
none_more name vendor (e ∷ es) f all h = (all.0, none_more name vendor es f all.1 h)

pub apart_more : (entries : List Entry) (f : Entry) → AreApart entries → NoneNamed f.name f.vendor entries → AreApart (entries ++ f ∷ [])
apart_more [] f all none = (tt, tt)
apart_more (e ∷ es) f all none = (none_more e.name e.vendor es f all.0 (named_turned e f none.0), apart_more es f all.1 none.1)

-- one less
none_less : (name : List ℕ) (vendor : Guid) (entries : List Entry) (i : ℕ) → NoneNamed name vendor entries → NoneNamed name vendor (remove entries i)
none_less name vendor [] zero all = tt
none_less name vendor [] (suc i) all = tt
none_less name vendor (e ∷ es) zero all = all.1
none_less name vendor (e ∷ es) (suc i) all = (all.0, none_less name vendor es i all.1)

pub apart_less : (entries : List Entry) (i : ℕ) → AreApart entries → AreApart (remove entries i)
apart_less [] zero all = tt
apart_less [] (suc i) all = tt
apart_less (e ∷ es) zero all = all.1
apart_less (e ∷ es) (suc i) all = (none_less e.name e.vendor es i all.0, apart_less es i all.1)

-- other bytes
module _ (change : Entry → Entry) (vendors : (e : Entry) → (change e).vendor ≡ e.vendor) (names : (e : Entry) → (change e).name ≡ e.name) where
  none_changed : (name : List ℕ) (vendor : Guid) (entries : List Entry) (i : ℕ) → NoneNamed name vendor entries → NoneNamed name vendor (changed_at change entries i)
  unfolding changed_at
  none_changed name vendor [] i all = tt
  none_changed name vendor (e ∷ es) zero all = (let v = vendors e in let n = names e in rw (v, n) all.0, all.1)
  none_changed name vendor (e ∷ es) (suc i) all = (all.0, none_changed name vendor es i all.1)

  pub apart_changed : (entries : List Entry) (i : ℕ) → AreApart entries → AreApart (changed_at change entries i)
  unfolding changed_at
  apart_changed [] i all = tt
  apart_changed (e ∷ es) zero all = (let v = vendors e in let n = names e in rw (v, n) all.0, all.1)
  apart_changed (e ∷ es) (suc i) all = (none_changed e.name e.vendor es i all.0, apart_changed es i all.1)
