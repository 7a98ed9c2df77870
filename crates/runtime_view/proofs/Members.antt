-- Descriptors that cover a range, by number.
use Rattle.std.proofs.Common.{◌≡◌, ◌<◌, ◌≤◌, ◌+◌, ◌*◌, ℕ, zero, suc, Bool, true, false, List, [], ◌∷◌, length, refl, sym, subst, arith, ◌⊎◌, inl, inr, ◌∙◌, ap}
use Rattle.std.specs.Prelude.{◌&&◌, ◌||◌, not, nat_lt, nat_le, slice_get, Option, Some, None}
use Rattle.std.specs.List.{list_any}
use Rattle.std.proofs.lemmas.Bool.Decides.{nat_tests}
use Rattle.memory_map.specs.declared.descriptor.Descriptor.{Descriptor}
use Rattle.memory_map.specs.Map.{Covers}
use Rattle.map_faults.specs.Rules.{behind}

-- what is so of each
abbrev pub Each : {X : Type 0} → (X → Type 0) → List X → Type 0
Each P [] = Unit {0}
Each P (x ∷ xs) = P x × Each P xs

-- a descriptor is one of a list
abbrev pub In : Descriptor → List Descriptor → Type 0
In d list = (i : ℕ) × (slice_get list i ≡ Some d)

some_same : (d e : Descriptor) → Some d ≡ Some e → d ≡ e
some_same d e h = cc

pub later : (d e : Descriptor) (ds : List Descriptor) → In d ds → In d (e ∷ ds)
later d e ds h = (suc h.0, h.1)

more : (e : Descriptor) (ds xs : List Descriptor) → Each (λ (d : Descriptor). In d ds) xs → Each (λ (d : Descriptor). In d (e ∷ ds)) xs
more e ds [] h = tt
more e ds (x ∷ xs) h = (later x e ds h.0, more e ds xs h.1)

pub all_in : (ds : List Descriptor) → Each (λ (d : Descriptor). In d ds) ds
all_in [] = tt
all_in (d ∷ ds) = ((0, refl), more d ds ds (all_in ds))

-- ---- what is so of all

pub at_each : (P : Descriptor → Type 0) (ds : List Descriptor) (i : ℕ) (d : Descriptor) → Each P ds → slice_get ds i ≡ Some d → P d
at_each P [] i d h s = let bad : ⊥ = cc in absurd bad
at_each P (e ∷ es) zero d h s = subst P (some_same e d s) h.0
at_each P (e ∷ es) (suc i) d h s = at_each P es i d h.1 s

neither : (a b : Bool) → (a || b) ≡ false → (a ≡ false) × (b ≡ false)
neither true b h = let bad : ⊥ = cc in absurd bad
neither false b h = (refl, h)

pub none_any : (p : Descriptor → Bool) (ds : List Descriptor) → list_any p ds ≡ false → Each (λ (d : Descriptor). p d ≡ false) ds
none_any p [] h = tt
none_any p (d ∷ ds) h = let both = neither (p d) (list_any p ds) h in (both.0, none_any p ds both.1)

pub record Found (p : Descriptor → Bool) (ds : List Descriptor) : Type 0 where
  pub at : ℕ
  pub one : Descriptor
  pub here : slice_get ds at ≡ Some one
  pub passes : p one ≡ true

either : (p : Descriptor → Bool) (d : Descriptor) (ds : List Descriptor) (b : Bool) → p d ≡ b → (b || list_any p ds) ≡ true → (list_any p ds ≡ true → Found p ds) → Found p (d ∷ ds)
either p d ds true e h rest = record { at = 0; one = d; here = refl; passes = e }
either p d ds false e h rest = let f = rest h in record { at = suc f.at; one = f.one; here = f.here; passes = f.passes }

pub some_any : (p : Descriptor → Bool) (ds : List Descriptor) → list_any p ds ≡ true → Found p ds
some_any p [] h = let bad : ⊥ = cc in absurd bad
some_any p (d ∷ ds) h = either p d ds (p d) refl h (some_any p ds)

-- ---- descriptors that cover a range

pub starts_late : (from to : ℕ) (ds : List Descriptor) (i : ℕ) (d : Descriptor) → Covers from to ds → slice_get ds i ≡ Some d → (from ≤ d.start) × (behind d.start d.pages ≤ to) × (0 < d.pages)
starts_late from to [] i d c s = let bad : ⊥ = cc in absurd bad
starts_late from to (e ∷ es) zero d c s =
    let same = some_same e d s in
    subst (λ (x : Descriptor). (from ≤ x.start) × (behind x.start x.pages ≤ to) × (0 < x.pages)) same (let start = c.0 in let ends = ends_early (from + 4096 * e.pages) to es c.2 in (omega (arith, start), omega (arith, start, ends), c.1))
  where
    ends_early : (a b : ℕ) (xs : List Descriptor) → Covers a b xs → a ≤ b
    ends_early a b [] h = omega (arith, h)
    ends_early a b (x ∷ xs) h = let r = ends_early (a + 4096 * x.pages) b xs h.2 in omega (arith, r)
starts_late from to (e ∷ es) (suc i) d c s =
    let r = starts_late (from + 4096 * e.pages) to es i d c.2 s in
    let low = r.0 in
    (omega (arith, low), r.1, r.2)

abbrev pub OneOrApart : Descriptor → Descriptor → Type 0
OneOrApart a b = (a ≡ b) ⊎ ((behind a.start a.pages ≤ b.start) ⊎ (behind b.start b.pages ≤ a.start))

first_apart : (from to : ℕ) (e : Descriptor) (es : List Descriptor) (j : ℕ) (a b : Descriptor) → Covers from to (e ∷ es) → e ≡ a → slice_get es j ≡ Some b → behind a.start a.pages ≤ b.start
first_apart from to e es j a b c s t =
    let r = (starts_late (from + 4096 * e.pages) to es j b c.2 t).0 in
    let start = c.0 in
    let l : behind e.start e.pages ≤ b.start = omega (arith, r, start) in
    subst (λ (x : Descriptor). behind x.start x.pages ≤ b.start) s l

pub one_or_apart : (from to : ℕ) (ds : List Descriptor) (i j : ℕ) (a b : Descriptor) → Covers from to ds → slice_get ds i ≡ Some a → slice_get ds j ≡ Some b → OneOrApart a b
one_or_apart from to [] i j a b c s t = let bad : ⊥ = cc in absurd bad
one_or_apart from to (e ∷ es) zero zero a b c s t = inl (sym (some_same e a s) ∙ some_same e b t)
one_or_apart from to (e ∷ es) zero (suc j) a b c s t = inr (inl (first_apart from to e es j a b c (some_same e a s) t))
one_or_apart from to (e ∷ es) (suc i) zero a b c s t = inr (inr (first_apart from to e es i b a c (some_same e b t) s))
one_or_apart from to (e ∷ es) (suc i) (suc j) a b c s t = one_or_apart (from + 4096 * e.pages) to es i j a b c.2 s t

-- an address of the range is held by one of them
pub record Holder (ds : List Descriptor) (x : ℕ) : Type 0 where
  pub at : ℕ
  pub one : Descriptor
  pub here : slice_get ds at ≡ Some one
  pub low : one.start ≤ x
  pub high : x < behind one.start one.pages

held_by : (from to x : ℕ) (d : Descriptor) (ds : List Descriptor) → Covers from to (d ∷ ds) → from ≤ x → (b : Bool) → nat_lt x (behind d.start d.pages) ≡ b → (behind d.start d.pages ≤ x → Holder ds x) → Holder (d ∷ ds) x
held_by from to x d ds c low true e rest = let start = c.0 in record { at = 0; one = d; here = refl; low = omega (arith, start); high = grind (arith, nat_tests) }
held_by from to x d ds c low false e rest = let r = rest (grind (arith, nat_tests)) in record { at = suc r.at; one = r.one; here = r.here; low = r.low; high = r.high }

pub held : (from to x : ℕ) (ds : List Descriptor) → Covers from to ds → from ≤ x → x < to → Holder ds x
held from to x [] c low high = absurd (omega (arith, c))
held from to x (d ∷ ds) c low high = held_by from to x d ds c low (nat_lt x (behind d.start d.pages)) refl (λ over. let start = c.0 in held (from + 4096 * d.pages) to x ds c.2 (omega (arith, start, over)) high)
