-- A GUID and its sixteen bytes give each other back.
use Rattle.std.proofs.Common.{◌≡◌, ℕ, zero, suc, ◌<◌, List, [], ◌∷◌, ◌++◌, length, take, drop, get_or, refl, sym, ap, ◌∙◌, arith, inl, inr}
use Rattle.std.specs.List.{All}
use Rattle.std.specs.Int.{w16, w32, w64, from_be_bytes, to_be_bytes, from_le_bytes, to_le_bytes}
use Rattle.std.proofs.lemmas.Nat.{from_le_bytes-to_le_bytes_2, from_le_bytes-to_le_bytes_4, from_be_bytes-to_be_bytes_8, le_bytes_2, le_bytes_4, be_bytes_8}
use Rattle.std.proofs.lemmas.Slice.Eq.{text_from_reads}
use Rattle.std.proofs.lemmas.List.{get_or_past}
use Rattle.std.proofs.lemmas.List.Elements.{All-get_or}
use Rattle.std.proofs.lemmas.Bool.{cases_lt}
use Rattle.uh_base.specs.Guid.{bytes_of, guid_of, IsGuid}
use Rattle.uh_base.specs.declared.guid.Guid.{Guid}

-- sixteen bytes, one by one
sixteen : (bs : List ℕ) → length bs ≡ 16
    → bs ≡ get_or bs 0 0 ∷ get_or bs 1 0 ∷ get_or bs 2 0 ∷ get_or bs 3 0 ∷ get_or bs 4 0 ∷ get_or bs 5 0 ∷ get_or bs 6 0 ∷ get_or bs 7 0 ∷ get_or bs 8 0 ∷ get_or bs 9 0 ∷ get_or bs 10 0 ∷ get_or bs 11 0 ∷ get_or bs 12 0 ∷ get_or bs 13 0 ∷ get_or bs 14 0 ∷ get_or bs 15 0 ∷ []
sixteen bs h = text_from_reads bs _ h (refl, (refl, (refl, (refl, (refl, (refl, (refl, (refl, (refl, (refl, (refl, (refl, (refl, (refl, (refl, (refl, tt))))))))))))))))

-- numbers from 0 on are below 256
abbrev pub AreBytes : List ℕ → Type 0
AreBytes bs = (i : ℕ) → get_or bs i 0 < 256

cons : (b : ℕ) (bs : List ℕ) → b < 256 → AreBytes bs → AreBytes (b ∷ bs)
cons b bs h all = λ i. at i
  where
    at : (i : ℕ) → get_or (b ∷ bs) i 0 < 256
    at zero = h
    at (suc i) = all i

none : AreBytes []
none = λ i. omega arith

are_bytes : (bs : List ℕ) → All (λ b. b < 256) bs → AreBytes bs
are_bytes bs all = λ i.
    elim (cases_lt i (length bs)) [
      | inl inside ↦ All-get_or (λ (b : ℕ). b < 256) bs i 0 inside all
      | inr past ↦ (let e = get_or_past bs i 0 past in omega (arith, e))
    ]

two : (a b n : ℕ) → a < 256 → b < 256 → n ≡ from_le_bytes w16 (a ∷ b ∷ []) → to_le_bytes w16 n ≡ a ∷ b ∷ []
two a b n p q e = le_bytes_2 (a ∷ b ∷ []) n refl (cons a (b ∷ []) p (cons b [] q none)) e

four : (a b c d n : ℕ) → a < 256 → b < 256 → c < 256 → d < 256 → n ≡ from_le_bytes w32 (a ∷ b ∷ c ∷ d ∷ []) → to_le_bytes w32 n ≡ a ∷ b ∷ c ∷ d ∷ []
four a b c d n p q r s e =
    le_bytes_4 (a ∷ b ∷ c ∷ d ∷ []) n refl (cons a (b ∷ c ∷ d ∷ []) p (cons b (c ∷ d ∷ []) q (cons c (d ∷ []) r (cons d [] s none)))) e

eight : (a b c d e f g h n : ℕ) → a < 256 → b < 256 → c < 256 → d < 256 → e < 256 → f < 256 → g < 256 → h < 256
    → n ≡ from_be_bytes w64 (a ∷ b ∷ c ∷ d ∷ e ∷ f ∷ g ∷ h ∷ []) → to_be_bytes w64 n ≡ a ∷ b ∷ c ∷ d ∷ e ∷ f ∷ g ∷ h ∷ []
eight a b c d e f g h n p q r s t u v w is =
    be_bytes_8 (a ∷ b ∷ c ∷ d ∷ e ∷ f ∷ g ∷ h ∷ []) n refl
    (cons a (b ∷ c ∷ d ∷ e ∷ f ∷ g ∷ h ∷ []) p (cons b (c ∷ d ∷ e ∷ f ∷ g ∷ h ∷ []) q (cons c (d ∷ e ∷ f ∷ g ∷ h ∷ []) r
    (cons d (e ∷ f ∷ g ∷ h ∷ []) s (cons e (f ∷ g ∷ h ∷ []) t (cons f (g ∷ h ∷ []) u (cons g (h ∷ []) v (cons h [] w none)))))))) is

joined : (a b c d e f g h : List ℕ) → a ≡ e → b ≡ f → c ≡ g → d ≡ h → a ++ (b ++ (c ++ d)) ≡ e ++ (f ++ (g ++ h))
joined a b c d e f g h p q r s = cc

pub back : (bs : List ℕ) → length bs ≡ 16 → AreBytes bs → (d1 d2 d3 d4 : ℕ)
    → d1 ≡ from_le_bytes w32 (get_or bs 0 0 ∷ get_or bs 1 0 ∷ get_or bs 2 0 ∷ get_or bs 3 0 ∷ [])
    → d2 ≡ from_le_bytes w16 (get_or bs 4 0 ∷ get_or bs 5 0 ∷ [])
    → d3 ≡ from_le_bytes w16 (get_or bs 6 0 ∷ get_or bs 7 0 ∷ [])
    → d4 ≡ from_be_bytes w64 (get_or bs 8 0 ∷ get_or bs 9 0 ∷ get_or bs 10 0 ∷ get_or bs 11 0 ∷ get_or bs 12 0 ∷ get_or bs 13 0 ∷ get_or bs 14 0 ∷ get_or bs 15 0 ∷ [])
    → bytes_of (record { d1 = d1; d2 = d2; d3 = d3; d4 = d4 }) ≡ bs
unfolding bytes_of
back bs len all d1 d2 d3 d4 e1 e2 e3 e4 =
    let a = four (get_or bs 0 0) (get_or bs 1 0) (get_or bs 2 0) (get_or bs 3 0) d1 (all 0) (all 1) (all 2) (all 3) e1 in
    let b = two (get_or bs 4 0) (get_or bs 5 0) d2 (all 4) (all 5) e2 in
    let c = two (get_or bs 6 0) (get_or bs 7 0) d3 (all 6) (all 7) e3 in
    let d = eight (get_or bs 8 0) (get_or bs 9 0) (get_or bs 10 0) (get_or bs 11 0) (get_or bs 12 0) (get_or bs 13 0) (get_or bs 14 0) (get_or bs 15 0) d4 (all 8) (all 9) (all 10) (all 11) (all 12) (all 13) (all 14) (all 15) e4 in
    joined _ _ _ _ _ _ _ _ a b c d ∙ sym (sixteen bs len)

first : (g : Guid) → IsGuid g → from_le_bytes w32 (take 4 (bytes_of g)) ≡ g.d1
unfolding bytes_of
first g fits = from_le_bytes-to_le_bytes_4 g.d1 fits.d1

second : (g : Guid) → IsGuid g → from_le_bytes w16 (take 2 (drop 4 (bytes_of g))) ≡ g.d2
unfolding bytes_of
second g fits = from_le_bytes-to_le_bytes_2 g.d2 fits.d2

third : (g : Guid) → IsGuid g → from_le_bytes w16 (take 2 (drop 6 (bytes_of g))) ≡ g.d3
unfolding bytes_of
third g fits = from_le_bytes-to_le_bytes_2 g.d3 fits.d3

fourth : (g : Guid) → IsGuid g → from_be_bytes w64 (drop 8 (bytes_of g)) ≡ g.d4
unfolding bytes_of
fourth g fits = from_be_bytes-to_be_bytes_8 g.d4 fits.d4

alike : (a b c d e f g h : ℕ) → a ≡ e → b ≡ f → c ≡ g → d ≡ h
    → (let guid : Guid = record { d1 = a; d2 = b; d3 = c; d4 = d } in let other : Guid = record { d1 = e; d2 = f; d3 = g; d4 = h } in guid ≡ other)
alike a b c d e f g h p q r s = cc

pub value : (bs : List ℕ) → length bs ≡ 16 → (d1 d2 d3 d4 : ℕ)
    → d1 ≡ from_le_bytes w32 (get_or bs 0 0 ∷ get_or bs 1 0 ∷ get_or bs 2 0 ∷ get_or bs 3 0 ∷ [])
    → d2 ≡ from_le_bytes w16 (get_or bs 4 0 ∷ get_or bs 5 0 ∷ [])
    → d3 ≡ from_le_bytes w16 (get_or bs 6 0 ∷ get_or bs 7 0 ∷ [])
    → d4 ≡ from_be_bytes w64 (get_or bs 8 0 ∷ get_or bs 9 0 ∷ get_or bs 10 0 ∷ get_or bs 11 0 ∷ get_or bs 12 0 ∷ get_or bs 13 0 ∷ get_or bs 14 0 ∷ get_or bs 15 0 ∷ [])
    → record { d1 = d1; d2 = d2; d3 = d3; d4 = d4 } ≡ guid_of bs
unfolding guid_of
value bs len d1 d2 d3 d4 e1 e2 e3 e4 = alike d1 d2 d3 d4 _ _ _ _ e1 e2 e3 e4 ∙ sym (ap guid_of (sixteen bs len))

-- a GUID from its bytes
pub guid_again : (g : Guid) → IsGuid g → guid_of (bytes_of g) ≡ g
unfolding guid_of
guid_again g fits = alike _ _ _ _ _ _ _ _ (first g fits) (second g fits) (third g fits) (fourth g fits)

-- bytes from their GUID
pub bytes_again : (bs : List ℕ) → length bs ≡ 16 → All (λ b. b < 256) bs → bytes_of (guid_of bs) ≡ bs
bytes_again bs len all =
    let is = value bs len _ _ _ _ refl refl refl refl in
    ap bytes_of (sym is) ∙ back bs len (are_bytes bs all) _ _ _ _ refl refl refl refl
