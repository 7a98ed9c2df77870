-- What a list in a struct says of the struct.
use Rattle.std.proofs.Common.{◌≡◌, ◌∙◌, ◌<◌, ℕ, length, refl, List, ◌++◌, ◌∷◌, [], sym, ap, subst, set, get_or, true}
use Rattle.std.specs.Prelude.{Some, None}
use Rattle.std.specs.List.{position, list_any}
use Rattle.uh_base.specs.declared.guid.Guid.{Guid}
use Rattle.handle_db.specs.declared.entry.OpenEntry.{OpenEntry}
use Rattle.handle_db.specs.Database.{Protocol, Handle, is_like, once_more, noted, has_guid, with_opens, all_but, fresh}
use Rattle.handle_db.proofs.ListLemmas.{change_some, any_some, any_none, find_none, unchanged, fewer_left}

pub handle_with : (f : List Protocol → List Protocol) (h : Handle) (n : ℕ) (ps qs : List Protocol) → record { number = n; protocols = ps } ≡ h → qs ≡ f ps → record { number = n; protocols = qs } ≡ record h { protocols = f h.protocols }
handle_with f h n ps qs e k = subst (λ (g : Handle). record { number = n; protocols = qs } ≡ record g { protocols = f g.protocols }) e (ap (λ rs. record { number = n; protocols = rs }) k)

pub protocol_with : (f : List OpenEntry → List OpenEntry) (p : Protocol) (g : Guid) (i : ℕ) (os ps : List OpenEntry) → record { guid = g; interface = i; opens = os } ≡ p → ps ≡ f os → record { guid = g; interface = i; opens = ps } ≡ record p { opens = f p.opens }
protocol_with f p g i os ps e k = subst (λ (q : Protocol). record { guid = g; interface = i; opens = ps } ≡ record q { opens = f q.opens }) e (ap (λ qs. record { guid = g; interface = i; opens = qs }) k)

-- an open that is like an entry
pub noted_there : (entry x : OpenEntry) (opens : List OpenEntry) (i : ℕ) (more : OpenEntry) → position (is_like entry) opens ≡ Some i → x ≡ get_or opens i x → more ≡ once_more x → set opens i more ≡ noted entry opens
noted_there entry x opens i more e is m =
    rw (any_some (is_like entry) opens i x e) (rw (change_some (is_like entry) once_more opens i x e) (ap (λ y. set opens i y) (m ∙ ap once_more is)))

-- one that is like none
pub noted_last : (entry : OpenEntry) (opens new : List OpenEntry) → position (is_like entry) opens ≡ None → new ≡ opens ++ entry ∷ [] → new ≡ noted entry opens
noted_last entry opens new e n = rw (any_none (is_like entry) opens e) n

-- the opens of a protocol change where it stands
pub opens_there : (guid : Guid) (f : List OpenEntry → List OpenEntry) (ps : List Protocol) (i : ℕ) (x y : Protocol) → position (has_guid guid) ps ≡ Some i → x ≡ get_or ps i x → y ≡ record x { opens = f x.opens } → set ps i y ≡ with_opens guid f ps
opens_there guid f ps i x y e is m =
    ap (λ p. set ps i p) (m ∙ ap (λ (p : Protocol). record p { opens = f p.opens }) is) ∙ sym (change_some (has_guid guid) (λ p. record p { opens = f p.opens }) ps i x e)

pub opens_none : (guid : Guid) (f : List OpenEntry → List OpenEntry) (ps : List Protocol) → position (has_guid guid) ps ≡ None → with_opens guid f ps ≡ ps
opens_none guid f ps e = unchanged (has_guid guid) (λ p. record p { opens = f p.opens }) ps (find_none (has_guid guid) ps (any_none (has_guid guid) ps e))

-- a list that lost what a test finds is shorter
pub has_room : (guid : Guid) (h : Handle) (n : ℕ) (ps qs : List Protocol) → record { number = n; protocols = ps } ≡ h → list_any (has_guid guid) h.protocols ≡ true → qs ≡ all_but guid ps → length qs < length ps
has_room guid h n ps qs e some k =
    rw k (fewer_left (has_guid guid) ps (ap (λ (g : Handle). list_any (has_guid guid) g.protocols) e ∙ some))

pub renewed : (guid : Guid) (interface : ℕ) (ps qs rs : List Protocol) (p : Protocol) → qs ≡ all_but guid ps → p ≡ fresh guid interface → rs ≡ qs ++ p ∷ [] → rs ≡ all_but guid ps ++ fresh guid interface ∷ []
renewed guid interface ps qs rs p k is e = e ∙ rw k (rw is refl)
