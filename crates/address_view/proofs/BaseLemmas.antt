-- Stores leave where memory begins, and how many pages it has.
use Rattle.std.proofs.Common.{◌≡◌, ℕ, List, [], ◌∷◌, Option, Some, None, refl, ap, ◌∙◌}
use Rattle.uh_base.specs.Bytes.{next}
use Rattle.guest_memory.specs.Pages.{Pages}
use Rattle.guest_memory.specs.Changes.{TouchedBesides}
use Rattle.address_view.specs.Stored.{put_seen, stored}

base_put : (m : Pages) (byte : ℕ) (o : Option ℕ) → (put_seen m byte o).base ≡ m.base
base_put m byte None = refl
base_put m byte (Some place) = refl

pages_put : (m : Pages) (byte : ℕ) (o : Option ℕ) → (put_seen m byte o).pages ≡ m.pages
pages_put m byte None = refl
pages_put m byte (Some place) = refl

pub base_stored : (see : ℕ → Option ℕ) (m : Pages) (at : ℕ) (bytes : List ℕ) → (stored see m at bytes).base ≡ m.base
unfolding stored
base_stored see m at [] = refl
base_stored see m at (byte ∷ bytes) = base_stored see (put_seen m byte (see at)) (next at) bytes ∙ base_put m byte (see at)

pub pages_stored : (see : ℕ → Option ℕ) (m : Pages) (at : ℕ) (bytes : List ℕ) → (stored see m at bytes).pages ≡ m.pages
unfolding stored
pages_stored see m at [] = refl
pages_stored see m at (byte ∷ bytes) = pages_stored see (put_seen m byte (see at)) (next at) bytes ∙ pages_put m byte (see at)

pub base_of_stored : (new m : Pages) (see : ℕ → Option ℕ) (at : ℕ) (bytes : List ℕ) → new ≡ stored see m at bytes → new.base ≡ m.base
base_of_stored new m see at bytes e = ap (λ (x : Pages). x.base) e ∙ base_stored see m at bytes

pub pages_of_stored : (new m : Pages) (see : ℕ → Option ℕ) (at : ℕ) (bytes : List ℕ) → new ≡ stored see m at bytes → new.pages ≡ m.pages
pages_of_stored new m see at bytes e = ap (λ (x : Pages). x.pages) e ∙ pages_stored see m at bytes

pub base_besides : (old new : Pages) → TouchedBesides old new → new.base ≡ old.base
base_besides old new h = ap (λ (x : Pages). x.base) h.rest

pub pages_besides : (old new : Pages) → TouchedBesides old new → new.pages ≡ old.pages
pages_besides old new h = ap (λ (x : Pages). x.pages) h.rest
