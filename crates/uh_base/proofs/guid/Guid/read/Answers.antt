use Rattle.std.proofs.Common.{◌≡◌, ℕ, List, Option, Some, None, refl, sym}
use Rattle.std.proofs.lemmas.Bool.{false≢true}
use Rattle.uuid.specs.Text.{parsed}
use Rattle.uh_base.specs.Guid.{read_of, fields_of}
use Rattle.uh_base.proofs.guid.Guid.read.Goals as goal

found : (text bytes : List ℕ) → Some bytes ≡ parsed text → Some (fields_of bytes) ≡ read_of text
unfolding read_of
found text bytes is = let back = sym is in rw back refl

missed : (text : List ℕ) (o : Option (List ℕ)) → o ≡ parsed text → ((u : List ℕ) → parsed text ≡ Some u → ⊥) → None ≡ read_of text
unfolding read_of
missed text None is h = let back = sym is in rw back refl
missed text (Some u) is h = absurd (h u (sym is))

pub returns-in-Ok : goal.returns-in-Ok
returns-in-Ok c =
    let e = c.as_fields-d1.ensures in
    rw (e.d1, e.d2, e.d3, c.from_be_bytes.ensures, e.d4) (found c.args.text.now c.in-Ok.id c.in-Ok.ensures.bytes)

pub returns-in-Err : goal.returns-in-Err
returns-in-Err c = missed c.args.text.now (parsed c.args.text.now) refl (λ u is. false≢true (c.in-Err.ensures.ok.1 (u, is)))
