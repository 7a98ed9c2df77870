-- Lines, one after another.
use Rattle.std.proofs.Common.{◌≡◌, ℕ, List, [], ◌∷◌, ◌++◌, Option, Some, None, refl, sym, ap, ◌∙◌, append-nil}
use Rattle.std.proofs.lemmas.List.Concat.{flat_map-append}
use Rattle.record_text.specs.declared.line.Line.{Line}
use Rattle.uh_base.specs.Told.{grown, GrownByPart}
use Rattle.host_engine.specs.Jobs.{line_bytes, bytes_of}
use Rattle.host_engine.proofs.PutLemmas.{part_behind, part_before, grown-grown}

pub grown-nil : (told : Option (List ℕ)) → told ≡ grown told []
grown-nil None = refl
grown-nil (Some bytes) = ap Some (sym (append-nil bytes))

pub bytes_of-append : (a b : List Line) → bytes_of (a ++ b) ≡ bytes_of a ++ bytes_of b
bytes_of-append a b = flat_map-append line_bytes a b

-- the bytes of lines with one behind them
pub bytes_of-last : (a : List Line) (line : Line) → bytes_of (a ++ line ∷ []) ≡ bytes_of a ++ line_bytes line
bytes_of-last a line = bytes_of-append a (line ∷ []) ∙ ap (λ (x : List ℕ). bytes_of a ++ x) (append-nil (line_bytes line))

-- lines that were put, then others
pub put_more : (old now new : Option (List ℕ)) (a b : List Line) → now ≡ grown old (bytes_of a) → new ≡ grown now (bytes_of b) → new ≡ grown old (bytes_of (a ++ b))
put_more old now new a b p q = q ∙ ap (λ (o : Option (List ℕ)). grown o (bytes_of b)) p ∙ grown-grown old (bytes_of a) (bytes_of b) ∙ ap (grown old) (sym (bytes_of-append a b))

-- lines that were put, and a part of those that follow
pub part_more : (old now new : Option (List ℕ)) (a b more whole : List Line) → now ≡ grown old (bytes_of a) → whole ≡ a ++ (b ++ more) → GrownByPart now (bytes_of b) new → GrownByPart old (bytes_of whole) new
part_more old now new a b more whole p e part =
    let split : bytes_of a ++ (bytes_of b ++ bytes_of more) ≡ bytes_of whole =
    ap (λ (x : List ℕ). bytes_of a ++ x) (sym (bytes_of-append b more)) ∙ sym (bytes_of-append a (b ++ more)) ∙ ap bytes_of (sym e) in
    part_behind old now new (bytes_of a) (bytes_of b ++ bytes_of more) (bytes_of whole) p split (part_before now new (bytes_of b) (bytes_of more) _ refl part)
