use Rattle.std.proofs.Common.{◌≡◌, map, drop}
use Rattle.prov_cert.specs.Reading.{is_among}
use Rattle.prov_cert.proofs.lists.is_among.Given as goal

abbrev pub invariant-loop-word : goal.invariant-loop-word
invariant-loop-word l = is_among (map (λ w. w.now) (drop l.word-index l.words)) l.key ≡ is_among (map (λ w. w.now) l.words) l.key
