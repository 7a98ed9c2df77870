use Rattle.std.proofs.Common.{◌≡◌, ◌++◌, map, drop, string_bytes}
use Rattle.prov_cert.specs.Texts.{each}
use Rattle.prov_cert.proofs.writing.push_each.Given as goal

abbrev pub invariant-loop-item : goal.invariant-loop-item
invariant-loop-item g l =
    string_bytes l.text ++ each l.before l.behind (map g.T.Written.text (drop l.item-index l.items)) ≡ string_bytes l.initial.text ++ each l.before l.behind (map g.T.Written.text l.items)
