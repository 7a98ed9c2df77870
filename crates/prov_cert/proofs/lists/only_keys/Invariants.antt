use Rattle.std.proofs.Common.{◌≡◌, map}
use Rattle.toml.specs.View.{table_view, members_view}
use Rattle.prov_cert.specs.Reading.{is_among, keys_pass}
use Rattle.prov_cert.proofs.lists.only_keys.Given as goal

abbrev pub invariant-loop-key : goal.invariant-loop-key
invariant-loop-key l = keys_pass (is_among (map (λ w. w.now) l.words)) (members_view l.key-iterator) ≡ keys_pass (is_among (map (λ w. w.now) l.words)) (table_view l.table)
