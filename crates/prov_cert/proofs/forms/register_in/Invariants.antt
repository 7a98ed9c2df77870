use Rattle.std.proofs.Common.{◌≡◌, map, drop}
use Rattle.prov_cert.specs.Forms.{register_from}
use Rattle.prov_cert.proofs.forms.register_in.Given as goal

abbrev pub invariant-loop-i : goal.invariant-loop-i
invariant-loop-i l = register_from l.i (map (λ name. name.now) (drop l.i l.names)) l.text ≡ register_from 0 (map (λ name. name.now) l.names) l.text
