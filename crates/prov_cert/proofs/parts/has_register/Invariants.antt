use Rattle.std.proofs.Common.{◌≡◌, drop}
use Rattle.prov_cert.specs.Forms.{has_register}
use Rattle.prov_cert.proofs.parts.has_register.Given as goal

abbrev pub invariant-loop-k : goal.invariant-loop-k
invariant-loop-k l = has_register (drop l.k-index l.kinds) l.reg ≡ has_register l.kinds l.reg
