use Rattle.std.proofs.Common.{◌≡◌, drop}
use Rattle.prov_cert.specs.Apart.{rises}
use Rattle.prov_cert.proofs.apart.rises.Given as goal

abbrev pub invariant-loop-part : goal.invariant-loop-part
invariant-loop-part l = rises l.end (drop l.part-index l.parts) ≡ rises 0 l.parts
