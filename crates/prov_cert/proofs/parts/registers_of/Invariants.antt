use Rattle.std.proofs.Common.{◌≡◌, drop, []}
use Rattle.prov_cert.specs.Forms.{registers_of}
use Rattle.prov_cert.specs.Seen.{texts_of}
use Rattle.prov_cert.proofs.parts.registers_of.Given as goal

abbrev pub invariant-loop-part : goal.invariant-loop-part
invariant-loop-part l = registers_of l.regions l.kinds.items (texts_of (drop l.part-index l.parts)) ≡ registers_of l.regions [] (texts_of l.parts)
