use Rattle.std.proofs.Common.{◌≡◌, drop, []}
use Rattle.prov_cert.specs.Apart.{parts_of}
use Rattle.prov_cert.specs.Seen.{texts_of}
use Rattle.prov_cert.proofs.parts.parts_of.Given as goal

abbrev pub invariant-loop-text : goal.invariant-loop-text
invariant-loop-text l = parts_of l.regions l.parts.items (texts_of (drop l.text-index l.texts)) ≡ parts_of l.regions [] (texts_of l.texts)
