use Rattle.std.proofs.Common.{◌≡◌, drop, []}
use Rattle.prov_cert.specs.Forms.{indices_of}
use Rattle.prov_cert.specs.Seen.{texts_of}
use Rattle.prov_cert.proofs.parts.indices_of.Given as goal

abbrev pub invariant-loop-word : goal.invariant-loop-word
invariant-loop-word l = indices_of l.bound l.numbers.items (texts_of (drop l.word-index l.words)) ≡ indices_of l.bound [] (texts_of l.words)
