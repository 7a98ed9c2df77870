-- What the program keeps, as definitions speak of it.
use Rattle.std.specs.Prelude.{List, Option, Some, None, ◌∷◌, ◌<◌, ◌≤◌, IsTrue}
use Rattle.rv_decode.specs.declared.insn.Insn.{Insn}
use Rattle.prov_types.specs.Kinds.{IsProperKind}
use Rattle.prov_types.specs.Narrow.{is_branch}
use Rattle.prov_types.specs.Asked.{KindAsk, Sets, Loads, Stores, Forks, Goes, Jumps, Stops}
use Rattle.prov_cert.specs.declared.cert.StackPart.{StackPart}
use Rattle.prov_layout.specs.Stack.{without}
use Rattle.provenance_check.specs.declared.ground.Ground.{Ground as KeptGround}
use Rattle.provenance_check.specs.declared.asked.Asked.{Asked}
use Rattle.provenance_check.specs.declared.asked.Asked.TheVariants as asked
use Rattle.provenance_check.specs.declared.jumps.JumpTarget.{JumpTarget}
use Rattle.provenance_check.specs.declared.jumps.JumpTarget.TheVariants as jumps
use Rattle.provenance_check.specs.declared.edges.Behind.{Behind}
use Rattle.provenance_check.specs.Ground.{Ground}
use Rattle.provenance_check.specs.Successors.{Successor, Target, Inner, Out, Converts, Astray, and_cell}

abbrev pub seen : KeptGround → Ground
seen g = record {
  starts = g.starts.now;
  lens = g.lens.now;
  image = g.image.now;
  sites = g.sites.now;
  pieces = g.pieces.now;
  nodes = g.nodes.now;
  called = g.called.now;
  notified = g.notified.now;
  last = g.last.now;
  cells = g.cells;
}

abbrev pub ask_of : Asked → KindAsk
ask_of (asked.Sets rd kind) = Sets rd kind
ask_of (asked.Loads rd at width sign) = Loads rd at width sign
ask_of (asked.Stores at width kind) = Stores at width kind
ask_of (asked.Forks op a b behind target) = Forks op a b behind target
ask_of (asked.Goes to rd) = Goes to rd
ask_of (asked.Jumps to rd) = Jumps to rd
ask_of asked.Stops = Stops

-- the registers and widths that are named are there, and kinds are proper
abbrev pub IsFit : Insn → Asked → Type 0
IsFit insn (asked.Sets rd kind) = rd < 32
IsFit insn (asked.Loads rd at width sign) = (rd < 32) × IsProperKind at × (0 < width) × (width ≤ 8)
IsFit insn (asked.Stores at width kind) = IsProperKind at × (0 < width) × (width ≤ 8)
IsFit insn (asked.Forks op a b behind target) = IsTrue (is_branch insn.op) × IsProperKind a × IsProperKind b
IsFit insn (asked.Goes to rd) = rd < 32
IsFit insn (asked.Jumps to rd) = rd < 32
IsFit insn asked.Stops = Unit {0}

abbrev pub target_seen : JumpTarget → Target
target_seen (jumps.Inner to) = Inner to
target_seen jumps.Out = Out
target_seen jumps.Converts = Converts
target_seen jumps.Astray = Astray

-- the parts of the stack with one stored
abbrev pub parts_with : Option StackPart → List StackPart → List StackPart
parts_with None parts = parts
parts_with (Some p) parts = p ∷ without p.at p.width parts

abbrev pub behind_seen : Behind → Successor
behind_seen s = record { to = s.to; kinds = s.kinds; parts = parts_with s.stored s.parts.now; done = and_cell s.converted s.done.now }
