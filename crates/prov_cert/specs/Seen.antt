-- What the program keeps while it reads, as definitions speak of it.
use Rattle.std.specs.Prelude.{ℕ, ◌≤◌, List, length, map, Option, Some, None}
use Rattle.std.specs.Borrow.{Bor}
use Rattle.toml.specs.Data.{Items}
use Rattle.toml.specs.View.{items_view}
use Rattle.toml.specs.declared.value.Value.{Value as TomlValue}
use Rattle.prov_cert.specs.Forms.{Counts, Fields}
use Rattle.prov_cert.specs.declared.parts.Counted.{Counted}
use Rattle.prov_cert.specs.Reading.{Lists}
use Rattle.prov_cert.specs.declared.reading.Lists.{Lists as KeptLists}
use Rattle.prov_cert.specs.declared.parts.Fields.{Fields as KeptFields}

abbrev pub texts_of : List (Bor (List ℕ)) → List (List ℕ)
texts_of parts = map (λ part. part.now) parts

abbrev pub counts_seen : Counted → Counts
counts_seen counts = record { regions = counts.regions; nodes = counts.nodes; cells = counts.cells }

abbrev pub fields_seen : Option KeptFields → Option Fields
fields_seen None = None
fields_seen (Some f) = Some (record { at = f.at.now; regs = f.regs.now; stack = f.stack.now; next = f.next.now; done = f.done.now })

abbrev pub items_seen : Option (Bor (List TomlValue)) → Option Items
items_seen None = None
items_seen (Some values) = Some (items_view values.now)

abbrev pub lists_kept : KeptLists → Lists
lists_kept l = record { regions = items_view l.regions.now; spans = items_view l.spans.now; entries = items_view l.entries.now; notify = items_view l.notify.now; nodes = items_view l.nodes.now }

abbrev pub lists_seen : Option KeptLists → Option Lists
lists_seen None = None
lists_seen (Some l) = Some (lists_kept l)

-- no more items than a certificate may have
abbrev pub IsFew : KeptLists → Type 0
IsFew l = (length l.regions.now ≤ 26) × (length l.spans.now ≤ 4096) × (length l.entries.now ≤ 64) × (length l.notify.now ≤ 16) × (length l.nodes.now ≤ 4096)
