use Rattle.std.proofs.Common.{◌≡◌, ◌+◌, ◌*◌, ◌-◌, ◌<◌, ◌≤◌, length}
use Rattle.pe_image.specs.Checks.{judged}
use Rattle.pe_image.specs.ImageOf.{table_checks}
use Rattle.pe_image.proofs.headers.find_table.Given as goal

-- the headers from here on give what all of them give
abbrev pub invariant-loop-i : goal.invariant-loop-i
invariant-loop-i l = record {
  same : judged {X = Unit {0}} (table_checks l.bytes (l.at + 40 * l.i) (l.count - l.i)) tt ≡ judged (table_checks l.bytes l.at l.count) tt;
  inside : 0 < l.i → l.at + 40 * l.i ≤ length l.bytes;
}
