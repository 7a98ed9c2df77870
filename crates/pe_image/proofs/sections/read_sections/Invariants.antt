use Rattle.std.proofs.Common.{◌≡◌, ◌+◌, ◌*◌, ◌-◌, ◌++◌, length}
use Rattle.pe_image.specs.Checks.{judged}
use Rattle.pe_image.specs.ImageOf.{sections_at, section_checks}
use Rattle.pe_image.proofs.sections.read_sections.Given as goal

-- the sections from here on give what all of them give
abbrev pub invariant-loop-i : goal.invariant-loop-i
invariant-loop-i l =
    let all = sections_at l.bytes l.at l.count in
    let left = sections_at l.bytes (l.at + 40 * l.i) (l.count - l.i) in
    record {
      same : judged (section_checks (length l.bytes) l.optional.alignment l.optional.size l.before l.i left) all ≡ judged (section_checks (length l.bytes) l.optional.alignment l.optional.size l.optional.headers 0 all) all;
      pushed : l.sections.items ++ left ≡ all;
    }
