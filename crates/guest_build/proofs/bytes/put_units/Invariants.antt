use Rattle.std.proofs.Common.{◌≡◌, ◌++◌, take}
use Rattle.std.specs.List.{flat_map}
use Rattle.uh_base.specs.LittleEndian.{low_bytes}
use Rattle.guest_build.proofs.bytes.put_units.Given as goal

abbrev pub invariant-loop-byte : goal.invariant-loop-byte
invariant-loop-byte l = l.out.items ≡ l.fn.out.items ++ flat_map (λ b. low_bytes 2 b) (take l.byte-index l.text)
