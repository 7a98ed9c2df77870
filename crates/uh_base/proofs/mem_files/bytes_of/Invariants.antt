use Rattle.std.proofs.Common.{◌≡◌, drop}
use Rattle.uh_base.specs.MemFiles.{file_in}
use Rattle.uh_base.proofs.mem_files.bytes_of.Given as goal

abbrev pub invariant-loop-entry : goal.invariant-loop-entry
invariant-loop-entry l = file_in (drop l.entry-index l.entries) l.name ≡ file_in l.entries l.name
