use Rattle.std.proofs.Common.{sym, ap, ◌∙◌}
use Rattle.std.proofs.Common.{take, List, ℕ}
use Rattle.base_reloc.proofs.MoveLemmas.{site_written}
use Rattle.base_reloc.proofs.moving.move_site.Goals as goal

pub returns-in-Some : goal.returns-in-Some
returns-in-Some c = λ at h. site_written c.args.bytes.now c.copy_from_slice.new.self c.args.site c.width-width.result c.in-Some.word c.args.displacement at c.requires c.width-width.ensures (c.copy_from_slice.ensures.after ∙ ap (λ (bytes : List ℕ). take c.width-width.result bytes) c.to_le_bytes.ensures) (sym c.in-Some.ensures.word)
