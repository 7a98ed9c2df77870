use Rattle.std.proofs.Common.{arith, ◌∙◌, ap, take, List, ℕ, ◌+◌}
use Rattle.guest_memory.specs.Pages.{bytes_of}
use Rattle.guest_memory.specs.Runs.{with_bytes}
use Rattle.map_transition.proofs.ByteLemmas.{site_low, site_put}
use Rattle.map_transition.proofs.fixing.put_moved.Goals as goal

pub overflow_add-base : goal.overflow_add-base
overflow_add-base c = let low = site_low c.args.memory.now c.args.base c.args.site c.whole.ensures c.requires.touched in omega (arith, low)

pub returns-in-Some-clause-bytes : goal.returns-in-Some-clause-bytes
returns-in-Some-clause-bytes c =
    site_put (bytes_of c.args.memory.now) (bytes_of c.put_all.new.memory) c.args.base c.args.by c.args.word c.in-Some.moved c.width.result c.args.site
    (site_low c.args.memory.now c.args.base c.args.site c.whole.ensures c.requires.touched) c.width.ensures c.in-Some.ensures c.bytes_behind_a_store.ensures.stored c.bytes_behind_a_store.ensures.others
    (c.put_all.ensures.bytes ∙ ap (λ (at : ℕ). with_bytes (bytes_of c.args.memory.now) (c.args.base + at) (take c.width.result c.to_le_bytes-bytes.result)) c.from.ensures
    ∙ ap (λ (bytes : List ℕ). with_bytes (bytes_of c.args.memory.now) (c.args.base + c.args.site.at) (take c.width.result bytes)) c.to_le_bytes-bytes.ensures)
