use Rattle.std.proofs.Common.{◌≡◌, ◌+◌, ◌/◌, ◌∙◌, ap, arith}
use Rattle.guest_memory.specs.Pages.{Pages}
use Rattle.image_services.proofs.MarkLemmas.{all_marked, block_marked}
use Rattle.image_services.proofs.writing.write_loaded.Goals as goal

pub write_bytes-requires-clause-touched : goal.write_bytes-requires-clause-touched
write_bytes-requires-clause-touched c =
    let long = c.whole.ensures.touched_long in
    let even = c.whole.ensures.base_even in
    let within = c.requires.within in
    let first = c.page_index-first.ensures in
    let page = c.page_index-page.ensures in
    let high = within.high in let low = within.low in let on = within.even in
    let block_low = within.block_low in let block_high = within.block_high in
    let room = c.requires.bytes in
    all_marked c.args.memory.now.touched c.open_page.new.memory.touched c.page_index-page.result c.page_index-first.result ((c.args.image.now.size + 4095) / 4096) _
    (c.open_page.ensures.touched ∙ ap (λ (m : Pages). m.touched) c.in_ok-touch_both.ensures.ok) (omega (arith, room)) (omega arith) (omega arith)

pub put_bytes-requires-clause-touched : goal.put_bytes-requires-clause-touched
put_bytes-requires-clause-touched c =
    let long = c.whole.ensures.touched_long in
    let even = c.whole.ensures.base_even in
    let within = c.requires.within in
    let first = c.page_index-first.ensures in
    let page = c.page_index-page.ensures in
    let high = within.high in let low = within.low in let on = within.even in
    let block_low = within.block_low in let block_high = within.block_high in
    let room = c.requires.bytes in
    let base : c.set_image_rights.new.memory.base ≡ c.args.memory.now.base = c.set_image_rights.ensures.base ∙ c.write_bytes.ensures.base ∙ c.open_page.ensures.base ∙ c.in_ok-touch_both.ensures.base in
    block_marked c.args.memory.now.touched c.open_page.new.memory.touched c.write_bytes.new.memory.touched c.set_image_rights.new.memory.touched c.page_index-page.result c.page_index-first.result ((c.args.image.now.size + 4095) / 4096) _ _
    (c.open_page.ensures.touched ∙ ap (λ (m : Pages). m.touched) c.in_ok-touch_both.ensures.ok) (ap (λ (m : Pages). m.touched) c.write_bytes.ensures.gives) c.set_image_rights.ensures.touched (omega (arith, room))
    (omega (arith, base, page)) (omega arith) (omega arith)
