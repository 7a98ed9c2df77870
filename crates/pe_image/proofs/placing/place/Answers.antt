use Rattle.std.proofs.Common.{◌≡◌, ◌≤◌, length, sym, ◌∙◌, arith}
use Rattle.std.proofs.lemmas.List.{length-take-le, length-append, length-drop}
use Rattle.pe_image.specs.ImageOf.{fields_of}
use Rattle.pe_image.proofs.PlaceLemmas.{overlaid_all, pages_hold, section_room, section_bytes, section_over, get_or-headers, placed_now}
use Rattle.pe_image.proofs.placing.place.Goals as goal

pub slice_bounds-copy_from_slice-end : goal.slice_bounds-copy_from_slice-end
slice_bounds-copy_from_slice-end c =
    let sound = c.read_images_are_sound.ensures.image c.args.file.now _ c.requires.read in
    omega (arith, sound.headers, pages_hold c.args.image.now.size, c.fill.ensures.len, c.requires.room)

pub slice_bounds-copy_from_slice-end-2 : goal.slice_bounds-copy_from_slice-end-2
slice_bounds-copy_from_slice-end-2 c =
    let sound = c.read_images_are_sound.ensures.image c.args.file.now _ c.requires.read in
    let fits : c.args.image.now.headers ≤ length c.fill.new.self = omega (arith, sound.headers, pages_hold c.args.image.now.size, c.fill.ensures.len, c.requires.room) in
    sym (length-take-le c.args.image.now.headers c.fill.new.self fits)

pub copy_from_slice-requires : goal.copy_from_slice-requires
copy_from_slice-requires c =
    let copied = c.read_images_are_sound.ensures.copied c.args.file.now _ c.requires.read in
    let sound = c.read_images_are_sound.ensures.image c.args.file.now _ c.requires.read in
    let fits : c.args.image.now.headers ≤ length c.fill.new.self = omega (arith, sound.headers, pages_hold c.args.image.now.size, c.fill.ensures.len, c.requires.room) in
    length-take-le c.args.image.now.headers c.fill.new.self fits ∙ sym (length-take-le c.args.image.now.headers c.args.file.now copied.headers)

pub loop-section-init : goal.loop-section-init
loop-section-init c = λ at h.
    let copied = c.read_images_are_sound.ensures.copied c.args.file.now _ c.requires.read in
    overlaid_all c.args.file.now (fields_of c.args.image.now) at _ c.requires.read
    (get_or-headers c.args.image.now.headers (length c.args.to.now) c.args.file.now c.copy_from_slice.new.self c.fill.new.self at copied.headers c.copy_from_slice.ensures.after (c.fill.ensures.after (λ y is. is)))

pub loop-section-preserved : goal.loop-section-preserved
loop-section-preserved c = λ at h.
    let turn = rw c.deref-section-items.ensures.value at (c.place_section.ensures at h) in
    sym (section_over c.args.file.now (fields_of c.args.image.now) c.requires.read c.loop-section.section-index _ (omega (arith, c.deref-section-items.ensures.len, c.args.image.now.sections.ok.0)) at _ _ turn)
    ∙ c.loop-section.invariant at (omega (arith, c.place_section.auto.to))

pub place_section-requires-clause-room : goal.place_section-requires-clause-room
place_section-requires-clause-room c =
    let sound = c.read_images_are_sound.ensures.image c.args.file.now _ c.requires.read in
    let fits : c.args.image.now.headers ≤ length c.fill.new.self = omega (arith, sound.headers, pages_hold c.args.image.now.size, c.fill.ensures.len, c.requires.room) in
    let front : length c.copy_from_slice.new.self ≡ c.args.image.now.headers = c.copy_from_slice.ensures.len ∙ length-take-le c.args.image.now.headers c.fill.new.self fits in
    let whole = simp (length-append, length-drop) at c.loop-section.auto.to in
    let room : c.args.image.now.size ≤ length c.loop-section.to = omega (arith, whole, pages_hold c.args.image.now.size, c.fill.ensures.len, c.requires.room) in
    rw c.deref-section-items.ensures.value (section_room c.args.file.now (fields_of c.args.image.now) c.requires.read c.loop-section.section-index _ (omega (arith, c.deref-section-items.ensures.len, c.args.image.now.sections.ok.0)) (length c.loop-section.to) room)

pub place_section-requires-clause-file : goal.place_section-requires-clause-file
place_section-requires-clause-file c =
    rw c.deref-section-items.ensures.value (section_bytes c.args.file.now (fields_of c.args.image.now) c.requires.read c.loop-section.section-index _ (omega (arith, c.deref-section-items.ensures.len, c.args.image.now.sections.ok.0)))

pub returns : goal.returns
returns c = λ at h. placed_now c.args.file.now c.loop-section.to c.args.image.now.sections.items c.loop-section.section-index at _ (omega (arith, c.deref-section-items.ensures.len, c.args.image.now.sections.ok.0)) h (c.loop-section.invariant at h)
