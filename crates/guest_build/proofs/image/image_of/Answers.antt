use Rattle.std.proofs.Common.{◌≡◌, ℕ, List, refl, ◌∙◌}
use Rattle.guest_build.specs.Image.{file_of, image_of}
use Rattle.guest_build.specs.Layout.{Sections, layout_of}
use Rattle.guest_build.specs.Views.{drawn, frame_of, sections_of}
use Rattle.guest_build.specs.declared.layout.Frame.{Frame}
use Rattle.guest_build.proofs.image.image_of.Goals as goal

image_is : (entry : ℕ) (all : Sections) (frame : Frame) (table : List ℕ) → frame ≡ frame_of (layout_of all) → table ≡ (layout_of all).table
    → file_of entry (drawn frame table) all ≡ image_of entry all
unfolding image_of
image_is entry all frame table f t = rw (t, f) refl

pub returns : goal.returns
returns c =
    rw (image_is c.args.entry (sections_of c.args.all.now) c.layout_of-frame.result c.as_slice.result.now c.layout_of-frame.ensures (c.as_slice.ensures.value ∙ c.in_ok-table.ensures)) at c.file_of.ensures
