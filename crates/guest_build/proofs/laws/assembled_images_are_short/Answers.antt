use Rattle.guest_build.proofs.LayoutLemmas.{filled_in, laid_out}
use Rattle.guest_build.proofs.MadeLemmas.{sound}
use Rattle.guest_build.proofs.SizeLemmas.{image_short}
use Rattle.guest_build.proofs.WholeLemmas.{made_of}
use Rattle.guest_build.proofs.laws.assembled_images_are_short.Goals as goal

pub returns : goal.returns
returns c = λ text bytes small h.
    let made = made_of text bytes h in
    let fits = filled_in made.0 made.1 (rw (← made.3) small) in
    let holds = sound text made.0 made.1 made.2 fits (laid_out made.1 fits) in
    rw made.3 (image_short made.0 made.1 holds.0)
