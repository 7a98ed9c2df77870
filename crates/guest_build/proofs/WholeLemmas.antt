-- What an image is made of.
use Rattle.std.proofs.Common.{◌≡◌, ℕ, List, codes, Result, Ok, Err, refl}
use Rattle.guest_build.specs.Assembled.{finished, image_in, assembled}
use Rattle.guest_build.specs.Codes.{offset_of}
use Rattle.guest_build.specs.Faults.{Place as FaultPlace}
use Rattle.guest_build.specs.Image.{image_of}
use Rattle.guest_build.specs.Layout.{Sections}
use Rattle.guest_build.specs.Read.{origins_in, labels_in, IsMadeOf}
use Rattle.guest_build.proofs.MadeSteps.{line_goes}

finished_is : (entry : ℕ) (r : Result Sections FaultPlace) (bytes : List ℕ) → finished entry r ≡ Ok bytes → (all : Sections) × (r ≡ Ok all) × (bytes ≡ image_of entry all)
finished_is entry (Ok all) bytes h = (all, refl, cc)
finished_is entry (Err place) bytes h = absurd cc

pub made_of : (text bytes : List ℕ) → assembled text ≡ Ok bytes → (entry : ℕ) × (all : Sections) × IsMadeOf text entry all × (bytes ≡ image_of entry all)
unfolding assembled image_in
made_of text bytes h =
    let entry = line_goes 0 (offset_of (origins_in text) (labels_in text (codes "start"))) _ bytes h in
    let all = finished_is entry.0 _ bytes entry.2 in
    (entry.0, all.0, record { start = entry.1; sections = all.1 }, all.2)
