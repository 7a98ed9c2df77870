use Rattle.pe_image.proofs.SoundLemmas.{is_image, is_copied}
use Rattle.pe_image.proofs.laws.read_images_are_sound.Goals as goal

pub returns-clause-image : goal.returns-clause-image
returns-clause-image c = λ file image read. is_image file image read

pub returns-clause-copied : goal.returns-clause-copied
returns-clause-copied c = λ file image read. is_copied file image read
