use Rattle.std.proofs.Common.{◌≡◌, true, refl, inr, arith}
use Rattle.std.proofs.lemmas.List.Elements.{All-nil}
use lib.Count.{ones, ones_in}
use Rattle.pe_image.specs.ImageOf.{is_alignment}
use Rattle.pe_image.specs.Sound.{IsInImage}
use Rattle.code_tests.proofs.relocations.image_of.Goals as goal

one_bit : is_alignment 4096 ≡ true
unfolding ones ones_in
one_bit = refl

pub returns-clause-sound : goal.returns-clause-sound
returns-clause-sound c = record {
  subsystem = refl;
  alignment = one_bit;
  base = refl;
  not_empty = omega (arith, c.requires.low);
  small = c.requires.high;
  headers = omega (arith, c.requires.low);
  few = rw c.new.ensures.items (omega arith);
  inside = rw c.new.ensures.items (All-nil (IsInImage _));
  ascending = rw c.new.ensures.items (λ i j d before below. absurd (omega arith));
  entry = (omega arith, refl, omega (arith, c.requires.low));
  relocations = inr c.requires.table;
}
