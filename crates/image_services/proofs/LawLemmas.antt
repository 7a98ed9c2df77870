-- The fields of a block.
use Rattle.std.proofs.Common.{refl}
use Rattle.image_services.specs.Blocks.{block_bytes}
use Rattle.image_services.specs.Laws.{FieldsStandAtTheirOffsets}

pub fields_stand : FieldsStandAtTheirOffsets
unfolding block_bytes
fields_stand parent system base size subsystem = record {
  long = refl;
  Revision = refl;
  ParentHandle = refl;
  SystemTable = refl;
  ImageBase = refl;
  ImageSize = refl;
  ImageCodeType = refl;
  ImageDataType = refl;
}
