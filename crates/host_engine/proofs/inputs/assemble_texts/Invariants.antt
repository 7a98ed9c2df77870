use Rattle.std.proofs.Common.{◌≡◌, ◌+◌, length, map}
use Rattle.std.specs.Vec.Iter.{into_iter_items, into_iter_len}
use Rattle.host_engine.proofs.InputLemmas.{Making}
use Rattle.host_engine.proofs.inputs.assemble_texts.Given as goal

abbrev pub invariant-loop-code : goal.invariant-loop-code
invariant-loop-code l = record {
  so_far : Making l.fn.codes.items (map (λ image. image.bytes.items) l.images.items) (into_iter_items l.code-iterator);
  left : into_iter_len l.code-iterator ≡ length (into_iter_items l.code-iterator);
  many : length l.images.items + length (into_iter_items l.code-iterator) ≡ length l.fn.codes.items;
}
