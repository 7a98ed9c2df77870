use Rattle.std.proofs.Common.{◌≡◌, ◌∙◌, List, sym, subst, ap, map, [], ◌∷◌, ◌+◌, length, length-append, arith}
use Rattle.std.proofs.lemmas.List.{nil_from_length, map-append}
use Rattle.std.specs.Vec.Iter.{into_iter_items}
use Rattle.host_engine.specs.declared.code.Code.{Code}
use Rattle.host_engine.proofs.InputLemmas.{Making, nothing_made, made_more, not_made, all_there}
use Rattle.host_engine.proofs.inputs.assemble_texts.Goals as goal

pub loop-code-init : goal.loop-code-init
loop-code-init c = record {
  so_far = rw (c.new-images.ensures.items, c.into_iter-code-iterator.ensures.into_iter_gives.0) (nothing_made c.args.codes.items);
  left = c.into_iter-code-iterator.ensures.into_iter_gives.1 ∙ (c.args.codes.ok.0 ∙ sym (ap length c.into_iter-code-iterator.ensures.into_iter_gives.0));
  many = (let none = ap length c.new-images.ensures.items in let all = ap length c.into_iter-code-iterator.ensures.into_iter_gives.0 in omega (arith, none, all));
}

pub loop-code-preserved : goal.loop-code-preserved
loop-code-preserved c =
    let steps = c.in-Some.ensures.steps in
    let left = c.loop-code.invariant.left in
    let many = c.loop-code.invariant.many in
    let pushed = rw c.if-is_err.ensures.negation at c.push.ensures.items in
    let long : length c.push.new.self.items ≡ length c.loop-code.images.items + 1 = ap length pushed ∙ length-append c.loop-code.images.items (c.in-Ok.image ∷ []) in record {
      so_far = made_more c.args.codes.items (map (λ image. image.bytes.items) c.loop-code.images.items) _ (into_iter_items c.next.new.self) c.in-Some.code c.in-Ok.image.bytes.items
          (subst (λ (rest : List Code). Making c.args.codes.items (map (λ image. image.bytes.items) c.loop-code.images.items) rest) steps.0 c.loop-code.invariant.so_far) c.in-Ok.ensures (ap (map (λ image. image.bytes.items)) pushed ∙ map-append (λ image. image.bytes.items) c.loop-code.images.items (c.in-Ok.image ∷ []));
      left = omega (arith, steps.1, left, ap length steps.0);
      many = omega (arith, many, ap length steps.0, long);
    }

pub returns-in-Err-clause-gives : goal.returns-in-Err-clause-gives
returns-in-Err-clause-gives c =
    not_made c.in-Err.why c.args.codes.items (map (λ image. image.bytes.items) c.loop-code.images.items) (into_iter_items c.next.new.self) c.in-Some.code
    (subst (λ (rest : List Code). Making c.args.codes.items (map (λ image. image.bytes.items) c.loop-code.images.items) rest) c.in-Some.ensures.steps.0 c.loop-code.invariant.so_far) c.in-Err.ensures

pub returns-clause-gives : goal.returns-clause-gives
returns-clause-gives c =
    let none : length (into_iter_items c.loop-code.code-iterator) ≡ 0 = sym c.loop-code.invariant.left ∙ c.in-None.ensures.steps.0 in
    all_there c.args.codes.items (map (λ image. image.bytes.items) c.loop-code.images.items) (subst (λ (rest : List Code). Making c.args.codes.items (map (λ image. image.bytes.items) c.loop-code.images.items) rest) (nil_from_length (into_iter_items c.loop-code.code-iterator) none) c.loop-code.invariant.so_far)

pub returns-clause-many : goal.returns-clause-many
returns-clause-many c =
    let none : length (into_iter_items c.loop-code.code-iterator) ≡ 0 = sym c.loop-code.invariant.left ∙ c.in-None.ensures.steps.0 in
    let many = c.loop-code.invariant.many in
    omega (arith, none, many)
